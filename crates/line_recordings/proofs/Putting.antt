-- What came of a venue one after the other, and the records that were put of it.
use Rattle.std.proofs.Common.{◌≡◌, ◌∙◌, ◌++◌, ◌+◌, ◌-◌, ℕ, List, [], ◌∷◌, Option, Some, None, true, false, ap, append_assoc, refl, subst, sym}
use Rattle.std.proofs.lemmas.Grind.{flat_map-append}
use Rattle.std.proofs.lemmas.List.{append-nil}
use Rattle.std.specs.Prelude.{◌^◌, min}
use Rattle.line_recordings.specs.declared.placed.Placed.{Placed}
use Rattle.line_recordings.specs.Recordings.{came, ComesFrom, Fates, HasRecorded, IsLeftOut, IsNextRecord, IsUnchanged, PutsRecords, Recorded, is_next_at, recorded_bytes, recorded_if, recorded_text}
use Rattle.feed_types.specs.declared.line.LineId.TheVariants.{A, B, Recovery}
use Rattle.rtrb.specs.Ring.{received}
use Rattle.line_recordings.specs.declared.record_kind.RecordKind.{RecordKind}
use Rattle.line_recordings.specs.declared.record_kind.RecordKind.TheVariants.{Line, Skip}
use Rattle.line_recordings.specs.declared.record_source.RecordSource.{RecordSource}
use Rattle.line_recordings.specs.declared.venue_records.VenueRecords.{VenueRecords}

pub unchanged_not : (v : VenueRecords) → IsUnchanged v v
unchanged_not v = record {
  comes = λ kind. refl;
  after = refl;
  same = refl;
  venue_is = refl;
}

pub unchanged_more : (u v w : VenueRecords) → IsUnchanged u v → IsUnchanged v w → IsUnchanged u w
unchanged_more u v w a b = record {
  comes = λ kind. b.comes kind ∙ a.comes kind;
  after = b.after ∙ a.after;
  same = b.same ∙ a.same;
  venue_is = b.venue_is ∙ a.venue_is;
}

pub comes_then : (u v w : VenueRecords) (kind : RecordKind) (placed : Placed) → IsUnchanged u v
    → ComesFrom v w kind placed → ComesFrom u w kind placed
comes_then u v w kind placed a b = record {
  one = b.one ∙ ap (λ (x : List Placed). x ++ placed ∷ []) (a.comes kind);
  others = λ other not. b.others other not ∙ a.comes other;
}

recorded_then : (old mid new : VenueRecords) (fates : Fates) → HasRecorded old fates mid
    → IsUnchanged mid new → HasRecorded old fates new
recorded_then old mid new [] a b = unchanged_more old mid new a b
recorded_then old mid new (Some r ∷ fates) a b =
    (a.0, a.1, recorded_then a.0 mid new fates a.2 b)
recorded_then old mid new (None ∷ fates) a b =
    (a.0, a.1, recorded_then a.0 mid new fates a.2 b)

next_then : (u v w : VenueRecords) (r : Recorded) → IsUnchanged u v → IsNextRecord v w r
    → IsNextRecord u w r
next_then u v w r a b = record {
  comes = comes_then u v w r.kind r.placed a b.comes;
  next_is = subst (λ (n : ℕ). is_next_at n r.placed ≡ true) a.after b.next_is;
  after = b.after;
  same = b.same ∙ a.same;
  venue_is = b.venue_is ∙ a.venue_is;
}

left_then : (u v w : VenueRecords) → IsUnchanged u v → IsLeftOut v w → IsLeftOut u w
left_then u v w a b = record {
  kind = b.kind;
  placed = b.placed;
  comes = comes_then u v w b.kind b.placed a b.comes;
  late = subst (λ (n : ℕ). is_next_at n b.placed ≡ false) a.after b.late;
  after = b.after ∙ a.after;
  counted = b.counted ∙ ap (λ (n : ℕ). min (n + 1) (2 ^ 64 - 1)) a.same;
  venue_is = b.venue_is ∙ a.venue_is;
}

recorded_more : (old mid new : VenueRecords) (fates : Fates) (r : Recorded)
    → HasRecorded old fates mid → IsNextRecord mid new r
    → HasRecorded old (fates ++ Some r ∷ []) new
recorded_more old mid new [] r a b = (new, next_then old mid new r a b, unchanged_not new)
recorded_more old mid new (Some x ∷ fates) r a b =
    (a.0, a.1, recorded_more a.0 mid new fates r a.2 b)
recorded_more old mid new (None ∷ fates) r a b =
    (a.0, a.1, recorded_more a.0 mid new fates r a.2 b)

left_more : (old mid new : VenueRecords) (fates : Fates)
    → HasRecorded old fates mid → IsLeftOut mid new → HasRecorded old (fates ++ None ∷ []) new
left_more old mid new [] a b = (new, left_then old mid new a b, unchanged_not new)
left_more old mid new (Some x ∷ fates) a b = (a.0, a.1, left_more a.0 mid new fates a.2 b)
left_more old mid new (None ∷ fates) a b = (a.0, a.1, left_more a.0 mid new fates a.2 b)

venue_of : (old new : VenueRecords) (fates : Fates) → HasRecorded old fates new
    → new.venue ≡ old.venue
venue_of old new [] a = a.venue_is
venue_of old new (Some x ∷ fates) a = venue_of a.0 new fates a.2 ∙ a.1.venue_is
venue_of old new (None ∷ fates) a = venue_of a.0 new fates a.2 ∙ a.1.venue_is

text_more : (venue : ℕ) (fates : Fates) (x : Option Recorded)
    → recorded_text venue (fates ++ x ∷ []) ≡ recorded_text venue fates ++ recorded_if venue x
text_more venue fates x =
    flat_map-append (recorded_if venue) fates (x ∷ [])
    ∙ ap (λ (t : List ℕ). recorded_text venue fates ++ t) (append-nil (recorded_if venue x))

-- nothing was put
pub puts_none : (v : VenueRecords) (page : List ℕ) → PutsRecords v v page page
puts_none v page = record {
  fates = [];
  recorded = unchanged_not v;
  text = sym (append-nil page);
}

-- and then nothing comes
pub puts_then : (old mid new : VenueRecords) (before page : List ℕ)
    → PutsRecords old mid before page → IsUnchanged mid new → PutsRecords old new before page
puts_then old mid new before page a b = record {
  fates = a.fates;
  recorded = recorded_then old mid new a.fates a.recorded b;
  text = a.text;
}

-- and then one is left out
pub puts_left : (old mid left new : VenueRecords) (before page after : List ℕ)
    → PutsRecords old mid before page → IsLeftOut mid left → new ≡ left → after ≡ page
    → PutsRecords old new before after
puts_left old mid left new before page after a b e p = record {
  fates = a.fates ++ None ∷ [];
  recorded =
      subst (λ (v : VenueRecords). HasRecorded old (a.fates ++ None ∷ []) v) (sym e)
      (left_more old mid left a.fates a.recorded b);
  text =
      p ∙ a.text
      ∙ ap (λ (t : List ℕ). before ++ t)
      (sym (append-nil (recorded_text old.venue a.fates)) ∙ sym (text_more old.venue a.fates None));
}

-- the record of a renewal is put, if there is one, and then another
pub page_more : (page between after renewal bytes : List ℕ) → between ≡ page ++ renewal
    → after ≡ between ++ bytes → after ≡ page ++ (renewal ++ bytes)
page_more page between after renewal bytes a b =
    b ∙ ap (λ (p : List ℕ). p ++ bytes) a ∙ append_assoc page renewal bytes

-- and then a record is put
pub puts_next : (old mid last left new : VenueRecords) (before page after : List ℕ) (r : Recorded)
    → PutsRecords old mid before page → IsNextRecord mid last r → IsUnchanged last left
    → new ≡ left → after ≡ page ++ recorded_bytes last.venue r → PutsRecords old new before after
puts_next old mid last left new before page after r a b c e t =
    let venue : last.venue ≡ old.venue = b.venue_is ∙ venue_of old mid a.fates a.recorded in
    record {
      fates = a.fates ++ Some r ∷ [];
      recorded =
          subst (λ (v : VenueRecords). HasRecorded old (a.fates ++ Some r ∷ []) v) (sym e)
          (recorded_then old last left (a.fates ++ Some r ∷ [])
          (recorded_more old mid last a.fates r a.recorded b) c);
      text =
          t ∙ ap (λ (v : ℕ). page ++ recorded_bytes v r) venue
          ∙ ap (λ (p : List ℕ). p ++ recorded_bytes old.venue r) a.text
          ∙ append_assoc before (recorded_text old.venue a.fates) (recorded_bytes old.venue r)
          ∙ ap (λ (x : List ℕ). before ++ x) (sym (text_more old.venue a.fates (Some r)));
    }

-- what came is by the sources alone
pub kept_sources : (v w : VenueRecords) → w.of_a ≡ v.of_a → w.of_b ≡ v.of_b
    → w.of_recovery ≡ v.of_recovery → w.of_skips ≡ v.of_skips → (kind : RecordKind)
    → came w kind ≡ came v kind
kept_sources v w a b r k (Line A) = ap (λ (s : RecordSource). received s.records) a
kept_sources v w a b r k (Line B) = ap (λ (s : RecordSource). received s.records) b
kept_sources v w a b r k (Line Recovery) = ap (λ (s : RecordSource). received s.records) r
kept_sources v w a b r k Skip = ap (λ (s : RecordSource). received s.records) k

pub comes_kept : (u v w : VenueRecords) (kind : RecordKind) (placed : Placed)
    → ComesFrom u v kind placed → ((other : RecordKind) → came w other ≡ came v other)
    → ComesFrom u w kind placed
comes_kept u v w kind placed a same = record {
  one = same kind ∙ a.one;
  others = λ other not. same other ∙ a.others other not;
}
