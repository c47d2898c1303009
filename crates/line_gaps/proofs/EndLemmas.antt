-- Gaps that end one after the other.
use Rattle.std.proofs.Common.{◌≡◌, ℕ, ◌+◌, ◌<◌, ◌≤◌, List, [], ◌∷◌, ◌++◌, length, map, take, get_or, arith, ap, sym, subst, ◌∙◌, append_assoc, append-nil, length-append}
use Rattle.std.proofs.lemmas.List.{length-map, map_more}
use Rattle.line_gaps.specs.declared.gap_line.GapLine.{GapLine}
use Rattle.line_gaps.specs.declared.gap_sums.GapSums.{GapSums}
use Rattle.line_gaps.specs.declared.line_gaps.GapPass.{GapPass}
use Rattle.line_gaps.specs.declared.lost_numbers.LostNumbers.{LostNumbers}
use Rattle.line_gaps.specs.declared.open_gap.EndedGap.{EndedGap}
use Rattle.line_gaps.specs.declared.open_gap.OpenGap.{OpenGap}
use Rattle.line_gaps.specs.declared.ended_gaps.EndedGaps.{EndedGaps}
use Rattle.line_gaps.specs.declared.line_gaps.LineGaps.{LineGaps}
use Rattle.line_gaps.specs.declared.venue_gaps.VenueGaps.{VenueGaps}
use Rattle.line_gaps.specs.Ends.{EndsGaps, EndsVenue, gap_over}
use Rattle.line_gaps.specs.Sums.{AreSumsOf}

pub ends_more : (line now : GapLine) (lost : LostNumbers) (pass : GapPass) (gaps : List OpenGap)
    (i : ℕ) (d : OpenGap) (start mid new : List EndedGap) → i < length gaps → now ≡ line
    → mid ≡ start ++ map (gap_over line lost pass) (take i gaps)
    → new ≡ mid ++ gap_over now lost pass (get_or gaps i d) ∷ []
    → new ≡ start ++ map (gap_over line lost pass) (take (i + 1) gaps)
ends_more line now lost pass gaps i d start mid new within same was is =
    let over = gap_over line lost pass in
    is
    ∙ ap (λ (at : GapLine). mid ++ gap_over at lost pass (get_or gaps i d) ∷ []) same
    ∙ ap (λ (m : List EndedGap). m ++ over (get_or gaps i d) ∷ []) was
    ∙ append_assoc start (map over (take i gaps)) (over (get_or gaps i d) ∷ [])
    ∙ ap (λ (m : List EndedGap). start ++ m) (sym (map_more over gaps i d within))

pub one_longer : (mid new : List EndedGap) (x : EndedGap) (n i : ℕ) → length mid ≡ n + i
    → new ≡ mid ++ x ∷ [] → length new ≡ n + (i + 1)
one_longer mid new x n i was is =
    let len : length new ≡ length mid + 1 = ap length is ∙ length-append mid (x ∷ []) in
    omega (arith, len, was)

pub mapped_few : (f : OpenGap → EndedGap) (gaps : List OpenGap) {most : ℕ} → length gaps ≤ most
    → length (map f gaps) ≤ most
mapped_few f gaps few = omega (arith, few, length-map gaps f)

-- gaps end after others
pub ends_both : (j k : ℕ) (s t u : LineGaps) (a b c : EndedGaps) → EndsGaps j s t a b
    → EndsGaps k t u b c → EndsGaps (j + k) s u a c
ends_both j k s t u a b c first next = record {
  more = first.more ++ next.more;
  ended = next.ended ∙ ap (λ (l : List EndedGap). l ++ next.more) first.ended
      ∙ append_assoc a.gaps.items first.more next.more;
  few =
      let len : length (first.more ++ next.more) ≡ length first.more + length next.more =
      length-append first.more next.more in
      omega (arith, len, first.few, next.few);
  sums = λ gaps are.
      subst (λ (l : List EndedGap). AreSumsOf l u.sums) (append_assoc gaps first.more next.more)
      (next.sums (gaps ++ first.more) (first.sums gaps are));
  line = next.line ∙ first.line;
}

pub longer : (a b : EndedGaps) (more : List EndedGap) → length a.gaps.items + 17 ≤ 51
    → b.gaps.items ≡ a.gaps.items ++ more → length more ≤ 16 → length b.gaps.items + 1 ≤ 51
longer a b more room is few =
    let len : length b.gaps.items ≡ length a.gaps.items + length more =
    ap length is ∙ length-append a.gaps.items more in
    omega (arith, len, room, few)

-- none ends
pub ends_none : (most : ℕ) (s t : LineGaps) (a : EndedGaps)
    → ((gaps : List EndedGap) → AreSumsOf gaps s.sums → AreSumsOf gaps t.sums)
    → t.line ≡ s.line → EndsGaps most s t a a
ends_none most s t a keeps line = record {
  more = [];
  ended = sym (append-nil a.gaps.items);
  few = omega arith;
  sums = λ gaps are.
      subst (λ (l : List EndedGap). AreSumsOf l t.sums) (sym (append-nil gaps)) (keeps gaps are);
  line = line;
}

pub room_after : {s t : LineGaps} {a b : EndedGaps} (n : ℕ) → EndsGaps 17 s t a b
    → length a.gaps.items ≤ n → length b.gaps.items ≤ n + 17
room_after {s} {t} {a} {b} n ends room =
    let len : length b.gaps.items ≡ length a.gaps.items + length ends.more =
    ap length ends.ended ∙ length-append a.gaps.items ends.more in
    omega (arith, len, room, ends.few)

pub venue_ends : (s t : VenueGaps) (p q r u : EndedGaps) → EndsGaps 17 s.a t.a p q
    → EndsGaps 17 s.b t.b q r → EndsGaps 17 s.all t.all r u → EndsVenue s t p u
venue_ends s t p q r u a b all = record {
  a = a.more;
  b = b.more;
  all = all.more;
  ended =
      all.ended ∙ ap (λ (l : List EndedGap). l ++ all.more) b.ended
      ∙ ap (λ (l : List EndedGap). (l ++ b.more) ++ all.more) a.ended
      ∙ ap (λ (l : List EndedGap). l ++ all.more) (append_assoc p.gaps.items a.more b.more)
      ∙ append_assoc p.gaps.items (a.more ++ b.more) all.more
      ∙ ap (λ (l : List EndedGap). p.gaps.items ++ l) (append_assoc a.more b.more all.more);
  sums_a = a.sums;
  sums_b = b.sums;
  sums_all = all.sums;
}

kept_sums : (s t : LineGaps) (gaps : List EndedGap) → t.sums ≡ s.sums → AreSumsOf gaps s.sums
    → AreSumsOf (gaps ++ []) t.sums
kept_sums s t gaps same are =
    subst (λ (l : List EndedGap). AreSumsOf l t.sums) (sym (append-nil gaps))
    (subst (λ (k : GapSums). AreSumsOf gaps k) (sym same) are)

pub venue_keeps : (s t : VenueGaps) (p : EndedGaps) → t.a.sums ≡ s.a.sums → t.b.sums ≡ s.b.sums
    → t.all.sums ≡ s.all.sums → EndsVenue s t p p
venue_keeps s t p a b all = record {
  a = [];
  b = [];
  all = [];
  ended = sym (append-nil p.gaps.items);
  sums_a = λ gaps are. kept_sums s.a t.a gaps a are;
  sums_b = λ gaps are. kept_sums s.b t.b gaps b are;
  sums_all = λ gaps are. kept_sums s.all t.all gaps all are;
}

pub closed_few : (f : OpenGap → EndedGap) (gaps : List OpenGap) → length gaps ≤ 16
    → length (map f gaps) ≤ 17
closed_few f gaps few = omega (arith, few, length-map gaps f)

-- sums that stay after gaps ended
pub venue_same : (s m t : VenueGaps) (p u : EndedGaps) → EndsVenue s m p u
    → t.a.sums ≡ m.a.sums → t.b.sums ≡ m.b.sums → t.all.sums ≡ m.all.sums → EndsVenue s t p u
venue_same s m t p u ends a b all = record {
  a = ends.a;
  b = ends.b;
  all = ends.all;
  ended = ends.ended;
  sums_a = λ gaps are.
      subst (λ (k : GapSums). AreSumsOf (gaps ++ ends.a) k) (sym a) (ends.sums_a gaps are);
  sums_b = λ gaps are.
      subst (λ (k : GapSums). AreSumsOf (gaps ++ ends.b) k) (sym b) (ends.sums_b gaps are);
  sums_all = λ gaps are.
      subst (λ (k : GapSums). AreSumsOf (gaps ++ ends.all) k) (sym all) (ends.sums_all gaps are);
}
