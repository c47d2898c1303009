-- What is known while a capture is converted.
use Rattle.std.proofs.Common.{◌≡◌, ℕ, ◌+◌, List, [], ◌∷◌, ◌++◌, length, drop, take, map, append_assoc, append-nil, refl, sym, ap, subst, ◌∙◌}
use Rattle.std.specs.Prelude.{⊤, All, flat_map}
use Rattle.std.proofs.lemmas.Grind.{flat_map-append}
use Rattle.std.proofs.lemmas.List.{map-append}
use Rattle.std.proofs.lemmas.List.Elements.{All-nil, All-cons, All-append}
use Rattle.std.proofs.Math.Seq.{take-append-add}
use Rattle.capture_records.specs.Capture.{IsRecord, bytes_of_record}
use Rattle.text_out.specs.Devices.{Reading, Writing, HasGiven, Moved, Wrote}
use Rattle.capture_records.specs.Formats.{TimedRecord, Parsing, TakesPiece, HasReadRecords, what_of}
use Rattle.line_captures.specs.Conversions.{HasConverted, spelled}

-- the laws of a reader, a format and a writer
pub record Laws {R S F W : Type 0} (reading : Reading R) (parsing : Parsing S F)
    (writing : Writing W) : Type 0 where
  pub gives_none : (s : R) → reading.gives s 0 [] s
  pub gives_more : (s t u : R) (m n : ℕ) (xs ys : List ℕ) → reading.gives s m xs t
      → reading.gives t n ys u → reading.gives s (m + n) (xs ++ ys) u
  pub reads_none : (s : S) (xs : List ℕ) → parsing.reads s xs [] s xs
  pub reads_more : (s t u : S) (xs ys zs : List ℕ) (rs qs : List TimedRecord)
      → parsing.reads s xs rs t ys → parsing.reads t ys qs u zs → parsing.reads s xs (rs ++ qs) u zs
  pub reads_longer : (s t : S) (xs ys more : List ℕ) (rs : List TimedRecord)
      → parsing.reads s xs rs t ys → parsing.reads s (xs ++ more) rs t (ys ++ more)
  pub adds_none : (s : W) → writing.adds s [] s
  pub adds_more : (s t u : W) (xs ys : List ℕ) → writing.adds s xs t → writing.adds t ys u
      → writing.adds s (xs ++ ys) u

-- `calls` calls read records and then this rest, and the bytes of the records are those that the
-- writer took, and then those that wait.
pub record Copied {R S F W : Type 0} (reading : Reading R) (parsing : Parsing S F)
    (writing : Writing W) (venues : ℕ)
    (from : R) (calls : ℕ) (to : R) (start finish : S) (rest : List ℕ) (before after : W)
    (waits : List ℕ) : Type 0 where
  pub records : List TimedRecord
  pub read : HasReadRecords reading parsing venues from calls to start records finish rest
  pub shown : List ℕ
  pub took : writing.adds before shown after
  pub all : spelled records ≡ shown ++ waits

spelled_more : (rs qs : List TimedRecord) → spelled (rs ++ qs) ≡ spelled rs ++ spelled qs
spelled_more rs qs =
    ap (flat_map bytes_of_record) (map-append what_of rs qs)
    ∙ flat_map-append bytes_of_record (map what_of rs) (map what_of qs)

module _ {R S F W : Type 0} {reading : Reading R} {parsing : Parsing S F} {writing : Writing W}
    {venues : ℕ} (laws : Laws reading parsing writing)
    {from : R} {start : S} where
  -- pieces with these records were read
  read_more : {to : R} {calls : ℕ} {finish next : S} {rest left seen : List ℕ}
      (rs qs : List TimedRecord) (len : ℕ) → seen ≡ rest → left ≡ drop len rest
      → TakesPiece parsing.reads finish seen qs len next → All (IsRecord venues) (map what_of qs)
      → HasReadRecords reading parsing venues from calls to start rs finish rest
      → HasReadRecords reading parsing venues from calls to start (rs ++ qs) next left
  read_more {finish = finish} {next = next} {rest = rest} rs qs len same gone piece are x =
      let read : parsing.reads finish rest qs next (drop len rest) =
      subst (λ (bs : List ℕ). parsing.reads finish bs qs next (drop len bs)) same piece.read in
      record {
        each = subst (All (IsRecord venues)) (sym (map-append what_of rs qs))
            (All-append (IsRecord venues) (map what_of rs) (map what_of qs) x.each are);
        bytes = x.bytes;
        given = x.given;
        read = rw gone (laws.reads_more start finish next x.bytes rest
            (drop len rest) rs qs x.read read);
      }

  module _ {before : W} where
    pub copied_none : (calls : ℕ) (rest waits : List ℕ) → calls ≡ 0 → rest ≡ [] → waits ≡ []
        → Copied reading parsing writing venues from calls from start start rest before before waits
    copied_none calls rest waits none empty idle = record {
      records = [];
      read = record {
        each = All-nil (IsRecord venues);
        bytes = [];
        given =
            rw none (laws.gives_none from);
        read = rw empty (laws.reads_none start []);
      };
      shown = [];
      took = laws.adds_none before;
      all = sym idle;
    }

    -- a record came, and its bytes wait
    pub copied_record : {to : R} {calls : ℕ} {finish next : S} {rest left seen waits longer : List
        ℕ} {after : W} (r : TimedRecord) (len : ℕ) → seen ≡ rest → left ≡ drop len rest
        → TakesPiece parsing.reads finish seen (r ∷ []) len next → IsRecord venues r.what
        → longer ≡ waits ++ bytes_of_record r.what
        → Copied reading parsing writing venues from calls to start finish rest before after waits
        → Copied reading parsing writing venues from calls to start next left before after longer
    copied_record {waits = waits} r len same gone piece is more x = record {
      records = x.records ++ r ∷ [];
      read = read_more x.records (r ∷ []) len same gone piece (All-cons (IsRecord venues) r.what []
          is (All-nil (IsRecord venues))) x.read;
      shown = x.shown;
      took = x.took;
      all = spelled_more x.records (r ∷ []) ∙ ap (λ (l : List ℕ). l ++ spelled (r ∷ [])) x.all
          ∙ append_assoc x.shown waits (spelled (r ∷ []))
          ∙ ap (λ (l : List ℕ). x.shown ++ (waits ++ l)) (append-nil (bytes_of_record r.what))
          ∙ ap (λ (l : List ℕ). x.shown ++ l) (sym more);
    }

    -- a piece without a record was passed
    pub copied_passed : {to : R} {calls : ℕ} {finish next : S} {rest left seen waits : List ℕ}
        {after : W} (len : ℕ) → seen ≡ rest → left ≡ drop len rest
        → TakesPiece parsing.reads finish seen [] len next
        → Copied reading parsing writing venues from calls to start finish rest before after waits
        → Copied reading parsing writing venues from calls to start next left before after waits
    copied_passed len same gone piece x = record {
      records = x.records ++ [];
      read = read_more x.records [] len same gone piece (All-nil (IsRecord venues)) x.read;
      shown = x.shown;
      took = x.took;
      all = ap spelled (append-nil x.records) ∙ x.all;
    }

    -- more bytes came
    pub copied_read : {mid to : R} {calls : ℕ} {finish : S} {rest longer waits : List ℕ} {after : W}
        (all : ℕ) → calls + 1 ≡ all → HasGiven reading.gives mid to rest longer 1
        → Copied reading parsing writing venues from calls mid start finish rest before after waits
        → Copied reading parsing writing venues from all to start finish longer before after waits
    copied_read {mid = mid} {to = to} {calls = calls} {finish = finish} {rest = rest}
        all count m x = record {
          records = x.records;
          read = record {
            each = x.read.each;
            bytes = x.read.bytes ++ m.bytes;
            given = rw (← count) (laws.gives_more from mid to calls 1 x.read.bytes
                m.bytes x.read.given m.given);
            read = rw m.behind (laws.reads_longer start finish x.read.bytes rest m.bytes
                x.records x.read.read);
          };
          shown = x.shown;
          took = x.took;
          all = x.all;
        }

    -- a front of what waited was written
    pub copied_written : {to : R} {calls : ℕ} {finish : S} {rest waits left : List ℕ}
        {after last : W} → Moved writing.adds after last waits left
        → Copied reading parsing writing venues from calls to start finish rest before after waits
        → Copied reading parsing writing venues from calls to start finish rest before last left
    copied_written {left = left} {after = after} {last = last} m x = record {
      records = x.records;
      read = x.read;
      shown = x.shown ++ m.shown;
      took = laws.adds_more before after last x.shown m.shown x.took m.taken;
      all = x.all ∙ ap (λ (l : List ℕ). x.shown ++ l) m.left
          ∙ sym (append_assoc x.shown m.shown left);
    }

    -- the format that is left as it was
    pub copied_kept : {to : R} {calls : ℕ} {finish next : S} {rest waits : List ℕ} {after : W}
        → next ≡ finish
        → Copied reading parsing writing venues from calls to start finish rest before after waits
        → Copied reading parsing writing venues from calls to start next rest before after waits
    copied_kept {to = to} {calls = calls} {rest = rest} {waits = waits} {after = after} e x =
        subst (λ (s : S). Copied reading parsing writing venues from calls to start s rest
        before after waits) (sym e) x

    -- of what waited a front was written
    pub unwritten : {to : R} {calls : ℕ} {finish : S} {rest waits : List ℕ} {after last : W}
        → Wrote writing.adds after waits last
        → Copied reading parsing writing venues from calls to start finish rest before after waits
        → HasConverted reading parsing venues from start finish (λ rest. ⊤) (λ calls mid. mid ≡ to)
        (λ text. Wrote writing.adds before text last)
    unwritten {to = to} {calls = calls} {rest = rest} {waits = waits} {after = after} {last = last}
        part x =
        let front : take (length x.shown + part.count) (spelled x.records) ≡ x.shown
        ++ take part.count waits =
        ap (take (length x.shown + part.count)) x.all ∙ take-append-add x.shown waits part.count in
        record {
          records = x.records;
          calls = calls;
          mid = to;
          rest = rest;
          read = x.read;
          left = tt;
          came_to = refl;
          written = record {
            count = length x.shown + part.count;
            taken = subst (λ (l : List ℕ). writing.adds before l last) (sym front)
                (laws.adds_more before after last x.shown (take part.count waits) x.took
                part.taken);
          };
        }
