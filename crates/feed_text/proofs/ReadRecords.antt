-- The records that were read so far.
use Rattle.std.proofs.Common.{◌≡◌, ℕ, ◌+◌, List, [], ◌∷◌, ◌++◌, map, drop, append-nil, sym, subst}
use Rattle.std.specs.Prelude.{All}
use Rattle.std.proofs.lemmas.List.{map-append}
use Rattle.std.proofs.lemmas.List.Elements.{All-nil, All-push}
use Rattle.capture_records.specs.Capture.{IsRecord}
use Rattle.text_out.specs.Devices.{Reading, HasGiven}
use Rattle.capture_records.specs.Formats.{TimedRecord, Parsing, TakesPiece, HasReadRecords, what_of}

-- the laws of a reader and a format
pub record InLaws {R S F : Type 0} (reading : Reading R) (parsing : Parsing S F) : Type 0 where
  pub gives_none : (s : R) → reading.gives s 0 [] s
  pub gives_more : (s t u : R) (m n : ℕ) (xs ys : List ℕ) → reading.gives s m xs t
      → reading.gives t n ys u → reading.gives s (m + n) (xs ++ ys) u
  pub reads_none : (s : S) (xs : List ℕ) → parsing.reads s xs [] s xs
  pub reads_more : (s t u : S) (xs ys zs : List ℕ) (rs qs : List TimedRecord)
      → parsing.reads s xs rs t ys → parsing.reads t ys qs u zs → parsing.reads s xs (rs ++ qs) u zs
  pub reads_longer : (s t : S) (xs ys more : List ℕ) (rs : List TimedRecord)
      → parsing.reads s xs rs t ys → parsing.reads s (xs ++ more) rs t (ys ++ more)

module _ {R S F : Type 0} {reading : Reading R} {parsing : Parsing S F}
    (ins : InLaws reading parsing) where
  -- one more record was read, or a piece without one
  piece_read : {venues calls len : ℕ} {from to : R} {start format next : S}
      {records : List TimedRecord} {rest left seen : List ℕ} (more : List TimedRecord)
      → All (IsRecord venues) (map what_of more) → seen ≡ rest
      → TakesPiece parsing.reads format seen more len next → left ≡ drop len rest
      → HasReadRecords reading parsing venues from calls to start records format rest
      → All (IsRecord venues) (map what_of (records ++ more))
      → HasReadRecords reading parsing venues from calls to start (records ++ more) next left
  piece_read {len = len} {start = start} {format = format} {next = next} {records = records}
      {rest = rest} more each same piece gone x all = record {
        each = all;
        bytes = x.bytes;
        given = x.given;
        read = rw gone (ins.reads_more start format next x.bytes rest (drop len rest) records more
            x.read (subst (λ (bs : List ℕ). parsing.reads format bs more next (drop len bs)) same
            piece.read));
      }

  pub record_read : {venues calls len : ℕ} {from to : R} {start format next : S}
      {records : List TimedRecord} {rest left seen : List ℕ} (r : TimedRecord)
      → IsRecord venues r.what → seen ≡ rest
      → TakesPiece parsing.reads format seen (r ∷ []) len next → left ≡ drop len rest
      → HasReadRecords reading parsing venues from calls to start records format rest
      → HasReadRecords reading parsing venues from calls to start (records ++ r ∷ []) next left
  record_read {venues = venues} {records = records} r is same piece gone x =
      piece_read (r ∷ []) (All-push (IsRecord venues) [] r.what (All-nil (IsRecord venues)) is) same
      piece gone x
      (subst (All (IsRecord venues)) (sym (map-append what_of records (r ∷ [])))
      (All-push (IsRecord venues) (map what_of records) r.what x.each is))

  pub piece_passed : {venues calls len : ℕ} {from to : R} {start format next : S}
      {records : List TimedRecord} {rest left seen : List ℕ} → seen ≡ rest
      → TakesPiece parsing.reads format seen [] len next → left ≡ drop len rest
      → HasReadRecords reading parsing venues from calls to start records format rest
      → HasReadRecords reading parsing venues from calls to start records next left
  piece_passed {len = len} {start = start} {format = format} {next = next} {records = records}
      {rest = rest} same piece gone x = record {
        each = x.each;
        bytes = x.bytes;
        given = x.given;
        read = rw gone (subst (λ (rs : List TimedRecord). parsing.reads start x.bytes rs next
            (drop len rest)) (append-nil records)
            (ins.reads_more start format next x.bytes rest (drop len rest) records [] x.read
            (subst (λ (bs : List ℕ). parsing.reads format bs [] next (drop len bs)) same
            piece.read)));
      }

  -- more bytes came
  pub bytes_came : {venues calls all : ℕ} {from mid to : R} {start format : S}
      {records : List TimedRecord} {rest longer : List ℕ} → calls + 1 ≡ all
      → HasGiven reading.gives mid to rest longer 1
      → HasReadRecords reading parsing venues from calls mid start records format rest
      → HasReadRecords reading parsing venues from all to start records format longer
  bytes_came {calls = calls} {from = from} {mid = mid} {to = to} {start = start} {format = format}
      {records = records} {rest = rest} count m x = record {
        each = x.each;
        bytes = x.bytes ++ m.bytes;
        given = rw (← count) (ins.gives_more from mid to calls 1 x.bytes m.bytes x.given m.given);
        read = rw m.behind (ins.reads_longer start format x.bytes rest m.bytes records x.read);
      }
