-- The laws of the project's own format.
use Rattle.std.proofs.Common.{◌≡◌, ℕ, List, [], ◌++◌, map, append_assoc, refl, sym, ap, ◌∙◌}
use Rattle.std.specs.Prelude.{flat_map}
use Rattle.std.proofs.lemmas.Grind.{flat_map-append}
use Rattle.std.proofs.lemmas.List.{map-append}
use Rattle.capture_records.specs.Capture.{CaptureRecord, bytes_of_record, capture_of}
use Rattle.capture_records.specs.Formats.{TimedRecord, what_of, without_time}
use Rattle.capture_records.specs.OwnFormats.{ReadsOwn}

-- the bytes of records
abbrev bytes_of : List TimedRecord → List ℕ
bytes_of records = flat_map bytes_of_record (map what_of records)

pub reads_none_own : (venues : ℕ) (bytes : List ℕ) → ReadsOwn venues bytes [] venues bytes
reads_none_own venues bytes = record { spelled = refl; no_times = refl; same = refl }

captures_more : (xs ys : List TimedRecord) (rest : List ℕ)
    → capture_of (map what_of (xs ++ ys)) rest
    ≡ capture_of (map what_of xs) (capture_of (map what_of ys) rest)
captures_more xs ys rest =
    ap (λ (rs : List CaptureRecord). flat_map bytes_of_record rs ++ rest) (map-append what_of xs ys)
    ∙ ap (λ (bs : List ℕ). bs ++ rest)
    (flat_map-append bytes_of_record (map what_of xs) (map what_of ys))
    ∙ append_assoc (bytes_of xs) (bytes_of ys) rest

without_times_more : (xs ys : List TimedRecord)
    → map without_time (map what_of (xs ++ ys))
    ≡ map without_time (map what_of xs) ++ map without_time (map what_of ys)
without_times_more xs ys =
    ap (λ (rs : List CaptureRecord). map without_time rs) (map-append what_of xs ys)
    ∙ map-append without_time (map what_of xs) (map what_of ys)

pub reads_more_own : (s t u : ℕ) (xs ys zs : List ℕ) (rs qs : List TimedRecord)
    → ReadsOwn s xs rs t ys → ReadsOwn t ys qs u zs → ReadsOwn s xs (rs ++ qs) u zs
reads_more_own s t u xs ys zs rs qs a b = record {
  spelled = a.spelled
      ∙ ap (λ (bs : List ℕ). flat_map bytes_of_record (map what_of rs) ++ bs) b.spelled
      ∙ sym (captures_more rs qs zs);
  no_times = ap (λ (l : List TimedRecord). l ++ qs) a.no_times
      ∙ ap (λ (l : List TimedRecord). map without_time (map what_of rs) ++ l) b.no_times
      ∙ sym (without_times_more rs qs);
  same = b.same ∙ a.same;
}

pub reads_longer_own : (s t : ℕ) (xs ys more : List ℕ) (rs : List TimedRecord)
    → ReadsOwn s xs rs t ys → ReadsOwn s (xs ++ more) rs t (ys ++ more)
reads_longer_own s t xs ys more rs a = record {
  spelled = ap (λ (bs : List ℕ). bs ++ more) a.spelled
      ∙ append_assoc (flat_map bytes_of_record (map what_of rs)) ys more;
  no_times = a.no_times;
  same = a.same;
}

pub reads_venues_own : (s t : ℕ) (xs ys : List ℕ) (rs : List TimedRecord)
    → ReadsOwn s xs rs t ys → t ≡ s
reads_venues_own s t xs ys rs a = a.same
