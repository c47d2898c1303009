-- The project's own format.
use Rattle.std.specs.Prelude.{◌≡◌, ℕ, List, map}
use Rattle.capture_records.specs.Capture.{IsBadRecord, WantsMore, capture_of}
use Rattle.capture_records.specs.Formats.{TimedRecord, Parsing, what_of, without_time}

-- The bytes are these records, whose times aren't known, and then the rest.
pub record ReadsOwn (venues : ℕ) (bytes : List ℕ) (records : List TimedRecord) (after : ℕ)
    (rest : List ℕ) : Type 0 where
  pub spelled : bytes ≡ capture_of (map what_of records) rest
  pub no_times : records ≡ map without_time (map what_of records)
  pub same : after ≡ venues

abbrev pub is_bad_own : ℕ → List ℕ → Unit {0} → Type 0
is_bad_own venues bytes fault = IsBadRecord venues bytes

-- these are members of OwnFormat
abbrev pub own_parsing : Parsing ℕ (Unit {0})
own_parsing = record {
  reads = ReadsOwn;
  wants = WantsMore;
  is_bad = is_bad_own;
  is_whole = λ venues. Unit {0};
}
