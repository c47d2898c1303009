-- Formats of captures, and the records that they hold.
use Rattle.std.specs.Prelude.{◌≡◌, ◌<◌, ◌≤◌, ℕ, List, [], ◌∷◌, Option, None, All, length, drop, map}
use Rattle.capture_records.specs.Capture.{CaptureRecord, IsRecord, record_of}
use Rattle.text_out.specs.Devices.{Reading}
use Rattle.capture_records.specs.declared.record_format.Step.{Step}
use Rattle.capture_records.specs.declared.record_format.Step.TheVariants.{Came, Passed, Wants, Bad}

-- a record with the time at which it came, if that is known
pub record TimedRecord : Type 0 where
  pub what : CaptureRecord
  pub time : Option ℕ

abbrev pub timed_record : CaptureRecord → Option ℕ → TimedRecord
timed_record what time = record { what = what; time = time }

abbrev pub what_of : TimedRecord → CaptureRecord
what_of r = r.what

-- a record whose time isn't known
abbrev pub without_time : CaptureRecord → TimedRecord
without_time what = timed_record what None

-- a piece of this length, which holds these records
pub record TakesPiece {S : Type 0} (reads : S → List ℕ → List TimedRecord → S → List ℕ → Type 0)
    (old : S) (bytes : List ℕ) (records : List TimedRecord) (len : ℕ) (new : S) : Type 0 where
  pub some : 0 < len
  pub within : len ≤ length bytes
  pub read : reads old bytes records new (drop len bytes)

-- What some bytes begin with.
abbrev pub StepsTo : {S F : Type 0} → (S → List ℕ → List TimedRecord → S → List ℕ → Type 0)
    → (S → List ℕ → Type 0) → (S → List ℕ → F → Type 0) → S → List ℕ → Step F → S → Type 0
StepsTo reads wants is_bad old bytes (Came len time r) new =
    TakesPiece reads old bytes (timed_record (record_of r) time ∷ []) len new
StepsTo reads wants is_bad old bytes (Passed len) new = TakesPiece reads old bytes [] len new
StepsTo reads wants is_bad old bytes Wants new =
    wants old bytes × (length bytes < 1179648) × (new ≡ old)
StepsTo reads wants is_bad old bytes (Bad fault) new = is_bad old bytes fault × (new ≡ old)

-- what comes is a record of one of this many venues
abbrev pub CameOf : {F : Type 0} → ℕ → Step F → Type 0
CameOf venues (Came len time r) = IsRecord venues (record_of r)
CameOf venues (Passed len) = Unit {0}
CameOf venues Wants = Unit {0}
CameOf venues (Bad fault) = Unit {0}

-- How a format goes on: these are members of the trait RecordFormat.
pub record Parsing (S F : Type 0) : Type 1 where
  pub reads : S → List ℕ → List TimedRecord → S → List ℕ → Type 0
  pub wants : S → List ℕ → Type 0
  pub is_bad : S → List ℕ → F → Type 0
  pub is_whole : S → Type 0

-- a capture may not end after this rest
abbrev pub IsCutOff : {S F : Type 0} → Parsing S F → S → List ℕ → Type 0
IsCutOff parsing format rest =
    parsing.wants format rest × ((rest ≡ []) × parsing.is_whole format → ⊥)

-- `calls` calls read whole pieces, which hold these records of `venues` venues, and then this rest.
pub record HasReadRecords {R S F : Type 0} (reading : Reading R) (parsing : Parsing S F)
    (venues : ℕ) (from : R) (calls : ℕ) (to : R) (start : S) (records : List TimedRecord)
    (finish : S) (rest : List ℕ) : Type 0 where
  pub each : All (IsRecord venues) (map what_of records)
  pub bytes : List ℕ
  pub given : reading.gives from calls bytes to
  pub read : parsing.reads start bytes records finish rest
