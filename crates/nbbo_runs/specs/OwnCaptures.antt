-- Captures of the project's own format, whose bad records say what stands in their place.
use Rattle.std.specs.Prelude.{◌≡◌, ℕ, Bool, true, false, not, List, [], ◌∷◌}
use Rattle.capture_records.specs.Capture.{IsBadRecord, WantsMore}
use Rattle.capture_records.specs.Formats.{Parsing, TimedRecord}
use Rattle.capture_records.specs.OwnFormats.{ReadsOwn}
use Rattle.line_captures.specs.Starts.{start_of}
use Rattle.nbbo_runs.specs.declared.own_capture.BadRecord.{BadRecord}
use Rattle.nbbo_runs.specs.declared.own_capture.OwnCapture.{OwnCapture}

-- of this many venues, before the first record
abbrev pub new_own_capture : ℕ → OwnCapture
new_own_capture venues = record { format = venues; is_begun = false }

-- whether a record was read once these were
abbrev pub has_begun_by : Bool → List TimedRecord → Bool
has_begun_by is_begun [] = is_begun
has_begun_by is_begun (r ∷ rs) = true

-- the records that the project's own format has
abbrev pub OwnReads : OwnCapture → List ℕ → List TimedRecord → OwnCapture → List ℕ → Type 0
OwnReads s xs rs t ys =
    ReadsOwn s.format xs rs t.format ys × (t.is_begun ≡ has_begun_by s.is_begun rs)

-- less than a record of that format stands there
abbrev pub WantsRecord : OwnCapture → List ℕ → Type 0
WantsRecord s bytes = WantsMore s.format bytes

-- no record of that format stands there, but bytes that start so, before any record or after one
pub record IsNoRecord (s : OwnCapture) (bytes : List ℕ) (bad : BadRecord) : Type 0 where
  pub is_bad : IsBadRecord s.format bytes
  pub start : bad.start ≡ start_of bytes
  pub is_first : bad.is_first ≡ not s.is_begun

-- how such captures go on
abbrev pub own_capture_parsing : Parsing OwnCapture BadRecord
own_capture_parsing = record {
  reads = OwnReads;
  wants = WantsRecord;
  is_bad = IsNoRecord;
  is_whole = λ s. Unit {0};
}
