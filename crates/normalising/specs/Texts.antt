-- The bytes that are written, in the form of the output.
use Rattle.std.specs.Prelude.{ℕ, List, [], ◌∷◌, slice_index_or}
use Rattle.feed_types.specs.declared.line.LineId.TheVariants as lines
use Rattle.capture_writing.specs.declared.destination.Destination.{Destination}
use Rattle.capture_writing.specs.Frames.{datagram_record_bytes, file_header}
use Rattle.capture_records.specs.Capture.{CaptureRecord, datagram_record, bytes_of_record}
use Rattle.normalising.specs.declared.output_form.OutputForm.{OutputForm}
use Rattle.normalising.specs.declared.output_form.OutputForm.TheVariants.{Own, Capture}

-- where the frames of a venue without a destination go
abbrev pub nowhere : Destination
nowhere = record { address = 0 ∷ 0 ∷ 0 ∷ 0 ∷ []; port = 0 }

-- a datagram of a venue, with its time: a record of line A in the project's own format, or a frame
-- to the venue's destination
abbrev pub datagram_text : OutputForm → ℕ → ℕ → List ℕ → List ℕ
datagram_text Own venue time bytes = bytes_of_record (datagram_record venue lines.A bytes)
datagram_text (Capture destinations) venue time bytes = datagram_record_bytes
    (record { to = slice_index_or destinations.now venue nowhere; time = time; bytes = bytes })

-- another record, of which a savefile has nothing
abbrev pub record_text : OutputForm → CaptureRecord → List ℕ
record_text Own r = bytes_of_record r
record_text (Capture destinations) r = []

-- what the output begins with
abbrev pub begun_text : OutputForm → List ℕ
begun_text Own = []
begun_text (Capture destinations) = file_header
