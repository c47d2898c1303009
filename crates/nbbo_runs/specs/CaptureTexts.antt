-- What is said of a packet capture on standard error.
use Rattle.std.specs.Prelude.{ℕ, zero, suc, ◌==◌, Bool, ◌&&◌, not, List, [], ◌∷◌, ◌++◌, codes, decimal, Option, Some, None, Result, Ok, Err, if◌then◌else◌}
use Rattle.packet_capture.specs.declared.fault.CaptureFault.{CaptureFault}
use Rattle.packet_capture.specs.declared.fault.CaptureFault.TheVariants.{NotCapture, UnknownVersion, TooLong, BadByteOrder, BadBlockLength, LengthsDiffer, ShortBlock, UnknownInterface, FramePastBlock, OptionPastBlock, TooManyInterfaces}
use Rattle.event_sinks.specs.declared.replay_stop.ReplayStop.{ReplayStop}
use Rattle.event_sinks.specs.declared.replay_stop.ReplayStop.TheVariants.{Bad, Short}
use Rattle.line_captures.specs.declared.bad_piece.BadPiece.{BadPiece}
use Rattle.line_captures.specs.declared.drop_counts.DroppedFrames.{DroppedFrames}
use Rattle.line_captures.specs.declared.frame_counts.FrameCounts.{FrameCounts}
use Rattle.line_captures.specs.Counts.{total_of}
use Rattle.line_captures.specs.DropCounts.{dropped_of}
use Rattle.line_captures.specs.PacketFormats.{PacketState}
use Rattle.nbbo_runs.specs.Ending.{stop_line_text}
use Rattle.nbbo_runs.specs.Hints.{is_packets, packed_hint}

-- a line with a count, where that isn't 0
abbrev pub count_texts : List ℕ → ℕ → List (List ℕ)
count_texts label zero = []
count_texts label (suc more) = label ∷ decimal (suc more) ∷ codes "\n" ∷ []

-- how many frames there are, and how many of them carry whole datagrams
abbrev pub datagrams_texts : ℕ → FrameCounts → List (List ℕ)
datagrams_texts all counts =
    count_texts (codes "nbbo: frames in all: ") all
    ++ (count_texts (codes "nbbo: datagrams to lines: ") counts.to_lines
    ++ count_texts (codes "nbbo: datagrams to other addresses passed over: ") counts.elsewhere)

-- the same where not all go to lines
abbrev pub frames_texts : FrameCounts → List (List ℕ)
frames_texts counts =
    if total_of counts == counts.to_lines then [] else datagrams_texts (total_of counts) counts

-- those of other protocols
abbrev pub protocols_texts : FrameCounts → List (List ℕ)
protocols_texts counts =
    count_texts (codes "nbbo: frames without IP passed over: ") counts.no_ip
    ++ count_texts (codes "nbbo: IP packets without UDP passed over: ") counts.no_udp

-- what a line may have lost
abbrev pub lost_texts : FrameCounts → List (List ℕ)
lost_texts counts =
    count_texts (codes "nbbo: fragments passed over: ") counts.fragments
    ++ (count_texts (codes "nbbo: cut frames passed over: ") counts.cut
    ++ count_texts (codes "nbbo: malformed packets passed over: ") counts.malformed)

-- what to do where frames are out of time order, by how many are
abbrev pub order_texts : ℕ → List (List ℕ)
order_texts zero = []
order_texts (suc more) =
    codes
    "nbbo: rows and figures by time need frames in order of time, which mergecap or reordercap makes\n"
    ∷ []

-- and what else is to be known of the frames
abbrev pub other_texts : FrameCounts → List (List ℕ)
other_texts counts =
    count_texts (codes "nbbo: frames that can't be read passed over: ") counts.not_read
    ++ (count_texts (codes "nbbo: frames out of time order: ") counts.disordered
    ++ order_texts counts.disordered)

abbrev pub frame_texts : FrameCounts → List (List ℕ)
frame_texts counts =
    frames_texts counts
    ++ (protocols_texts counts ++ (lost_texts counts ++ other_texts counts))

-- how many frames were dropped before the capture, as it says itself
abbrev pub dropped_texts : DroppedFrames → List (List ℕ)
dropped_texts dropped =
    count_texts (codes "nbbo: frames that the capture says were dropped before packets: ")
    dropped.before_packets
    ++ (count_texts (codes "nbbo: frames that the capture says its interfaces dropped: ")
    dropped.by_interfaces
    ++ count_texts (codes "nbbo: frames that the capture says its system dropped: ")
    dropped.by_system)

-- why the bytes are no packet capture, or none that is read: the number of the refusal, and what it
-- means
abbrev pub capture_fault_text : CaptureFault → List ℕ
capture_fault_text NotCapture = codes ": 40, neither pcap nor pcapng\n"
capture_fault_text UnknownVersion = codes ": 41, a version of pcap or pcapng that is not known\n"
capture_fault_text TooLong = codes ": 42, a frame or a block of more than 1048576 bytes\n"
capture_fault_text BadByteOrder = codes ": 43, a section that does not show its byte order\n"
capture_fault_text BadBlockLength =
    codes ": 44, a length of a block that is below 12 or no multiple of 4\n"
capture_fault_text LengthsDiffer = codes ": 45, two lengths of a block that differ\n"
capture_fault_text ShortBlock = codes ": 46, a block that is too short for its fields\n"
capture_fault_text UnknownInterface = codes ": 47, a packet of an interface that is not described\n"
capture_fault_text FramePastBlock = codes ": 48, a frame that runs past its block\n"
capture_fault_text OptionPastBlock = codes ": 49, an option that runs past its block\n"
capture_fault_text TooManyInterfaces = codes ": 50, more than 256 interfaces in a section\n"

-- that no datagram goes to a line, by how many do
abbrev pub no_line_texts : ℕ → List (List ℕ)
no_line_texts zero = codes "nbbo: no datagram goes to a line\n" ∷ []
no_line_texts (suc more) = []

-- one line where a capture is to be unpacked, by what stands at its first byte
abbrev pub packed_at : ℕ → ℕ → List ℕ
packed_at start position = if position == 0 then packed_hint start else []

-- at which byte the piece begins that is bad, and why
abbrev pub bad_capture_texts : BadPiece → ℕ → List (List ℕ)
bad_capture_texts bad position =
    codes "nbbo: bad capture at byte " ∷ decimal position ∷ capture_fault_text bad.fault
    ∷ packed_at bad.start position ∷ []

-- at which byte the capture ends within a piece, or before the first one
abbrev pub short_capture_texts : ℕ → List (List ℕ)
short_capture_texts position =
    codes "nbbo: short record at byte " ∷ decimal position ∷ codes "\n" ∷ []

-- the line of an outcome; of a whole capture, that no datagram goes to a line
abbrev pub capture_outcome_texts : Result (Unit {0}) (ReplayStop BadPiece) → ℕ → ℕ
    → List (List ℕ)
capture_outcome_texts (Ok done) position to_lines = no_line_texts to_lines
capture_outcome_texts (Err (Bad bad)) position to_lines = bad_capture_texts bad position
capture_outcome_texts (Err Short) position to_lines = short_capture_texts position
capture_outcome_texts (Err stop) position to_lines = stop_line_text stop ∷ []

-- where a second capture seems to begin, if one does
abbrev pub start_texts : Option ℕ → List (List ℕ)
start_texts None = []
start_texts (Some start) =
    codes "nbbo: a second capture seems to begin at byte " ∷ decimal start ∷ codes "\n" ∷ []

-- a second capture begins where a piece is bad: a capture starts so, and a piece stands before it
abbrev pub is_second : BadPiece → ℕ → Bool
is_second bad position = is_packets bad.start && not (position == 0)

abbrev pub second_now : BadPiece → ℕ → Option ℕ
second_now bad position = if is_second bad position then Some position else None

-- where a second capture seems to begin: where one was seen, or where this piece is bad
abbrev pub second_at : Option ℕ → BadPiece → ℕ → Option ℕ
second_at None bad position = second_now bad position
second_at (Some start) bad position = Some start

-- the same of a capture that wasn't read to its end, and whose next piece begins at this byte
abbrev pub second_texts : Result (Unit {0}) (ReplayStop BadPiece) → Option ℕ → ℕ → List (List ℕ)
second_texts (Ok done) second_start position = []
second_texts (Err (Bad bad)) second_start position =
    start_texts (second_at second_start bad position)
second_texts (Err stop) second_start position = start_texts second_start

-- how many frames came in a period before the earliest of those that were kept
abbrev pub late_texts : ℕ → List (List ℕ)
late_texts late =
    count_texts (codes "nbbo: frames earlier than the 16 periods that are kept: ") late

-- whether a frame of what was read had a time
abbrev pub is_timed_capture : PacketState → Bool
is_timed_capture read = not (read.progress.latest_time == 0)

-- after a packet capture of which so much was read
abbrev pub capture_texts : PacketState → Result (Unit {0}) (ReplayStop BadPiece)
    → List (List ℕ)
capture_texts read outcome =
    frame_texts read.progress.counts
    ++ (dropped_texts (dropped_of read.progress.drops)
    ++ (capture_outcome_texts outcome read.progress.position read.progress.counts.to_lines
    ++ second_texts outcome read.progress.second_start read.progress.position))
