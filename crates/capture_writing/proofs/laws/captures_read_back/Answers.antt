use Rattle.std.proofs.Common.{ℕ, List, [], map, arith, ◌++◌, true, subst}
use Rattle.packet_capture.specs.Captures.{IsCapture}
use Rattle.packet_capture.specs.Frames.{FrameContent}
use Rattle.packet_capture.specs.declared.fields.ByteOrder.TheVariants.{Little}
use Rattle.packet_capture.specs.Written.{savefile_bytes}
use Rattle.capture_writing.specs.Frames.{frame_of_datagram, packet_to, datagram_to, link_address, sender_link, file_header, frame_read}
use Rattle.capture_writing.proofs.ReadingBack.{same_frames, same_bytes, all_written, heads_len, is_packet}
use Rattle.capture_writing.proofs.laws.captures_read_back.Goals as goal

pub returns-clause-capture : goal.returns-clause-capture
returns-clause-capture c ds all =
    let read = c.savefiles_read_back.ensures Little true 262144 1 (map frame_of_datagram ds)
    (omega arith) (all_written ds all) in
    subst (λ (bytes : List ℕ). IsCapture (file_header ++ bytes)
    (map frame_read ds)) (same_bytes ds)
    (subst (λ (frames : List FrameContent). IsCapture (savefile_bytes Little true 262144 1
    (map frame_of_datagram ds)) frames) (same_frames ds all) read)

pub returns-clause-datagram : goal.returns-clause-datagram
returns-clause-datagram c d is =
    c.frames_read_back.ensures.ipv4 (link_address d.to.address ++ sender_link) []
    (packet_to d.to d.bytes) (datagram_to d.to d.bytes) [] (heads_len d.to.address)
    (is_packet d is)
