-- The last item that is ready of a venue's present session, and what is missing after it.
use Rattle.std.specs.Prelude.{ℕ, ◌+◌, length, Option}
use Rattle.mold_packet.specs.declared.request.Request.{Request}
use Rattle.line_arbiter.specs.Packets.{end_of}
use Rattle.line_arbiter.specs.Streams.{end_at, front_of, gap_of, stream_of}
use Rattle.line_arbiter.specs.Histories.{History}

-- how many items of the present session are ready or sent
abbrev pub stream_length : History → ℕ
stream_length h = length (stream_of h.present.packets)

-- the number of the last one: of the last message before the first gap, or of the end where that
-- follows
abbrev pub last_sent : History → ℕ
last_sent h =
    let packets = h.present.packets in
    front_of packets + length (end_at (end_of packets) (front_of packets + 1))

-- the run of messages to ask for, once all that is ready was sent
abbrev pub last_gap : ℕ → History → Option Request
last_gap window h = gap_of h.present.name window (last_sent h) h.present.packets
