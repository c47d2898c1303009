-- How many items of a session were sent, the number of the last one, and sums of counts.
use Rattle.std.proofs.Common.{◌≡◌, ℕ, ◌+◌, ◌≤◌, List, length, arith, length-append}
use Rattle.line_arbiter.specs.Counts.{shown}
use Rattle.line_arbiter.specs.Packets.{Input}
use Rattle.line_arbiter.specs.Streams.{closed_of, opens_of, part_of, place_of, sent_of, stream_of}
use Rattle.line_arbiter.specs.Skips.{AllSent}

-- the count of what was sent, from the number of the last item
pub place_back : (packets : List Input) (count : ℕ) → length (closed_of packets) ≤ count
    → place_of packets (sent_of packets count) ≡ count
place_back packets count past = omega arith

-- all of the stream was sent
pub place_all : (packets : List Input) (sent : ℕ) → opens_of packets ≤ sent + 1
    → AllSent packets sent → place_of packets sent ≡ length (stream_of packets)
place_all packets sent opened all =
    let whole = length-append (closed_of packets) (part_of packets) in omega arith

-- sums of counts, as they are shown
pub shown_sum : (m n : ℕ) → shown (shown m + n) ≡ shown (m + n)
shown_sum m n = grind (arith)
