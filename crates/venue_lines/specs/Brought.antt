-- What a line brought to its venue, and the counts of it.
use Rattle.std.specs.Prelude.{ℕ, ◌+◌, ◌%◌, ◌^◌, ◌==◌, Bool, true, false, List, [], ◌∷◌, ◌++◌, flat_map, map, sum_by, Option, Some, None, Result, Ok, Err, if◌then◌else◌}
use Rattle.feed_types.specs.declared.line.LineId.{LineId}
use Rattle.feed_types.specs.declared.per_line.PerLine.{PerLine}
use Rattle.feed_types.specs.PerLines.{on_line, with_line}
use Rattle.mold_packet.specs.Content.{Content, last_number}
use Rattle.mold_packet.specs.declared.request.Request.{Request}
use Rattle.line_arbiter.specs.Counts.{shown}
use Rattle.line_arbiter.specs.declared.outcome.Outcome.{Outcome}
use Rattle.line_arbiter.specs.declared.outcome.Outcome.TheVariants.{Taken, Heartbeat, Ended, Ahead}
use Rattle.line_arbiter.specs.declared.outcome.LineFault.{LineFault}
use Rattle.line_arbiter.specs.Packets.{Arrival}
use Rattle.line_arbiter.specs.Streams.{is_same_line}
use Rattle.venue_lines.specs.Codes.{take_fault_code}
use Rattle.venue_lines.specs.declared.faults.TakeFault.{TakeFault}
use Rattle.venue_lines.specs.declared.accepted_packet.AcceptedPacket.{AcceptedPacket}
use Rattle.venue_lines.specs.declared.line_counts.LineCounts.{LineCounts}

-- the packets that were accepted, and the faults of the datagrams that were refused, each in order
pub record Brought : Type 0 where
  pub accepted : List AcceptedPacket
  pub refused : List TakeFault

abbrev pub nothing_brought : Brought
nothing_brought = record { accepted = []; refused = [] }

-- the packet as it is counted: by its number, of a packet of messages the last one's
abbrev pub accepted_as : Content → Outcome → AcceptedPacket
accepted_as p (Taken new repeated) =
    record { number = last_number p; outcome = Taken new repeated }
accepted_as p Heartbeat = record { number = p.number; outcome = Heartbeat }
accepted_as p Ended = record { number = p.number; outcome = Ended }
accepted_as p Ahead = record { number = last_number p; outcome = Ahead }

-- with one more packet that was accepted
abbrev pub with_packet : AcceptedPacket → Brought → Brought
with_packet packet b = record b { accepted = b.accepted ++ packet ∷ [] }

-- with one more packet that had this answer: a refused one is none that was accepted
abbrev pub with_answer : Content → Result Outcome LineFault → Brought → Brought
with_answer p (Ok outcome) b = with_packet (accepted_as p outcome) b
with_answer p (Err fault) b = b

-- with one more datagram that was refused with this fault
abbrev pub with_refusal : TakeFault → Brought → Brought
with_refusal fault b = record b { refused = b.refused ++ fault ∷ [] }

-- what the one brought, and then the other
abbrev pub brought_together : Brought → Brought → Brought
brought_together b c = record {
  accepted = b.accepted ++ c.accepted;
  refused = b.refused ++ c.refused;
}

-- how many numbers came first with the packet, and how many messages of it had come before
abbrev pub new_in : Outcome → ℕ
new_in (Taken new repeated) = new
new_in _ = 0

abbrev pub repeats_in : Outcome → ℕ
repeats_in (Taken new repeated) = repeated
repeats_in _ = 0

-- the four outcomes
abbrev pub is_of_messages : Outcome → Bool
is_of_messages (Taken new repeated) = true
is_of_messages _ = false

abbrev pub is_of_heartbeat : Outcome → Bool
is_of_heartbeat Heartbeat = true
is_of_heartbeat _ = false

abbrev pub is_of_end : Outcome → Bool
is_of_end Ended = true
is_of_end _ = false

abbrev pub is_past_window : Outcome → Bool
is_past_window Ahead = true
is_past_window _ = false

-- how many of the packets have such an outcome
abbrev pub count_of : (Outcome → Bool) → List AcceptedPacket → ℕ
count_of kind packets = sum_by (λ x. if kind x.outcome then 1 else 0) packets

-- the numbers of the packets that have such an outcome, added up modulo 2^64
abbrev pub number_sum : (Outcome → Bool) → List AcceptedPacket → ℕ
number_sum kind packets = sum_by (λ x. if kind x.outcome then x.number else 0) packets % 2 ^ 64

-- how many of the faults have this code
abbrev pub count_of_code : ℕ → List TakeFault → ℕ
count_of_code code faults =
    sum_by (λ fault. if take_fault_code fault == code then 1 else 0) faults

-- the codes that a count is kept of
abbrev pub counted_codes : List ℕ
counted_codes = 0 ∷ 1 ∷ 2 ∷ 3 ∷ 4 ∷ 5 ∷ 6 ∷ 7 ∷ 8 ∷ 9 ∷ 10 ∷ 11 ∷ []

-- the counts of what was brought, as a u64 shows each
abbrev pub counts_of : Brought → LineCounts
counts_of b = record {
  wins = shown (sum_by (λ x. new_in x.outcome) b.accepted);
  taken = shown (count_of is_of_messages b.accepted);
  repeated = shown (sum_by (λ x. repeats_in x.outcome) b.accepted);
  heartbeats = shown (count_of is_of_heartbeat b.accepted);
  ends = shown (count_of is_of_end b.accepted);
  ahead = shown (count_of is_past_window b.accepted);
  accepted = number_sum is_of_messages b.accepted ∷ number_sum is_of_heartbeat b.accepted
      ∷ number_sum is_of_end b.accepted ∷ number_sum is_past_window b.accepted ∷ [];
  refused = map (λ code. shown (count_of_code code b.refused)) counted_codes;
}

-- the packet of the arrival, where it was accepted on this line, as a list of one; else none
abbrev pub accepted_in : LineId → Arrival → List AcceptedPacket
accepted_in line a =
    if is_same_line a.line line then (with_answer a.packet a.answer nothing_brought).accepted else
    []

-- the packets that were accepted on the line, in order
abbrev pub accepted_on : LineId → List Arrival → List AcceptedPacket
accepted_on line packets = flat_map (accepted_in line) packets

-- what all lines brought, with one more packet on the line that had this answer
abbrev pub brought_after : LineId → Content → Result Outcome LineFault
    → PerLine Brought → PerLine Brought
brought_after line p answer b = with_line line (with_answer p answer (on_line line b)) b

-- the same with one more datagram on the line that was refused with this fault
abbrev pub refused_on_line : LineId → TakeFault → PerLine Brought → PerLine Brought
refused_on_line line fault b = with_line line (with_refusal fault (on_line line b)) b

-- the count of a venue's requests after this answer to who asked for one, as a u64 shows it
abbrev pub requests_after : Option Request → ℕ → ℕ
requests_after (Some request) requests = shown (requests + 1)
requests_after None requests = requests
