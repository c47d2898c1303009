-- What a venue's lines brought: definitions over the list of all that an arbiter was given in the
-- present session: packets, each with its line and its answer, and skips.
use Rattle.std.specs.Prelude.{ℕ, ◌+◌, ◌-◌, Bool, true, false, ◌&&◌, nat_lt, nat_le, List, [], length, fold, max, Option, Result, Ok, find, slice_index_or, if◌then◌else◌}
use Rattle.std.specs.Option.{option_map, option_map_or}
use Rattle.feed_types.specs.declared.item.Item.{Item}
use Rattle.feed_types.specs.declared.item.Item.TheVariants as items
use Rattle.feed_types.specs.declared.line.LineId.{LineId}
use Rattle.mold_packet.specs.Content.{Content, last_number}
use Rattle.quote_payload.specs.Payload.{item_of}
use Rattle.line_arbiter.specs.declared.outcome.Outcome.{Outcome}
use Rattle.line_arbiter.specs.declared.outcome.Outcome.TheVariants.{Taken, Heartbeat, Ended, Ahead}
use Rattle.line_arbiter.specs.declared.outcome.LineFault.{LineFault}

-- a packet that arrived on a line, and how it was answered
pub record Arrival : Type 0 where
  pub line : LineId
  pub packet : Content
  pub answer : Result Outcome LineFault

-- What an arbiter was given: a packet that arrived, or a skip, with the number to go on from. A
-- skip gives up every message below that number which hasn't come.
pub data Input : Type 0 where
  Arrived : Arrival → Input
  Skip : ℕ → Input

-- the arrival of a packet on the line, with its answer
abbrev pub arrival_of : LineId → Content → Result Outcome LineFault → Input
arrival_of line packet answer =
    Arrived (record { line = line; packet = packet; answer = answer })

-- the packet has a message of this number
abbrev pub has_number : Content → ℕ → Bool
has_number p m = nat_le p.number m && nat_lt m (p.number + length p.messages)

-- the item that its message at this place reads as, counted from 0
abbrev pub message_item : Content → ℕ → Item
message_item p k = item_of (slice_index_or p.messages k [])

-- the item that its message of this number reads as
abbrev pub item_at : Content → ℕ → Item
item_at p m = message_item p (m - p.number)

abbrev pub is_taken : Result Outcome LineFault → Bool
is_taken (Ok (Taken new repeated)) = true
is_taken _ = false

abbrev pub is_ended : Result Outcome LineFault → Bool
is_ended (Ok Ended) = true
is_ended _ = false

-- the packet was taken, and has a message of this number; or the skip is past it
abbrev pub brings : ℕ → Input → Bool
brings m (Arrived a) = is_taken a.answer && has_number a.packet m
brings m (Skip n) = nat_lt m n

-- what it brings at a number: the item that the packet's message reads as, or Skipped
abbrev pub item_brought : Input → ℕ → Item
item_brought (Arrived a) m = item_at a.packet m
item_brought (Skip n) m = items.Skipped

-- the first packet or skip that brought a number
abbrev pub bringer : List Input → ℕ → Option Input
bringer packets m = find (brings m) packets

-- the item that was taken at a number: that of the first packet that brought it, or Skipped, where
-- a skip was first
abbrev pub carried : List Input → ℕ → Option Item
carried packets m = option_map (λ x. item_brought x m) (bringer packets m)

-- the greatest number that was taken or given up, 0 where none was
abbrev pub top_by : ℕ → Input → ℕ
top_by n (Arrived a) = if is_taken a.answer then max n (last_number a.packet) else n
top_by n (Skip k) = max n (k - 1)

abbrev pub top_of : List Input → ℕ
top_of packets = fold (λ n x. top_by n x) 0 packets

-- the announced end: the number of the first end of session that was answered Ended
abbrev pub is_ending : Input → Bool
is_ending (Arrived a) = is_ended a.answer
is_ending (Skip n) = false

abbrev pub number_by : Input → ℕ
number_by (Arrived a) = a.packet.number
number_by (Skip n) = n

abbrev pub end_of : List Input → Option ℕ
end_of packets = option_map (λ x. number_by x) (find (λ x. is_ending x) packets)

-- the number that the present part goes on from: that of the skip that went furthest; 1 where there
-- was none
abbrev pub first_by : ℕ → Input → ℕ
first_by n (Arrived a) = n
first_by n (Skip k) = max n k

abbrev pub first_of : List Input → ℕ
first_of packets = fold (λ n x. first_by n x) 1 packets

-- the number up to which an answered packet shows that there are messages
abbrev pub heard_by : Content → Result Outcome LineFault → ℕ
heard_by p (Ok (Taken new repeated)) = last_number p
heard_by p (Ok Ahead) = last_number p
heard_by p (Ok Heartbeat) = p.number - 1
heard_by p _ = 0

abbrev pub heard : Input → ℕ
heard (Arrived a) = heard_by a.packet a.answer
heard (Skip n) = n - 1

-- how far the session is known to go: to before the announced end, else to the greatest number
-- heard of
abbrev pub known_of : List Input → ℕ
known_of packets =
    option_map_or (λ e. e - 1) (end_of packets) (fold (λ k x. max k (heard x)) 0 packets)
