-- The messages that a venue's lines brought in the present session, by their numbers, up to the
-- first gap; and what is put out of them where a gap was given up: nothing past it. A session is
-- taken from a number on: from 1, or from that of a snapshot.
use Rattle.std.specs.Prelude.{ℕ, ◌+◌, ◌-◌, ◌||◌, Bool, false, nat_le, nat_lt, List, [], ◌∷◌, length, map, Option, unwrap_or, slice_index_or, if◌then◌else◌}
use Rattle.std.specs.List.{range_with_len}
use Rattle.std.specs.Option.{option_map}
use Rattle.line_arbiter.specs.Packets.{Input, Arrived, Skip, bringer}
use Rattle.line_arbiter.specs.Streams.{front_of}

-- the message that it brings at a number; a skip brings none
abbrev pub message_brought : Input → ℕ → List ℕ
message_brought (Arrived a) m = slice_index_or a.packet.messages (m - a.packet.number) []
message_brought (Skip n) m = []

-- the message that was taken at a number: that of the first packet that brought it
abbrev pub taken_message : List Input → ℕ → Option (List ℕ)
taken_message packets m = option_map (λ x. message_brought x m) (bringer packets m)

abbrev pub taken_bytes : List Input → ℕ → List ℕ
taken_bytes packets m = unwrap_or (taken_message packets m) []

-- the messages of the numbers `from` to n
abbrev pub messages_to : ℕ → List Input → ℕ → List (List ℕ)
messages_to from packets n = map (taken_bytes packets) (range_with_len from (n + 1 - from))

-- the messages from this number up to the first gap
abbrev pub messages_brought : ℕ → List Input → List (List ℕ)
messages_brought from packets = messages_to from packets (front_of packets)

-- a gap past this number was given up
abbrev pub has_skip_past : ℕ → List Input → Bool
has_skip_past from [] = false
has_skip_past from (Arrived a ∷ packets) = has_skip_past from packets
has_skip_past from (Skip n ∷ packets) = nat_lt from n || has_skip_past from packets

-- what came before the first gap past this number that was given up
abbrev pub before_skip_past : ℕ → List Input → List Input
before_skip_past from [] = []
before_skip_past from (Arrived a ∷ packets) = Arrived a ∷ before_skip_past from packets
before_skip_past from (Skip n ∷ packets) =
    if nat_lt from n then [] else Skip n ∷ before_skip_past from packets

-- the same of a session that began at its first message
abbrev pub has_skip : List Input → Bool
has_skip packets = has_skip_past 1 packets

abbrev pub before_skip : List Input → List Input
before_skip packets = before_skip_past 1 packets

-- A message as it is kept until it is in sequence: no form has more than 50 bytes, so that a longer
-- one is kept as an empty one.
abbrev pub kept_bytes : List ℕ → List ℕ
kept_bytes message = if nat_le (length message) 50 then message else []
