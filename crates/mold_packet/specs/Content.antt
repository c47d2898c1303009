-- What a downstream packet says, and how it is spelled: MoldUDP64 1.00, "Downstream Packet".
use Rattle.std.specs.Prelude.{◌≡◌, ℕ, ◌+◌, ◌-◌, ◌^◌, ◌<◌, ◌≤◌, List, [], ◌++◌, length}
use Rattle.std.specs.List.{flat_map, AllByRecursion}
use Rattle.mold_packet.specs.declared.packet.Kind.{Kind}
use Rattle.mold_packet.specs.declared.packet.Kind.TheVariants.{Messages, Heartbeat, End}
use Rattle.mold_packet.specs.Block.{block, IsMessage}
use Rattle.mold_packet.specs.Header.{header}

-- the messages have the numbers from `number` on; `ignored` counts the bytes after the packet
pub record Content : Type 0 where
  pub session : List ℕ
  pub number : ℕ
  pub kind : Kind
  pub messages : List (List ℕ)
  pub ignored : ℕ

-- the count field: 0 is a heartbeat, and ffff the end of the session
abbrev pub count_field : Kind → List (List ℕ) → ℕ
count_field Messages messages = length messages
count_field Heartbeat messages = 0
count_field End messages = 65535

-- the messages that a packet of this kind may have
abbrev pub KindFits : Kind → List (List ℕ) → Type 0
KindFits Messages messages = (1 ≤ length messages) × (length messages ≤ 65534)
KindFits Heartbeat messages = messages ≡ []
KindFits End messages = messages ≡ []

-- the ranges of a packet: numbers begin at 1, and that of the last message is at most 2^64 - 1
pub record IsContent (packet : Content) : Type 0 where
  pub session : length packet.session ≡ 10
  pub from_one : 1 ≤ packet.number
  pub small : packet.number < 2 ^ 64
  pub in_range : packet.number + length packet.messages ≤ 2 ^ 64
  pub fits : KindFits packet.kind packet.messages
  pub each : AllByRecursion IsMessage packet.messages

-- the number of the last message; where there is none, the one before the packet's number
abbrev pub last_number : Content → ℕ
last_number packet = packet.number + length packet.messages - 1

-- the packet's own bytes: the header, and the blocks one after the other
abbrev pub spelling : Content → List ℕ
spelling packet =
    header packet.session packet.number (count_field packet.kind packet.messages)
    ++ flat_map block packet.messages

-- the bytes spell the packet, and then comes the rest, which it ignores
pub record Spells (bytes : List ℕ) (packet : Content) (rest : List ℕ) : Type 0 where
  pub content : IsContent packet
  pub ignored : packet.ignored ≡ length rest
  pub spelled : bytes ≡ spelling packet ++ rest
