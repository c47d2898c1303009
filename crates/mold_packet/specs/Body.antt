-- What is written after a header, and the packet that it makes.
use Rattle.std.specs.Prelude.{ℕ, ◌+◌, ◌^◌, ◌≤◌, List, [], length, map}
use Rattle.std.specs.Borrow.{Bor}
use Rattle.std.specs.List.{AllByRecursion}
use Rattle.mold_packet.specs.declared.body.Body.{Body}
use Rattle.mold_packet.specs.declared.body.Body.TheVariants.{Blocks, Heartbeat, End}
use Rattle.mold_packet.specs.declared.packet.Kind.{Kind}
use Rattle.mold_packet.specs.declared.packet.Kind.TheVariants as kinds
use Rattle.mold_packet.specs.Block.{IsMessage}
use Rattle.mold_packet.specs.Content.{Content}

abbrev pub lent_bytes : List (Bor (List ℕ)) → List (List ℕ)
lent_bytes blocks = map (λ block. block.now) blocks

abbrev pub body_kind : Body → Kind
body_kind (Blocks blocks) = kinds.Messages
body_kind Heartbeat = kinds.Heartbeat
body_kind End = kinds.End

abbrev pub body_messages : Body → List (List ℕ)
body_messages (Blocks blocks) = lent_bytes blocks.now
body_messages Heartbeat = []
body_messages End = []

-- what a caller keeps: 1 to 65,534 blocks, the last one's number below 2^64, and each message short
-- enough for its block's length field
abbrev pub BodyFits : ℕ → Body → Type 0
BodyFits number (Blocks blocks) = (1 ≤ length blocks.now) × (length blocks.now ≤ 65534)
    × (number + length blocks.now ≤ 2 ^ 64) × AllByRecursion IsMessage (lent_bytes blocks.now)
BodyFits number Heartbeat = Unit {0}
BodyFits number End = Unit {0}

-- the packet that is written, with nothing after it
abbrev pub packet_of : List ℕ → ℕ → Body → Content
packet_of session number body = record {
  session = session;
  number = number;
  kind = body_kind body;
  messages = body_messages body;
  ignored = 0;
}
