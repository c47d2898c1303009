-- How a session begins: with its first message, or with a snapshot.
use Rattle.std.specs.Prelude.{◌≡◌, ℕ, ◌-◌, ◌<◌, List, ◌++◌, length}
use Rattle.std.specs.List.{AllByRecursion}
use Rattle.line_arbiter.specs.Packets.{Input}
use Rattle.venue_normaliser.specs.Outputs.{Opening, opened_at}
use Rattle.item_packets.specs.Carried.{IsMessageItem}

-- What a snapshot shows are items of messages, and fewer than the numbers before it.
pub record IsOpening (opening : Opening) : Type 0 where
  pub messages : AllByRecursion IsMessageItem opening.shown
  pub places : length opening.shown < opening.number

-- the number of the first item that is put out
abbrev pub first_put : Opening → ℕ
first_put opening = opening.number - length opening.shown

-- what came of a session that is taken from this number on: the messages before it are given up
abbrev pub BeginsAt : ℕ → List Input → Type 0
BeginsAt number packets = (more : List Input) × (packets ≡ opened_at number ++ more)
