-- A history that no run has, since a skip that stands in it was refused.
use Rattle.std.specs.Prelude.{ℕ, List, [], ◌∷◌, Ok}
use Rattle.feed_types.specs.declared.line.LineId.TheVariants.{A}
use Rattle.mold_packet.specs.declared.packet.Kind.TheVariants.{Messages}
use Rattle.mold_packet.specs.Content.{Content}
use Rattle.line_arbiter.specs.declared.outcome.Outcome.TheVariants.{Taken}
use Rattle.line_arbiter.specs.Packets.{Skip, arrival_of}
use Rattle.line_arbiter.specs.Histories.{History}

-- the messages 1 to 5 of the session, of one byte each
abbrev pub five_messages : List ℕ → Content
five_messages session =
    let byte : List ℕ = 0 ∷ [] in
    record {
      session = session;
      number = 1;
      kind = Messages;
      messages = byte ∷ byte ∷ byte ∷ byte ∷ byte ∷ [];
      ignored = 0;
    }

-- They were taken, and then all that is missing below 3 was given up, where nothing is: its items
-- are 1 to 5, Skipped with the number 2, and 3 to 5 a second time.
abbrev pub with_refused_skip : List ℕ → History
with_refused_skip session = record {
  earlier = [];
  present = record {
    name = session;
    packets = arrival_of A (five_messages session) (Ok (Taken 5 0)) ∷ Skip 3 ∷ [];
  };
}
