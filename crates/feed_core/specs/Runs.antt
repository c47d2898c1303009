-- A run of the machine: event after event.
use Rattle.std.specs.Prelude.{◌≡◌, List, [], ◌∷◌}
use Rattle.mold_packet.specs.Bytes.{AreBytes}
use Rattle.feed_steps.specs.declared.event.Event.{Event}
use Rattle.feed_steps.specs.declared.event.Event.TheVariants.{Packet}
use Rattle.feed_steps.specs.declared.event.Done.{Done}
use Rattle.feed_core.specs.Worlds.{World, Setting}
use Rattle.feed_core.specs.OneStep.{IsStep}

-- a run: the events are taken one after another, each with its outcome
abbrev pub IsRun : Setting → World → List Event → List Done → World → Type 0
IsRun s old [] [] new = new ≡ old
IsRun s old (e ∷ es) (d ∷ ds) new = (mid : World) × IsStep s old e d mid × IsRun s mid es ds new
IsRun s old _ _ new = ⊥

-- A datagram's numbers are bytes. The type of an event says so; a law, which speaks of all lists of
-- numbers, asks for it.
abbrev pub BringsBytes : Event → Type 0
BringsBytes (Packet venue line bytes) = AreBytes bytes.now
BringsBytes _ = Unit {0}
