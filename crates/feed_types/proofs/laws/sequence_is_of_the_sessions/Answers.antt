use Rattle.std.proofs.Common.{List, subst}
use Rattle.feed_types.specs.declared.item.Numbered.{Numbered}
use Rattle.feed_types.specs.Prefix.{IsPrefix}
use Rattle.feed_types.specs.Sequence.{first_place}
use Rattle.feed_types.proofs.OfSessions.{goes_along, all_to_come}
use Rattle.feed_types.proofs.laws.sequence_is_of_the_sessions.Goals as goal

pub returns : goal.returns
returns g c = λ venue all xs names rule none. subst (λ (ys : List Numbered). IsPrefix xs ys)
    (all_to_come all) (goes_along venue all names first_place xs rule none)
