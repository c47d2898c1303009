use Rattle.std.proofs.Common.{refl}
use Rattle.feed_core.specs.Worlds.{all_terms, setting_of}
use Rattle.feed_core.proofs.MachineMoves.{if_ok}
use Rattle.feed_core.proofs.running.run_over.Goals as goal

pub returns : goal.returns
returns g c = if_ok c.into_world.result _ _ (λ shown shows.
    let s = setting_of c.args.config.now (all_terms c.args.filters.now) in
    shows s c.args.events.now (c.in_ok-outcomes.ensures s refl (c.in_ok-machine.ensures.fits
    (all_terms c.args.filters.now)))) c.into_world.ensures
