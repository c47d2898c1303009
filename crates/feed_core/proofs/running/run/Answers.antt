use Rattle.std.proofs.Common.{List, ap, subst}
use Rattle.filter_terms.specs.declared.terms.Terms.{Terms}
use Rattle.feed_core.specs.Worlds.{all_terms, setting_of}
use Rattle.feed_core.specs.Headline.{IsRunOf}
use Rattle.feed_core.specs.laws.HeadlineLaw.{shows_headline}
use Rattle.feed_core.proofs.running.run.Goals as goal

pub returns-in-Ok-clause-headline : goal.returns-in-Ok-clause-headline
returns-in-Ok-clause-headline g c = shows_headline (setting_of c.args.config.now
    (all_terms c.args.filters.items)) c.args.events.now c.in-Ok.world
    (subst (λ (terms : List Terms). IsRunOf (setting_of c.args.config.now terms)
    c.args.events.now c.in-Ok.world)
    (ap (λ l. all_terms l) c.as_slice.ensures.value) c.in-Ok.ensures)
