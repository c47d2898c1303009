use Rattle.udp_listening.proofs.Sourced.{made_more}
use Rattle.udp_listening.proofs.sources.LinesMade.push.Goals as goal

pub returns-clause-made : goal.returns-clause-made
returns-clause-made g c = λ before.
    let over = c.in_ok-source-2.ensures in
    made_more c.args.settings.now c.args.bound.venue c.args.bound.line c.in_ok-source.source
    c.in_ok-source-2.source c.args.self.now.tasks.items c.push-2.new.self.items
    c.in_ok-source.ensures.is over.source over.venue over.itch over.named
    c.in_ok-push-2.ensures.items before
