use Rattle.std.proofs.Common.{◌≡◌, ◌∷◌, subst, sym}
use Rattle.event_sinks.specs.declared.event.ReplayedEvent.{ReplayedEvent}
use Rattle.event_sinks.specs.SinkEvents.{told_by}
use Rattle.replay_reports.specs.counts.Counts.{venue_counts}
use Rattle.replay_reports.proofs.Counting.{items_counted}
use Rattle.replay_reports.proofs.counts.venue_counts.VenueCounts.add.Goals as goal

pub returns-in-Item : goal.returns-in-Item
returns-in-Item c = λ before is.
    let old = c.args.self.now in
    subst (λ (e : ReplayedEvent). record old { items = c.add.new.self }
    ≡ venue_counts (told_by e ∷ before))
    (sym c.in-Item.is)
    (items_counted old c.add.new.self c.in-Item.venue c.in-Item.item.now before is
    (c.add.ensures c.in-Item.venue))
