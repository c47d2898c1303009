use Rattle.std.proofs.Common.{◌≡◌, ◌∷◌, subst, sym}
use Rattle.event_sinks.specs.declared.event.ReplayedEvent.{ReplayedEvent}
use Rattle.event_sinks.specs.SinkEvents.{timed_event, told_by}
use Rattle.replay_reports.specs.counts.Counts.{best_counts}
use Rattle.replay_reports.specs.stats.Statistics.{untimed}
use Rattle.replay_reports.proofs.stats.replay_stats.count_best.Goals as goal

pub returns-in-Packet : goal.returns-in-Packet
returns-in-Packet c = λ time events is.
    subst (λ (e : ReplayedEvent). c.args.bests.now
    ≡ best_counts (untimed (timed_event time (told_by e) ∷ events)))
    (sym c.in-Packet.is) is

pub returns-in-Refusal : goal.returns-in-Refusal
returns-in-Refusal c = λ time events is.
    subst (λ (e : ReplayedEvent). c.args.bests.now
    ≡ best_counts (untimed (timed_event time (told_by e) ∷ events)))
    (sym c.in-Refusal.is) is

pub returns-in-Item : goal.returns-in-Item
returns-in-Item c = λ time events is.
    subst (λ (e : ReplayedEvent). c.args.bests.now
    ≡ best_counts (untimed (timed_event time (told_by e) ∷ events)))
    (sym c.in-Item.is) is

pub returns-in-Gap : goal.returns-in-Gap
returns-in-Gap c = λ time events is.
    subst (λ (e : ReplayedEvent). c.args.bests.now
    ≡ best_counts (untimed (timed_event time (told_by e) ∷ events)))
    (sym c.in-Gap.is) is

pub returns-in-Renewal : goal.returns-in-Renewal
returns-in-Renewal c = λ time events is.
    subst (λ (e : ReplayedEvent). c.args.bests.now
    ≡ best_counts (untimed (timed_event time (told_by e) ∷ events)))
    (sym c.in-Renewal.is) is

pub returns-in-Skip : goal.returns-in-Skip
returns-in-Skip c = λ time events is.
    subst (λ (e : ReplayedEvent). c.args.bests.now
    ≡ best_counts (untimed (timed_event time (told_by e) ∷ events)))
    (sym c.in-Skip.is) is

pub returns-in-Declaration : goal.returns-in-Declaration
returns-in-Declaration c = λ time events is.
    subst (λ (e : ReplayedEvent). c.args.bests.now
    ≡ best_counts (untimed (timed_event time (told_by e) ∷ events)))
    (sym c.in-Declaration.is) is

pub returns-in-Last : goal.returns-in-Last
returns-in-Last c = λ time events is.
    subst (λ (e : ReplayedEvent). c.args.bests.now
    ≡ best_counts (untimed (timed_event time (told_by e) ∷ events)))
    (sym c.in-Last.is) is
