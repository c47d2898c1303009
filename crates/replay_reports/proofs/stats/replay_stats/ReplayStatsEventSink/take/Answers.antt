use Rattle.std.proofs.Common.{◌≡◌, ◌++◌, ℕ, List, Option, refl, subst}
use Rattle.replay_reports.specs.declared.times.busiest_period.BusiestPeriod.{BusiestPeriod}
use Rattle.replay_reports.specs.times.Busiest.{HoldsBusiest, MessagesAt, messages_by, messages_told}
use Rattle.replay_reports.proofs.stats.replay_stats.ReplayStatsEventSink.take.Goals as goal

more : (length : ℕ) (came : List MessagesAt) (old new : BusiestPeriod) (found told : Option ℕ)
    (time : Option ℕ) → found ≡ told
    → ((came : List MessagesAt) → HoldsBusiest length came old
    → HoldsBusiest length (messages_by time found ++ came) new)
    → HoldsBusiest length came old → HoldsBusiest length (messages_by time told ++ came) new
more length came old new found told time is adds holds =
    subst (λ (m : Option ℕ). HoldsBusiest length (messages_by time m ++ came) new) is
    (adds came holds)

pub returns-clause-took : goal.returns-clause-took
returns-clause-took c = record {
  same_times = refl;
  same_venues = c.take_at.ensures.count;
  stats = λ window earlier are. record {
    venues = c.take_at.ensures.stats window earlier are.venues;
    bests = c.count_best.ensures c.args.time earlier are.bests;
    second = more 1000000000 (messages_told earlier) c.args.self.now.second c.add.new.self
        c.datagram_messages-messages.result _ c.args.time c.datagram_messages-messages.ensures
        c.add.ensures are.second;
    millisecond = more 1000000 (messages_told earlier) c.args.self.now.millisecond
        c.add-2.new.self c.datagram_messages-messages.result _ c.args.time
        c.datagram_messages-messages.ensures c.add-2.ensures are.millisecond;
  };
}
