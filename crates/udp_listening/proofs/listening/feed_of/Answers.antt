use Rattle.std.proofs.Common.{sym, subst, ◌∙◌}
use Rattle.live_feed.specs.Lanes.{FeedLanes}
use Rattle.udp_listening.specs.NamedNext.{AreNextOf}
use Rattle.udp_listening.proofs.NamedNext.{all_named}
use Rattle.udp_listening.proofs.listening.feed_of.Goals as goal

pub returns-then-not-has_times-clause-next : goal.returns-then-not-has_times-clause-next
returns-then-not-has_times-clause-next c =
    all_named c.args.settings.now c.len-venues.result c.as_slice.result.now
    c.in_ok-feed.feed.next c.name_all.new.feed.next c.name_all.result c.len-venues.ensures
    c.as_slice.ensures.value c.in_ok-feed.ensures.next c.in_ok-feed.ensures.few
    (sym c.is_err.ensures.value ∙ c.if-is_err.false) c.name_all.ensures.named

pub returns-in-Ok-clause-next : goal.returns-in-Ok-clause-next
returns-in-Ok-clause-next c =
    subst (λ (feed : FeedLanes). AreNextOf c.args.settings.now feed.next)
    (sym c.keep_times.ensures)
    (all_named c.args.settings.now c.len-venues.result c.as_slice.result.now
    c.in_ok-feed.feed.next c.name_all.new.feed.next c.name_all.result c.len-venues.ensures
    c.as_slice.ensures.value c.in_ok-feed.ensures.next c.in_ok-feed.ensures.few
    (sym c.is_err.ensures.value ∙ c.if-is_err.false) c.name_all.ensures.named)
