use Rattle.std.proofs.Common.{◌≡◌, ℕ, List, Option, Some, None, subst, sym}
use Rattle.std.specs.Prelude.{MatchOption}
use Rattle.mold_packet.specs.Content.{Content, Spells}
use Rattle.line_arbiter.specs.Histories.{History}
use Rattle.run_settings.specs.declared.skip_rule.SkipRule.{SkipRule}
use Rattle.feed_text.specs.Following.{ReplayVenue, Follows}
use Rattle.feed_text.specs.Rules.{SkipsBefore}
use Rattle.feed_text.proofs.VenueSteps.{all_sent}
use Rattle.feed_text.proofs.venue.VenueReplay.skip_before_datagram.Goals as goal

by_packet : (rule : SkipRule) (window : ℕ) (h : History) (bytes : List ℕ) (p : Content)
    (rest : List ℕ) (o : Option ℕ)
    → ((x y : Content) (more less : List ℕ) → Spells bytes x more → Spells bytes y less → x ≡ y)
    → Spells bytes p rest
    → MatchOption o ((number : ℕ) → SkipsBefore rule window h p number → ⊥)
    (λ number. SkipsBefore rule window h p number)
    → MatchOption o ((number : ℕ) → ((x : Content) × (more : List ℕ) × Spells bytes x more
    × SkipsBefore rule window h x number) → ⊥) (λ number. (x : Content) × (more : List ℕ)
    × Spells bytes x more × SkipsBefore rule window h x number)
by_packet rule window h bytes p rest None one spells none = λ number y. none number
    (subst (λ (x : Content). SkipsBefore rule window h x number) (one y.0 p y.1 rest y.2 spells)
    y.3)
by_packet rule window h bytes p rest (Some n) one spells some = (p, rest, spells, some)

pub returns-in-Ok : goal.returns-in-Ok
returns-in-Ok c = λ place h f.
    by_packet c.args.rule c.args.window h c.args.bytes.now c.in-Ok.packet
    c.in-Ok.ensures.spelled.0 c.skip_before.result
    (λ x y more less a b. c.one_reading.ensures.packet c.args.bytes.now x y more less a b)
    c.in-Ok.ensures.spelled.1
    (c.skip_before.ensures h
    (all_sent h (subst (λ (w : ReplayVenue). Follows c.args.window place w h)
    (sym c.self.view_is) f)))

pub returns-then-not-may_skip : goal.returns-then-not-may_skip
returns-then-not-may_skip c = λ place h f number x.
    c.if-not-may_skip.ensures c.args.window h
    (all_sent h (subst (λ (w : ReplayVenue). Follows c.args.window place w h)
    (sym c.self.view_is) f)) x.0 number x.3
