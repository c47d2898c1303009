use Rattle.std.proofs.Common.{ℕ, sym, subst}
use Rattle.std.specs.Prelude.{MatchOption}
use Rattle.run_settings.specs.declared.skip_rule.SkipRule.{SkipRule}
use Rattle.feed_text.specs.Rules.{SkipsBefore}
use Rattle.feed_text.proofs.skipping.skip_before.Goals as goal

pub returns-in-Join : goal.returns-in-Join
returns-in-Join c = λ h f. subst (λ (rule : SkipRule). MatchOption c.join_at.result
    ((number : ℕ) → SkipsBefore rule c.args.window h c.args.packet.now number → ⊥)
    (λ number. SkipsBefore rule c.args.window h c.args.packet.now number)) (sym c.in-Join.is)
    (c.join_at.ensures c.args.window h f)

pub returns-in-After : goal.returns-in-After
returns-in-After c = λ h f. subst (λ (rule : SkipRule). MatchOption c.join_at-in-After.result
    ((number : ℕ) → SkipsBefore rule c.args.window h c.args.packet.now number → ⊥)
    (λ number. SkipsBefore rule c.args.window h c.args.packet.now number)) (sym c.in-After.is)
    (c.join_at-in-After.ensures c.args.window h f)
