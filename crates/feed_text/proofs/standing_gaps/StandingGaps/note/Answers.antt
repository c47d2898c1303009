use Rattle.std.proofs.Common.{rules, ◌<◌, ℕ, length, Some, Option, sym, ap, ◌∙◌}
use Rattle.feed_text.specs.Rules.{gap_at, gap_standing_after}
use Rattle.feed_text.specs.Standings.{kept_at}
use Rattle.feed_text.proofs.Standing.{kept_set}
use Rattle.feed_text.proofs.standing_gaps.StandingGaps.note.Goals as goal

pub returns : goal.returns
returns c = λ window hs f place.
    let within : c.index-place.result < length c.args.self.now.gaps = search rules in
    ap (λ (t : Option ℕ). gap_standing_after window c.args.self.now.venue t hs
    (kept_at c.args.self.now.gaps) place) c.in-Some.is
    ∙ ap (λ (v : ℕ). gap_standing_after window v (Some c.in-Some.time) hs
    (kept_at c.args.self.now.gaps) place) (sym c.index-place.ensures.value)
    ∙ kept_set window c.index-place.result c.in-Some.time hs c.args.self.now.gaps
    c.stands_then.result c.gap.result within
    (c.gap.ensures window hs f
    ∙ ap (λ (v : ℕ). gap_at window hs v)
    (sym c.index-place.ensures.value)) c.stands_then.ensures place
