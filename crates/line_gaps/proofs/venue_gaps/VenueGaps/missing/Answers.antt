use Rattle.std.proofs.Common.{ap, min, ℕ, ◌+◌, ◌∙◌}
use Rattle.line_gaps.specs.Gaps.{is_missing}
use Rattle.line_gaps.specs.Runs.{count_below}
use Rattle.line_gaps.proofs.RunCounts.{count_of_agrees, count_up_to}
use Rattle.line_gaps.proofs.venue_gaps.VenueGaps.missing.Goals as goal

pub returns : goal.returns
returns c = λ events fits whole.
    let lost = c.args.self.now.lost in
    c.count.ensures (fits.order whole)
    ∙ ap (λ (n : ℕ). min n 18446744073709551615)
    (count_of_agrees _ (is_missing events) _ (fits.missing whole)
    ∙ count_up_to (is_missing events) lost.highest
    ∙ ap (λ (h : ℕ). count_below (is_missing events) (h + 1)) fits.highest)
