use Rattle.std.proofs.Common.{ap, arith, max, refl, ℕ, ◌∙◌}
use Rattle.line_gaps.proofs.line_gaps.LineGaps.pass.Goals as goal

pub returns-clause-passes : goal.returns-clause-passes
returns-clause-passes c =
    let said = c.compare.ensures in
    let value = c.last.ensures.value in
    let reach = c.last.ensures.reaches in
    record {
      line = said.ends.line;
      begun = refl;
      highest = c.max-self.ensures ∙ ap (λ (h : ℕ). max h c.last.result) said.highest
          ∙ ap (λ (m : ℕ). max c.args.self.now.highest m) value;
      «open» = said.«open»;
      reaches = omega (arith, reach, value);
    }
