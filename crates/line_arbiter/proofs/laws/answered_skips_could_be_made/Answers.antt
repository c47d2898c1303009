use Rattle.std.proofs.Common.{[]}
use Rattle.line_arbiter.specs.laws.Parts.{skips_of}
use Rattle.line_arbiter.proofs.laws.answered_skips_could_be_made.Goals as goal

pub returns : goal.returns
returns c = λ session window packets all. skips_of session window [] packets all
