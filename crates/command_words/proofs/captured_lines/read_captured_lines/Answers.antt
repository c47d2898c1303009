use Rattle.std.proofs.Common.{arith, inr, refl, rules}
use Rattle.command_words.proofs.captured_lines.read_captured_lines.Goals as goal

pub returns-clause-venues : goal.returns-clause-venues
returns-clause-venues c =
    let listed = c.as_slice.ensures.len in
    let count = c.in_ok-addresses.ensures.count in
    c.in_ok-lines.ensures.venues c.args.venues (omega (arith, listed, count))

pub returns-then-not-are_apart-clause-reads : goal.returns-then-not-are_apart-clause-reads
returns-then-not-are_apart-clause-reads c = inr (
  c.in_ok-addresses.addresses.items,
  c.in_ok-addresses.ensures.reads,
  (refl, search rules),
)
