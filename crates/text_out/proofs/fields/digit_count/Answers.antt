use Rattle.std.proofs.Common.{sym, arith}
use Rattle.text_out.proofs.Digits.{count_one, count_two, count_three}
use Rattle.text_out.proofs.fields.digit_count.Goals as goal

pub returns-then-number-lt10-clause-value : goal.returns-then-number-lt10-clause-value
returns-then-number-lt10-clause-value c = sym (count_one c.args.number c.if-number-lt10.true)

pub returns-then-number-lt100-clause-value : goal.returns-then-number-lt100-clause-value
returns-then-number-lt100-clause-value c =
    sym (count_two c.args.number (omega (arith, c.if-number-lt10.false)) c.if-number-lt100.true)

pub returns-else-number-lt100-clause-value : goal.returns-else-number-lt100-clause-value
returns-else-number-lt100-clause-value c =
    sym (count_three c.args.number (omega (arith, c.if-number-lt100.false)) c.requires)
