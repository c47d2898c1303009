use Rattle.std.proofs.Common.{◌%◌, refl}
use Rattle.best_rows.proofs.Digits.{nine_by_pairs}
use Rattle.best_rows.proofs.seconds.nine_digits.Goals as goal

pub returns : goal.returns
returns c =
    rw (
      c.two_digits-two.ensures,
      c.two_digits-more.ensures,
      c.two_digits-near.ensures,
      c.two_digits-end.ensures,
    ) (nine_by_pairs c.args.number (c.args.number % 1000000000)
    (c.args.number % 1000000000 % 100000000) refl refl)
