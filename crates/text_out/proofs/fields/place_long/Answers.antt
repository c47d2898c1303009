use Rattle.std.proofs.Common.{arith}
use Rattle.std.proofs.lemmas.Fmt.{length-decimal-le}
use Rattle.text_out.proofs.fields.place_long.Goals as goal

pub write_digits-start-requires : goal.write_digits-start-requires
write_digits-start-requires c = (
  length-decimal-le 20 c.args.number (omega arith) (omega arith)
      c.ranges.number.fits,
  omega arith,
)
