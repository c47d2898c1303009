use Rattle.std.proofs.Common.{◌≡◌, subst, true, arith}
use Rattle.feed_types.specs.Symbols.{is_symbol_field}
use Rattle.itch_messages.proofs.writing.order_message.Goals as goal

pub returns-clause-in_range : goal.returns-clause-in_range
returns-clause-in_range c = record {
  symbol = subst (λ x. is_symbol_field x ≡ true) c.field.ensures.value c.field.ensures.symbol;
  reference = omega arith;
  shares = omega arith;
  price = omega arith;
  locate = omega arith;
}
