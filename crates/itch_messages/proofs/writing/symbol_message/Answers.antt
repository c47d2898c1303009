use Rattle.std.proofs.Common.{◌≡◌, subst, true}
use Rattle.feed_types.specs.Symbols.{is_symbol_field}
use Rattle.itch_messages.proofs.writing.symbol_message.Goals as goal

pub returns-clause-symbol : goal.returns-clause-symbol
returns-clause-symbol g c = subst (λ x. is_symbol_field x ≡ true)
    c.field.ensures.value c.field.ensures.symbol
