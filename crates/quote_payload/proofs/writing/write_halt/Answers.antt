use Rattle.std.proofs.Common.{◌≡◌, ℕ, [], ◌∷◌, ap, ◌∙◌, subst, true, arith}
use Rattle.feed_types.specs.Symbols.{is_symbol_field}
use Rattle.quote_payload.specs.Payload.{item_of}
use Rattle.quote_payload.specs.Written.{halt_bytes}
use Rattle.quote_payload.proofs.Fronts.{whole, next_field}
use Rattle.quote_payload.proofs.ReadBack.{item_of-halt}
use Rattle.quote_payload.proofs.writing.write_halt.Goals as goal

pub returns-clause-bytes : goal.returns-clause-bytes
returns-clause-bytes c =
    whole 10 c.put-3.new.message (halt_bytes c.args.symbol c.args.halted) (omega arith)
    (next_field 9 10 _ _ _ _ _ c.put-3.ensures
    (next_field 1 9 _ _ _ _ _ c.put-2.ensures c.put.ensures c.field.ensures.value)
    (ap (λ (x : ℕ). x ∷ []) c.state.ensures))

pub returns-clause-item : goal.returns-clause-item
returns-clause-item c =
    ap item_of (returns-clause-bytes c)
    ∙ item_of-halt c.args.symbol c.args.halted (subst (λ x. is_symbol_field x ≡ true)
    c.field.ensures.value c.field.ensures.symbol)
