use Rattle.std.proofs.Common.{◌≡◌, ℕ, [], ◌∷◌, ◌+◌, ap, subst, true, refl, arith}
use Rattle.feed_types.specs.Symbols.{is_symbol_field}
use Rattle.quote_payload.specs.Written.{quote_bytes}
use Rattle.quote_payload.proofs.Fronts.{whole, next_field}
use Rattle.quote_payload.proofs.writing.message_of.Goals as goal

pub returns-clause-bytes : goal.returns-clause-bytes
returns-clause-bytes g c =
    let n : ℕ = g.row.N in
    whole (13 + n + 4 + n + 1) c.put-7.new.message
    (quote_bytes c.args.version c.args.quote.now c.args.bid_size c.args.offer_size) (omega arith)
    (next_field (13 + n + 4 + n) (13 + n + 4 + n + 1) _ _ _ _ _ c.put-7.ensures
    (next_field (13 + n + 4) (13 + n + 4 + n) _ _ _ _ _ c.put-6.ensures
    (next_field (13 + n) (13 + n + 4) _ _ _ _ _ c.put-5.ensures
    (next_field 13 (13 + n) _ _ _ _ _ c.put-4.ensures
    (next_field 9 13 _ _ _ _ _ c.put-3.ensures
    (next_field 1 9 _ _ _ _ _ c.put-2.ensures c.put.ensures c.field.ensures.value)
    c.to_be_bytes.ensures) refl) c.to_be_bytes-2.ensures) refl)
    (ap (λ (x : ℕ). x ∷ []) c.flags.ensures))

pub returns-clause-symbol : goal.returns-clause-symbol
returns-clause-symbol g c = subst (λ x. is_symbol_field x ≡ true)
    c.field.ensures.value c.field.ensures.symbol
