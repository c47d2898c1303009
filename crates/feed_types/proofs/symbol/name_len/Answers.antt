use Rattle.std.proofs.Common.{rules, tests, ◌≡◌, ◌+◌, ℕ, true, false, not, List, length, refl, sym, ap, ◌∙◌, arith, cond}
use Rattle.std.specs.List.{prefix_len}
use Rattle.std.specs.Option.{unwrap_or}
use Rattle.std.proofs.lemmas.Iterator.{IsFirst-from_position, YieldsList-from_slice, index_from_first}
use Rattle.std.proofs.lemmas.List.Folds.{length-prefix_len}
use Rattle.feed_types.specs.Symbols.{is_space}
use Rattle.feed_types.proofs.symbol.name_len.Goals as goal

-- how many bytes come before the first space
abbrev before_space : List ℕ → ℕ
before_space xs = prefix_len (λ byte. not (is_space byte)) xs

pub returns : goal.returns
returns c =
    let field : List ℕ = c.args.field.now in
    let first = IsFirst-from_position _ _ c.position.result (λ byte. is_space byte ≡ true)
    (λ byte. is_space byte ≡ false)
    c.position.ensures.ran (YieldsList-from_slice field cc) (λ x q k. search (rules, tests))
    (λ x q k. search (rules, tests)) in
    let found : before_space field ≡ unwrap_or c.position.result (length field) =
    index_from_first before_space (λ byte. is_space byte ≡ true) (λ byte. is_space byte ≡ false)
    refl
    (λ x xs e. ap (λ b. cond (not b) (1 + before_space xs) 0) e)
    (λ x xs e. ap (λ b. cond (not b) (1 + before_space xs) 0) e ∙ omega arith)
    field c.position.result first in
    c.unwrap_or.ensures ∙ ap (unwrap_or c.position.result) (sym c.told-field) ∙ sym found
    ∙ sym (length-prefix_len (λ byte. not (is_space byte)) field)
