use Rattle.std.proofs.Common.{◌≡◌, ℕ, ◌+◌, List, ◌++◌, length, take, sym, ap, ◌∙◌, arith}
use Rattle.std.proofs.lemmas.List.{take_all}
use Rattle.itch_messages.proofs.writing.join.Goals as goal

joined : (n m : ℕ) (first second front field : List ℕ) → take (0 + n) first ≡ front
    → take (n + m) second ≡ take n first ++ field → length second ≡ n + m
    → second ≡ front ++ field
joined n m first second front field a b len =
    let none : n ≡ 0 + n = omega arith in
    sym (take_all (n + m) second (omega (arith, len))) ∙ b
    ∙ ap (λ x. x ++ field) (ap (λ k. take k first) none ∙ a)

pub returns : goal.returns
returns g c =
    joined g.row.A g.row.B c.put.new.message c.put-2.new.message _ _ c.put.ensures
    c.put-2.ensures (omega arith)
