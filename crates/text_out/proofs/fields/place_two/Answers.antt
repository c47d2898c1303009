use Rattle.std.proofs.Common.{◌≡◌, length, ap, sym, ◌∙◌, arith, ℕ}
use Rattle.std.specs.Prelude.{decimal, take, get_or, []}
use Rattle.text_out.specs.declared.digit_tables.TheConstants.{FRONTS}
use Rattle.text_out.proofs.Digits.{count_one, count_two, front_at}
use Rattle.text_out.specs.laws.Places.{placed_as}
use Rattle.text_out.proofs.fields.place_two.Goals.{then-number-lt10, else-number-lt10}
use Rattle.text_out.proofs.fields.place_two.Goals as goal

pub returns-clause-placed : goal.returns-clause-placed
returns-clause-placed c =
    let n = c.args.number in
    let len : c.if-number-lt10.len ≡ length (decimal n) =
    elim c.if-number-lt10.branch [
      | then-number-lt10 w ↦ w.len-is ∙ sym (count_one n w.if-number-lt10.true)
      | else-number-lt10 w ↦ w.len-is
          ∙ sym (count_two n (omega (arith, w.if-number-lt10.false)) c.requires.small)
    ] in
    placed_as _ _ _ _ _ _ c.place_word.ensures
    (ap (λ (k : ℕ). take k (get_or FRONTS n [])) len ∙ front_at n (omega (arith, c.requires.small)))
