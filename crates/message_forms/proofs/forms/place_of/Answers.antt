use Rattle.std.proofs.Common.{ℕ, ◌∙◌, inl, inr, get_or, length, sym, ap, arith}
use Rattle.std.proofs.lemmas.Bool.{cases_eq}
use Rattle.std.proofs.lemmas.List.Sums.{position_or_len_is}
use Rattle.itch_messages.specs.Events.{is_form}
use Rattle.message_forms.proofs.forms.place_of.Goals as goal

pub loop-place-preserved : goal.loop-place-preserved
loop-place-preserved c = λ k less.
    let forms = c.args.forms.now in
    elim (cases_eq k c.loop-place.place) [
      | inl same ↦
          ap (λ (n : ℕ). is_form (get_or forms n (0, 0)).0 (get_or forms n (0, 0)).1 c.args.kind
          c.args.len) same ∙ sym c.has_form.ensures ∙ c.if-has_form.false
      | inr apart ↦ c.loop-place.invariant k (omega (arith, less, apart))
    ]

pub returns-then-has_form-clause-place : goal.returns-then-has_form-clause-place
returns-then-has_form-clause-place c =
    sym (position_or_len_is
    (λ (form : ℕ × ℕ). is_form form.0 form.1 c.args.kind c.args.len) c.args.forms.now
    c.loop-place.place (0, 0) c.loop-place.auto.place-end c.loop-place.invariant
    (λ less. sym c.has_form.ensures ∙ c.if-has_form.true))

pub returns-clause-place : goal.returns-clause-place
returns-clause-place c =
    let forms = c.args.forms.now in
    let past = c.loop-place-test.false in
    sym (position_or_len_is
    (λ (form : ℕ × ℕ). is_form form.0 form.1 c.args.kind c.args.len) forms (length forms) (0, 0)
    (omega arith) (λ k less. c.loop-place.invariant k (omega (arith, less, past)))
    (λ less. absurd (omega (arith, less))))
