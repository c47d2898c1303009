use Rattle.std.proofs.Common.{ℕ, ◌<◌, ◌≤◌, length, set, sym, ap, subst, ◌∙◌, arith}
use Rattle.message_forms.specs.declared.payload.Payload.{Payload}
use Rattle.message_forms.specs.Payloads.{is_look_own, look_with}
use Rattle.nbbo_runs.specs.VenueLookLaws.{looks_kept, looks_noted, looks_past}
use Rattle.nbbo_runs.specs.VenueLooks.{LooksWith, look_at}
use Rattle.nbbo_runs.proofs.watched_format.note_look.Goals as goal

pub returns-then-place-looks : goal.returns-then-place-looks
returns-then-place-looks c =
    let looks = c.args.looks.now in
    let here = c.index-place.ensures.value in
    let past = c.if-place-looks.true in
    looks_past looks c.args.venue c.args.bytes.now (λ i. omega (arith, c.type_inv.bytes i))
    (omega (arith, here, past))

pub returns-then-is_own : goal.returns-then-is_own
returns-then-is_own c =
    let looks = c.args.looks.now in
    looks_kept looks c.args.venue c.args.bytes.now (λ i. omega (arith, c.type_inv.bytes i))
    (ap (λ (v : ℕ). is_look_own (look_at looks v)) (sym c.index-place.ensures.value)
    ∙ ap is_look_own (sym c.look_at-before.ensures)
    ∙ sym c.is_own.ensures ∙ c.if-is_own.true)

pub returns : goal.returns
returns c =
    let looks = c.args.looks.now in
    let venue = c.args.venue in
    let here = c.index-place.ensures.value in
    let test = c.if-place-looks.false in
    let less : venue < length looks = omega (arith, here, test) in
    let look = c.look_after.result in
    let m = c.look_after.ensures in
    subst (λ (v : ℕ). LooksWith looks venue c.args.bytes.now (set looks v look)) (sym here)
    (looks_noted looks venue c.args.bytes.now look less (
      m.0,
      m.1,
      m.2 ∙ ap (λ (p : Payload). look_with p m.0)
          (c.look_at-before.ensures ∙ ap (look_at looks) here),
    ))
