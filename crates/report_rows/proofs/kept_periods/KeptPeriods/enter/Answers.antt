use Rattle.std.proofs.Common.{◌≡◌, ◌-◌, ◌<◌, ◌≤◌, false, true, ap, ◌∙◌, refl, arith, length, take}
use Rattle.std.specs.Prelude.{slice_get}
use Rattle.std.proofs.lemmas.List.{length-take-le}
use Rattle.report_rows.specs.PeriodLists.{is_kept, period_place_of}
use Rattle.report_rows.proofs.Entering.{absent_at, enters_few, enters_full, enters_kept, enters_late, kept_at}
use Rattle.report_rows.proofs.kept_periods.KeptPeriods.enter.Goals as goal

pub returns-then-is_at : goal.returns-then-is_at
returns-then-is_at g c =
    let ps = c.args.self.now.kept.items in
    let begin = c.args.begin in
    let n = c.place_of-place.result in
    let value = c.as_slice.ensures.value in
    let place : n ≡ period_place_of begin ps =
    c.place_of-place.ensures.place ∙ ap (period_place_of begin) value in
    let there : is_kept begin ps ≡ true =
    kept_at begin ps c.as_slice-2.result.now n c.is_at.result place c.as_slice-2.ensures.value
    c.is_at.ensures c.if-is_at.true in
    enters_kept begin c.args.none.now c.args.self.now c.args.self.now n place
    (omega (arith, c.place_of-place.ensures.within, ap length value)) there
    (omega (arith, c.as_slice.ensures.fits, ap length value)) refl

pub returns-then-place-ge-KEPT : goal.returns-then-place-ge-KEPT
returns-then-place-ge-KEPT g c =
    let ps = c.args.self.now.kept.items in
    let begin = c.args.begin in
    let n = c.place_of-place.result in
    let value = c.as_slice.ensures.value in
    let place : n ≡ period_place_of begin ps =
    c.place_of-place.ensures.place ∙ ap (period_place_of begin) value in
    let absent : is_kept begin ps ≡ false =
    absent_at begin ps c.as_slice-2.result.now n c.is_at.result place c.as_slice-2.ensures.value
    c.is_at.ensures c.if-is_at.false in
    enters_late begin c.args.none.now c.args.self.now
    (record { kept = c.args.self.now.kept; late = c.saturating_add-self.result }) n place
    (omega (arith, c.place_of-place.ensures.within, ap length value)) absent
    (omega (arith, c.if-place-ge-KEPT.true))
    (omega (arith, c.as_slice.ensures.fits, ap length value)) refl c.saturating_add-self.ensures

pub returns-then-kept-lt-KEPT : goal.returns-then-kept-lt-KEPT
returns-then-kept-lt-KEPT g c =
    let ps = c.args.self.now.kept.items in
    let begin = c.args.begin in
    let n = c.place_of-place.result in
    let value = c.as_slice.ensures.value in
    let place : n ≡ period_place_of begin ps =
    c.place_of-place.ensures.place ∙ ap (period_place_of begin) value in
    let absent : is_kept begin ps ≡ false =
    absent_at begin ps c.as_slice-2.result.now n c.is_at.result place c.as_slice-2.ensures.value
    c.is_at.ensures c.if-is_at.false in
    enters_few begin c.args.none.now c.args.self.now
    (record { kept = c.insert.new.self; late = c.args.self.now.late }) n place
    (omega (arith, c.place_of-place.ensures.within, ap length value)) absent
    (omega (arith, c.len-kept.ensures.value, c.if-kept-lt-KEPT.true)) c.insert.ensures.items refl

pub returns : goal.returns
returns g c =
    let ps = c.args.self.now.kept.items in
    let begin = c.args.begin in
    let n = c.place_of-place.result in
    let value = c.as_slice.ensures.value in
    let place : n ≡ period_place_of begin ps =
    c.place_of-place.ensures.place ∙ ap (period_place_of begin) value in
    let absent : is_kept begin ps ≡ false =
    absent_at begin ps c.as_slice-2.result.now n c.is_at.result place c.as_slice-2.ensures.value
    c.is_at.ensures c.if-is_at.false in
    let full : length ps ≡ 16 =
    omega (arith, c.len-kept.ensures.value, c.len-kept.ensures.fits, c.if-kept-lt-KEPT.false) in
    let fifteen : length c.pop-over.new.self.items ≡ 15 =
    ap length c.pop-over.ensures.rest ∙ ap (λ k. length (take (k - 1) ps)) full
    ∙ length-take-le 15 ps (omega (arith, full)) in
    enters_full begin c.args.none.now c.args.self.now
    (record { kept = c.insert-2.new.self; late = c.args.self.now.late }) n place
    (omega (arith, c.place_of-place.ensures.within, ap length value)) c.pop-over.result
    c.pop-over.new.self.items absent full (omega (arith, c.if-place-ge-KEPT.false))
    c.pop-over.ensures.items fifteen
    (c.pop-over.ensures.value ∙ ap (λ k. slice_get ps (k - 1)) full) c.insert-2.ensures.items refl
