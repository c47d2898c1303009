use Rattle.std.proofs.Common.{◌<◌, ◌≡◌, ◌≤◌, ℕ, Option, Some, ap, arith, length, refl, subst, sym}
use Rattle.std.specs.Prelude.{slice_get, slice_set}
use Rattle.std.proofs.lemmas.Option.{slice_get_read}
use Rattle.gap_rows.specs.GapMakers.{EndsIn}
use Rattle.gap_rows.proofs.GapSteps.{is_none, is_one}
use Rattle.gap_rows.proofs.gap_maker.take_at.Goals as goal

pub returns-then-place-len : goal.returns-then-place-len
returns-then-place-len c = λ e said.
    let vs = c.args.venues.now.items in
    let place = c.index-place.result in
    let within : place < length vs = omega (arith, c.if-place-len.true, c.len.ensures) in
    let found : c.args.venue < length vs = omega (arith, within, c.index-place.ensures.value) in
    let is = c.index-place.ensures.value in
    let old = c.index_mut.result.now in
    let new = c.take.new.self in
    subst (λ (o : Option ℕ). EndsIn e o vs (slice_set vs place new) c.take.new.ended.gaps.items)
    (sym (is_one (length vs) c.args.venue found))
    (record {
      before = old;
      after = new;
      was = subst (λ (k : ℕ). slice_get vs k ≡ Some old) is
          (slice_get_read vs (length vs) place old refl within c.index_mut.ensures.value);
      is = ap (λ (k : ℕ). slice_set vs k new) is;
      none = c.args.ended.now;
      ended = c.take.new.ended;
      none_are = c.requires;
      gaps_are = refl;
      ends = c.take.ensures.ends;
      takes = λ earlier fits. rw said (c.take.ensures.takes earlier fits);
    })

pub returns-else-place-len : goal.returns-else-place-len
returns-else-place-len c = λ e said.
    let vs = c.args.venues.now.items in
    let past : length vs ≤ c.args.venue =
    omega (arith, c.if-place-len.false, c.len.ensures, c.index-place.ensures.value) in
    subst (λ (o : Option ℕ). EndsIn e o vs vs c.args.ended.now.gaps.items)
    (sym (is_none (length vs) c.args.venue past)) (record { same = refl; none = c.requires })
