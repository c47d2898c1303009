use Rattle.std.proofs.Common.{ℕ, suc, List, ◌≡◌, ◌+◌, ◌-◌, ◌<◌, ◌≤◌, ◌∙◌, ap, sym, subst, true, false, length, get_or, set, arith, add-one}
use Rattle.std.specs.List.{insert, remove}
use Rattle.std.proofs.lemmas.List.Edits.{length-remove, length-insert}
use Rattle.feed_types.specs.declared.national.Best.{Best}
use Rattle.nbbo_book.specs.declared.ranks.Order.{Order}
use Rattle.nbbo_book.specs.Ranks.{AreNoted, is_ahead}
use Rattle.nbbo_book.proofs.SideInvariant.{long_set}
use Rattle.nbbo_book.proofs.Moving.{set_in_place, slid_up, slid_down}
use Rattle.nbbo_book.proofs.Places.{noted_again, noted_past}
use Rattle.nbbo_book.proofs.ranks.move_to_rank.Goals as goal
use Rattle.nbbo_book.proofs.ranks.move_to_rank.Goals.{then-up-test+else-is_ahead, else-up-test, then-down-test+else-not-is_ahead, else-down-test}

pub up-init : goal.up-init
up-init c = record {
  within = omega arith;
  moved = set_in_place c.args.ranks.now c.args.from c.args.x.now c.requires.ready.below;
  passed = λ l. absurd (omega (arith, l));
  noted = noted_again c.args.places.now c.args.ranks.now c.args.from c.args.x.now
      c.requires.ready.below (omega (arith, c.requires.ready.venue)) c.requires.ready.noted;
}

pub up-preserved : goal.up-preserved
up-preserved c =
    let ys = remove c.args.ranks.now c.args.from in
    let at = c.up.at in
    let is : at ≡ suc (at - 1) = omega (arith, c.up-test.true) in
    let h : at - 1 < length ys =
    omega (
      arith,
      length-remove c.args.ranks.now c.args.from c.requires.ready.below,
      c.up.invariant.within,
      c.up-test.true,
    ) in
    let seen = slid_up ys c.up.ranks at (at - 1) c.args.x.now c.index-ranks-at.result
    c.up.invariant.moved is h c.index-ranks-at.is in
    let named = slid_up ys c.up.ranks at (at - 1) c.args.x.now
    c.index-ranks-at-in-up.result
    c.up.invariant.moved is h c.index-ranks-at-in-up.is in
    let m = slid_up ys c.up.ranks at (at - 1) c.args.x.now
    c.index-ranks-at-in-up-2.result
    c.up.invariant.moved is h c.index-ranks-at-in-up-2.is in
    let own : c.index.result ≡ c.index-ranks-at-in-up-2.result.venue =
    c.index.ensures.value
    ∙ ap (λ (t : Best). t.venue) (sym c.index-ranks-at-in-up.is ∙ named.1 ∙ sym m.1) in
    let ahead : is_ahead c.args.order.now c.args.x.now c.index-ranks-at.result ≡ true =
    first_of (cc, grind arith) in
    record {
      within = omega (arith, c.up.invariant.within);
      moved = m.0;
      passed = λ l. ap (λ (t : Best). is_ahead c.args.order.now c.args.x.now t) (sym seen.1)
          ∙ ahead;
      noted = subst (λ (i : ℕ). AreNoted
          (set (set c.up.places i at) c.args.x.now.venue (at - 1))
          (set (set c.up.ranks at c.index-ranks-at-in-up-2.result) (at - 1) c.args.x.now))
          (sym own)
          (noted_past c.up.places c.up.ranks at (at - 1) c.args.x.now
          c.index-ranks-at-in-up-2.result
          (omega (arith, c.up.invariant.within, c.requires.ready.below, c.up.auto.ranks))
          (omega (arith, c.up.invariant.within, c.requires.ready.below, c.up.auto.ranks))
          (λ e. (let no : at ≡ at - 1 = e in omega (arith, no, is)))
          (omega (arith, c.requires.ready.venue)) (omega (arith, own, c.index.ensures.in_range))
          c.up.invariant.noted c.index-ranks-at-in-up-2.is);
    }

-- a walk up stops behind a side that x isn't ahead of
stops_up : (order : Order) (ys ranks : List Best) (at : ℕ) (x n : Best)
    → set ranks at x ≡ insert ys at x
    → at ≤ length ys → n ≡ get_or ranks (at - 1) n
    → is_ahead order x (get_or ranks (at - 1) n) ≡ false → (k : ℕ)
    → at ≡ k + 1 → is_ahead order x (get_or ys k x) ≡ false
stops_up order ys ranks at x n moved within read behind k e =
    let is : at ≡ suc k = omega (arith, e) in
    let before : at - 1 ≡ k = omega (arith, e) in
    let m = slid_up ys ranks at k x n moved is (omega (arith, is, within))
    (read ∙ ap (λ i. get_or ranks i n) before) in
    ap (λ (t : Best). is_ahead order x t) (sym m.1 ∙ read) ∙ behind

pub down-init : goal.down-init
down-init c =
    let long : c.up.at ≤ length (remove c.args.ranks.now c.args.from) =
    omega (
      arith,
      length-remove c.args.ranks.now c.args.from c.requires.ready.below,
      c.requires.ready.below,
      c.up.invariant.within,
    ) in
    record {
      within = long;
      moved = c.up.invariant.moved;
      stopped = λ k e. elim c.up-test.branch [
        | then-up-test+else-is_ahead w ↦
            stops_up c.args.order.now (remove c.args.ranks.now c.args.from) c.up.ranks
            c.up.at c.args.x.now w.index-ranks-at.result c.up.invariant.moved long
            w.index-ranks-at.is (sym w.is_ahead.ensures ∙ w.if-is_ahead.false) k e
        | else-up-test w ↦ absurd (omega (arith, e, w.up-test.false))
      ];
      noted = c.up.invariant.noted;
    }

pub down-preserved : goal.down-preserved
down-preserved c =
    let ys = remove c.args.ranks.now c.args.from in
    let at = c.down.at in
    let ranks = c.down.ranks in
    let moved = c.down.invariant.moved in
    let long : length ranks ≡ length ys + 1 =
    sym (long_set ranks at c.args.x.now) ∙ ap length moved
    ∙ length-insert ys at c.args.x.now c.down.invariant.within in
    let all : c.args.count ≡ length ranks =
    c.requires.counted ∙ sym c.up.auto.ranks ∙ sym c.down.auto.ranks in
    let h : at < length ys = omega (arith, long, all, c.down-test.true) in
    let seen = slid_down ys ranks at c.args.x.now
    c.index-ranks-at-in-down.result
    moved h (c.index-ranks-at-in-down.is
    ∙ ap (λ i. get_or ranks i c.index-ranks-at-in-down.result) (add-one at)) in
    let named = slid_down ys ranks at c.args.x.now
    c.index-ranks-at-in-down-2.result
    moved h (c.index-ranks-at-in-down-2.is
    ∙ ap (λ i. get_or ranks i c.index-ranks-at-in-down-2.result) (add-one at)) in
    let m = slid_down ys ranks at c.args.x.now
    c.index-ranks-at-in-down-3.result
    moved h (c.index-ranks-at-in-down-3.is
    ∙ ap (λ i. get_or ranks i c.index-ranks-at-in-down-3.result) (add-one at)) in
    let own : c.index-in-down.result
    ≡ c.index-ranks-at-in-down-3.result.venue =
    c.index-in-down.ensures.value
    ∙ ap (λ (t : Best). t.venue)
    (sym c.index-ranks-at-in-down-2.is ∙ named.1 ∙ sym m.1) in
    let worse : is_ahead c.args.order.now c.args.x.now
    c.index-ranks-at-in-down.result ≡ false =
    first_of (cc, grind arith) in
    record {
      within = omega (arith, h);
      moved = rw (add-one at) m.0;
      stopped = λ k e.
          let same : at ≡ k = omega (arith, e) in
          ap (λ (n : ℕ). is_ahead c.args.order.now c.args.x.now (get_or ys n c.args.x.now))
          (sym same)
          ∙ ap (λ (t : Best). is_ahead c.args.order.now c.args.x.now t) (sym seen.1) ∙ worse;
      noted = subst (λ (i : ℕ). AreNoted
          (set (set c.down.places i at) c.args.x.now.venue (at + 1))
          (set (set ranks at c.index-ranks-at-in-down-3.result)
          (at + 1) c.args.x.now))
          (sym own)
          (noted_past c.down.places ranks at (at + 1) c.args.x.now
          c.index-ranks-at-in-down-3.result
          (omega (arith, all, c.down-test.true))
          (omega (arith, all, c.down-test.true))
          (λ e. (let no : at ≡ at + 1 = e in omega (arith, no)))
          (omega (arith, c.requires.ready.venue))
          (omega (arith, own, c.index-in-down.ensures.in_range))
          c.down.invariant.noted c.index-ranks-at-in-down-3.is);
    }

pub returns-then-at-from-clause-place : goal.returns-then-at-from-clause-place
returns-then-at-from-clause-place c =
    let within : c.up.at ≤ length (remove c.args.ranks.now c.args.from) =
    omega (
      arith,
      length-remove c.args.ranks.now c.args.from c.requires.ready.below,
      c.if-at-from.true,
      c.requires.ready.below,
    ) in
    record {
      within = within;
      before = λ k e. elim c.up-test.branch [
        | then-up-test+else-is_ahead w ↦
            stops_up c.args.order.now (remove c.args.ranks.now c.args.from) c.up.ranks c.up.at
            c.args.x.now w.index-ranks-at.result c.up.invariant.moved within
            w.index-ranks-at.is (sym w.is_ahead.ensures ∙ w.if-is_ahead.false) k e
        | else-up-test w ↦ absurd (omega (arith, e, w.up-test.false))
      ];
      at = λ l. c.up.invariant.passed c.if-at-from.true;
    }

pub returns-clause-place : goal.returns-clause-place
returns-clause-place c =
    let order : Order = c.args.order.now in
    let x : Best = c.args.x.now in
    let ys : List Best = remove c.args.ranks.now c.args.from in
    record {
      within = c.down.invariant.within;
      before = c.down.invariant.stopped;
      at = λ h. elim c.down-test.branch [
        | then-down-test+else-not-is_ahead w ↦
            let here : is_ahead order x
            (get_or c.down.ranks (c.down.at + 1) w.index-ranks-at-in-down.result) ≡ true =
            sym w.is_ahead-in-down.ensures ∙ w.if-not-is_ahead.false in
            let m = slid_down ys c.down.ranks c.down.at x w.index-ranks-at-in-down.result
            c.down.invariant.moved h (w.index-ranks-at-in-down.is
            ∙ ap (λ i. get_or c.down.ranks i w.index-ranks-at-in-down.result)
            (add-one c.down.at)) in
            ap (λ (t : Best). is_ahead order x t) (sym m.1 ∙ w.index-ranks-at-in-down.is) ∙ here
        | else-down-test w ↦
            let long : length c.down.ranks ≡ length ys + 1 =
            sym (long_set c.down.ranks c.down.at x) ∙ ap length c.down.invariant.moved
            ∙ length-insert ys c.down.at x c.down.invariant.within in
            let all : c.args.count ≡ length c.down.ranks =
            c.requires.counted ∙ sym c.up.auto.ranks ∙ sym c.down.auto.ranks in
            absurd (omega (arith, long, all, h, w.down-test.false))
      ];
    }
