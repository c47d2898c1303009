use Rattle.std.proofs.Common.{◌≡◌, ◌<◌, ◌≤◌, ◌+◌, ℕ, Bool, max, ap, sym, ◌∙◌, arith}
use Rattle.std.specs.Prelude.{◌||◌, ◌&&◌, not, nat_le, nat_lt}
use Rattle.feed_types.specs.FullCounts.{count_after}
use Rattle.line_gaps.specs.Gaps.{number_has_come, is_given_up, is_missing, known_number, was_passed}
use Rattle.line_gaps.specs.Runs.{is_in_run, len_of, sum_in}
use Rattle.line_gaps.proofs.GivenCounts.{given_count}
use Rattle.line_gaps.proofs.MissingLemmas.{floor_skipped, given_below, given_skipped, missing_from, missing_known, missing_skipped, unknown_from}
use Rattle.line_gaps.proofs.RunLemmas.{or_none}
use Rattle.line_gaps.proofs.RunOrders.{and_first, in_span, or_cases}
use Rattle.line_gaps.proofs.lost_numbers.LostNumbers.give_up.Goals as goal

pub returns-clause-fits : goal.returns-clause-fits
returns-clause-fits c = λ events time venue fits.
    let old = c.args.self.now in
    let number = c.args.number in
    let known = known_number events in
    let mid = c.add_those_below.new.self in
    let unknown = c.unknown_below-unknown.result in
    record {
      missing = λ none n.
          c.cut.ensures.has (is_missing events) fits.missing none n
          ∙ ap (λ (l : ℕ). is_missing events n && not (nat_le 0 n && nat_le n l))
          c.saturating_sub.ensures
          ∙ missing_skipped n known number (number_has_come events n) (was_passed events n);
      given_up = λ none few n.
          let given = is_given_up events n in
          let low = is_missing events n && nat_lt n number in
          let cut = c.cut.ensures.dropped in
          let added = c.add.ensures.dropped in
          let whole : old.missing.dropped ≡ 0 = omega (arith, none, cut) in
          let first : mid.dropped ≡ 0 = omega (arith, few, added) in
          c.add.ensures.has few n
          ∙ ap (λ (b : Bool). b || is_in_run n unknown)
          (c.add_those_below.ensures.has (is_given_up events) (is_missing events)
          (fits.given_up whole) fits.missing whole first n)
          ∙ ap (λ (b : Bool). (given || low) || b) (c.unknown_below-unknown.ensures n)
          ∙ ap (λ (h : ℕ). (given || low) || ((nat_lt h n
          && (nat_le old.floor n && nat_lt n number)))) fits.highest
          ∙ ap (λ (b : Bool). (given || low) || b)
          (sym (or_none (nat_lt known n && (nat_le old.floor n && nat_lt n number))))
          ∙ given_skipped n known number old.floor (number_has_come events n)
          (was_passed events n) given
          (fits.floor n) (fits.come n);
      order = λ none.
          let cut = c.cut.ensures.dropped in
          let whole : old.missing.dropped ≡ 0 = omega (arith, none, cut) in
          c.cut.ensures.order none (omega arith) (fits.order whole);
      given_order = λ none few.
          let cut = c.cut.ensures.dropped in
          let added = c.add.ensures.dropped in
          let whole : old.missing.dropped ≡ 0 = omega (arith, none, cut) in
          let first : mid.dropped ≡ 0 = omega (arith, few, added) in
          let kept = c.add_those_below.ensures.dropped in
          let least : old.given_up.dropped ≡ 0 = omega (arith, first, kept) in
          let just = fits.given_up whole least in
          c.add.ensures.order few
          (c.add_those_below.ensures.order first (fits.given_order whole least) (fits.order whole)
          (λ m n e f.
          let low : m < old.floor = given_below events old.floor m (fits.floor m)
          (sym (just m) ∙ e) in
          let high : old.floor ≤ n = missing_from events old.floor n (fits.floor n)
          (sym (fits.missing whole n) ∙ f) in
          omega (arith, low, high)))
          (λ some n e.
          let in_it = c.unknown_below-unknown.ensures unknown.first in
          let from : max (old.highest + 1) old.floor ≤ unknown.first =
          unknown_from old.highest old.floor number unknown.first
          (sym in_it ∙ in_span unknown.first unknown.first unknown.last (omega arith) some) in
          or_cases (is_given_up events n) (is_missing events n && nat_lt n number)
          (λ g.
          let low : n < old.floor = given_below events old.floor n (fits.floor n) g in
          omega (arith, low, from))
          (λ g.
          let known : n ≤ known_number events = missing_known events n (and_first
          (is_missing events n) (nat_lt n number) g) in
          omega (arith, known, fits.highest, from))
          (sym (c.add_those_below.ensures.has (is_given_up events) (is_missing events)
          (fits.given_up whole) fits.missing whole first n) ∙ e));
      highest = fits.highest;
      floor = λ n.
          ap (λ (b : Bool). nat_lt n number || b) (fits.floor n)
          ∙ floor_skipped n old.floor number ∙ ap (λ (f : ℕ). nat_lt n f) (sym c.max-self.ensures);
      come = fits.come;
    }

pub returns-clause-count : goal.returns-clause-count
returns-clause-count c = λ events fits whole.
    let old = c.args.self.now in
    c.raised-count.ensures
    ∙ ap (λ (n : ℕ). count_after c.count_in.result n) c.len.ensures
    ∙ ap (λ (n : ℕ). count_after n (len_of c.unknown_below-unknown.result))
    (c.count_in.ensures
    ∙ ap (λ (l : ℕ). sum_in old.missing.runs.items (record { first = 0; last = l }))
    c.saturating_sub.ensures)
    ∙ given_count events old c.unknown_below-unknown.result c.args.number fits whole
    c.unknown_below-unknown.ensures

pub returns-clause-dropped : goal.returns-clause-dropped
returns-clause-dropped c =
    let below = c.add_those_below.ensures.dropped in
    let added = c.add.ensures.dropped in
    record { missing = c.cut.ensures.dropped; given_up = omega (arith, below, added) }
