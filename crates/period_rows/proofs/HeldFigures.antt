-- What is kept of how long national bests stood: after more time, and at the end.
use Rattle.std.proofs.Common.{◌≡◌, ℕ, zero, suc, ◌+◌, ◌-◌, ◌*◌, ◌≤◌, List, ◌++◌, refl, sym, ap, subst, ◌∙◌, arith, slice_index_or}
use Rattle.std.specs.Prelude.{min, Option}
use Rattle.std.proofs.Math.Nat.{mul-add}
use Rattle.feed_types.specs.declared.national.National.{National}
use Rattle.feed_types.specs.FullCounts.{count_after}
use Rattle.report_rows.specs.FirstTexts.{first_texts}
use Rattle.period_rows.specs.BestHolding.{AddsStanding, AreBestsHeld, AreNone, IsBestHeld, IsBestSettled}
use Rattle.period_rows.specs.BestRows.{best_row, mean_by, most_spread, most_time, share_of, shares_by, symbol_rows, best_venue_row}
use Rattle.period_rows.specs.BestTimes.{figures_row, figures_shares, figures_text, settled_row, settled_shares, settled_text}
use Rattle.report_rows.specs.EventFigures.{is_crossed, is_locked, is_normal}
use Rattle.period_rows.specs.Bests.{bids, in_state, offers, spread_of}
use Rattle.period_rows.specs.declared.best_figures.BestFigures.{BestFigures}
use Rattle.period_rows.specs.declared.best_shares.BestShares.{BestShares}
use Rattle.period_rows.specs.declared.best_times.PeriodOver.{PeriodOver}
use Rattle.period_rows.specs.declared.symbol_times.SymbolTimes.{SymbolTimes}

-- ---- one figure

count_capped : (kept closed more : ℕ) → kept ≡ min closed most_time
    → count_after kept more ≡ min (closed + more) most_time
count_capped kept closed zero is = omega (arith, is)
count_capped kept closed (suc more) is = omega (arith, is)

pub longer : (n since at to : ℕ) → since ≤ at → at ≤ to
    → n * (to - since) ≡ n * (to - at) + n * (at - since)
longer n since at to first second =
    let parts : to - since ≡ (to - at) + (at - since) = omega (arith, first, second) in
    ap (λ (k : ℕ). n * k) parts ∙ mul-add n (to - at) (at - since)

none_between : (n at : ℕ) → n * (at - at) ≡ 0
none_between n at =
    let same : at - at ≡ 0 = omega arith in
    let none : n * 0 ≡ 0 = omega arith in
    ap (λ (k : ℕ). n * k) same ∙ none

pass_sum : (sum closed before more whole : ℕ) → sum ≡ closed + before → whole ≡ more + before
    → more + sum ≡ closed + whole
pass_sum sum closed before more whole is parts = omega (arith, is, parts)

settled_sum : (sum closed before more whole none : ℕ) → sum ≡ closed + before
    → whole ≡ more + before → none ≡ 0 → more + sum ≡ (closed + whole) + none
settled_sum sum closed before more whole none is parts zero_is =
    omega (arith, is, parts, zero_is)

all_kept : (kept closed sum most none : ℕ) → kept ≡ min closed most → sum ≡ closed + none
    → none ≡ 0 → kept ≡ min sum most
all_kept kept closed sum most none is parts zero_is = omega (arith, is, parts, zero_is)

capped_more : (kept new closed more most : ℕ) → kept ≡ min closed most
    → new ≡ min (kept + more) most → new ≡ min (closed + more) most
capped_more kept new closed more most is adds = omega (arith, is, adds)

none_kept : (kept most : ℕ) → kept ≡ 0 → kept ≡ min 0 most
none_kept kept most is = omega (arith, is)

in_two : (since at to : ℕ) → since ≤ at → at ≤ to → since ≤ to
in_two since at to first second = omega (arith, first, second)

none_sum : (n : ℕ) → n ≡ 0 → 0 ≡ 0 + n
none_sum n is = omega (arith, is)

same_time : (at : ℕ) → at ≤ at
same_time at = omega arith

module _ (weight : National → ℕ) (most : ℕ) where
  held_none : (kept : ℕ) (best : National) (from : ℕ) → kept ≡ 0
      → IsBestHeld weight most kept best from from 0
  held_none kept best from is = record {
    closed = 0;
    kept_is = none_kept kept most is;
    in_order = same_time from;
    sum_is = none_sum (weight best * (from - from)) (none_between (weight best) from);
  }

  held_pass : (kept : ℕ) (best : National) (since at to sum : ℕ) → at ≤ to
      → IsBestHeld weight most kept best since at sum
      → IsBestHeld weight most kept best since to (weight best * (to - at) + sum)
  held_pass kept best since at to sum on held = record {
    closed = held.closed;
    kept_is = held.kept_is;
    in_order = in_two since at to held.in_order on;
    sum_is = pass_sum sum held.closed (weight best * (at - since)) (weight best * (to - at))
        (weight best * (to - since)) held.sum_is
        (longer (weight best) since at to held.in_order on);
  }

  held_settled : (kept new : ℕ) (best other : National) (since at to sum : ℕ) → at ≤ to
      → ((closed : ℕ) → kept ≡ min closed most
      → new ≡ min (closed + weight best * (to - since)) most)
      → IsBestHeld weight most kept best since at sum
      → IsBestHeld weight most new other to to (weight best * (to - at) + sum)
  held_settled kept new best other since at to sum on adds held = record {
    closed = held.closed + weight best * (to - since);
    kept_is = adds held.closed held.kept_is;
    in_order = same_time to;
    sum_is = settled_sum sum held.closed (weight best * (at - since)) (weight best * (to - at))
        (weight best * (to - since)) (weight other * (to - to)) held.sum_is
        (longer (weight best) since at to held.in_order on) (none_between (weight other) to);
  }

  held_as : (kept : ℕ) (best : National) (since at sum other : ℕ) → sum ≡ other
      → IsBestHeld weight most kept best since at sum → IsBestHeld weight most kept best since at
      other
  held_as kept best since at sum other same held =
      subst (λ (n : ℕ). IsBestHeld weight most kept best since at n) same held

  held_all : (kept : ℕ) (best : National) (at sum : ℕ) → IsBestHeld weight most kept best at at sum
      → kept ≡ min sum most
  held_all kept best at sum held =
      all_kept kept held.closed sum most (weight best * (at - at)) held.kept_is held.sum_is
      (none_between (weight best) at)

held_counted : (weight : National → ℕ) (kept new : ℕ) (best other : National)
    (since at to sum : ℕ) → at ≤ to
    → new ≡ count_after kept (weight best * (to - since))
    → IsBestHeld weight most_time kept best since at sum
    → IsBestHeld weight most_time new other to to (weight best * (to - at) + sum)
held_counted weight kept new best other since at to sum on adds held =
    held_settled weight most_time kept new best other since at to sum on
    (λ closed is. adds ∙ count_capped kept closed (weight best * (to - since)) is) held

-- ---- all figures

module _ (sum : (National → ℕ) → ℕ) where
  pub all_none : (f : BestFigures) (best : National) (from : ℕ) → AreNone f
      → ((weight : National → ℕ) → sum weight ≡ 0) → AreBestsHeld f best from from sum
  all_none f best from (normal, locked, crossed, spread, bids_none, offers_none) none =
      let zero_of : (weight : National → ℕ) (most kept : ℕ) → kept ≡ 0
      → IsBestHeld weight most kept best from from (sum weight) =
      λ weight most kept is. held_as weight most kept best from from 0 (sum weight)
      (sym (none weight)) (held_none weight most kept best from is) in
      record {
        normal = zero_of (in_state is_normal) most_time f.normal normal;
        locked = zero_of (in_state is_locked) most_time f.locked locked;
        crossed = zero_of (in_state is_crossed) most_time f.crossed crossed;
        spread = zero_of spread_of most_spread f.spread spread;
        bids_are = λ venue. zero_of (bids venue) most_time (slice_index_or f.bids venue 0)
            (bids_none venue);
        offers_are = λ venue. zero_of (offers venue) most_time (slice_index_or f.offers venue 0)
            (offers_none venue);
      }

  pub all_pass : (f : BestFigures) (best : National) (since at to : ℕ) → at ≤ to
      → AreBestsHeld f best since at sum
      → AreBestsHeld f best since to (λ weight. weight best * (to - at) + sum weight)
  all_pass f best since at to on held = record {
    normal = held_pass _ _ _ best since at to _ on held.normal;
    locked = held_pass _ _ _ best since at to _ on held.locked;
    crossed = held_pass _ _ _ best since at to _ on held.crossed;
    spread = held_pass _ _ _ best since at to _ on held.spread;
    bids_are = λ venue. held_pass (bids venue) most_time _ best since at to _ on
        (held.bids_are venue);
    offers_are = λ venue. held_pass (offers venue) most_time _ best since at to _ on
        (held.offers_are venue);
  }

  pub all_settled : (f new : BestFigures) (best other : National) (since at to : ℕ) → at ≤ to
      → AddsStanding best (to - since) f new → AreBestsHeld f best since at sum
      → AreBestsHeld new other to to (λ weight. weight best * (to - at) + sum weight)
  all_settled f new best other since at to on adds held = record {
    normal = held_counted _ _ _ best other since at to _ on adds.normal held.normal;
    locked = held_counted _ _ _ best other since at to _ on adds.locked held.locked;
    crossed = held_counted _ _ _ best other since at to _ on adds.crossed held.crossed;
    spread = held_settled spread_of most_spread f.spread new.spread best other since at to
        (sum spread_of) on
        (λ closed is. capped_more f.spread new.spread closed (spread_of best * (to - since))
        most_spread is adds.spread) held.spread;
    bids_are = λ venue. held_counted (bids venue) _ _ best other since at to _ on
        (adds.bids_are venue) (held.bids_are venue);
    offers_are = λ venue. held_counted (offers venue) _ _ best other since at to _ on
        (adds.offers_are venue) (held.offers_are venue);
  }

  pub all_as : (other : (National → ℕ) → ℕ) (f : BestFigures) (best : National) (since at : ℕ)
      → ((weight : National → ℕ) → sum weight ≡ other weight) → AreBestsHeld f best since at sum
      → AreBestsHeld f best since at other
  all_as other f best since at same held = record {
    normal = held_as _ _ _ best since at _ _ (same (in_state is_normal)) held.normal;
    locked = held_as _ _ _ best since at _ _ (same (in_state is_locked)) held.locked;
    crossed = held_as _ _ _ best since at _ _ (same (in_state is_crossed)) held.crossed;
    spread = held_as _ _ _ best since at _ _ (same spread_of) held.spread;
    bids_are = λ venue. held_as (bids venue) _ _ best since at _ _ (same (bids venue))
        (held.bids_are venue);
    offers_are = λ venue. held_as (offers venue) _ _ best since at _ _ (same (offers venue))
        (held.offers_are venue);
  }

-- ---- the text of a symbol, with the best that stands

texts_same : (f g : ℕ → List ℕ) → ((n : ℕ) → f n ≡ g n) → (n : ℕ)
    → first_texts f n ≡ first_texts g n
texts_same f g same zero = refl
texts_same f g same (suc n) =
    ap (λ (l : List ℕ). l ++ f n) (texts_same f g same n)
    ∙ ap (λ (l : List ℕ). first_texts g n ++ l) (same n)

shares_as : (a b : BestShares) → a.bid ≡ b.bid → a.offer ≡ b.offer → a.normal ≡ b.normal
    → a.locked ≡ b.locked → a.crossed ≡ b.crossed → a.spread ≡ b.spread → a ≡ b
shares_as a b bid offer normal locked crossed spread =
    ap (λ (n : ℕ). record a { bid = n }) bid
    ∙ ap (λ (n : ℕ). record a { bid = b.bid; offer = n }) offer
    ∙ ap (λ (n : ℕ). record a { bid = b.bid; offer = b.offer; normal = n }) normal
    ∙ ap (λ (n : ℕ). record a { bid = b.bid; offer = b.offer; normal = b.normal; locked = n })
    locked
    ∙ ap (λ (n : ℕ). record a {
      bid = b.bid;
      offer = b.offer;
      normal = b.normal;
      locked = b.locked;
      crossed = n;
    }) crossed
    ∙ ap (λ (n : Option ℕ). record b { spread = n }) spread

settled_are : (length_ns end venue : ℕ) (t : SymbolTimes) (f : BestFigures)
    → AddsStanding t.best (end - t.since) t.figures f
    → figures_shares length_ns venue f ≡ settled_shares length_ns end venue t
settled_are length_ns end venue t f adds =
    shares_as (figures_shares length_ns venue f) (settled_shares length_ns end venue t)
    (ap (share_of length_ns) (adds.bids_are venue))
    (ap (share_of length_ns) (adds.offers_are venue))
    (ap (share_of length_ns) adds.normal)
    (ap (share_of length_ns) adds.locked)
    (ap (share_of length_ns) adds.crossed)
    (ap (λ (n : ℕ). mean_by n f.normal) adds.spread
    ∙ ap (mean_by (min (t.figures.spread + spread_of t.best * (end - t.since)) most_spread))
    adds.normal)

-- settled figures have the text of those that are kept
pub settled_text_is : (over : PeriodOver) (t new : SymbolTimes) → IsBestSettled over.end t new
    → figures_text over t.symbol new.figures ≡ settled_text over t
settled_text_is over t new is =
    texts_same (figures_row over t.symbol new.figures) (settled_row over t)
    (λ venue. ap (best_row over.style.format over.begin t.symbol venue)
    (settled_are over.style.length over.end venue t new.figures is.adds)) over.venues

-- ---- and that of the sums

module _ (best : National) (since at end : ℕ) (on : at ≤ end) where
  sum_settled : (weight : National → ℕ) (kept sum all : ℕ)
      → IsBestHeld weight most_time kept best since at sum
      → all ≡ weight best * (end - at) + sum
      → count_after kept (weight best * (end - since)) ≡ min all most_time
  sum_settled weight kept sum all held is =
      count_capped kept held.closed (weight best * (end - since)) held.kept_is
      ∙ ap (λ (n : ℕ). min n most_time)
      (sym (is ∙ pass_sum sum held.closed (weight best * (at - since)) (weight best * (end - at))
      (weight best * (end - since)) held.sum_is
      (longer (weight best) since at end held.in_order on)))

  spread_settled : (kept sum all : ℕ) → IsBestHeld spread_of most_spread kept best since at sum
      → all ≡ spread_of best * (end - at) + sum
      → min (kept + spread_of best * (end - since)) most_spread ≡ min all most_spread
  spread_settled kept sum all held is =
      capped_more kept _ held.closed (spread_of best * (end - since)) most_spread held.kept_is refl
      ∙ ap (λ (n : ℕ). min n most_spread)
      (sym (is ∙ pass_sum sum held.closed (spread_of best * (at - since))
      (spread_of best * (end - at)) (spread_of best * (end - since)) held.sum_is
      (longer (spread_of best) since at end held.in_order on)))

-- what is kept, with the best that stands, are the shares by the sums
shares_settled : (length_ns at end venue : ℕ) (t : SymbolTimes) (sum all : (National → ℕ) → ℕ)
    → at ≤ end → AreBestsHeld t.figures t.best t.since at sum
    → ((weight : National → ℕ) → all weight ≡ weight t.best * (end - at) + sum weight)
    → settled_shares length_ns end venue t ≡ shares_by length_ns venue all
shares_settled length_ns at end venue t sum all on held is =
    let settled = sum_settled t.best t.since at end on in
    let normal = settled (in_state is_normal) t.figures.normal (sum (in_state is_normal))
    (all (in_state is_normal)) held.normal (is (in_state is_normal)) in
    shares_as (settled_shares length_ns end venue t) (shares_by length_ns venue all)
    (ap (share_of length_ns) (settled (bids venue) _ (sum (bids venue)) (all (bids venue))
    (held.bids_are venue) (is (bids venue))))
    (ap (share_of length_ns) (settled (offers venue) _ (sum (offers venue)) (all (offers venue))
    (held.offers_are venue) (is (offers venue))))
    (ap (share_of length_ns) normal)
    (ap (share_of length_ns) (settled (in_state is_locked) t.figures.locked
    (sum (in_state is_locked)) (all (in_state is_locked)) held.locked (is
    (in_state is_locked))))
    (ap (share_of length_ns) (settled (in_state is_crossed) t.figures.crossed
    (sum (in_state is_crossed)) (all (in_state is_crossed)) held.crossed
    (is (in_state is_crossed))))
    (ap (λ (n : ℕ). mean_by n (count_after t.figures.normal
    (in_state is_normal t.best * (end - t.since))))
    (spread_settled t.best t.since at end on t.figures.spread (sum spread_of) (all spread_of)
    held.spread (is spread_of))
    ∙ ap (mean_by (min (all spread_of) most_spread)) normal)

-- so is the text
pub symbol_text_is : (over : PeriodOver) (at : ℕ) (t : SymbolTimes)
    (sum all : (National → ℕ) → ℕ) → at ≤ over.end
    → AreBestsHeld t.figures t.best t.since at sum
    → ((weight : National → ℕ) → all weight ≡ weight t.best * (over.end - at) + sum weight)
    → settled_text over t ≡ symbol_rows over.style over.venues over.begin t.symbol all
symbol_text_is over at t sum all on held is =
    texts_same (settled_row over t) (best_venue_row over.style over.begin t.symbol all)
    (λ venue. ap (best_row over.style.format over.begin t.symbol venue)
    (shares_settled over.style.length at over.end venue t sum all on held is)) over.venues
