-- The statistics of venues, one event more.
use Rattle.std.proofs.Common.{◌≡◌, ℕ, zero, suc, ◌+◌, ◌<◌, ◌⊎◌, inl, inr, Bool, true, false, cond, List, [], ◌∷◌, ◌++◌, Some, length, refl, sym, ap, subst, ◌∙◌, arith}
use Rattle.std.specs.Prelude.{slice_get, slice_index, slice_set}
use Rattle.std.specs.List.{count_by}
use Rattle.std.proofs.lemmas.Bool.{cases_eq}
use Rattle.std.proofs.lemmas.Option.{slice_get_within}
use Rattle.event_sinks.specs.SinkEvents.{TimedEvent}
use Rattle.replay_reports.specs.declared.counts.best_counts.BestCounts.{BestCounts}
use Rattle.replay_reports.specs.declared.stats.venue_stats.VenueStats.{VenueStats}
use Rattle.replay_reports.specs.counts.Counts.{best_counts, leads_bid, leads_offer}
use Rattle.replay_reports.specs.stats.Statistics.{AreVenuesOf, IsVenueOf, events_at, is_at_venue, untimed}
use Rattle.replay_reports.specs.times.Figures.{capped}
use Rattle.replay_reports.proofs.Counting.{at_place}
use Rattle.replay_reports.proofs.Noting.{got_other, got_same}

-- ---- one element more

pub got_pushed : {X : Type 0} (xs : List X) (x y : X) (n : ℕ) → slice_get (xs ++ x ∷ []) n ≡ Some y
    → (slice_get xs n ≡ Some y) ⊎ ((x ≡ y) × (n ≡ length xs))
got_pushed [] x y zero is = inr (cc, refl)
got_pushed [] x y (suc n) is = absurd cc
got_pushed (z ∷ xs) x y zero is = inl is
got_pushed (z ∷ xs) x y (suc n) is = elim (got_pushed xs x y n is) [
  | inl before ↦ inl before
  | inr last ↦ inr (last.0, ap suc last.1)
]

-- ---- the counts at a venue's place

pub bids_at : (bests : BestCounts) (events : List TimedEvent) (place : ℕ) → place < 16
    → bests ≡ best_counts (untimed events)
    → slice_index bests.bids place ≡ capped (count_by (leads_bid place) (untimed events))
bids_at bests events place within is =
    let F : ℕ → ℕ = λ k. capped (count_by (leads_bid k) (untimed events)) in
    ap (λ (b : BestCounts). slice_index b.bids place) is ∙ at_place 16 0 place F within
    ∙ ap F (omega arith)

pub offers_at : (bests : BestCounts) (events : List TimedEvent) (place : ℕ) → place < 16
    → bests ≡ best_counts (untimed events)
    → slice_index bests.offers place ≡ capped (count_by (leads_offer place) (untimed events))
offers_at bests events place within is =
    let F : ℕ → ℕ = λ k. capped (count_by (leads_offer k) (untimed events)) in
    ap (λ (b : BestCounts). slice_index b.offers place) is ∙ at_place 16 0 place F within
    ∙ ap F (omega arith)

-- ---- venues

-- the events of a venue to which this one didn't come, or did
elsewhere : (n : ℕ) (e : TimedEvent) (events : List TimedEvent) → is_at_venue n e.event ≡ false
    → events_at n (e ∷ events) ≡ events_at n events
elsewhere n e events away =
    ap (λ (b : Bool). cond b (e ∷ events_at n events) (events_at n events)) away

here : (n : ℕ) (e : TimedEvent) (events : List TimedEvent) → is_at_venue n e.event ≡ true
    → events_at n (e ∷ events) ≡ e ∷ events_at n events
here n e events there =
    ap (λ (b : Bool). cond b (e ∷ events_at n events) (events_at n events)) there

untouched : (window n : ℕ) (e : TimedEvent) (events : List TimedEvent) (v : VenueStats)
    → is_at_venue n e.event ≡ false → IsVenueOf window (events_at n events) v
    → IsVenueOf window (events_at n (e ∷ events)) v
untouched window n e events v away is =
    subst (λ (own : List TimedEvent). IsVenueOf window own v) (sym (elsewhere n e events away)) is

-- no venue of these
pub all_elsewhere : (window : ℕ) (e : TimedEvent) (events : List TimedEvent) (vs : List VenueStats)
    → ((n : ℕ) → n < length vs → is_at_venue n e.event ≡ false) → AreVenuesOf window events vs
    → AreVenuesOf window (e ∷ events) vs
all_elsewhere window e events vs away are = λ n v got.
    untouched window n e events v (away n (slice_get_within vs n v got)) (are n v got)

-- one venue, which is what it was
pub one_same : (window place : ℕ) (events : List TimedEvent) (vs : List VenueStats)
    (old new : VenueStats) → slice_get vs place ≡ Some old
    → ((own : List TimedEvent) → IsVenueOf window own old → IsVenueOf window own new)
    → AreVenuesOf window events vs → AreVenuesOf window events (slice_set vs place new)
one_same window place events vs old new was same are = λ n v got.
    elim (cases_eq n place) [
      | inl at ↦
          let is : new ≡ v = got_same vs place new v
          (subst (λ (k : ℕ). slice_get (slice_set vs place new) k ≡ Some v) at got) in
          subst (λ (k : ℕ). IsVenueOf window (events_at k events) v) (sym at)
          (subst (λ (x : VenueStats). IsVenueOf window (events_at place events) x) is
          (same (events_at place events) (are place old was)))
      | inr apart ↦ are n v (sym (got_other vs place n new apart) ∙ got)
    ]

-- one venue, to which the event came
pub one_touched : (window place : ℕ) (e : TimedEvent) (events : List TimedEvent)
    (vs : List VenueStats) (old new : VenueStats) → slice_get vs place ≡ Some old
    → is_at_venue place e.event ≡ true
    → ((n : ℕ) → (n ≡ place → ⊥) → is_at_venue n e.event ≡ false)
    → ((own : List TimedEvent) → IsVenueOf window own old → IsVenueOf window (e ∷ own) new)
    → AreVenuesOf window events vs → AreVenuesOf window (e ∷ events) (slice_set vs place new)
one_touched window place e events vs old new was there away more are = λ n v got.
    elim (cases_eq n place) [
      | inl same ↦
          let is : new ≡ v = got_same vs place new v
          (subst (λ (k : ℕ). slice_get (slice_set vs place new) k ≡ Some v) same got) in
          subst (λ (k : ℕ). IsVenueOf window (events_at k (e ∷ events)) v) (sym same)
          (subst (λ (own : List TimedEvent). IsVenueOf window own v)
          (sym (here place e events there))
          (subst (λ (x : VenueStats). IsVenueOf window (e ∷ events_at place events) x) is
          (more (events_at place events) (are place old was))))
      | inr apart ↦
          untouched window n e events v (away n apart)
          (are n v (sym (got_other vs place n new apart) ∙ got))
    ]
