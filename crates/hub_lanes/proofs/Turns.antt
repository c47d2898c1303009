-- What one more call for a venue's items leaves of a turn, in terms of plain states.
use Rattle.std.proofs.Common.{◌≡◌, inl, inr, ℕ, zero, suc, ◌+◌, ◌≤◌, ◌<◌, Bool, List, [], ◌∷◌, ◌++◌, length, map, Option, Some, None, Result, Ok, Err, refl, sym, ap, subst, ◌∙◌, arith, length-append}
use Rattle.std.specs.Prelude.{◌⊎◌, Contains}
use Rattle.std.proofs.lemmas.List.{length-map, map-append}
use Rattle.std.proofs.lemmas.List.Elements.{Contains-append_left, Contains-push}
use Rattle.std.proofs.lemmas.List.Sums.{fold-append}
use Rattle.feed_types.specs.declared.journal.Entry.TheVariants as entry
use Rattle.journal_book.specs.declared.fault.JournalFault.{JournalFault}
use Rattle.journal_book.specs.declared.fault.JournalFault.TheVariants.{NoMemory, JournalFull, UnknownVenue, AlreadySo, TooManySubscribers, SubscriberBehind, TooLate}
use Rattle.journal_book.specs.Journals.{JournalState}
use Rattle.feed_types.specs.declared.genuine.Genuine.{Ghosts as Genuine}
use Rattle.feed_steps.specs.Lanes.{FeedLanes}
use Rattle.hub_lanes.specs.Hubs.{HubState}
use Rattle.hub_lanes.specs.Batches.{ConsumesBatch}
use Rattle.hub_lanes.specs.Offers.{OffersAll}
use Rattle.hub_lanes.specs.Turns.{AreBatches, AskEach, Batch, ConsumesBatches, ConsumesRound, IsBatch, TakesTurn, count_in, fault_in}
use Rattle.hub_lanes.proofs.Offers.{before_or_at}

-- ---- whose turn it is

-- The venues that were asked in the first `step` calls of a round that begins at the venue `first`.
abbrev pub IsReached : ℕ → ℕ → ℕ → ℕ → Type 0
IsReached venues first step v = ((first ≤ v) × (v < first + step)) ⊎ (v + venues < first + step)

in_order : (m n : ℕ) → (m < n) ⊎ (n ≤ m)
in_order m zero = inr (omega arith)
in_order zero (suc n) = inl (omega arith)
in_order (suc m) (suc n) = elim (in_order m n) [
  | inl less ↦ inl (omega arith)
  | inr more ↦ inr (omega arith)
]

module _ (venues first : ℕ) (begins : (first ≡ 0) ⊎ (first < venues)) where
  pub none_reached : (v : ℕ) → IsReached venues first 0 v → ⊥
  none_reached v (inl there) = let a = there.0 in let b = there.1 in omega arith
  none_reached v (inr past) = elim begins [ inl none ↦ omega arith | inr below ↦ omega arith ]

  pub all_reached : (v : ℕ) → v < venues → IsReached venues first venues v
  all_reached v below = elim (in_order v first) [
    | inl less ↦ inr (omega arith)
    | inr more ↦ inl (more, omega arith)
  ]

  module _ (step at v : ℕ) (left : step < venues) (known : at < venues) (below : v < venues)
      (is : (at ≡ first + step) ⊎ (at + venues ≡ first + step)) where
    pub next_reached : IsReached venues first (step + 1) v → IsReached venues first step v
        ⊎ (v ≡ at)
    next_reached (inl there) =
        let begun = there.0 in
        let next : v < (first + step) + 1 = (let h = there.1 in omega arith) in
        elim (before_or_at v (first + step) next) [
          | inl less ↦ inl (inl (begun, less))
          | inr same ↦ inr (elim is [ inl here ↦ omega arith | inr past ↦ absurd (omega arith) ])
        ]
    next_reached (inr past) =
        let next : v + venues < (first + step) + 1 = omega arith in
        elim (before_or_at (v + venues) (first + step) next) [
          | inl less ↦ inl (inr less)
          | inr same ↦ inr (elim is [ inl here ↦ absurd (omega arith) | inr there ↦ omega arith ])
        ]

-- ---- one call more

grows_not : (old new : HubState) → new ≡ old
    → length new.journal.entries ≡ length old.journal.entries + 0
grows_not old new same =
    let kept = ap (λ (s : HubState). length s.journal.entries) same in
    omega (arith, kept)

module _ {S : Type 0} (premise : Genuine S) (lanes : FeedLanes) where
  -- a call's items are as many entries more
  batch_grows : (venue most : ℕ) (answer : Result ℕ JournalFault) (old new : HubState)
      → ConsumesBatch lanes venue most answer old new
      → length new.journal.entries ≡ length old.journal.entries + count_in answer
  batch_grows venue most (Ok count) old new r =
      let items = r.1.items in
      let grown = ap length r.1.consumes.entries
      ∙ length-append old.journal.entries (map (entry.Consumed venue) items) in
      let same = length-map items (entry.Consumed venue) in
      let is = r.1.count_is in
      omega (arith, grown, same, is)
  batch_grows venue most (Err UnknownVenue) old new r = grows_not old new r.1
  batch_grows venue most (Err JournalFull) old new r = grows_not old new r.1
  batch_grows venue most (Err NoMemory) old new r = grows_not old new r.0
  batch_grows venue most (Err AlreadySo) old new r = absurd r
  batch_grows venue most (Err TooManySubscribers) old new r = absurd r
  batch_grows venue most (Err SubscriberBehind) old new r = grows_not old new r.0
  batch_grows venue most (Err TooLate) old new r = absurd r

  batches_more : (batches : List Batch) (b : Batch) (old between : HubState)
      → AreBatches premise lanes batches old between → IsBatch premise lanes b between
      → AreBatches premise lanes (batches ++ b ∷ []) old b.after
  batches_more [] b old between same one =
      (subst (λ (s : HubState). IsBatch premise lanes b s) same one, refl)
  batches_more (x ∷ batches) b old between all one =
      (all.0, batches_more batches b x.after between all.1 one)

  module _ (b : Batch) (consumed : ℕ) (old between : HubState)
      (r : ConsumesBatches premise lanes consumed None old between)
      (one : IsBatch premise lanes b between) where
    abbrev one_batch : ConsumesBatches premise lanes (consumed + count_in b.answer)
        (fault_in b.answer) old b.after
    one_batch =
        let before = r.grown in
        let more = batch_grows b.venue b.most b.answer between b.after one.consumes in
        record {
          batches = r.batches ++ b ∷ [];
          consumes = batches_more r.batches b old between r.consumes one;
          count = fold-append (λ (n : ℕ) (x : Batch). n + count_in x.answer) 0 r.batches (b ∷ [])
              ∙ ap (λ (n : ℕ). n + count_in b.answer) r.count;
          last = fold-append (λ (f : Option JournalFault) (x : Batch). fault_in x.answer) None
              r.batches (b ∷ []);
          grown = omega (arith, before, more);
        }

    -- who was asked before was, and so was the venue of this call
    still_asked : (v : ℕ) → Contains (map (λ (x : Batch). x.venue) r.batches) v
        → Contains (map (λ (x : Batch). x.venue) (r.batches ++ b ∷ [])) v
    still_asked v before =
        subst (λ (l : List ℕ). Contains l v)
        (sym (map-append (λ (x : Batch). x.venue) r.batches (b ∷ [])))
        (Contains-append_left (map (λ (x : Batch). x.venue) r.batches) (b.venue ∷ []) v before)

    now_asked : Contains (map (λ (x : Batch). x.venue) (r.batches ++ b ∷ [])) b.venue
    now_asked =
        subst (λ (l : List ℕ). Contains l b.venue)
        (sym (map-append (λ (x : Batch). x.venue) r.batches (b ∷ [])))
        (Contains-push (map (λ (x : Batch). x.venue) r.batches) b.venue)

-- A round that begins at the venue `first`, after `step` calls, none of which was refused.
pub record RoundUpTo {S : Type 0} (premise : Genuine S) (lanes : FeedLanes)
    (first step consumed : ℕ) (old new : HubState) : Type 0 where
  pub intake : ConsumesBatches premise lanes consumed None old new
  pub asked : (v : ℕ) → v < length lanes.venues → IsReached (length lanes.venues) first step v
      → Contains (map (λ b. b.venue) intake.batches) v

module _ {S : Type 0} (premise : Genuine S) (lanes : FeedLanes) (first : ℕ)
    (begins : (first ≡ 0) ⊎ (first < length lanes.venues)) where
  pub no_call : (s : HubState) → RoundUpTo premise lanes first 0 0 s s
  no_call s = record {
    intake = record {
      batches = [];
      consumes = refl;
      count = refl;
      last = refl;
      grown = grows_not s s refl;
    };
    asked = λ v below reached.
        absurd (none_reached (length lanes.venues) first begins v reached);
  }

  module _ (step consumed : ℕ) (old between : HubState)
      (r : RoundUpTo premise lanes first step consumed old between) where
    -- one call more
    pub one_call : (venue most count : ℕ) (new : HubState) → step < length lanes.venues
        → venue < length lanes.venues
        → (venue ≡ first + step) ⊎ (venue + length lanes.venues ≡ first + step) → 0 < most
        → ConsumesBatch lanes venue most (Ok count) between new
        → RoundUpTo premise lanes first (step + 1) (consumed + count) old new
    one_call venue most count new left known is some one =
        let b : Batch = record { venue = venue; most = most; answer = Ok count; after = new } in
        let batch : IsBatch premise lanes b between = record {
          known = known;
          asked =
              some;
          consumes = one;
        } in
        record {
          intake = one_batch premise lanes b consumed old between r.intake batch;
          asked = λ v below reached.
              elim (next_reached (length lanes.venues) first begins step venue v left
              known below is reached) [
                | inl before ↦ still_asked premise lanes b consumed old between r.intake batch v
                    (r.asked v below before)
                | inr same ↦ subst
                    (λ (n : ℕ). Contains (map (λ (x : Batch). x.venue) (r.intake.batches ++ b ∷ []))
                    n)
                    (sym same)
                    (now_asked premise lanes b consumed old between r.intake batch)
              ];
        }

    -- one call more, which was refused
    pub refused_call : (venue most : ℕ) (fault : JournalFault) (new : HubState)
        → venue < length lanes.venues → 0 < most
        → ConsumesBatch lanes venue most (Err fault) between new
        → ConsumesRound premise lanes consumed (Some fault) old new
    refused_call venue most fault new known some one =
        let b : Batch = record { venue = venue; most = most; answer = Err fault; after = new } in
        let none : consumed + 0 ≡ consumed = omega arith in
        record {
          intake = subst (λ (n : ℕ). ConsumesBatches premise lanes n (Some fault) old new) none
              (one_batch premise lanes b consumed old between r.intake
              (record { known = known; asked = some; consumes = one }));
          over = inr (inr (λ e. absurd cc));
        }

    -- each venue was asked
    pub round_over : (refused : Option JournalFault) → refused ≡ None → length lanes.venues ≤ step
        → ConsumesRound premise lanes consumed refused old between
    round_over refused none all =
        let asked : AskEach premise lanes r.intake.batches = λ v below. r.asked v below
        (elim (all_reached (length lanes.venues) first begins v below) [
          | inl there ↦ inl (there.0, (let h = there.1 in omega arith))
          | inr past ↦ inr (omega arith)
        ]) in
        subst (λ (f : Option JournalFault). ConsumesRound premise lanes consumed f old between)
        (sym none) (record { intake = r.intake; over = inl asked })

-- and then notices were offered
pub turn_taken : {S : Type 0} (premise : Genuine S) (lanes : FeedLanes) (consumed pushed : ℕ)
    (unfinished : Bool) (refused : Option JournalFault) (old between new : HubState)
    → ConsumesRound premise lanes consumed refused old between
    → OffersAll pushed unfinished between new
    → TakesTurn premise lanes consumed pushed unfinished refused old new
turn_taken premise lanes consumed pushed unfinished refused old between new r next = record {
  between = between;
  consumes = r;
  offers = next;
  grown = ap (λ (j : JournalState). length j.entries) next.counts.kept.journal ∙ r.intake.grown;
}
