-- What an offer leaves of a subscriber, of its subscription and of its lane.
use Rattle.std.proofs.Common.{rules, ℕ, ◌+◌, ◌≡◌, List, [], ◌∷◌, ◌++◌, Bool, true, false, ap, subst, ◌∙◌, sym, refl, length, length-append, filter, None, Some, Option}
use Rattle.std.specs.Prelude.{slice_get, slice_set, IsSome, MatchOption, option_and_then}
use Rattle.feed_types.specs.declared.journal.Notice.{Notice}
use Rattle.journal_book.specs.Changes.{changes_of}
use Rattle.journal_book.specs.Wanted.{wanted_of}
use Rattle.journal_book.specs.Journals.{JournalState, Subscription, subscriptions_of}
use Rattle.journal_book.specs.Consolidators.{next_for, next_at}
use Rattle.journal_book.specs.Cursors.{GoesToNext, AdvancesCursor}
use Rattle.journal_book.specs.OfferLaws.{set_same, next_is, none_offered, one_offered}
use Rattle.feed_steps.specs.declared.event.Done.{Done}
use Rattle.feed_steps.specs.declared.event.Done.TheVariants as done
use Rattle.feed_core.specs.Worlds.{Lane, is_full, Subscriber}
use Rattle.feed_core.specs.Steps.{next_in}
use Rattle.feed_steps.specs.Steps.{offer_next, AppliesTo}
use Rattle.feed_core.specs.Fitting.{FitsSubscriber, LeftOffered}

module _ (old between : JournalState) (id capacity : ℕ) (found : Option Notice)
    (goes : GoesToNext old id found between)
    (subscription : Subscription) (lane : Lane Notice) (x : Subscriber)
    (at : slice_get (subscriptions_of old) id ≡ Some subscription)
    (f : FitsSubscriber subscription lane x) where
  -- what the journal finds is what the subscriber wants next
  wanted_next : found ≡ next_in (wanted_of old.symbols x.terms old.entries) x.lane
  wanted_next =
      next_is old between id found goes
      ∙ ap (option_and_then (next_for old)) at
      ∙ ap (λ (wants : Notice → Bool). slice_get (filter wants (changes_of old.symbols old.entries))
      subscription.offered) f.meets_same
      ∙ ap (slice_get (wanted_of old.symbols x.terms old.entries)) f.offered

  abbrev Comes : Option Notice → Bool → Done → List Notice → Type 0
  Comes o full outcome sent = AppliesTo (offer_next full o x.lane.sent) x.lane.sent outcome sent

  comes_next : (full : Bool) (outcome : Done) (sent : List Notice) → full ≡ is_full capacity lane
      → Comes found full outcome sent
      → Comes (next_in (wanted_of old.symbols x.terms old.entries) x.lane)
      (is_full capacity x.lane) outcome sent
  comes_next full outcome sent is comes =
      subst (λ (b : Bool). Comes (next_in (wanted_of old.symbols x.terms old.entries) x.lane) b
      outcome sent) (is ∙ ap (is_full capacity) f.lane)
      (subst (λ (o : Option Notice). Comes o full outcome sent) wanted_next comes)

  lane_sent : lane.sent ≡ x.lane.sent
  lane_sent = ap (λ (l : Lane Notice). l.sent) f.lane

  none_left : (outcome : Done) → Comes found (is_full capacity lane) outcome lane.sent
      → LeftOffered old id capacity x outcome between lane
  none_left outcome comes = record {
    comes = comes_next (is_full capacity lane) outcome lane.sent refl comes;
    subscription = subscription;
    kept = none_offered old between id found goes
        ∙ sym (set_same (subscriptions_of old) id subscription at);
    fits = record {
      meets_same = f.meets_same;
      offered = f.offered ∙ sym (ap length lane_sent);
      lane = f.lane ∙ ap (λ (l : List Notice). record x.lane { sent = l }) (sym lane_sent);
    };
  }

  -- nothing is wanted
  pub offer_none : None ≡ found → LeftOffered old id capacity x done.NothingWanted between lane
  offer_none e = none_left done.NothingWanted
      (subst (λ (o : Option Notice). Comes o (is_full capacity lane) done.NothingWanted lane.sent) e
      (refl, lane_sent))

  -- the lane is full
  pub offer_full : (n : Notice) → Some n ≡ found → is_full capacity lane ≡ true
      → LeftOffered old id capacity x done.LaneFull between lane
  offer_full n e full = none_left done.LaneFull
      (subst (λ (o : Option Notice). Comes o (is_full capacity lane) done.LaneFull lane.sent) e
      (subst (λ (b : Bool). Comes (Some n) b done.LaneFull lane.sent) (sym full) (refl, lane_sent)))

  -- the notice goes into the lane
  pub offer_one : (n : Notice) (new : JournalState) (more : Lane Notice) → Some n ≡ found
      → is_full capacity lane ≡ false
      → more ≡ record lane { sent = lane.sent ++ n ∷ [] } → AdvancesCursor between id new
      → LeftOffered old id capacity x (done.Offered n.number) new more
  offer_one n new more e room grown past =
      let sent : more.sent ≡ x.lane.sent ++ n ∷ [] = ap (λ (l : Lane Notice). l.sent) grown
      ∙ ap (λ (l : List Notice). l ++ n ∷ []) lane_sent in
      let here : IsSome (Some n) = search rules in
      let some : IsSome (next_at old id) = subst (λ (o : Option Notice). IsSome o) (e
      ∙ next_is old between id found goes) here in
      record {
        comes = comes_next false (done.Offered n.number) more.sent (sym room)
            (subst (λ (o : Option Notice). Comes o false (done.Offered n.number) more.sent) e
            (refl, sent));
        subscription = record subscription { offered = subscription.offered + 1 };
        kept = subst (λ (o : Option Subscription). MatchOption o ⊥
            (λ s. subscriptions_of new ≡ slice_set (subscriptions_of old) id
            (record s { offered = s.offered + 1 }))) at
            (one_offered old between id found goes new past some);
        fits = record {
          meets_same = f.meets_same;
          offered = ap (λ (k : ℕ). k + 1) f.offered
              ∙ sym (ap length sent ∙ length-append x.lane.sent (n ∷ []));
          lane = ap (λ (l : List Notice). record { sent = more.sent; received = l })
              (ap (λ (l : Lane Notice). l.received) grown
              ∙ ap (λ (l : Lane Notice). l.received) f.lane);
        };
      }
