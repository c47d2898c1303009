-- What an event leaves of the machine, in terms of plain states.
use Rattle.std.proofs.Common.{take, Bor, get_or, ◌≡◌, ℕ, zero, suc, ◌+◌, ◌<◌, ◌≤◌, Bool, true, false, List, [], ◌∷◌, ◌++◌, length, Option, Some, None, refl, sym, ap, subst, ◌∙◌, arith, inl, inr, length-append}
use Rattle.std.specs.Prelude.{slice_get, slice_set, MatchOption, IfOk, OnOk, Result, Ok, Err, nat_le, if◌then◌else◌, ◌⊎◌, map}
use Rattle.std.proofs.Math.ListN.{length-set}
use Rattle.std.proofs.lemmas.Option.{slice_get_within, slice_get_read}
use Rattle.std.proofs.lemmas.Bool.{cases_eq}
use Rattle.std.proofs.lemmas.Bool.Decides.{nat_tests}
use Rattle.std.proofs.lemmas.List.{map-append, take_more}
use Rattle.feed_types.specs.declared.item.Numbered.{Numbered}
use Rattle.feed_types.specs.declared.journal.Entry.{Entry}
use Rattle.feed_types.specs.declared.journal.Entry.TheVariants as entry
use Rattle.feed_types.specs.declared.journal.Notice.{Notice}
use Rattle.feed_types.specs.declared.line.LineId.{LineId}
use Rattle.line_arbiter.specs.Histories.{streams_of}
use Rattle.filter_terms.specs.declared.terms.Terms.{Terms}
use Rattle.filter_terms.specs.Terms.{meets}
use Rattle.journal_book.specs.Wanted.{wanted_of}
use Rattle.journal_book.specs.Journals.{JournalState, Subscription, changes, subscription_of, subscriptions_of}
use Rattle.journal_book.specs.Consolidators.{StaysButCursors}
use Rattle.feed_steps.specs.declared.event.Event.{Event}
use Rattle.feed_steps.specs.declared.event.Event.TheVariants as events
use Rattle.feed_steps.specs.declared.event.Done.{Done}
use Rattle.feed_steps.specs.declared.event.Done.TheVariants as done
use Rattle.feed_core.specs.Worlds.{Lane, empty_lane, is_full, Venue, Subscriber, World, Setting, new_world}
use Rattle.feed_steps.specs.Steps.{Transition, Refused, Changes, journal_full, push_next, Intake, journal_item, consume_next, offer_next, dequeue_next, Applies, AppliesTo, too_many_subscribers}
use Rattle.feed_core.specs.Steps.{next_in, next_out, declare_help, put_venue, put_subscriber, AnswersSubscribe}
use Rattle.feed_core.specs.laws.LaneMoves.{with_sent, with_intake, with_offered, with_dequeued}
use Rattle.feed_core.specs.OneStep.{IsStep}
use Rattle.feed_core.specs.Runs.{IsRun}
use Rattle.feed_core.specs.Fitting.{VenueView, FitsVenue, LeftFaulty, LeftAnswered, LeftRenewed, LeftSkipped, LeftPushed, FitsSubscriber, LeftOffered, intake_of, KeepsJournal, MachineView, FitSubscribers, FitsWorld, HasStepped, HasReached}
use Rattle.feed_types.specs.ListLaws.{get_within}
use Rattle.feed_steps.specs.laws.Lists.{get_after_set, get_at_set, get_off_set, get_push}

-- ---- places

set_same : {X : Type 0} (xs : List X) (i : ℕ) (x : X) → slice_get xs i ≡ Some x
    → slice_set xs i x ≡ xs
set_same [] i x e = absurd cc
set_same (y ∷ xs) zero x e = let same : y ≡ x = cc in ap (λ (z : _). z ∷ xs) (sym same)
set_same (y ∷ xs) (suc i) x e = ap (λ (l : List _). y ∷ l) (set_same xs i x e)

-- two lists that agree place by place still do once both are written at a place
set_both : {X Y : Type 0} (P : ℕ → X → Y → Type 0) (xs : List X) (ys : List Y) (i : ℕ) (x : X)
    (y : Y) → ((j : ℕ) (a : X) (b : Y) → slice_get xs j ≡ Some a
    → slice_get ys j ≡ Some b → P j a b) → P i x y
    → (j : ℕ) (a : X) (b : Y) → slice_get (slice_set xs i x) j ≡ Some a
    → slice_get (slice_set ys i y) j ≡ Some b → P j a b
set_both P xs ys i x y each now j a b e g = elim (cases_eq j i) [
  | inl same ↦
      let p : a ≡ x = get_at_set xs i j x a e same in
      let q : b ≡ y = get_at_set ys i j y b g same in
      rw (same, p, q) now
  | inr other ↦ each j a b (get_off_set xs i j x a e other) (get_off_set ys i j y b g other)
]

-- and so do three lists
set_three : {X Y Z : Type 0} (P : X → Y → Z → Type 0) (xs : List X) (ys : List Y) (zs : List Z)
    (i : ℕ) (x : X) (y : Y) (z : Z)
    → ((j : ℕ) (a : X) (b : Y) (c : Z) → slice_get xs j ≡ Some a → slice_get ys j ≡ Some b
    → slice_get zs j ≡ Some c → P a b c) → P x y z
    → (j : ℕ) (a : X) (b : Y) (c : Z) → slice_get (slice_set xs i x) j ≡ Some a
    → slice_get (slice_set ys i y) j ≡ Some b
    → slice_get (slice_set zs i z) j ≡ Some c → P a b c
set_three P xs ys zs i x y z each now j a b c e g h = elim (cases_eq j i) [
  | inl same ↦
      let p : a ≡ x = get_at_set xs i j x a e same in
      let q : b ≡ y = get_at_set ys i j y b g same in
      let r : c ≡ z = get_at_set zs i j z c h same in
      rw (p, q, r) now
  | inr other ↦ each j a b c (get_off_set xs i j x a e other) (get_off_set ys i j y b g other)
      (get_off_set zs i j z c h other)
]

pub read : {X : Type 0} (xs : List X) (place n : ℕ) (c : X) → n ≡ place → n < length xs
    → c ≡ get_or xs n c → slice_get xs place ≡ Some c
read xs place n c is lt value = subst (λ (k : ℕ). slice_get xs k ≡ Some c) is
    (slice_get_read xs (length xs) n c refl lt value)

known_at : {X : Type 0} (o : Option X) (v : X) (P : Type 0) (Known : X → Type 0) → o ≡ Some v
    → Known v → MatchOption o P Known
known_at None v P Known e k = absurd cc
known_at (Some u) v P Known e k = let same : u ≡ v = cc in subst Known (sym same) k

-- ---- from the part to the world

lift : {X W : Type 0} (put : X → W) (c : Transition X) (old new : X) (w : W) (d : Done)
    → put old ≡ w → AppliesTo c old d new → Applies put c w d (put new)
lift put (Refused e) old new w d same h = (h.0, ap put h.1 ∙ same)
lift put (Changes e x) old new w d same h = (h.0, ap put h.1)

put_same : (w : World) (place : ℕ) (v : Venue) → slice_get w.venues place ≡ Some v
    → put_venue w place v ≡ w
put_same w place v e = ap (λ (vs : List Venue). record w { venues = vs })
    (set_same w.venues place v e)

put_same_subscriber : (w : World) (id : ℕ) (x : Subscriber) → slice_get w.subscribers id ≡ Some x
    → put_subscriber w id x ≡ w
put_same_subscriber w id x e = ap (λ (xs : List Subscriber). record w { subscribers = xs })
    (set_same w.subscribers id x e)

-- ---- at a venue

pub record VenueThere (s : Setting) (w : World) (place : ℕ) (c : VenueView) : Type 0 where
  pub venue : Venue
  pub at : slice_get w.venues place ≡ Some venue
  pub fits : FitsVenue s.window place c venue

pub there : (s : Setting) (m : MachineView) (w : World) (place : ℕ) (c : VenueView)
    → FitsWorld s m w → slice_get m.venues place ≡ Some c → VenueThere s w place c
there s m w place c f at =
    let within = slice_get_within m.venues place c at in
    let n = f.venues.count in
    let v = get_within w.venues place (omega arith) in
    record { venue = v.0; at = v.1; fits = f.venues.each place c v.0 at v.1 }

fits_put : (s : Setting) (m : MachineView) (w : World) (place : ℕ) (new : VenueView) (v : Venue)
    → FitsWorld s m w → FitsVenue s.window place new v
    → FitsWorld s (record m { venues = slice_set m.venues place new }) (put_venue w place v)
fits_put s m w place new v f now = record {
  venues = record {
    count = length-set m.venues place new ∙ f.venues.count ∙ sym (length-set w.venues place v);
    each = set_both (FitsVenue s.window) m.venues w.venues place new v f.venues.each now;
  };
  entries = f.entries;
  symbols = f.symbols;
  journal = f.journal;
  counted = f.counted ∙ sym (length-set w.venues place v);
  placed = length-set w.venues place v ∙ f.placed;
  capacity = f.capacity;
  subscribers = f.subscribers;
  used = f.used;
  in_turn = f.in_turn;
}

module _ (s : Setting) (m : MachineView) (w : World) (place n : ℕ) (c new : VenueView)
    (is : n ≡ place) (lt : n < length m.venues) (value : c ≡ get_or m.venues n c)
    (f : FitsWorld s m w) where
  pub packet_step : (line : LineId) (bytes : Bor (List ℕ)) (d : Done)
      → ((window p : ℕ) (v : Venue) → FitsVenue window p c v → LeftFaulty bytes.now d c new
      ⊎ LeftAnswered window p v line bytes.now d new)
      → HasStepped s w (events.Packet place line bytes) d
      (record m { venues = slice_set m.venues n new })
  packet_step line bytes d left = subst (λ (k : ℕ). HasStepped s w (events.Packet place line bytes)
      d (record m { venues = slice_set m.venues k new })) (sym is)
      (let at = read m.venues place n c is lt value in
      let v = there s m w place c f at in
      elim (left s.window place v.venue v.fits) [
        | inl faulty ↦ record {
          after = put_venue w place v.venue;
          fits = fits_put s m w place new v.venue f
              (subst (λ (h : VenueView). FitsVenue s.window place h v.venue)
              (sym faulty.same) v.fits);
          step = known_at (slice_get w.venues place) v.venue _ _ v.at
              (inl (record {
                fault = faulty.fault;
                has = faulty.has;
                is =
                    (faulty.outcome_is, put_same w place v.venue v.at);
              }));
        }
        | inr answered ↦ record {
          after = put_venue w place (record v.venue { history = answered.history });
          fits = fits_put s m w place new _ f answered.fits;
          step = known_at (slice_get w.venues place) v.venue _ _ v.at
              (inr (record {
                packet = answered.packet;
                rest = answered.rest;
                spells =
                    answered.spells;
                answers = record {
                  answer = answered.answer;
                  history = answered.history;
                  adds = answered.taken;
                  outcome_is = answered.outcome_is;
                  new_is = refl;
                };
              }));
        }
      ])

  pub renew_step : (name : List ℕ) (d : Done) → ((window p : ℕ) (v : Venue) → FitsVenue window p c v
      → LeftRenewed window p v name d new)
      → HasStepped s w (events.Renew place name) d (record m { venues = slice_set m.venues n new })
  renew_step name d left = subst (λ (k : ℕ). HasStepped s w (events.Renew place name) d
      (record m { venues = slice_set m.venues k new })) (sym is)
      (let at = read m.venues place n c is lt value in
      let v = there s m w place c f at in
      let renewed = left s.window place v.venue v.fits in
      record {
        after = put_venue w place (record v.venue { history = renewed.history });
        fits = fits_put s m w place new _ f renewed.fits;
        step = known_at (slice_get w.venues place) v.venue _ _ v.at
            (record {
              answer = renewed.answer;
              history = renewed.history;
              adds = renewed.renewed;
              outcome_is = renewed.outcome_is;
              new_is = refl;
            });
      })

  pub skip_step : (number : ℕ) (d : Done) → ((window p : ℕ) (v : Venue) → FitsVenue window p c v
      → LeftSkipped window p v number d new)
      → HasStepped s w (events.Skip place number) d (record m { venues = slice_set m.venues n new })
  skip_step number d left = subst (λ (k : ℕ). HasStepped s w (events.Skip place number) d
      (record m { venues = slice_set m.venues k new })) (sym is)
      (let at = read m.venues place n c is lt value in
      let v = there s m w place c f at in
      let skipped = left s.window place v.venue v.fits in
      record {
        after = put_venue w place (record v.venue { history = skipped.history });
        fits = fits_put s m w place new _ f skipped.fits;
        step = known_at (slice_get w.venues place) v.venue _ _ v.at
            (record {
              answer = skipped.answer;
              history = skipped.history;
              adds = skipped.skipped;
              outcome_is = skipped.outcome_is;
              new_is = refl;
            });
      })

  pub push_step : (d : Done) → ((window p : ℕ) (v : Venue) → FitsVenue window p c v
      → LeftPushed window p m.capacity v d new)
      → HasStepped s w (events.Push place) d (record m { venues = slice_set m.venues n new })
  push_step d left = subst (λ (k : ℕ). HasStepped s w (events.Push place) d
      (record m { venues = slice_set m.venues k new })) (sym is)
      (let at = read m.venues place n c is lt value in
      let v = there s m w place c f at in
      let gone = left s.window place v.venue v.fits in
      record {
        after = with_sent w place v.venue new.lane.sent;
        fits = fits_put s m w place new _ f gone.fits;
        step = known_at (slice_get w.venues place) v.venue _ (λ u. Applies (with_sent w place u)
            (push_next (is_full s.lane u.lane) (next_in (streams_of u.history) u.lane) u.lane.sent)
            w d (with_sent w place v.venue new.lane.sent)) v.at
            (lift (with_sent w place v.venue) (push_next (is_full s.lane v.venue.lane)
            (next_in (streams_of v.venue.history) v.venue.lane) v.venue.lane.sent)
            v.venue.lane.sent new.lane.sent w d (put_same w place v.venue v.at)
            (subst (λ (k : ℕ). AppliesTo (push_next (is_full k v.venue.lane)
            (next_in (streams_of v.venue.history) v.venue.lane) v.venue.lane.sent)
            v.venue.lane.sent d new.lane.sent) f.capacity gone.comes));
      })

pub if_ok : {T E : Type 0} (r : Result T E) (P Q : T → Type 0) → ((x : T) → P x → Q x) → IfOk r P
    → IfOk r Q
if_ok (Ok x) P Q f h = f x h
if_ok (Err e) P Q f h = tt

-- ---- the journal grows

-- where nothing is offered, the subscribers' parts fit still
still_subscribed : {s : Setting} {lanes : List (Lane Notice)} {xs : List Subscriber}
    {old new : JournalState} → KeepsJournal old new
    → FitSubscribers s (subscriptions_of old) lanes xs
    → FitSubscribers s (subscriptions_of new) lanes xs
still_subscribed {s = s} {lanes = lanes} {xs = xs} kept f =
    subst (λ (l : List Subscription). FitSubscribers s l lanes xs) (sym kept.offered) f

-- what Consume may make of its part
Consumed : ℕ → Option Numbered → Intake → Intake → Type 0
Consumed place o old new = (new ≡ old)
    ⊎ ((n : Numbered) × (o ≡ Some n) × (new ≡ record {
      received = old.received ++ n ∷ [];
      entries =
          old.entries ++ entry.Consumed place n ∷ [];
    }))

consumed_is : (full : Bool) (o : Option Numbered) (place : ℕ) (old new : Intake) (d : Done)
    → AppliesTo (if full then Refused journal_full else journal_item place o old) old d new
    → Consumed place o old new
unfolding Consumed
consumed_is true o place old new d h = inl h.1
consumed_is false None place old new d h = inl h.1
consumed_is false (Some n) place old new d h = inr (n, refl, h.1)

-- what a step needs of a changed lane: nothing else of the venue changed
received_fits : (window place : ℕ) (c new : VenueView) (v : Venue) → FitsVenue window place c v
    → new ≡ record c { lane = record c.lane { received = new.lane.received } }
    → length new.lane.received ≤ length v.lane.sent
    → FitsVenue window place new
    (record v { lane = record v.lane { received = new.lane.received } })
received_fits window place c new v f is within = subst (λ (h : VenueView). FitsVenue window place h
    (record v { lane = record v.lane { received = new.lane.received } })) (sym is) (record {
      history = f.history;
      number = f.number;
      width = f.width;
      sent = f.sent;
      begun = f.begun;
      lane = ap (λ (l : List Numbered). record { sent = l; received = new.lane.received })
          (ap (λ (l : Lane Numbered). l.sent) f.lane);
      within = within;
    })

received_within : (place : ℕ) (lane : Lane Numbered) (E : List Entry) (next : Intake)
    → Consumed place (next_out lane) (record { received = lane.received; entries = E }) next
    → length lane.received ≤ length lane.sent → length next.received ≤ length lane.sent
unfolding Consumed
received_within place lane E next what h = elim what [
  | inl same ↦ (let k = ap (λ (x : Intake). length x.received) same in omega arith)
  | inr more ↦ (let k = ap (λ (x : Intake). length x.received) more.2 in let j = length-append
      lane.received (more.0 ∷ []) in let lt = slice_get_within lane.sent (length lane.received)
      more.0 more.1 in omega arith)
]

module _ (s : Setting) (m : MachineView) (w : World) (place n : ℕ) (c new : VenueView)
    (journal : JournalState) (is : n ≡ place) (lt : n < length m.venues)
    (value : c ≡ get_or m.venues n c) (f : FitsWorld s m w) where
  pub consume_step : (d : Done) → AppliesTo (consume_next m.journal.journal place (next_out c.lane)
      (intake_of c.lane m.journal)) (intake_of c.lane m.journal) d (intake_of new.lane journal)
      → new ≡ record c { lane = record c.lane { received = new.lane.received } }
      → KeepsJournal m.journal journal → HasStepped s w (events.Consume place) d
      (record m { venues = slice_set m.venues n new; journal = journal })
  consume_step d comes only kept = subst (λ (k : ℕ). HasStepped s w (events.Consume place) d
      (record m { venues = slice_set m.venues k new; journal = journal })) (sym is)
      (let at = read m.venues place n c is lt value in
      let v = there s m w place c f at in
      let lane = v.venue.lane in
      let old : Intake = record { received = lane.received; entries = w.entries } in
      let next : Intake = intake_of new.lane journal in
      let of_lane = subst (λ (l : Lane Numbered). AppliesTo (consume_next m.journal.journal place
      (next_out l) (intake_of l m.journal)) (intake_of l m.journal) d next) v.fits.lane comes in
      let of_entries = subst (λ (E : List Entry). AppliesTo (consume_next m.journal.journal place
      (next_out lane) (record { received = lane.received; entries = E }))
      (record { received = lane.received; entries = E }) d next) f.entries of_lane in
      let of_world : AppliesTo (consume_next s.journal place (next_out lane) old) old d next =
      subst (λ (k : ℕ). AppliesTo (consume_next k place (next_out lane) old) old d next)
      f.journal of_entries in
      let what = consumed_is (nat_le s.journal (length w.entries)) (next_out lane)
      place old next d of_world in
      let within : length new.lane.received ≤ length lane.sent = received_within place lane
      w.entries next what v.fits.within in
      let changed = fits_put s m w place new
      (record v.venue { lane = record lane { received = new.lane.received } }) f
      (received_fits s.window place c new v.venue v.fits only within) in
      record {
        after = with_intake w place v.venue next;
        fits = record {
          venues = changed.venues;
          entries = refl;
          symbols = kept.symbols ∙ f.symbols;
          journal = kept.journal ∙ f.journal;
          counted = kept.venues ∙ changed.counted;
          placed = changed.placed;
          capacity = f.capacity;
          subscribers = still_subscribed kept f.subscribers;
          used = f.used;
          in_turn = f.in_turn;
        };
        step = known_at (slice_get w.venues place) v.venue _ (λ u. Applies (with_intake w place u)
            (consume_next s.journal place (next_out u.lane) (record {
              received = u.lane.received;
              entries = w.entries;
            })) w d (with_intake w place v.venue next)) v.at
            (lift (with_intake w place v.venue) (consume_next s.journal place (next_out lane) old)
            old next w d (put_same w place v.venue v.at) of_world);
      })

module _ (s : Setting) (m : MachineView) (w : World) (place : ℕ) (on : Bool)
    (journal : JournalState) (lt : place < length m.venues) (f : FitsWorld s m w) where
  pub declare_step : (d : Done)
      → AppliesTo (declare_help m.journal.journal place on m.journal.entries) m.journal.entries d
      journal.entries → KeepsJournal m.journal journal → HasStepped s w (events.Declare place on) d
      (record m { journal = journal })
  declare_step d comes kept =
      let n = f.venues.count in
      let v = get_within w.venues place (omega arith) in
      let of_entries = subst (λ (E : List Entry). AppliesTo (declare_help m.journal.journal place on
      E) E d journal.entries) f.entries comes in
      let of_world : AppliesTo (declare_help s.journal place on w.entries) w.entries d
      journal.entries = subst (λ (k : ℕ). AppliesTo (declare_help k place on w.entries)
      w.entries d journal.entries) f.journal of_entries in
      record {
        after = record w { entries = journal.entries };
        fits = record {
          venues = f.venues;
          entries = refl;
          symbols = kept.symbols ∙ f.symbols;
          journal = kept.journal ∙ f.journal;
          counted = kept.venues ∙ f.counted;
          placed = f.placed;
          capacity = f.capacity;
          subscribers = still_subscribed kept f.subscribers;
          used = f.used;
          in_turn = f.in_turn;
        };
        step = known_at (slice_get w.venues place) v.0 _
            (λ u. Applies (λ E. record w { entries = E }) (declare_help s.journal place on
            w.entries) w d (record w { entries = journal.entries })) v.1
            (lift (λ (E : List Entry). record w { entries = E }) (declare_help s.journal place on
            w.entries) w.entries journal.entries w d refl of_world);
      }

-- ---- at a subscriber

pub record SubscriberThere (s : Setting) (m : MachineView) (w : World) (id : ℕ)
    (c : Lane Notice) : Type 0 where
  pub subscription : Subscription
  pub known : slice_get (subscriptions_of m.journal) id ≡ Some subscription
  pub subscriber : Subscriber
  pub at : slice_get w.subscribers id ≡ Some subscriber
  pub fits : FitsSubscriber subscription c subscriber

there_subscriber : (s : Setting) (m : MachineView) (w : World) (id : ℕ) (c : Lane Notice)
    → FitsWorld s m w → slice_get m.lanes id ≡ Some c → SubscriberThere s m w id c
there_subscriber s m w id c f at =
    let within = slice_get_within m.lanes id c at in
    let n = f.subscribers.count in
    let k = f.subscribers.known in
    let x = get_within w.subscribers id (omega arith) in
    let b = get_within (subscriptions_of m.journal) id (omega arith) in
    record {
      subscription = b.0;
      known = b.1;
      subscriber = x.0;
      at = x.1;
      fits = f.subscribers.each
          id b.0 c x.0 b.1 at x.1;
    }

-- the subscriber, its subscription and its lane are put back in their places
put_subscriber_fits : (s : Setting) (m : MachineView) (w : World) (id : ℕ) (journal : JournalState)
    (b : Subscription) (lane : Lane Notice) (x y : Subscriber) → FitsWorld s m w
    → slice_get w.subscribers id ≡ Some x → y.terms ≡ x.terms
    → StaysButCursors m.journal journal
    → subscriptions_of journal ≡ slice_set (subscriptions_of m.journal) id b
    → FitsSubscriber b lane y
    → FitsWorld s (record m { lanes = slice_set m.lanes id lane; journal = journal })
    (put_subscriber w id y)
put_subscriber_fits s m w id journal b lane x y f at same stays put now = record {
  venues = f.venues;
  entries = ap (λ (j : JournalState). j.entries) stays ∙ f.entries;
  symbols = ap (λ (j : JournalState). j.symbols) stays ∙ f.symbols;
  journal = ap (λ (j : JournalState). j.journal) stays ∙ f.journal;
  counted = ap (λ (j : JournalState). j.venues) stays ∙ f.counted;
  placed = f.placed;
  capacity = f.capacity;
  subscribers = subst (λ (l : List Subscription). FitSubscribers s l (slice_set m.lanes id lane)
      (slice_set w.subscribers id y)) (sym put) (record {
        count = length-set m.lanes id lane ∙ f.subscribers.count
            ∙ sym (length-set w.subscribers id y);
        known = length-set (subscriptions_of m.journal) id b ∙ f.subscribers.known
            ∙ sym (length-set w.subscribers id y);
        each = set_three FitsSubscriber (subscriptions_of m.journal) m.lanes
            w.subscribers id b lane y
            f.subscribers.each now;
        terms = λ i u e. elim (get_after_set w.subscribers id i y u e) [
          | inl here ↦ (rw (here.0, here.1) (f.subscribers.terms id x at ∙ ap Some (sym same)))
          | inr other ↦ f.subscribers.terms i u other.1
        ];
      });
  used = f.used;
  in_turn = λ h. (let n = length-set w.subscribers id y in let k = f.in_turn (omega arith)
      in omega arith);
}

get_map : {X Y : Type 0} (g : X → Y) (xs : List X) (i : ℕ) (x : X) → slice_get xs i ≡ Some x
    → slice_get (map g xs) i ≡ Some (g x)
get_map g [] i x e = absurd cc
get_map g (y ∷ ys) zero x e = let same : y ≡ x = cc in ap (λ (z : _). Some (g z)) same
get_map g (y ∷ ys) (suc i) x e = get_map g ys i x e

pub terms_read : {X : Type 0} (g : X → Terms) (filters : List X) (all : List Terms) (n : ℕ) (x : X)
    → all ≡ map g filters → n < length filters → x ≡ get_or filters n x
    → slice_get all n ≡ Some (g x)
terms_read g filters all n x e lt value = ap (λ (l : List Terms). slice_get l n) e
    ∙ get_map g filters n x (read filters n n x refl lt value)

module _ (s : Setting) (m : MachineView) (w : World) (id n : ℕ) (c new : Lane Notice) (is : n ≡ id)
    (lt : n < length m.lanes) (value : c ≡ get_or m.lanes n c) (f : FitsWorld s m w) where
  pub offer_step : (journal : JournalState) (d : Done)
      → ((b : Subscription) (x : Subscriber) → slice_get (subscriptions_of m.journal) id ≡ Some b
      → FitsSubscriber b c x → LeftOffered m.journal id m.capacity x d journal new)
      → StaysButCursors m.journal journal
      → HasStepped s w (events.Offer id) d
      (record m { lanes = slice_set m.lanes n new; journal = journal })
  offer_step journal d left stays = subst (λ (k : ℕ). HasStepped s w (events.Offer id) d
      (record m { lanes = slice_set m.lanes k new; journal = journal })) (sym is)
      (let at = read m.lanes id n c is lt value in
      let x = there_subscriber s m w id c f at in
      let gone = left x.subscription x.subscriber x.known x.fits in
      let sent = x.subscriber.lane.sent in
      let of_symbols = subst (λ (l : List (List ℕ)). AppliesTo
      (offer_next (is_full m.capacity x.subscriber.lane)
      (next_in (wanted_of l x.subscriber.terms m.journal.entries) x.subscriber.lane) sent) sent
      d new.sent) f.symbols gone.comes in
      let of_entries =
      subst (λ (E : List Entry). AppliesTo (offer_next (is_full m.capacity x.subscriber.lane)
      (next_in (wanted_of s.symbols x.subscriber.terms E) x.subscriber.lane) sent) sent d
      new.sent) f.entries of_symbols in
      let of_world = subst (λ (k : ℕ). AppliesTo (offer_next (is_full k x.subscriber.lane)
      (next_in (wanted_of s.symbols x.subscriber.terms w.entries) x.subscriber.lane) sent) sent
      d new.sent) f.capacity of_entries in
      record {
        after = with_offered w id x.subscriber new.sent;
        fits = put_subscriber_fits s m w id journal gone.subscription new x.subscriber _ f x.at refl
            stays gone.kept gone.fits;
        step = known_at (slice_get w.subscribers id) x.subscriber _
            (λ u. Applies (with_offered w id u) (offer_next (is_full s.lane u.lane)
            (next_in (wanted_of s.symbols u.terms w.entries) u.lane) u.lane.sent) w d
            (with_offered w id x.subscriber new.sent)) x.at
            (lift (with_offered w id x.subscriber) (offer_next (is_full s.lane x.subscriber.lane)
            (next_in (wanted_of s.symbols x.subscriber.terms w.entries) x.subscriber.lane) sent)
            sent new.sent w d (put_same_subscriber w id x.subscriber x.at) of_world);
      })

  pub dequeue_step : (d : Done) → AppliesTo (dequeue_next (next_out c) c.received) c.received d
      new.received → new ≡ record c { received = new.received }
      → HasStepped s w (events.Dequeue id) d (record m { lanes = slice_set m.lanes n new })
  dequeue_step d comes only = subst (λ (k : ℕ). HasStepped s w (events.Dequeue id) d
      (record m { lanes = slice_set m.lanes k new })) (sym is)
      (let at = read m.lanes id n c is lt value in
      let x = there_subscriber s m w id c f at in
      let lane = x.subscriber.lane in
      record {
        after = with_dequeued w id x.subscriber new.received;
        fits = put_subscriber_fits s m w id m.journal x.subscription new
            x.subscriber _ f x.at refl refl
            (sym (set_same (subscriptions_of m.journal) id x.subscription x.known))
            (record {
              meets_same = x.fits.meets_same;
              offered = x.fits.offered;
              lane = only ∙ ap (λ (l : List Notice). record { sent = l; received = new.received })
                  (ap (λ (l : Lane Notice). l.sent) x.fits.lane);
            });
        step = known_at (slice_get w.subscribers id) x.subscriber _
            (λ u. Applies (with_dequeued w id u) (dequeue_next (next_out u.lane) u.lane.received) w
            d (with_dequeued w id x.subscriber new.received)) x.at
            (lift (with_dequeued w id x.subscriber) (dequeue_next (next_out lane) lane.received)
            lane.received new.received w d (put_same_subscriber w id x.subscriber x.at)
            (subst (λ (l : Lane Notice). AppliesTo (dequeue_next (next_out l) l.received) l.received
            d new.received) x.fits.lane comes));
      })

pub if_ok_both : {T E : Type 0} (r : Result T E) (P Q : T → Type 0) (A : Type 0)
    → ((x : T) → P x → A → Q x) → IfOk r P → OnOk r A → IfOk r Q
if_ok_both (Ok x) P Q A f h a = f x h a
if_ok_both (Err e) P Q A f h a = tt

-- ---- a subscription

is_true : (a b : ℕ) → a ≤ b → nat_le a b ≡ true
is_true a b h = grind (arith, nat_tests)

is_false : (a b : ℕ) → b < a → nat_le a b ≡ false
is_false a b h = grind (arith, nat_tests)

asked : (o : Option Terms) (terms : Terms) (w : World) (d : Done) (new : World) → o ≡ Some terms
    → AnswersSubscribe (Some terms) w d new → AnswersSubscribe o w d new
asked o terms w d new e h = subst (λ (x : Option Terms). AnswersSubscribe x w d new) (sym e) h

module _ (s : Setting) (m : MachineView) (w : World) (terms : Terms) (f : FitsWorld s m w)
    (next : slice_get s.filters m.used ≡ Some terms) where
  asks : slice_get s.filters w.used ≡ Some terms
  asks = ap (slice_get s.filters) (sym f.used) ∙ next

  pub subscribe_full : 32 ≤ length m.lanes → HasStepped s w events.Subscribe too_many_subscribers
      (record m { used = m.used + 1 })
  subscribe_full full = record {
    after = record w { used = w.used + 1 };
    fits = record {
      venues = f.venues;
      entries = f.entries;
      symbols = f.symbols;
      journal = f.journal;
      counted = f.counted;
      placed = f.placed;
      capacity = f.capacity;
      subscribers = f.subscribers;
      used = ap (λ (k : ℕ). k + 1) f.used;
      in_turn = λ h. (let n = f.subscribers.count in absurd (omega arith));
    };
    step = asked (slice_get s.filters w.used) terms w too_many_subscribers
        (record w { used = w.used + 1 }) asks
        (by_test (nat_le 32 (length w.subscribers)) (is_true 32 (length w.subscribers)
        (let n = f.subscribers.count in omega arith)));
  }
    where
      by_test : (b : Bool) → b ≡ true
          → Applies (λ (xs : List Subscriber). record w { used = w.used + 1; subscribers = xs })
          (if b then Refused too_many_subscribers else Changes
          (done.Subscribed (length w.subscribers)) (w.subscribers
          ++ record { terms = terms; lane = empty_lane } ∷ [])) (record w { used = w.used + 1 })
          too_many_subscribers (record w { used = w.used + 1 })
      by_test true e = (refl, refl)
      by_test false e = absurd cc

  pub subscribe_one : (id : ℕ) (copy : Terms) (journal : JournalState) → length m.lanes < 32
      → id ≡ length m.lanes → meets copy ≡ meets terms
      → journal ≡ record m.journal {
        cursors = m.journal.cursors
            ++ record { terms = copy; seen = 0 } ∷ [];
      }
      → HasStepped s w events.Subscribe (done.Subscribed id) (record m {
        used = m.used + 1;
        lanes =
            m.lanes ++ empty_lane ∷ [];
        journal = journal;
      })
  subscribe_one id copy journal room is copied grown =
      let n = f.subscribers.count in
      let k = f.subscribers.known in
      let fresh : Subscriber = record { terms = terms; lane = empty_lane } in
      let asked_for : Subscription = record { terms = copy; offered = 0 } in
      let more : subscriptions_of journal ≡ subscriptions_of m.journal ++ asked_for ∷ [] =
      ap subscriptions_of grown ∙ map-append (subscription_of (changes m.journal)) m.journal.cursors
      (record { terms = copy; seen = 0 } ∷ []) in
      let turn : w.used ≡ length w.subscribers = f.in_turn (omega arith) in
      let here : slice_get s.filters (length w.subscribers) ≡ Some terms =
      ap (slice_get s.filters) (sym turn) ∙ asks in
      record {
        after = record w { used = w.used + 1; subscribers = w.subscribers ++ fresh ∷ [] };
        fits = record {
          venues = f.venues;
          entries = ap (λ (j : JournalState). j.entries) grown ∙ f.entries;
          symbols = ap (λ (j : JournalState). j.symbols) grown ∙ f.symbols;
          journal = ap (λ (j : JournalState). j.journal) grown ∙ f.journal;
          counted = ap (λ (j : JournalState). j.venues) grown ∙ f.counted;
          placed = f.placed;
          capacity = f.capacity;
          subscribers = subst (λ (l : List Subscription). FitSubscribers s l (m.lanes ++ empty_lane
              ∷ []) (w.subscribers ++ fresh ∷ [])) (sym more) (record {
                count = length-append m.lanes (empty_lane ∷ []) ∙ ap (λ (k : ℕ). k + 1) n
                    ∙ sym (length-append w.subscribers (fresh ∷ []));
                known = length-append (subscriptions_of m.journal) (asked_for ∷ [])
                    ∙ ap (λ (k : ℕ). k + 1) k ∙ sym (length-append w.subscribers (fresh ∷ []));
                each = λ i b c x p q r. elim (get_push _ i asked_for b p) [
                  | inl last ↦ elim (get_push m.lanes i empty_lane c q) [
                    | inl lane_last ↦ elim (get_push w.subscribers i fresh x r) [
                      | inl all ↦ rw (last.1, lane_last.1, all.1)
                          (record { meets_same = copied; offered = refl; lane = refl })
                      | inr early ↦ (let p = last.0 in let q = early.0 in absurd (omega arith))
                    ]
                    | inr early ↦ (let p = last.0 in let q = early.0 in absurd (omega arith))
                  ]
                  | inr early ↦ elim (get_push m.lanes i empty_lane c q) [
                    | inl last ↦ (let p = early.0 in let q = last.0 in absurd (omega arith))
                    | inr lane_early ↦ elim (get_push w.subscribers i fresh x r) [
                      | inl last ↦ (let p = early.0 in let q = last.0 in absurd (omega arith))
                      | inr all ↦ f.subscribers.each i b c x early.1 lane_early.1 all.1
                    ]
                  ]
                ];
                terms = λ i x b. elim (get_push w.subscribers i fresh x b) [
                  | inl last ↦ rw (last.0, last.1) here
                  | inr early ↦ f.subscribers.terms i x early.1
                ];
              });
          used = ap (λ (k : ℕ). k + 1) f.used;
          in_turn = λ h. turn_is turn (length-append w.subscribers (fresh ∷ []));
        };
        step = asked (slice_get s.filters w.used) terms w (done.Subscribed id) _ asks
            (by_test (nat_le 32 (length w.subscribers)) (is_false 32 (length w.subscribers)
            (omega arith)) (is ∙ n));
      }
    where
      turn_is : {k : ℕ} → w.used ≡ length w.subscribers → k ≡ length w.subscribers + 1
          → w.used + 1 ≡ k
      turn_is a b = ap (λ (j : ℕ). j + 1) a ∙ sym b

      by_test : (b : Bool) → b ≡ false → id ≡ length w.subscribers
          → Applies (λ (xs : List Subscriber). record w { used = w.used + 1; subscribers = xs })
          (if b then Refused too_many_subscribers else Changes
          (done.Subscribed (length w.subscribers)) (w.subscribers
          ++ record { terms = terms; lane = empty_lane } ∷ [])) (record w { used = w.used + 1 })
          (done.Subscribed id) (record w {
            used = w.used + 1;
            subscribers = w.subscribers
                ++ record { terms = terms; lane = empty_lane } ∷ [];
          })
      by_test true e h = absurd cc
      by_test false e h = (ap (λ (k : ℕ). done.Subscribed k) h, refl)

-- ---- a run

run_push : (s : Setting) (start mid after : World) (es : List Event) (ds : List Done) (e : Event)
    (d : Done) → IsRun s start es ds mid → IsStep s mid e d after
    → IsRun s start (es ++ e ∷ []) (ds ++ d ∷ []) after
run_push s start mid after [] [] e d r step =
    (after, subst (λ (w : World). IsStep s w e d after) r step, refl)
run_push s start mid after [] (c ∷ ds) e d r step = absurd r
run_push s start mid after (b ∷ es) [] e d r step = absurd r
run_push s start mid after (b ∷ es) (c ∷ ds) e d r step =
    (r.0, r.1, run_push s r.0 mid after es ds e d r.2 step)

pub reach_none : (s : Setting) (m : MachineView) → FitsWorld s m (new_world s)
    → HasReached s [] [] m
reach_none s m f = record { world = new_world s; fits = f; run = refl }

reach_more : (s : Setting) (es : List Event) (ds : List Done) (e : Event) (d : Done)
    (m new : MachineView) → HasReached s es ds m
    → ((v : World) → FitsWorld s m v → HasStepped s v e d new)
    → HasReached s (es ++ e ∷ []) (ds ++ d ∷ []) new
reach_more s es ds e d m new r step =
    let one = step r.world r.fits in
    record {
      world = one.after;
      fits = one.fits;
      run = run_push s (new_world s) r.world one.after es
          ds e d r.run one.step;
    }

pub reach_next : (s : Setting) (m new : MachineView) (es : List Event) (i : ℕ) (e : Event)
    (ds more : List Done) (d : Done) → i < length es → e ≡ get_or es i e → more ≡ ds ++ d ∷ []
    → HasReached s (take i es) ds m → ((v : World) → FitsWorld s m v → HasStepped s v e d new)
    → HasReached s (take (i + 1) es) more new
reach_next s m new es i e ds more d lt is grown r step =
    let one = reach_more s (take i es) ds e d m new r step in
    let taken : take i es ++ e ∷ [] ≡ take (i + 1) es = ap (λ (x : Event). take i es ++ x ∷ []) is
    ∙ sym (take_more es i e lt) in
    subst (λ (l : List Event). HasReached s l more new) taken
    (subst (λ (l : List Done). HasReached s (take i es ++ e ∷ []) l new) (sym grown) one)

take_whole : {X : Type 0} (xs : List X) (n : ℕ) → length xs ≤ n → take n xs ≡ xs
take_whole [] zero h = refl
take_whole [] (suc n) h = refl
take_whole (x ∷ xs) zero h = absurd (omega arith)
take_whole (x ∷ xs) (suc n) h = ap (λ (zs : List _). x ∷ zs) (take_whole xs n (omega arith))

pub reach_end : (s : Setting) (es : List Event) (i : ℕ) (ds : List Done) (m : MachineView)
    → length es ≤ i → HasReached s (take i es) ds m → HasReached s es ds m
reach_end s es i ds m h r = subst (λ (l : List Event). HasReached s l ds m) (take_whole es i h) r
