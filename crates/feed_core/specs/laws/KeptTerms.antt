-- Each subscriber's terms are those of the filter at its place: an event keeps that, and so does a
-- run.
use Rattle.std.proofs.Common.{◌≡◌, ℕ, ◌+◌, ◌<◌, Bool, true, false, List, [], ◌∷◌, ◌++◌, length, Option, Some, None, sym, ap, subst, refl, ◌∙◌, arith, length-append, inl, inr}
use Rattle.std.specs.Prelude.{MatchOption, slice_get, slice_set, if◌then◌else◌, nat_le}
use Rattle.std.proofs.Math.ListN.{length-set}
use Rattle.std.proofs.lemmas.Bool.Decides.{nat_tests}
use Rattle.line_arbiter.specs.Histories.{streams_of}
use Rattle.filter_terms.specs.declared.terms.Terms.{Terms}
use Rattle.journal_book.specs.Wanted.{wanted_of}
use Rattle.feed_steps.specs.declared.event.Event.{Event}
use Rattle.feed_steps.specs.declared.event.Event.TheVariants.{Packet, Push, Consume, Declare, Renew, Skip, Subscribe, Offer, Dequeue}
use Rattle.feed_steps.specs.declared.event.Done.{Done}
use Rattle.feed_steps.specs.declared.event.Done.TheVariants as done
use Rattle.feed_core.specs.Worlds.{empty_lane, is_full, Venue, Subscriber, World, Setting, new_world}
use Rattle.feed_steps.specs.Steps.{Transition, Refused, Changes, push_next, consume_next, offer_next, dequeue_next, too_many_subscribers, unknown_venue, unknown_subscriber, Stays, Applies}
use Rattle.feed_core.specs.Steps.{next_in, next_out, declare_help, put_subscriber, AnswersSubscribe}
use Rattle.feed_core.specs.laws.LaneMoves.{with_sent, with_intake}
use Rattle.feed_core.specs.OneStep.{IsStep}
use Rattle.feed_core.specs.Runs.{IsRun}
use Rattle.feed_steps.specs.laws.Lists.{get_after_set, get_push}

-- each subscriber has the terms of the filter at its place, and as long as there is place no other
-- filter was used
pub record InTurn (s : Setting) (w : World) : Type 0 where
  pub terms : (id : ℕ) (x : Subscriber) → slice_get w.subscribers id ≡ Some x
      → slice_get s.filters id ≡ Some x.terms
  pub used : length w.subscribers < 32 → w.used ≡ length w.subscribers

module _ (s : Setting) where
  moved : (new w : World) → new ≡ w → InTurn s w → InTurn s new
  moved new w e k = subst (InTurn s) (sym e) k

  same : (old new : World) → new.subscribers ≡ old.subscribers → new.used ≡ old.used → InTurn s old
      → InTurn s new
  same old new a b k = record {
    terms = λ id x e. k.terms id x (subst (λ (xs : List Subscriber). slice_get xs id ≡ Some x) a e);
    used =
        λ few. b ∙ k.used (subst (λ (xs : List Subscriber). length xs < 32) a few)
        ∙ sym (ap length a);
  }

  at_venue : (o : Option Venue) (old : World) (d : Done) (new : World) (Known : Venue → Type 0)
      → InTurn s old
      → ((v : Venue) → Known v → InTurn s new) → MatchOption o (Stays unknown_venue old d new) Known
      → InTurn s new
  at_venue None old d new Known k f h = moved new old h.1 k
  at_venue (Some v) old d new Known k f h = f v h

  at_subscriber : (o : Option Subscriber) (old : World) (id : ℕ) (d : Done) (new : World)
      (Known : Subscriber → Type 0)
      → slice_get old.subscribers id ≡ o → InTurn s old
      → ((x : Subscriber) → slice_get old.subscribers id ≡ Some x → Known x → InTurn s new)
      → MatchOption o (Stays unknown_subscriber old d new) Known → InTurn s new
  at_subscriber None old id d new Known e k f h = moved new old h.1 k
  at_subscriber (Some x) old id d new Known e k f h = f x e h

  -- an event that changes neither
  other_case : {X : Type 0} (old : World) (put : X → World) (came : Transition X) (d : Done)
      (new : World)
      → ((x : X) → (put x).subscribers ≡ old.subscribers) → ((x : X) → (put x).used ≡ old.used)
      → InTurn s old
      → Applies put came old d new → InTurn s new
  other_case old put (Refused e) d new a b k h = moved new old h.1 k
  other_case old put (Changes e x) d new a b k h =
      moved new (put x) h.1 (same old (put x) (a x) (b x) k)

  -- one that changes a subscriber's lane
  lane_case : {X : Type 0} (old : World) (id : ℕ) (x : Subscriber) (put : X → Subscriber)
      (came : Transition X) (d : Done)
      (new : World) → slice_get old.subscribers id ≡ Some x → ((y : X) → (put y).terms ≡ x.terms)
      → InTurn s old
      → Applies (λ y. put_subscriber old id (put y)) came old d new → InTurn s new
  lane_case old id x put (Refused e) d new there same_terms k h = moved new old h.1 k
  lane_case old id x put (Changes e y) d new there same_terms k h =
      let len : length (slice_set old.subscribers id (put y)) ≡ length old.subscribers =
      length-set old.subscribers id (put y) in
      moved new (put_subscriber old id (put y)) h.1 (record {
        terms = λ j z at. elim (get_after_set old.subscribers id j (put y) z at) [
          | inl now ↦ rw (now.0, now.1)
              (k.terms id x there ∙ ap (λ (t : Terms). Some t) (sym (same_terms y)))
          | inr before ↦ k.terms j z before.1
        ];
        used = λ few. k.used (subst (λ (n : ℕ). n < 32) len few) ∙ sym len;
      })

  subscribe_place : (old : World) (terms : Terms) (full : Bool) (d : Done) (new : World)
      → nat_le 32 (length old.subscribers) ≡ full → slice_get s.filters old.used ≡ Some terms
      → InTurn s old
      → Applies (λ xs. record old { used = old.used + 1; subscribers = xs })
      (if full then Refused too_many_subscribers
      else Changes (done.Subscribed (length old.subscribers))
      (old.subscribers ++ record { terms = terms; lane = empty_lane } ∷ []))
      (record old { used = old.used + 1 }) d new → InTurn s new
  subscribe_place old terms true d new is filter k h =
      moved new (record old { used = old.used + 1 }) h.1
      (record { terms = k.terms; used = λ few. absurd (grind (arith, nat_tests, is, few)) })
  subscribe_place old terms false d new is filter k h =
      let few : length old.subscribers < 32 = grind (arith, nat_tests, is) in
      let used : old.used ≡ length old.subscribers = k.used few in
      let x : Subscriber = record { terms = terms; lane = empty_lane } in
      let len : length (old.subscribers ++ x ∷ []) ≡ length old.subscribers + 1 =
      length-append old.subscribers (x ∷ []) in
      moved new (record old { used = old.used + 1; subscribers = old.subscribers ++ x ∷ [] }) h.1
      (record {
        terms = λ j z at. elim (get_push old.subscribers j x z at) [
          | inl now ↦ rw (now.0, now.1) (ap (λ (n : ℕ). slice_get s.filters n) (sym used) ∙ filter)
          | inr before ↦ k.terms j z before.1
        ];
        used = λ more. ap (λ (n : ℕ). n + 1) used ∙ sym len;
      })

  subscribe_case : (old : World) (o : Option Terms) (d : Done) (new : World)
      → slice_get s.filters old.used ≡ o
      → InTurn s old → AnswersSubscribe o old d new → InTurn s new
  subscribe_case old None d new e k h = moved new old h.1 k
  subscribe_case old (Some terms) d new e k h =
      subscribe_place old terms (nat_le 32 (length old.subscribers)) d new refl e k h

  step_keeps : (old : World) (e : Event) (d : Done) (new : World) → InTurn s old
      → IsStep s old e d new → InTurn s new
  step_keeps old (Packet place line bytes) d new k h =
      at_venue (slice_get old.venues place) old d new _ k
      (λ v t. elim t [
        | inl f ↦ moved new old f.is.1 k
        | inr a ↦ moved new _ a.answers.new_is (record { terms = k.terms; used = k.used })
      ]) h
  step_keeps old (Renew place name) d new k h = at_venue (slice_get old.venues place) old d new _ k
      (λ v t. moved new _ t.new_is (record { terms = k.terms; used = k.used })) h
  step_keeps old (Skip place number) d new k h =
      at_venue (slice_get old.venues place) old d new _ k
      (λ v t. moved new _ t.new_is (record { terms = k.terms; used = k.used })) h
  step_keeps old (Push place) d new k h = at_venue (slice_get old.venues place) old d new _ k
      (λ v t. other_case old (with_sent old place v)
      (push_next (is_full s.lane v.lane) (next_in (streams_of v.history) v.lane) v.lane.sent) d new
      (λ x. refl)
      (λ x. refl) k t) h
  step_keeps old (Consume place) d new k h = at_venue (slice_get old.venues place) old d new _ k
      (λ v t. other_case old (with_intake old place v)
      (consume_next s.journal place (next_out v.lane)
      (record { received = v.lane.received; entries = old.entries })) d new
      (λ x. refl) (λ x. refl) k t) h
  step_keeps old (Declare place on) d new k h = at_venue (slice_get old.venues place) old d new _ k
      (λ v t. other_case old (λ entries. record old { entries = entries })
      (declare_help s.journal place on old.entries) d new
      (λ x. refl) (λ x. refl) k t) h
  step_keeps old Subscribe d new k h =
      subscribe_case old (slice_get s.filters old.used) d new refl k h
  step_keeps old (Offer id) d new k h =
      at_subscriber (slice_get old.subscribers id) old id d new _ refl k
      (λ x there t. lane_case old id x (λ sent. record x { lane = record x.lane { sent = sent } })
      (offer_next (is_full s.lane x.lane) (next_in (wanted_of s.symbols x.terms old.entries) x.lane)
      x.lane.sent) d new
      there
      (λ y. refl) k t) h
  step_keeps old (Dequeue id) d new k h =
      at_subscriber (slice_get old.subscribers id) old id d new _ refl k
      (λ x there t. lane_case old id x
      (λ received. record x { lane = record x.lane { received = received } })
      (dequeue_next (next_out x.lane) x.lane.received) d new there (λ y. refl) k t) h

  run_keeps : (old : World) (events : List Event) (ds : List Done) (new : World) → InTurn s old
      → IsRun s old events ds new → InTurn s new
  run_keeps old [] [] new k h = moved new old h k
  run_keeps old [] (d ∷ ds) new k h = absurd h
  run_keeps old (e ∷ es) [] new k h = absurd h
  run_keeps old (e ∷ es) (d ∷ ds) new k h =
      run_keeps h.0 es ds new (step_keeps old e d h.0 k h.1) h.2

pub terms_in_turn : (s : Setting) (events : List Event) (ds : List Done) (w : World)
    → IsRun s (new_world s) events ds w
    → (id : ℕ) (x : Subscriber) → slice_get w.subscribers id ≡ Some x
    → slice_get s.filters id ≡ Some x.terms
terms_in_turn s events ds w run id x at =
    (run_keeps s (new_world s) events ds w
    (record { terms = λ i y e. absurd cc; used = λ few. refl }) run).terms id x
    at
