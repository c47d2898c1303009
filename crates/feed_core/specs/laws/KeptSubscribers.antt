-- What one more entry, a subscription, an offer and a dequeue keep of each subscriber; an event
-- keeps it of all, and so does a run.
use Rattle.std.proofs.Common.{◌≡◌, ℕ, ◌+◌, Bool, true, false, List, [], ◌∷◌, ◌++◌, length, Option, Some, None, sym, subst, refl, inl, inr}
use Rattle.std.specs.Prelude.{MatchOption, slice_get, if◌then◌else◌, nat_le}
use Rattle.feed_types.specs.declared.item.Numbered.{Numbered}
use Rattle.feed_types.specs.declared.journal.Entry.{Entry}
use Rattle.feed_types.specs.declared.journal.Entry.TheVariants as entry
use Rattle.feed_types.specs.declared.journal.Notice.{Notice}
use Rattle.filter_terms.specs.declared.terms.Terms.{Terms}
use Rattle.line_arbiter.specs.Histories.{streams_of}
use Rattle.journal_book.specs.Wanted.{wanted_of}
use Rattle.nbbo_book.specs.Eligible.{is_so}
use Rattle.feed_steps.specs.declared.event.Event.{Event}
use Rattle.feed_steps.specs.declared.event.Event.TheVariants.{Packet, Push, Consume, Declare, Renew, Skip, Subscribe, Offer, Dequeue}
use Rattle.feed_steps.specs.declared.event.Done.{Done}
use Rattle.feed_core.specs.Worlds.{empty_lane, is_full, Venue, Subscriber, World, Setting}
use Rattle.feed_steps.specs.Steps.{Refused, Changes, push_next, journal_item, offer_next, dequeue_next, journal_full, already_so, too_many_subscribers, unknown_venue, unknown_subscriber, Stays, Applies}
use Rattle.feed_core.specs.Steps.{next_in, next_out, put_subscriber, AnswersSubscribe}
use Rattle.feed_core.specs.laws.LaneMoves.{with_sent, with_intake, with_offered, with_dequeued}
use Rattle.feed_core.specs.OneStep.{IsStep}
use Rattle.feed_core.specs.Runs.{IsRun}
use Rattle.feed_steps.specs.declared.event.Done.TheVariants as done
use Rattle.feed_steps.specs.laws.Lists.{get_after_set, get_push}

-- what holds of each subscriber, with the entries
abbrev pub EachSubscriber : (List Entry → Subscriber → Type 0) → World → Type 0
EachSubscriber Q w = (id : ℕ) (x : Subscriber) → slice_get w.subscribers id ≡ Some x → Q w.entries x

pub record KeepsSubscriberStep (s : Setting) (Q : List Entry → Subscriber → Type 0) : Type 0 where
  pub grow : (E : List Entry) (e : Entry) (x : Subscriber) → Q E x → Q (E ++ e ∷ []) x
  pub new : (E : List Entry) (terms : Terms) → Q E (record { terms = terms; lane = empty_lane })
  pub offer : (E : List Entry) (x : Subscriber) (n : Notice)
      → next_in (wanted_of s.symbols x.terms E) x.lane ≡ Some n → Q E x
      → Q E (record x { lane = record x.lane { sent = x.lane.sent ++ n ∷ [] } })
  pub dequeue : (E : List Entry) (x : Subscriber) (n : Notice) → next_out x.lane ≡ Some n → Q E x
      → Q E (record x { lane = record x.lane { received = x.lane.received ++ n ∷ [] } })

module _ (s : Setting) (Q : List Entry → Subscriber → Type 0) (kept : KeepsSubscriberStep s Q) where
  moved : (new w : World) → new ≡ w → EachSubscriber Q w → EachSubscriber Q new
  moved new w e each = subst (EachSubscriber Q) (sym e) each

  put : (old : World) (id : ℕ) (x : Subscriber) → EachSubscriber Q old → Q old.entries x
      → EachSubscriber Q (put_subscriber old id x)
  put old id x each here = λ j y e. elim (get_after_set old.subscribers id j x y e) [
    | inl now ↦ rw (now.1) here
    | inr before ↦ each j y before.1
  ]

  at_venue : (o : Option Venue) (old : World) (d : Done) (new : World) (Known : Venue → Type 0)
      → EachSubscriber Q old → ((v : Venue) → Known v → EachSubscriber Q new)
      → MatchOption o (Stays unknown_venue old d new) Known → EachSubscriber Q new
  at_venue None old d new Known each f h = moved new old h.1 each
  at_venue (Some v) old d new Known each f h = f v h

  at_subscriber : (o : Option Subscriber) (old : World) (id : ℕ) (d : Done) (new : World)
      (Known : Subscriber → Type 0) → slice_get old.subscribers id ≡ o → EachSubscriber Q old
      → ((x : Subscriber) → Q old.entries x → Known x → EachSubscriber Q new)
      → MatchOption o (Stays unknown_subscriber old d new) Known → EachSubscriber Q new
  at_subscriber None old id d new Known e each f h = moved new old h.1 each
  at_subscriber (Some x) old id d new Known e each f h = f x (each id x e) h

  more : (old : World) (e : Entry) → EachSubscriber Q old → (id : ℕ) (x : Subscriber)
      → slice_get old.subscribers id ≡ Some x → Q (old.entries ++ e ∷ []) x
  more old e each id x at = kept.grow old.entries e x (each id x at)

  push_case : (old : World) (place : ℕ) (v : Venue) (full : Bool) (o : Option Numbered) (d : Done)
      (new : World) → EachSubscriber Q old
      → Applies (with_sent old place v) (push_next full o v.lane.sent) old d new
      → EachSubscriber Q new
  push_case old place v full None d new each h = moved new old h.1 each
  push_case old place v true (Some n) d new each h = moved new old h.1 each
  push_case old place v false (Some n) d new each h = moved new _ h.1 each

  consume_case : (old : World) (place : ℕ) (v : Venue) (full : Bool) (o : Option Numbered)
      (d : Done) (new : World) → EachSubscriber Q old
      → Applies (with_intake old place v)
      (if full then Refused journal_full else
      journal_item place o (record { received = v.lane.received; entries = old.entries })) old d
      new → EachSubscriber Q new
  consume_case old place v true o d new each h = moved new old h.1 each
  consume_case old place v false None d new each h = moved new old h.1 each
  consume_case old place v false (Some n) d new each h =
      moved new _ h.1 (more old (entry.Consumed place n) each)

  declare_case : (old : World) (place : ℕ) (on same full : Bool) (d : Done) (new : World)
      → EachSubscriber Q old
      → Applies (λ E. record old { entries = E })
      (if same then Refused already_so else
      (if full then Refused journal_full else
      Changes (done.Declared (length old.entries + 1))
      (old.entries ++ entry.SelfHelp place on ∷ []))) old d new → EachSubscriber Q new
  declare_case old place on true full d new each h = moved new old h.1 each
  declare_case old place on false true d new each h = moved new old h.1 each
  declare_case old place on false false d new each h =
      moved new _ h.1 (more old (entry.SelfHelp place on) each)

  subscribe_place : (old : World) (terms : Terms) (full : Bool) (d : Done) (new : World)
      → EachSubscriber Q old
      → Applies (λ xs. record old { used = old.used + 1; subscribers = xs })
      (if full then Refused too_many_subscribers else
      Changes (done.Subscribed (length old.subscribers))
      (old.subscribers ++ record { terms = terms; lane = empty_lane } ∷ []))
      (record old { used = old.used + 1 }) d new → EachSubscriber Q new
  subscribe_place old terms true d new each h = moved new _ h.1 each
  subscribe_place old terms false d new each h =
      moved new _ h.1 (λ id x e. elim (get_push old.subscribers id _ x e) [
        | inl now ↦ rw (now.1) (kept.new old.entries terms)
        | inr before ↦ each id x before.1
      ])

  subscribe_case : (old : World) (o : Option Terms) (d : Done) (new : World) → EachSubscriber Q old
      → AnswersSubscribe o old d new → EachSubscriber Q new
  subscribe_case old None d new each h = moved new old h.1 each
  subscribe_case old (Some terms) d new each h =
      subscribe_place old terms (nat_le 32 (length old.subscribers)) d new each h

  offer_case : (old : World) (id : ℕ) (x : Subscriber) (full : Bool) (o : Option Notice) (d : Done)
      (new : World) → next_in (wanted_of s.symbols x.terms old.entries) x.lane ≡ o
      → EachSubscriber Q old → Q old.entries x
      → Applies (with_offered old id x) (offer_next full o x.lane.sent) old d new
      → EachSubscriber Q new
  offer_case old id x full None d new e each here h = moved new old h.1 each
  offer_case old id x true (Some n) d new e each here h = moved new old h.1 each
  offer_case old id x false (Some n) d new e each here h =
      moved new _ h.1 (put old id _ each (kept.offer old.entries x n e here))

  dequeue_case : (old : World) (id : ℕ) (x : Subscriber) (o : Option Notice) (d : Done)
      (new : World) → next_out x.lane ≡ o → EachSubscriber Q old → Q old.entries x
      → Applies (with_dequeued old id x) (dequeue_next o x.lane.received) old d new
      → EachSubscriber Q new
  dequeue_case old id x None d new e each here h = moved new old h.1 each
  dequeue_case old id x (Some n) d new e each here h =
      moved new _ h.1 (put old id _ each (kept.dequeue old.entries x n e here))

  step_keeps : (old : World) (e : Event) (d : Done) (new : World) → EachSubscriber Q old
      → IsStep s old e d new → EachSubscriber Q new
  step_keeps old (Packet place line bytes) d new each h =
      at_venue (slice_get old.venues place) old d new _ each
      (λ v k. elim k [
        | inl f ↦ moved new old f.is.1 each
        | inr a ↦ moved new _ a.answers.new_is each
      ]) h
  step_keeps old (Renew place name) d new each h =
      at_venue (slice_get old.venues place) old d new _ each (λ v k. moved new _ k.new_is each) h
  step_keeps old (Skip place number) d new each h =
      at_venue (slice_get old.venues place) old d new _ each (λ v k. moved new _ k.new_is each) h
  step_keeps old (Push place) d new each h =
      at_venue (slice_get old.venues place) old d new _ each
      (λ v k. push_case old place v (is_full s.lane v.lane) (next_in (streams_of v.history) v.lane)
      d new each k) h
  step_keeps old (Consume place) d new each h =
      at_venue (slice_get old.venues place) old d new _ each
      (λ v k. consume_case old place v (nat_le s.journal (length old.entries)) (next_out v.lane) d
      new each k) h
  step_keeps old (Declare place on) d new each h =
      at_venue (slice_get old.venues place) old d new _ each
      (λ v k. declare_case old place on (is_so old.entries place on)
      (nat_le s.journal (length old.entries)) d new each k) h
  step_keeps old Subscribe d new each h =
      subscribe_case old (slice_get s.filters old.used) d new each h
  step_keeps old (Offer id) d new each h =
      at_subscriber (slice_get old.subscribers id) old id d new _ refl each
      (λ x here k. offer_case old id x (is_full s.lane x.lane)
      (next_in (wanted_of s.symbols x.terms old.entries) x.lane) d new refl each here k) h
  step_keeps old (Dequeue id) d new each h =
      at_subscriber (slice_get old.subscribers id) old id d new _ refl each
      (λ x here k. dequeue_case old id x (next_out x.lane) d new refl each here k) h

  pub run_keeps : (old : World) (events : List Event) (ds : List Done) (new : World)
      → EachSubscriber Q old → IsRun s old events ds new → EachSubscriber Q new
  run_keeps old [] [] new each h = moved new old h each
  run_keeps old [] (d ∷ ds) new each h = absurd h
  run_keeps old (e ∷ es) [] new each h = absurd h
  run_keeps old (e ∷ es) (d ∷ ds) new each h =
      run_keeps h.0 es ds new (step_keeps old e d h.0 each h.1) h.2
