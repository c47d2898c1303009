-- What each venue's moves keep, an event keeps of all venues, and so does a run; of the venue
-- alone, or
-- with the journal's entries.
use Rattle.std.proofs.Common.{◌≡◌, ℕ, Bool, true, false, List, [], ◌∷◌, ◌++◌, length, Option, Some, None, Result, sym, subst, refl, ◌+◌, ◌∙◌, append-nil, inl, inr}
use Rattle.std.specs.Prelude.{MatchOption, slice_get, if◌then◌else◌, nat_le}
use Rattle.std.specs.List.{AllByRecursion}
use Rattle.std.proofs.lemmas.Bool.{cases_eq}
use Rattle.feed_types.specs.declared.item.Numbered.{Numbered}
use Rattle.feed_types.specs.declared.journal.Entry.{Entry}
use Rattle.feed_types.specs.declared.journal.Entry.TheVariants as entry
use Rattle.feed_types.specs.declared.line.LineId.{LineId}
use Rattle.mold_packet.specs.Content.{Content, Spells}
use Rattle.line_arbiter.specs.declared.outcome.Outcome.{Outcome}
use Rattle.line_arbiter.specs.declared.outcome.LineFault.{LineFault}
use Rattle.line_arbiter.specs.declared.faults.RenewFault.{RenewFault}
use Rattle.line_arbiter.specs.declared.faults.SkipFault.{SkipFault}
use Rattle.line_arbiter.specs.Histories.{History, streams_of}
use Rattle.filter_terms.specs.declared.terms.Terms.{Terms}
use Rattle.journal_book.specs.ItemLaws.{items_put, items_there}
use Rattle.journal_book.specs.ItemsIn.{items_in}
use Rattle.journal_book.specs.Wanted.{wanted_of}
use Rattle.nbbo_book.specs.Eligible.{is_so}
use Rattle.feed_steps.specs.declared.event.Event.{Event}
use Rattle.feed_steps.specs.declared.event.Event.TheVariants.{Packet, Push, Consume, Declare, Renew, Skip, Subscribe, Offer, Dequeue}
use Rattle.feed_steps.specs.declared.event.Done.{Done}
use Rattle.feed_steps.specs.declared.event.Done.TheVariants as done
use Rattle.feed_core.specs.Worlds.{is_full, Venue, session_sent, Subscriber, World, Setting}
use Rattle.line_arbiter.specs.Additions.{AddsArrival, AddsRenewal, AddsSkip}
use Rattle.feed_steps.specs.Steps.{Transition, Refused, Changes, push_next, journal_item, offer_next, dequeue_next, journal_full, already_so, unknown_venue, unknown_subscriber, Stays, Applies}
use Rattle.feed_core.specs.Steps.{next_in, next_out, add_subscriber, put_venue, AnswersSubscribe}
use Rattle.feed_core.specs.laws.LaneMoves.{with_sent, with_intake, with_offered, with_dequeued}
use Rattle.feed_core.specs.OneStep.{IsStep}
use Rattle.feed_core.specs.Runs.{IsRun}
use Rattle.feed_steps.specs.laws.Lists.{get_after_set, get_at_set, get_off_set}

pub record KeepsVenueStep (s : Setting) (May : Event → Type 0) (Q : ℕ → Venue
    → Type 0) : Type 0 where
  pub packet : (place : ℕ) (v : Venue) (line : LineId) (bytes : _) (p : Content) (rest : List ℕ)
      (answer : Result Outcome LineFault) (h : History)
      → May (Packet place line bytes) → Spells bytes.now p rest
      → AddsArrival s.window (session_sent v) line p v.history answer h → Q place v
      → Q place (record v { history = h })
  pub renew : (place : ℕ) (v : Venue) (name : List ℕ) (answer : Result ℕ RenewFault) (h : History)
      → AddsRenewal (session_sent v) name v.history answer h → Q place v
      → Q place (record v { history = h })
  pub skip : (place : ℕ) (v : Venue) (number : ℕ) (answer : Result (Unit {0}) SkipFault)
      (h : History) → May (Skip place number)
      → AddsSkip (session_sent v) number v.history answer h → Q place v
      → Q place (record v { history = h })
  pub push : (place : ℕ) (v : Venue) (x : Numbered) → next_in (streams_of v.history) v.lane ≡ Some x
      → Q place v → Q place (record v { lane = record v.lane { sent = v.lane.sent ++ x ∷ [] } })
  pub consume : (place : ℕ) (v : Venue) (x : Numbered) → next_out v.lane ≡ Some x → Q place v
      → Q place (record v { lane = record v.lane { received = v.lane.received ++ x ∷ [] } })

-- The same with the journal's entries: an item that is consumed is one more entry, which leaves
-- what
-- holds of another venue, and so does a declaration.
pub record KeepsEntriesStep (s : Setting) (May : Event → Type 0)
    (R : List Entry → ℕ → Venue → Type 0) : Type 0 where
  pub packet : (E : List Entry) (place : ℕ) (v : Venue) (line : LineId) (bytes : _) (p : Content)
      (rest : List ℕ) (answer : Result Outcome LineFault) (h : History)
      → May (Packet place line bytes) → Spells bytes.now p rest
      → AddsArrival s.window (session_sent v) line p v.history answer h → R E place v
      → R E place (record v { history = h })
  pub renew : (E : List Entry) (place : ℕ) (v : Venue) (name : List ℕ)
      (answer : Result ℕ RenewFault)
      (h : History) → AddsRenewal (session_sent v) name v.history answer h → R E place v
      → R E place (record v { history = h })
  pub skip : (E : List Entry) (place : ℕ) (v : Venue) (number : ℕ)
      (answer : Result (Unit {0}) SkipFault) (h : History) → May (Skip place number)
      → AddsSkip (session_sent v) number v.history answer h → R E place v
      → R E place (record v { history = h })
  pub push : (E : List Entry) (place : ℕ) (v : Venue) (x : Numbered)
      → next_in (streams_of v.history) v.lane ≡ Some x
      → R E place v → R E place (record v { lane = record v.lane { sent = v.lane.sent ++ x ∷ [] } })
  pub consume : (E : List Entry) (place : ℕ) (v : Venue) (x : Numbered) → next_out v.lane ≡ Some x
      → R E place v
      → R (E ++ entry.Consumed place x ∷ []) place
      (record v { lane = record v.lane { received = v.lane.received ++ x ∷ [] } })
  pub other : (E : List Entry) (e : Entry) (place : ℕ) (v : Venue)
      → items_in (E ++ e ∷ []) place ≡ items_in E place → R E place v → R (E ++ e ∷ []) place v

-- what holds of each venue
abbrev pub EachVenue : (ℕ → Venue → Type 0) → World → Type 0
EachVenue Q w = (place : ℕ) (v : Venue) → slice_get w.venues place ≡ Some v → Q place v

abbrev pub EachAtEntries : (List Entry → ℕ → Venue → Type 0) → World → Type 0
EachAtEntries R w = EachVenue (R w.entries) w

module _ (s : Setting) (May : Event → Type 0) (R : List Entry → ℕ → Venue → Type 0)
    (kept : KeepsEntriesStep s May R) where
  moved : (new w : World) → new ≡ w → EachAtEntries R w → EachAtEntries R new
  moved new w e each = subst (EachAtEntries R) (sym e) each

  -- a venue is put in place of another
  put : (old : World) (place : ℕ) (v : Venue) → EachAtEntries R old → R old.entries place v
      → EachAtEntries R (put_venue old place v)
  put old place v each here = λ j u e. elim (get_after_set old.venues place j v u e) [
    | inl now ↦ rw (now.0, now.1) here
    | inr before ↦ each j u before.1
  ]

  at_venue : (o : Option Venue) (old : World) (place : ℕ) (d : Done) (new : World)
      (Known : Venue → Type 0) → slice_get old.venues place ≡ o → EachAtEntries R old
      → ((v : Venue) → R old.entries place v → Known v → EachAtEntries R new)
      → MatchOption o (Stays unknown_venue old d new) Known → EachAtEntries R new
  at_venue None old place d new Known e each f h = moved new old h.1 each
  at_venue (Some v) old place d new Known e each f h = f v (each place v e) h

  at_subscriber : (o : Option Subscriber) (old : World) (d : Done) (new : World)
      (Known : Subscriber → Type 0) → EachAtEntries R old
      → ((x : Subscriber) → Known x → EachAtEntries R new)
      → MatchOption o (Stays unknown_subscriber old d new) Known → EachAtEntries R new
  at_subscriber None old d new Known each f h = moved new old h.1 each
  at_subscriber (Some x) old d new Known each f h = f x h

  push_case : (old : World) (place : ℕ) (v : Venue) (full : Bool) (o : Option Numbered) (d : Done)
      (new : World) → next_in (streams_of v.history) v.lane ≡ o → EachAtEntries R old
      → R old.entries place v
      → Applies (with_sent old place v) (push_next full o v.lane.sent) old d new
      → EachAtEntries R new
  push_case old place v full None d new e each here h = moved new old h.1 each
  push_case old place v true (Some x) d new e each here h = moved new old h.1 each
  push_case old place v false (Some x) d new e each here h =
      moved new _ h.1 (put old place _ each (kept.push old.entries place v x e here))

  consume_case : (old : World) (place : ℕ) (v : Venue) (full : Bool) (o : Option Numbered)
      (d : Done) (new : World) → next_out v.lane ≡ o → EachAtEntries R old → R old.entries place v
      → Applies (with_intake old place v)
      (if full then Refused journal_full else
      journal_item place o (record { received = v.lane.received; entries = old.entries })) old d
      new → EachAtEntries R new
  consume_case old place v true o d new e each here h = moved new old h.1 each
  consume_case old place v false None d new e each here h = moved new old h.1 each
  consume_case old place v false (Some x) d new e each here h =
      moved new _ h.1 (λ j u at. elim (cases_eq j place) [
        | inl same ↦
            rw (same, get_at_set old.venues place j _ u at same)
            (kept.consume old.entries place v x e here)
        | inr apart ↦
            kept.other old.entries (entry.Consumed place x) j u
            (items_there j place old.entries x apart)
            (each j u (get_off_set old.venues place j _ u at apart))
      ])

  declare_case : (old : World) (place : ℕ) (on same full : Bool) (d : Done) (new : World)
      → EachAtEntries R old
      → Applies (λ E. record old { entries = E })
      (if same then Refused already_so else
      (if full then Refused journal_full else
      Changes (done.Declared (length old.entries + 1))
      (old.entries ++ entry.SelfHelp place on ∷ []))) old d new → EachAtEntries R new
  declare_case old place on true full d new each h = moved new old h.1 each
  declare_case old place on false true d new each h = moved new old h.1 each
  declare_case old place on false false d new each h =
      moved new _ h.1 (λ j u at. kept.other old.entries (entry.SelfHelp place on) j u
      (items_put j old.entries (entry.SelfHelp place on) ∙ append-nil (items_in old.entries j))
      (each j u at))

  -- an event that changes neither a venue nor the journal
  other_case : {X : Type 0} (old after : World) (put : X → World) (came : Transition X) (d : Done)
      (new : World) → ((x : X) → EachAtEntries R after → EachAtEntries R (put x))
      → EachAtEntries R after → Applies put came after d new → EachAtEntries R new
  other_case old after put (Refused e) d new same each h = moved new after h.1 each
  other_case old after put (Changes e x) d new same each h = moved new (put x) h.1 (same x each)

  subscribe_case : (old : World) (o : Option Terms) (d : Done) (new : World) → EachAtEntries R old
      → AnswersSubscribe o old d new → EachAtEntries R new
  subscribe_case old None d new each h = moved new old h.1 each
  subscribe_case old (Some terms) d new each h =
      other_case old (record old { used = old.used + 1 }) _ (add_subscriber terms old.subscribers) d
      new (λ x k. k) each h

  step_keeps : (old : World) (e : Event) (d : Done) (new : World) → May e → EachAtEntries R old
      → IsStep s old e d new → EachAtEntries R new
  step_keeps old (Packet place line bytes) d new may each h =
      at_venue (slice_get old.venues place) old place d new _ refl each
      (λ v here k. elim k [
        | inl f ↦ moved new old f.is.1 each
        | inr a ↦ moved new _ a.answers.new_is
            (put old place _ each
            (kept.packet old.entries place v line bytes a.packet a.rest a.answers.answer
            a.answers.history may a.spells a.answers.adds here))
      ]) h
  step_keeps old (Renew place name) d new may each h =
      at_venue (slice_get old.venues place) old place d new _ refl each
      (λ v here k. moved new _ k.new_is
      (put old place _ each
      (kept.renew old.entries place v name k.answer k.history k.adds here))) h
  step_keeps old (Skip place number) d new may each h =
      at_venue (slice_get old.venues place) old place d new _ refl each
      (λ v here k. moved new _ k.new_is
      (put old place _ each
      (kept.skip old.entries place v number k.answer k.history may k.adds here))) h
  step_keeps old (Push place) d new may each h =
      at_venue (slice_get old.venues place) old place d new _ refl each
      (λ v here k. push_case old place v (is_full s.lane v.lane)
      (next_in (streams_of v.history) v.lane) d new refl each here k) h
  step_keeps old (Consume place) d new may each h =
      at_venue (slice_get old.venues place) old place d new _ refl each
      (λ v here k. consume_case old place v (nat_le s.journal (length old.entries))
      (next_out v.lane) d new refl each here k) h
  step_keeps old (Declare place on) d new may each h =
      at_venue (slice_get old.venues place) old place d new _ refl each
      (λ v here k. declare_case old place on (is_so old.entries place on)
      (nat_le s.journal (length old.entries)) d new each k) h
  step_keeps old Subscribe d new may each h =
      subscribe_case old (slice_get s.filters old.used) d new each h
  step_keeps old (Offer id) d new may each h =
      at_subscriber (slice_get old.subscribers id) old d new _ each
      (λ x k. other_case old old (with_offered old id x)
      (offer_next (is_full s.lane x.lane)
      (next_in (wanted_of s.symbols x.terms old.entries) x.lane) x.lane.sent) d new (λ y q. q)
      each k) h
  step_keeps old (Dequeue id) d new may each h =
      at_subscriber (slice_get old.subscribers id) old d new _ each
      (λ x k. other_case old old (with_dequeued old id x)
      (dequeue_next (next_out x.lane) x.lane.received) d new (λ y q. q) each k) h

  pub run_keeps_entries : (old : World) (events : List Event) (ds : List Done) (new : World)
      → AllByRecursion May events → EachAtEntries R old → IsRun s old events ds new
      → EachAtEntries R new
  run_keeps_entries old [] [] new may each h = moved new old h each
  run_keeps_entries old [] (d ∷ ds) new may each h = absurd h
  run_keeps_entries old (e ∷ es) [] new may each h = absurd h
  run_keeps_entries old (e ∷ es) (d ∷ ds) new may each h =
      run_keeps_entries h.0 es ds new may.1 (step_keeps old e d h.0 may.0 each h.1) h.2

-- of the venues alone
pub run_keeps : (s : Setting) (May : Event → Type 0) (Q : ℕ → Venue → Type 0)
    → KeepsVenueStep s May Q → (old : World) (events : List Event) (ds : List Done) (new : World)
    → AllByRecursion May events → EachVenue Q old → IsRun s old events ds new → EachVenue Q new
run_keeps s May Q kept = run_keeps_entries s May (λ E. Q) (record {
  packet = λ E. kept.packet;
  renew = λ E. kept.renew;
  skip = λ E. kept.skip;
  push = λ E. kept.push;
  consume = λ E. kept.consume;
  other = λ E e place v none k. k;
})
