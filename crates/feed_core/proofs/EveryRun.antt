-- Each list of events has a run.
use Rattle.std.proofs.Common.{ℕ, ◌+◌, List, [], ◌∷◌, Option, Some, None, refl, inl, inr}
use Rattle.std.specs.Prelude.{MatchOption, slice_get, ◌⊎◌}
use Rattle.std.specs.List.{AllByRecursion}
use Rattle.feed_types.specs.declared.line.LineId.{LineId}
use Rattle.mold_packet.specs.Bytes.{AreBytes}
use Rattle.mold_packet.specs.Faults.{code_of}
use Rattle.mold_packet.specs.laws.EveryReading.{read_or_fault}
use Rattle.filter_terms.specs.declared.terms.Terms.{Terms}
use Rattle.line_arbiter.specs.Packets.{arrival_of, end_of}
use Rattle.line_arbiter.specs.Additions.{AddsRenewal, AddsSkip}
use Rattle.line_arbiter.specs.Histories.{History, names_of, after_input, skip_after, history_after}
use Rattle.line_arbiter.specs.laws.EveryAnswer.{every_answer, every_renewal}
use Rattle.line_arbiter.specs.laws.SkipAnswers.{every_skip}
use Rattle.feed_steps.specs.declared.event.Event.{Event}
use Rattle.feed_steps.specs.declared.event.Event.TheVariants.{Packet, Push, Consume, Declare, Renew, Skip, Subscribe, Offer, Dequeue}
use Rattle.feed_steps.specs.declared.event.Done.{Done}
use Rattle.feed_steps.specs.declared.event.Done.TheVariants as done
use Rattle.feed_core.specs.Worlds.{Venue, session_sent, World, Setting}
use Rattle.feed_steps.specs.Steps.{Transition, Refused, Changes, Stays, Applies, packet_done, renewal_done, skip_done}
use Rattle.feed_core.specs.Steps.{put_venue, RefusesBytes, Answers, AnswersPacket, AnswersSubscribe}
use Rattle.feed_core.specs.OneStep.{IsStep}
use Rattle.feed_core.specs.Runs.{IsRun, BringsBytes}

-- some outcome and some world
abbrev HasStep : (Done → World → Type 0) → Type 0
HasStep Step = (outcome : Done) × (new : World) × Step outcome new

-- where the part isn't there, the old world is the new one
known : {X : Type 0} (o : Option X) (refusal : Done) (old : World) (Known : X → Done → World
    → Type 0) → ((x : X) → HasStep (Known x))
    → HasStep (λ outcome new. MatchOption o (Stays refusal old outcome new)
    (λ x. Known x outcome new))
known None refusal old Known each = (refusal, old, (refl, refl))
known (Some x) refusal old Known each = each x

came : {X : Type 0} (put : X → World) (c : Transition X) (old : World) → HasStep (Applies put c old)
came put (Refused refusal) old = (refusal, old, (refl, refl))
came put (Changes outcome x) old = (outcome, put x, (refl, refl))

module _ (place : ℕ) (v : Venue) (old : World) where
  abbrev with_history : History → World
  with_history h = put_venue old place (record v { history = h })

  packet : (window : ℕ) (line : LineId) (bytes : List ℕ) → AreBytes bytes
      → HasStep (λ outcome new. RefusesBytes bytes old outcome new ⊎ AnswersPacket window place v
      line bytes old outcome new)
  packet window line bytes are = elim (read_or_fault bytes are) [
    | inr fault ↦ (
      done.Refused (code_of fault.0),
      old,
      inl (record { fault = fault.0; has = fault.1; is = (refl, refl) }),
    )
    | inl read ↦
        let given = every_answer v.history.present.name window (session_sent v)
        v.history.present.packets read.0 in
        let history : History = after_input v.history (arrival_of line read.0 given.0) in (
          packet_done given.0,
          with_history history,
          inr (record {
            packet = read.0;
            rest = read.1;
            spells = read.2;
            answers = record {
              answer = given.0;
              history = history;
              adds = record { right = given.1; is = refl };
              outcome_is = refl;
              new_is = refl;
            };
          }),
        )
  ]

  renewed : (name : List ℕ) → HasStep (Answers (AddsRenewal (session_sent v) name v.history)
      renewal_done place v old)
  renewed name =
      let given = every_renewal (names_of v.history) (end_of v.history.present.packets)
      (session_sent v) name in
      let history : History = history_after v.history name given.0 in (
        renewal_done given.0,
        with_history history,
        record {
          answer = given.0;
          history = history;
          adds = record { right = given.1; is = refl };
          outcome_is = refl;
          new_is = refl;
        },
      )

  skipped : (number : ℕ) → HasStep (Answers (AddsSkip (session_sent v) number v.history)
      (skip_done number) place v old)
  skipped number =
      let given = every_skip v.history.present.packets (session_sent v) number in
      let history : History = skip_after v.history number given.0 in (
        skip_done number given.0,
        with_history history,
        record {
          answer = given.0;
          history = history;
          adds = record { right = given.1; is = refl };
          outcome_is = refl;
          new_is = refl;
        },
      )

subscription : (o : Option Terms) (old : World) → HasStep (AnswersSubscribe o old)
subscription None old = (done.NoFilter, old, (refl, refl))
subscription (Some terms) old = came _ _ (record old { used = old.used + 1 })

every_step : (s : Setting) (old : World) (e : Event) → BringsBytes e → HasStep (IsStep s old e)
every_step s old (Packet venue line bytes) are = known (slice_get old.venues venue) _ old _
    (λ v. packet venue v old s.window line bytes.now are)
every_step s old (Renew venue name) are = known (slice_get old.venues venue) _ old _
    (λ v. renewed venue v old name)
every_step s old (Skip venue number) are = known (slice_get old.venues venue) _ old _
    (λ v. skipped venue v old number)
every_step s old (Push venue) are = known (slice_get old.venues venue) _ old _ (λ v. came _ _ old)
every_step s old (Consume venue) are = known (slice_get old.venues venue) _
    old _ (λ v. came _ _ old)
every_step s old (Declare venue on) are = known (slice_get old.venues venue) _
    old _ (λ v. came _ _ old)
every_step s old Subscribe are = subscription (slice_get s.filters old.used) old
every_step s old (Offer id) are = known (slice_get old.subscribers id) _ old _ (λ x. came _ _ old)
every_step s old (Dequeue id) are = known (slice_get old.subscribers id) _ old _ (λ x. came _ _ old)

pub every_run : (s : Setting) (old : World) (events : List Event)
    → AllByRecursion BringsBytes events → (outcomes : List Done) × (new : World)
    × IsRun s old events outcomes new
every_run s old [] are = ([], old, refl)
every_run s old (e ∷ es) are =
    let first = every_step s old e are.0 in
    let rest = every_run s first.1 es are.1 in
    (first.0 ∷ rest.0, rest.1, (first.1, first.2, rest.2))
