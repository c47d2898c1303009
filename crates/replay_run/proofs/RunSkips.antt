-- The skips among the events are the records'.
use Rattle.std.proofs.Common.{◌≡◌, ℕ, zero, suc, List, [], ◌∷◌, subst, arith, inl, inr}
use Rattle.std.specs.List.{Contains}
use Rattle.std.proofs.lemmas.List.Elements.{Contains-append_cases, Contains-append_right}
use Rattle.line_arbiter.specs.Packets as inputs
use Rattle.line_arbiter.specs.Packets.{Input, Arrived}
use Rattle.feed_steps.specs.declared.event.Event.{Event}
use Rattle.feed_steps.specs.declared.event.Event.TheVariants.{Skip}
use Rattle.feed_core.specs.VenueHalf.{IsAmong}
use Rattle.capture_records.specs.Capture.{CaptureRecord, datagram_record, renewal_record, skip_record, self_help_record, record_venue}
use Rattle.replay_run.specs.Events.{event_of, drains, AreEvents}
use Rattle.replay_run.specs.ToldHeadline.{IsRecorded}

drains_none : (venue place number n : ℕ) → Contains (drains venue n) (Skip place number) → ⊥
drains_none venue place number zero (i, below, is) = absurd (omega (arith, below))
drains_none venue place number (suc n) (zero, below, is) = absurd cc
drains_none venue place number (suc n) (suc zero, below, is) = absurd cc
drains_none venue place number (suc n) (suc (suc i), below, is) =
    drains_none venue place number n (i, omega (arith, below), is)

-- the record whose event is a skip
skip_of : (r : CaptureRecord) (place number : ℕ) → event_of r ≡ Skip place number
    → r ≡ skip_record place number
skip_of (datagram_record venue line bytes) place number is = absurd cc
skip_of (renewal_record venue name) place number is = absurd cc
skip_of (skip_record venue skipped) place number is = cc
skip_of (self_help_record venue on) place number is = absurd cc

own_among : (r : CaptureRecord) (venue ready place number : ℕ) (others : List CaptureRecord)
    → Contains (event_of r ∷ drains venue ready) (Skip place number)
    → Contains (r ∷ others) (skip_record place number)
own_among r venue ready place number others (zero, below, is) =
    (zero, omega arith, skip_of r place number is)
own_among r venue ready place number others (suc i, below, is) =
    absurd (drains_none venue place number ready (i, omega (arith, below), is))

skip_among : (rs : List CaptureRecord) (events : List Event) (place number : ℕ)
    → AreEvents rs events
    → Contains events (Skip place number) → Contains rs (skip_record place number)
skip_among [] events place number are has =
    let (i, below, is) = subst (λ (es : List Event). Contains es (Skip place number)) are has in
    absurd (omega (arith, below))
skip_among (r ∷ rs) events place number (ready, others, more, is) has =
    elim (Contains-append_cases (event_of r ∷ drains (record_venue r) ready)
    others (Skip place number)
    (subst (λ (es : List Event). Contains es (Skip place number)) is has)) [
      | inl own ↦ own_among r (record_venue r) ready place number rs own
      | inr rest ↦
          Contains-append_right (r ∷ []) rs (skip_record place number)
          (skip_among rs others place number more rest)
    ]

pub among_one : (records : List CaptureRecord) (events : List Event) (place : ℕ)
    → AreEvents records events
    → (x : Input) → IsAmong events place x → IsRecorded records place x
among_one records events place are (Arrived a) has = tt
among_one records events place are (inputs.Skip n) has = skip_among records events place n are has
