-- Runs, one after the other, and the outcomes of events that were emitted.
use Rattle.std.proofs.Common.{◌≡◌, ℕ, Bool, true, false, List, [], ◌∷◌, ◌++◌, Some, None, Option, refl, sym, ap, subst, ◌∙◌, append_assoc}
use Rattle.std.specs.Prelude.{MatchOption, slice_get}
use Rattle.feed_types.specs.declared.journal.Entry.{Entry}
use Rattle.mold_packet.specs.declared.request.Request.{Request}
use Rattle.line_arbiter.specs.Streams.{gap_of}
use Rattle.line_arbiter.specs.Histories.{History}
use Rattle.feed_steps.specs.declared.event.Event.{Event}
use Rattle.feed_steps.specs.declared.event.Done.{Done}
use Rattle.feed_core.specs.Worlds.{Venue, World, Setting}
use Rattle.feed_steps.specs.Steps.{Stays, unknown_venue}
use Rattle.feed_core.specs.Runs.{IsRun}
use Rattle.feed_text.specs.ReplayEvents.{ReplayEvent, entries_after, entries_of}
use Rattle.line_arbiter.specs.LastSent.{last_sent}
use Rattle.feed_text.specs.Emitted.{gap_event, gap_emitted}
use Rattle.replay_run.specs.Events.{outcomes_by, outcomes_of}

pub run_more : (s : Setting) (a b c : World) (es fs : List Event) (ds gs : List Done)
    → IsRun s a es ds b
    → IsRun s b fs gs c → IsRun s a (es ++ fs) (ds ++ gs) c
run_more s a b c [] fs [] gs x y = subst (λ (w : World). IsRun s w fs gs c) x y
run_more s a b c [] fs (d ∷ ds) gs x y = absurd x
run_more s a b c (e ∷ es) fs [] gs x y = absurd x
run_more s a b c (e ∷ es) fs (d ∷ ds) gs x y = (x.0, x.1, run_more s x.0 b c es fs ds gs x.2 y)

pub at_venue : (old : World) (place : ℕ) (v : Venue) (d : Done) (new : World)
    (Known : Venue → Type 0)
    → slice_get old.venues place ≡ Some v → Known v
    → MatchOption (slice_get old.venues place) (Stays unknown_venue old d new) Known
at_venue old place v d new Known e k =
    subst (λ (o : Option Venue). MatchOption o (Stays unknown_venue old d new) Known) (sym e) k

-- ---- emitted events

pub outcomes_more : (old : List Entry) (xs ys : List ReplayEvent)
    → outcomes_of old (xs ++ ys) ≡ outcomes_of old xs ++ outcomes_of (entries_of old xs) ys
outcomes_more old [] ys = refl
outcomes_more old (x ∷ xs) ys =
    ap (λ (ds : List Done). outcomes_by old x ++ ds) (outcomes_more (entries_after old x) xs ys)
    ∙ sym (append_assoc (outcomes_by old x) (outcomes_of (entries_after old x) xs)
    (outcomes_of (entries_of (entries_after old x) xs) ys))

-- a gap has no outcome and no entry
pub record IsSilent (hs : List ReplayEvent) : Type 0 where
  pub outcomes : (old : List Entry) → outcomes_of old hs ≡ []
  pub entries : (old : List Entry) → entries_of old hs ≡ old

pub gap_silent : (window : ℕ) (gaps : Bool) (venue : ℕ) (h : History)
    → IsSilent (gap_emitted window gaps venue h)
gap_silent window false venue h = record { outcomes = λ old. refl; entries = λ old. refl }
gap_silent window true venue h = at (gap_of h.present.name window (last_sent h) h.present.packets)
  where
    at : (o : Option Request) → IsSilent (gap_event venue o)
    at None = record { outcomes = λ old. refl; entries = λ old. refl }
    at (Some request) = record { outcomes = λ old. refl; entries = λ old. refl }
