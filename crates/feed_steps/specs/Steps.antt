-- One event on its part of the world: the part that it looks at, and that in a running feed is
-- under one lock or at one end of a lane. The step of the reference machine (feed_core,
-- OneStep.antt) puts that part back in its place. Refusals are listed in the order in which they
-- are
-- looked for.
use Rattle.std.specs.Prelude.{◌≡◌, ℕ, ◌+◌, Bool, true, false, nat_le, List, [], ◌∷◌, ◌++◌, length, Option, Some, None, Result, Ok, Err, if◌then◌else◌}
use Rattle.feed_types.specs.declared.item.Numbered.{Numbered}
use Rattle.feed_types.specs.declared.journal.Entry.{Entry}
use Rattle.feed_types.specs.declared.journal.Entry.TheVariants as entry
use Rattle.feed_types.specs.declared.journal.Notice.{Notice}
use Rattle.line_arbiter.specs.declared.outcome.Outcome.{Outcome}
use Rattle.line_arbiter.specs.declared.outcome.LineFault.{LineFault}
use Rattle.line_arbiter.specs.declared.faults.RenewFault.{RenewFault}
use Rattle.line_arbiter.specs.declared.faults.SkipFault.{SkipFault}
use Rattle.line_arbiter.specs.Codes.{line_fault_code, renew_fault_code, skip_fault_code}
use Rattle.feed_steps.specs.declared.event.Done.{Done}
use Rattle.feed_steps.specs.declared.event.Done.TheVariants as done
use Rattle.feed_steps.specs.declared.unsent.Unsent.{Unsent}
use Rattle.feed_steps.specs.declared.unsent.Unsent.TheVariants.{Nothing, LaneFull}

-- the machine's own refusals, by their codes
abbrev pub journal_full : Done
journal_full = done.Refused 17

abbrev pub unknown_venue : Done
unknown_venue = done.Refused 18

abbrev pub already_so : Done
already_so = done.Refused 19

abbrev pub too_many_subscribers : Done
too_many_subscribers = done.Refused 20

abbrev pub unknown_subscriber : Done
unknown_subscriber = done.Refused 21

-- The effect of an event on its part of the world: an outcome that leaves the part unchanged, or an
-- outcome and the new part.
pub data Transition (X : Type 0) : Type 0 where
  Refused : Done → Transition X
  Changes : Done → X → Transition X

-- ---- each event on its part

-- Packet, Renew and Skip, on a venue's history: AddsArrival, AddsRenewal and AddsSkip of
-- line_arbiter.

-- Push, on what was sent of a venue: adds its next item, unless the lane is full.
abbrev pub push_next : Bool → Option Numbered → List Numbered → Transition (List Numbered)
push_next full None sent = Refused done.NothingReady
push_next full (Some x) sent =
    if full then Refused done.LaneFull else Changes (done.Pushed x.number) (sent ++ x ∷ [])

-- Consume, on what was received from a venue and on the journal: moves the next item of the lane,
-- unless the journal is full.
pub record Intake : Type 0 where
  pub received : List Numbered
  pub entries : List Entry

abbrev pub journal_item : ℕ → Option Numbered → Intake → Transition Intake
journal_item venue None old = Refused done.LaneEmpty
journal_item venue (Some x) old = Changes (done.Consumed (length old.entries + 1)) (record {
  received = old.received ++ x ∷ [];
  entries = old.entries ++ entry.Consumed venue x ∷ [];
})

abbrev pub consume_next : ℕ → ℕ → Option Numbered → Intake → Transition Intake
consume_next journal venue next old =
    if nat_le journal (length old.entries) then Refused journal_full else
    journal_item venue next old

-- Offer, on what was sent to a subscriber: adds the next notice that it wants, unless the lane is
-- full.
abbrev pub offer_next : Bool → Option Notice → List Notice → Transition (List Notice)
offer_next full None sent = Refused done.NothingWanted
offer_next full (Some n) sent =
    if full then Refused done.LaneFull else Changes (done.Offered n.number) (sent ++ n ∷ [])

-- Dequeue, on what a subscriber received: adds the next notice of its lane.
abbrev pub dequeue_next : Option Notice → List Notice → Transition (List Notice)
dequeue_next None received = Refused done.LaneEmpty
dequeue_next (Some n) received = Changes (done.Dequeued n.number) (received ++ n ∷ [])

-- ---- a part, before and after

-- the world, or a part of it, is unchanged
abbrev pub Stays : {W : Type 0} → Done → W → Done → W → Type 0
Stays refusal old outcome new = (outcome ≡ refusal) × (new ≡ old)

-- the world is unchanged, or it is the old one with its part changed
abbrev pub Applies : {X W : Type 0} → (X → W) → Transition X → W → Done → W → Type 0
Applies put (Refused d) old outcome new = Stays d old outcome new
Applies put (Changes d x) old outcome new = (outcome ≡ d) × (new ≡ put x)

-- the same of the part alone
abbrev pub AppliesTo : {X : Type 0} → Transition X → X → Done → X → Type 0
AppliesTo came old outcome new = Applies (λ x. x) came old outcome new

-- ---- the outcomes of answers

abbrev pub packet_done : Result Outcome LineFault → Done
packet_done (Ok outcome) = done.Packet outcome
packet_done (Err fault) = done.Refused (line_fault_code fault)

abbrev pub renewal_done : Result ℕ RenewFault → Done
renewal_done (Ok ordinal) = done.Renewed ordinal
renewal_done (Err fault) = done.Refused (renew_fault_code fault)

abbrev pub skip_done : ℕ → Result (Unit {0}) SkipFault → Done
skip_done number (Ok _) = done.Skipped number
skip_done number (Err fault) = done.Refused (skip_fault_code fault)

-- a lane refused what was pushed
abbrev pub is_lane_full : Result ℕ Unsent → Bool
is_lane_full (Ok number) = false
is_lane_full (Err Nothing) = false
is_lane_full (Err LaneFull) = true
