-- One event on its part of the world (the steps of feed_steps, and two more), and that part put
-- back in its place. The step (OneStep.antt) chooses among these. Refusals are listed in the order
-- in which they are looked for.
use Rattle.std.specs.Prelude.{◌≡◌, ℕ, ◌+◌, Bool, nat_le, List, [], ◌∷◌, ◌++◌, length, MatchOption, Option, Some, None, slice_get, slice_set, if◌then◌else◌}
use Rattle.feed_types.specs.declared.line.LineId.{LineId}
use Rattle.feed_types.specs.declared.journal.Entry.{Entry}
use Rattle.feed_types.specs.declared.journal.Entry.TheVariants as entry
use Rattle.mold_packet.specs.declared.fault.PacketFault.{PacketFault}
use Rattle.mold_packet.specs.Content.{Content, Spells}
use Rattle.mold_packet.specs.Faults.{HasFault, code_of}
use Rattle.line_arbiter.specs.Additions.{AddsArrival}
use Rattle.line_arbiter.specs.Histories.{History}
use Rattle.filter_terms.specs.declared.terms.Terms.{Terms}
use Rattle.nbbo_book.specs.Eligible.{is_so}
use Rattle.feed_steps.specs.declared.event.Done.{Done}
use Rattle.feed_steps.specs.declared.event.Done.TheVariants as done
use Rattle.feed_steps.specs.Steps.{journal_full, unknown_venue, already_so, too_many_subscribers, unknown_subscriber, Transition, Refused, Changes, Stays, Applies, packet_done}
use Rattle.feed_core.specs.Worlds.{Lane, empty_lane, Venue, session_sent, Subscriber, World}

-- ---- what goes into a lane next, and what is taken out next

-- the first item of the list that was not put in yet
abbrev pub next_in : {X : Type 0} → List X → Lane X → Option X
next_in all lane = slice_get all (length lane.sent)

-- the first item that was put in and not taken out
abbrev pub next_out : {X : Type 0} → Lane X → Option X
next_out lane = slice_get lane.sent (length lane.received)

-- ---- each event on its part

-- Declare, on the journal: adds an entry, unless that is declared already or the journal is full.
abbrev pub declare_help : ℕ → ℕ → Bool → List Entry → Transition (List Entry)
declare_help journal venue on entries =
    if is_so entries venue on then Refused already_so else
    (if nat_le journal (length entries) then Refused journal_full else
    Changes (done.Declared (length entries + 1)) (entries ++ entry.SelfHelp venue on ∷ []))

-- Subscribe, on the subscribers: adds one with these terms, to whom nothing was offered, up to 32.
abbrev pub add_subscriber : Terms → List Subscriber → Transition (List Subscriber)
add_subscriber terms subscribers =
    if nat_le 32 (length subscribers) then Refused too_many_subscribers else
    Changes (done.Subscribed (length subscribers))
    (subscribers ++ record { terms = terms; lane = empty_lane } ∷ [])

-- ---- the part in its place

abbrev pub put_venue : World → ℕ → Venue → World
put_venue w place v = record w { venues = slice_set w.venues place v }

abbrev pub put_subscriber : World → ℕ → Subscriber → World
put_subscriber w id x = record w { subscribers = slice_set w.subscribers id x }

-- ---- what the step cites

-- the datagram is no packet, and nothing changes
pub record RefusesBytes (bytes : List ℕ) (old : World) (outcome : Done) (new : World) : Type 0 where
  pub fault : PacketFault
  pub has : HasFault bytes fault
  pub is : Stays (done.Refused (code_of fault)) old outcome new

-- the venue's lines answer, and the answer is added to its history
pub record Answers {R : Type 0} (Adds : R → History → Type 0) (done_of : R → Done) (place : ℕ)
    (v : Venue) (old : World) (outcome : Done) (new : World) : Type 0 where
  pub answer : R
  pub history : History
  pub adds : Adds answer history
  pub outcome_is : outcome ≡ done_of answer
  pub new_is : new ≡ put_venue old place (record v { history = history })

-- the datagram is a packet, and the venue's lines answer it
pub record AnswersPacket (window place : ℕ) (v : Venue) (line : LineId) (bytes : List ℕ)
    (old : World) (outcome : Done) (new : World) : Type 0 where
  pub packet : Content
  pub rest : List ℕ
  pub spells : Spells bytes packet rest
  pub answers : Answers (AddsArrival window (session_sent v) line packet v.history) packet_done
      place v old outcome new

-- the next filter is used, also where there is no place for its subscriber
abbrev pub AnswersSubscribe : Option Terms → World → Done → World → Type 0
AnswersSubscribe None old outcome new = Stays done.NoFilter old outcome new
AnswersSubscribe (Some terms) old outcome new =
    let after : World = record old { used = old.used + 1 } in
    Applies (λ xs. record after { subscribers = xs })
    (add_subscriber terms old.subscribers) after outcome new

-- the venue or the subscriber isn't there: that is looked at first of all
abbrev pub AtVenue : World → ℕ → Done → World → (Venue → Type 0) → Type 0
AtVenue old place outcome new Known =
    MatchOption (slice_get old.venues place) (Stays unknown_venue old outcome new) Known

abbrev pub AtSubscriber : World → ℕ → Done → World → (Subscriber → Type 0) → Type 0
AtSubscriber old id outcome new Known =
    MatchOption (slice_get old.subscribers id) (Stays unknown_subscriber old outcome new) Known
