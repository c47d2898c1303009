-- What is so once a packet has come: the slots, and what its answer says.
use Rattle.std.proofs.Common.{◌≡◌, ℕ, ◌+◌, ◌<◌, ◌≤◌, Bool, true, false, List, [], ◌∷◌, ◌++◌, length, Option, Some, None, Result, Ok, Err, refl, sym, ap, ◌∙◌, arith, inl, inr}
use Rattle.std.specs.Prelude.{if◌then◌else◌, ◌&&◌}
use Rattle.std.specs.Option.{option_map, option_or}
use Rattle.std.proofs.lemmas.Bool.{cases_lt, false≢true}
use Rattle.mold_packet.specs.Content.{Content, last_number}
use Rattle.mold_packet.specs.declared.packet.Kind.{Kind}
use Rattle.mold_packet.specs.declared.packet.Kind.TheVariants as kinds
use Rattle.line_arbiter.specs.declared.outcome.Outcome.{Outcome}
use Rattle.line_arbiter.specs.declared.outcome.Outcome.TheVariants.{Taken, Heartbeat, Ended, Ahead}
use Rattle.line_arbiter.specs.declared.outcome.LineFault.{LineFault}
use Rattle.line_arbiter.specs.Packets.{Arrival, Input, Arrived, brings, carried, end_of, has_number, is_ended, is_taken, item_brought}
use Rattle.line_arbiter.specs.Streams.{front_of}
use Rattle.line_arbiter.specs.Outcomes.{IsBefore, IsOutcome, ToKind}
use Rattle.line_arbiter.specs.laws.Options.{map_or, or_none, picked}
use Rattle.line_arbiter.specs.laws.Bringing.{carried-push, end_of-push}
use Rattle.line_arbiter.specs.laws.Fronts.{front_is, not_in, not_none}
use Rattle.venue_normaliser.specs.declared.message_slot.MessageSlot.{MessageSlot}
use Rattle.venue_normaliser.specs.Brought.{kept_bytes, message_brought, taken_message}
use Rattle.venue_normaliser.specs.Slots.{KeepsPacket, KeepsTaken, kept_of_packet}
use Rattle.venue_normaliser.proofs.Taken.{front_grows, taken-push}

-- ---- the slots, when a packet has come

pub arrival_keeps : (old new : List MessageSlot) (sent : ℕ) (packets : List Input) (a : Arrival)
    → is_taken a.answer ≡ true → last_number a.packet ≤ sent + length old
    → length new ≡ length old → KeepsTaken old sent packets → KeepsPacket sent a.packet old new
    → KeepsTaken new sent (packets ++ Arrived a ∷ [])
arrival_keeps old new sent packets a was_taken within len keeps kept =
    let brought : (m : ℕ) → taken_message (packets ++ Arrived a ∷ []) m
    ≡ option_or (taken_message packets m)
    (if has_number a.packet m then Some (message_brought (Arrived a) m) else None) =
    λ m. taken-push packets (Arrived a) m
    ∙ ap (λ (b : Bool). option_or (taken_message packets m)
    (if b && has_number a.packet m then Some (message_brought (Arrived a) m) else None))
    was_taken in
    record {
      each = λ m past.
          kept within (λ k far. keeps.each k (omega arith)
          ∙ ap (option_map kept_bytes) (keeps.beyond k far)) m past
          ∙ ap (λ (o : Option (List ℕ)). option_or o (kept_of_packet a.packet m))
          (keeps.each m past)
          ∙ ap (option_or (option_map kept_bytes (taken_message packets m)))
          (sym (picked kept_bytes (has_number a.packet m) (message_brought (Arrived a) m)))
          ∙ sym (map_or kept_bytes (taken_message packets m)
          (if has_number a.packet m then Some (message_brought (Arrived a) m) else None))
          ∙ ap (option_map kept_bytes) (sym (brought m));
      beyond = λ m far.
          brought m
          ∙ ap (λ (b : Bool). option_or (taken_message packets m)
          (if b then Some (message_brought (Arrived a) m) else None))
          (not_in a.packet m (omega arith))
          ∙ or_none (taken_message packets m)
          ∙ keeps.beyond m (omega arith);
    }

untaken : (packets : List Input) (a : Arrival) (m : ℕ) → is_taken a.answer ≡ false
    → taken_message (packets ++ Arrived a ∷ []) m ≡ taken_message packets m
untaken packets a m not =
    taken-push packets (Arrived a) m
    ∙ ap (λ (b : Bool). option_or (taken_message packets m)
    (if b && has_number a.packet m then Some (message_brought (Arrived a) m) else None)) not
    ∙ or_none (taken_message packets m)

pub untaken_keeps : (slots : List MessageSlot) (sent : ℕ) (packets : List Input) (a : Arrival)
    → is_taken a.answer ≡ false → KeepsTaken slots sent packets
    → KeepsTaken slots sent (packets ++ Arrived a ∷ [])
untaken_keeps slots sent packets a not keeps = record {
  each = λ m past. keeps.each m past
      ∙ ap (option_map kept_bytes) (sym (untaken packets a m not));
  beyond = λ m far. untaken packets a m not ∙ keeps.beyond m far;
}

past_packet : (packets : List Input) (a : Arrival) (m : ℕ) → last_number a.packet < m
    → taken_message (packets ++ Arrived a ∷ []) m ≡ taken_message packets m
past_packet packets a m past =
    taken-push packets (Arrived a) m
    ∙ ap (λ (b : Bool). option_or (taken_message packets m)
    (if b then Some (message_brought (Arrived a) m) else None))
    (and_false (is_taken a.answer) (has_number a.packet m) (not_in a.packet m past))
    ∙ or_none (taken_message packets m)
  where
    and_false : (b c : Bool) → c ≡ false → (b && c) ≡ false
    and_false true c e = e
    and_false false c e = refl

-- a packet went past the slots
pub next_keeps : (slots : List MessageSlot) (sent : ℕ) (packets : List Input) (a : Arrival)
    → sent ≤ last_number a.packet → KeepsTaken slots sent packets
    → KeepsTaken slots (last_number a.packet) (packets ++ Arrived a ∷ [])
next_keeps slots sent packets a le keeps = record {
  each = λ m past. keeps.each m (omega arith)
      ∙ ap (option_map kept_bytes) (sym (past_packet packets a m past));
  beyond = λ m far. past_packet packets a m (omega arith) ∙ keeps.beyond m (omega arith);
}

-- ---- what an answer says of a packet that was taken

pub record WasTaken (window sent : ℕ) (packets : List Input) (p : Content) : Type 0 where
  pub before : IsBefore (end_of packets) (last_number p)
  pub within : last_number p ≤ sent + window

by_kind : (kind : Kind) (window sent : ℕ) (packets : List Input) (p : Content)
    (answer : Result Outcome LineFault) → ToKind kind window sent packets p answer
    → is_taken answer ≡ true → WasTaken window sent packets p
by_kind kinds.Messages window sent packets p (Ok (Taken new repeated)) h e =
    record { before = h.0; within = h.1 }
by_kind kinds.Messages window sent packets p (Ok Heartbeat) h e = absurd (false≢true e)
by_kind kinds.Messages window sent packets p (Ok Ended) h e = absurd (false≢true e)
by_kind kinds.Messages window sent packets p (Ok Ahead) h e = absurd (false≢true e)
by_kind kinds.Messages window sent packets p (Err fault) h e = absurd (false≢true e)
by_kind kinds.Heartbeat window sent packets p (Ok (Taken new repeated)) h e = absurd h
by_kind kinds.Heartbeat window sent packets p (Ok Heartbeat) h e = absurd (false≢true e)
by_kind kinds.Heartbeat window sent packets p (Ok Ended) h e = absurd (false≢true e)
by_kind kinds.Heartbeat window sent packets p (Ok Ahead) h e = absurd (false≢true e)
by_kind kinds.Heartbeat window sent packets p (Err fault) h e = absurd (false≢true e)
by_kind kinds.End window sent packets p (Ok (Taken new repeated)) h e = absurd h
by_kind kinds.End window sent packets p (Ok Heartbeat) h e = absurd (false≢true e)
by_kind kinds.End window sent packets p (Ok Ended) h e = absurd (false≢true e)
by_kind kinds.End window sent packets p (Ok Ahead) h e = absurd (false≢true e)
by_kind kinds.End window sent packets p (Err fault) h e = absurd (false≢true e)

pub was_taken : (session : List ℕ) (window sent : ℕ) (packets : List Input) (p : Content)
    (answer : Result Outcome LineFault) → IsOutcome session window sent packets p answer
    → is_taken answer ≡ true → WasTaken window sent packets p
was_taken session window sent packets p answer (inl other) taken =
    absurd (false≢true (ap is_taken (sym other.1) ∙ taken))
was_taken session window sent packets p answer (inr here) taken =
    by_kind p.kind window sent packets p answer here.1 taken

-- ---- after the end nothing more comes

pub ended_stays : (session : List ℕ) (window sent : ℕ) (packets : List Input) (a : Arrival)
    → IsOutcome session window sent packets a.packet a.answer
    → end_of packets ≡ Some (front_of packets + 1)
    → (front_of (packets ++ Arrived a ∷ []) ≡ front_of packets)
    × (end_of (packets ++ Arrived a ∷ []) ≡ end_of packets)
ended_stays session window sent packets a outcome ended =
    let next = front_of packets + 1 in
    let not_brought : (brings next (Arrived a)) ≡ false = by_answer (is_taken a.answer) refl in
    let gone : carried (packets ++ Arrived a ∷ []) next ≡ None =
    carried-push packets (Arrived a) next
    ∙ ap (λ (b : Bool). option_or (carried packets next)
    (if b then Some (item_brought (Arrived a) next) else None)) not_brought
    ∙ or_none (carried packets next) ∙ (front_is packets).next in
    let grows = front_grows packets (Arrived a) in
    let most : front_of (packets ++ Arrived a ∷ []) ≤ front_of packets =
    elim (cases_lt (front_of packets) (front_of (packets ++ Arrived a ∷ []))) [
      | inr le ↦ le
      | inl lt ↦ absurd (not_none (carried (packets ++ Arrived a ∷ []) next)
          ((front_is (packets ++ Arrived a ∷ [])).all next (omega arith) (omega arith)) gone)
    ] in (
      omega arith,
      end_of-push packets a
          ∙ ap (λ (o : Option ℕ). option_or o
          (if is_ended a.answer then Some a.packet.number else None)) ended
          ∙ sym ended,
    )
  where
    by_answer : (b : Bool) → is_taken a.answer ≡ b
        → (is_taken a.answer && has_number a.packet (front_of packets + 1)) ≡ false
    by_answer true e =
        let past = (was_taken session window sent packets a.packet a.answer outcome e).before
        (front_of packets + 1) ended in
        ap (λ (b : Bool). b && has_number a.packet (front_of packets + 1)) e
        ∙ not_in a.packet (front_of packets + 1) past
    by_answer false e = ap (λ (b : Bool). b && has_number a.packet (front_of packets + 1)) e
