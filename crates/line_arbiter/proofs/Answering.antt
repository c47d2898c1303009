-- The answer to a packet is the one that the definitions over all packets ask for.
use Rattle.std.proofs.Common.{◌≡◌, ℕ, ◌+◌, ◌<◌, ◌≤◌, Bool, true, List, length, Option, Some, None, Result, Ok, Err, sym, ap, subst, ◌∙◌, arith, inl, inr}
use Rattle.std.specs.Prelude.{nat_le, nat_lt, ◌&&◌, IsSome, is_none, if◌then◌else◌}
use Rattle.std.proofs.lemmas.Bool.{cases_lt, le-leb, lt-ltb, le-ltb}
use Rattle.feed_types.specs.declared.item.Item.{Item}
use Rattle.feed_types.specs.declared.line.LineId.{LineId}
use Rattle.mold_packet.specs.Content.{Content, IsContent, last_number}
use Rattle.line_arbiter.specs.declared.outcome.Outcome.{Outcome}
use Rattle.line_arbiter.specs.declared.outcome.Outcome.TheVariants.{Taken, Heartbeat, Ended, Ahead}
use Rattle.line_arbiter.specs.declared.outcome.LineFault.{LineFault}
use Rattle.line_arbiter.specs.declared.outcome.LineFault.TheVariants.{OtherSession, PastEnd, EndMoved, EndTooEarly, Conflict}
use Rattle.line_arbiter.specs.Packets.{Input, carried, end_of}
use Rattle.line_arbiter.specs.Outcomes.{Agrees, Disagrees, IsBefore, IsPast, ToMessages, new_count, IsOutcome, ToEnd, ToHeartbeat, ToKind}
use Rattle.line_arbiter.specs.Holding.{held_at}
use Rattle.line_arbiter.specs.Filling.{HeldAgrees, HeldDisagrees, fresh_to}
use Rattle.line_arbiter.specs.States.{State, held_of}
use Rattle.line_arbiter.specs.Steps.{MessagesStep, EndStep, HeartbeatStep, KindStep, PacketStep}
use Rattle.line_arbiter.proofs.Standing.{Stands}
use Rattle.mold_packet.specs.declared.packet.Kind.{Kind}
use Rattle.mold_packet.specs.declared.packet.Kind.TheVariants as kinds
use Rattle.line_arbiter.specs.laws.Options.{IsSome-unless, some_not_none}
use Rattle.line_arbiter.proofs.Counting.{count_same}
use Rattle.line_arbiter.proofs.Cursors.{cursor, held_is, open_cursor}

agrees : (s : State) (packets : List Input) (p : Content) → Stands s packets
    → HeldAgrees (held_of s) p → Agrees packets s.sent p
agrees s packets p fits h k item within past is message = h k within item
    (held_is s packets fits (p.number + k) past ∙ is) message

disagrees : (s : State) (packets : List Input) (p : Content) → Stands s packets
    → HeldDisagrees (held_of s) p → Disagrees packets s.sent p
disagrees s packets p fits h = record {
  place = h.0;
  in_packet = h.1;
  unsent = unsent;
  item = h.2.0;
  taken = sym (held_is s packets fits (p.number + h.0) unsent) ∙ h.2.1;
  message = h.2.2;
  differs = h.2.3;
} where
  unsent : s.sent < p.number + h.0
  unsent = elim (cases_lt s.sent (p.number + h.0)) [
    | inl lt ↦ lt
    | inr le ↦
        let within : nat_le (p.number + h.0) s.sent ≡ true = le-leb (p.number + h.0) s.sent le in
        let gone : Some h.2.0 ≡ None = sym h.2.1 ∙ fits.held (p.number + h.0)
        ∙ ap (λ (b : Bool). if b then None else carried packets (p.number + h.0)) within in
        absurd cc
  ]

-- all numbers up to the last one sent were taken, but for the end's
sent_taken : (s : State) (packets : List Input) (m : ℕ) → Stands s packets → 1 ≤ m → m ≤ s.sent
    → ((e : ℕ) → end_of packets ≡ Some e → m < e) → IsSome (carried packets m)
sent_taken s packets m fits one most before = elim (cursor s packets fits) [
  | inl within ↦ fits.front.all m one (omega arith)
  | inr ended ↦ let e = ended.0 in let b = before (s.front + 1) ended.1
      in fits.front.all m one (omega arith)
]

-- the numbers past the last item sent that are not held are those that were not taken
pub new_is : (s : State) (packets : List Input) (p : Content) → Stands s packets → 1 ≤ p.number
    → IsBefore (end_of packets) (last_number p) → fresh_to (length p.messages) s.sent (held_of s)
    p ≡ new_count packets p
new_is s packets p fits one before = count_same (λ m. nat_lt s.sent m
    && is_none (held_at (held_of s) m)) (λ m. is_none (carried packets m)) p.number
    (length p.messages) (λ m low high.
    elim (cases_lt s.sent m) [
      | inl lt ↦ ap (λ (b : Bool). b && is_none (held_at (held_of s) m)) (lt-ltb s.sent m lt)
          ∙ ap (λ (o : Option Item). is_none o) (held_is s packets fits m lt)
      | inr le ↦ ap (λ (b : Bool). b && is_none (held_at (held_of s) m)) (le-ltb s.sent m le)
          ∙ sym (some_not_none (carried packets m) (sent_taken s packets m fits (omega arith) le
          (λ e is. let b = before e is in omega arith)))
    ])

pub before_is : (s : State) (packets : List Input) (n : ℕ) → Stands s packets → IsBefore s.end n
    → IsBefore (end_of packets) n
before_is s packets n fits h e is = h e (fits.end ∙ is)

-- messages
messages_answer : (line : LineId) (old new : State) (packets : List Input) (p : Content)
    (answer : Result Outcome LineFault) → 1 ≤ p.number → Stands old packets
    → MessagesStep line old new p answer → ToMessages old.window old.sent packets p answer
messages_answer line old new packets p (Err PastEnd) one fits h =
    subst (λ (o : Option ℕ). IsPast o (last_number p)) fits.end h.1
messages_answer line old new packets p (Ok Ahead) one fits h =
    (before_is old packets (last_number p) fits h.1, h.2)
messages_answer line old new packets p (Err Conflict) one fits h =
    (before_is old packets (last_number p) fits h.1, h.2, disagrees old packets p fits h.3)
messages_answer line old new packets p (Ok (Taken fresh repeated)) one fits h = (
  before_is old packets (last_number p) fits h.1,
  h.2,
  agrees old packets p fits h.3,
  h.4
      ∙ new_is old packets p fits one (before_is old packets (last_number p) fits h.1),
  h.5,
)
messages_answer line old new packets p (Ok Heartbeat) one fits h = h
messages_answer line old new packets p (Ok Ended) one fits h = h
messages_answer line old new packets p (Err OtherSession) one fits h = h
messages_answer line old new packets p (Err EndMoved) one fits h = h
messages_answer line old new packets p (Err EndTooEarly) one fits h = h

-- a heartbeat
heartbeat_answer : (old new : State) (packets : List Input) (n : ℕ)
    (answer : Result Outcome LineFault) → Stands old packets → HeartbeatStep old new n answer
    → ToHeartbeat packets n answer
heartbeat_answer old new packets n (Err PastEnd) fits h = (h.1, sym fits.end ∙ h.2, h.3)
heartbeat_answer old new packets n (Ok Heartbeat) fits h = λ e is. h.1 e (fits.end ∙ is)
heartbeat_answer old new packets n (Ok Ended) fits h = h
heartbeat_answer old new packets n (Ok Ahead) fits h = h
heartbeat_answer old new packets n (Ok (Taken fresh repeated)) fits h = h
heartbeat_answer old new packets n (Err OtherSession) fits h = h
heartbeat_answer old new packets n (Err EndMoved) fits h = h
heartbeat_answer old new packets n (Err EndTooEarly) fits h = h
heartbeat_answer old new packets n (Err Conflict) fits h = h

-- what is held was taken
taken_from_held : (s : State) (packets : List Input) (m : ℕ) → Stands s packets
    → IsSome (held_at (held_of s) m) → IsSome (carried packets m)
taken_from_held s packets m fits h = IsSome-unless (nat_le m s.sent) (carried packets m)
    (subst (λ o. IsSome o) (fits.held m) h)

-- each number that was taken is below n where the front and all that is held are
all_below : (s : State) (packets : List Input) (n : ℕ) → Stands s packets → s.end ≡ None
    → s.front < n → ((m : ℕ) → IsSome (held_at (held_of s) m) → m < n) → (m : ℕ)
    → IsSome (carried packets m) → m < n
all_below s packets n fits is front held m h = elim (cases_lt s.sent m) [
  | inl lt ↦ held m (subst (λ o. IsSome o) (sym (held_is s packets fits m lt)) h)
  | inr le ↦ let k = open_cursor s packets fits is in omega arith
]

-- an end of session
end_answer : (old new : State) (packets : List Input) (n : ℕ) (answer : Result Outcome LineFault)
    → 1 ≤ n → Stands old packets → EndStep old new n answer → ToEnd packets n answer
end_answer old new packets n (Err EndMoved) one fits h = (h.1, sym fits.end ∙ h.2, h.3)
end_answer old new packets n (Err EndTooEarly) one fits h =
    let found : (m : ℕ) × (n ≤ m) × IsSome (carried packets m) = elim h.2 [
      | inl front ↦ (old.front, front, fits.front.all old.front (omega arith) (omega arith))
      | inr there ↦ (there.0, there.1, taken_from_held old packets there.0 fits there.2)
    ] in
    (sym fits.end ∙ h.1, found.0, found.1, found.2)
end_answer old new packets n (Ok Ended) one fits h = elim h [
  | inl again ↦ inl (sym fits.end ∙ again.1)
  | inr first ↦ inr (sym fits.end ∙ first.1, all_below old packets n fits first.1 first.2 first.3)
]
end_answer old new packets n (Ok Heartbeat) one fits h = h
end_answer old new packets n (Ok Ahead) one fits h = h
end_answer old new packets n (Ok (Taken fresh repeated)) one fits h = h
end_answer old new packets n (Err OtherSession) one fits h = h
end_answer old new packets n (Err PastEnd) one fits h = h
end_answer old new packets n (Err Conflict) one fits h = h

kind_answer : (kind : Kind) (line : LineId) (old new : State) (packets : List Input) (p : Content)
    (answer : Result Outcome LineFault) → 1 ≤ p.number → Stands old packets
    → KindStep kind line old new p answer → ToKind kind old.window old.sent packets p answer
kind_answer kinds.Messages line old new packets p answer one fits h = messages_answer line old new
    packets p answer one fits h
kind_answer kinds.Heartbeat line old new packets p answer one fits h = heartbeat_answer old new
    packets p.number answer fits h
kind_answer kinds.End line old new packets p answer one fits h = end_answer old new packets
    p.number answer one fits h

pub packet_answer : (line : LineId) (old new : State) (packets : List Input) (p : Content)
    (answer : Result Outcome LineFault) → IsContent p → Stands old packets
    → PacketStep line old new p answer → IsOutcome old.session old.window old.sent packets p answer
packet_answer line old new packets p answer content fits h = elim h [
  | inl other ↦ inl (other.0, other.1)
  | inr same ↦ inr (
    same.0,
    kind_answer p.kind line old new packets p answer
        content.from_one fits same.1,
  )
]
