-- A packet of the session, where what was taken before is the session's, is refused only as an end
-- that is too early, once messages past it were given up.
use Rattle.std.proofs.Common.{◌≡◌, ℕ, ◌+◌, ◌-◌, ◌<◌, ◌≤◌, List, length, Some, Result, Ok, Err, refl, sym, ◌∙◌, arith, inl, inr}
use Rattle.std.specs.Prelude.{◌⊎◌, IsOk}
use Rattle.std.proofs.lemmas.Option.{slice_get_within}
use Rattle.feed_types.specs.declared.item.Item.{Item}
use Rattle.feed_types.specs.Sessions.{Session}
use Rattle.line_arbiter.specs.Packets.{Input, end_of, first_of, message_item}
use Rattle.mold_packet.specs.Content.{last_number, Content, IsContent, KindFits}
use Rattle.line_arbiter.specs.Outcomes.{IsPast, Disagrees, ToMessages, ToHeartbeat, ToEnd, ToKind, IsOutcome}
use Rattle.line_arbiter.specs.OfSession.{IsOfSession}
use Rattle.mold_packet.specs.declared.packet.Kind.{Kind}
use Rattle.mold_packet.specs.declared.packet.Kind.TheVariants as kinds
use Rattle.line_arbiter.specs.declared.outcome.Outcome.{Outcome}
use Rattle.line_arbiter.specs.declared.outcome.LineFault.{LineFault}
use Rattle.line_arbiter.specs.declared.outcome.LineFault.TheVariants.{OtherSession, PastEnd, EndMoved, EndTooEarly, Conflict}
use Rattle.line_arbiter.specs.laws.OfSession.{IsPartOf, IsTakenOf, first_within, taken_past}

module _ (s : Session) (packets : List Input) (taken : IsTakenOf s packets) where
  not_past : (p : Content) → IsOfSession s p → 1 ≤ length p.messages
      → IsPast (end_of packets) (last_number p) → ⊥
  not_past p of some past =
      let end = taken.end past.at past.announced in
      let last =
      slice_get_within s.items (p.number + (length p.messages - 1) - 1)
      (message_item p (length p.messages - 1))
      (of.messages (length p.messages - 1) (omega arith)) in
      let k = past.past in
      omega arith

  agrees : (sent : ℕ) (p : Content) → IsOfSession s p → Disagrees packets sent p → ⊥
  agrees sent p of other =
      let mine = (taken.item (p.number + other.place) other.item other.taken other.message).1 in
      other.differs (same_item other.item (message_item p other.place)
      (sym mine ∙ of.messages other.place other.in_packet))
    where
      same_item : (x y : Item) → Some x ≡ Some y → x ≡ y
      same_item x y h = cc

  messages_accepted : (window sent : ℕ) (p : Content) (answer : Result Outcome LineFault)
      → IsOfSession s p → 1 ≤ length p.messages → ToMessages window sent packets p answer
      → IsOk answer
  messages_accepted window sent p (Ok outcome) of some h = refl
  messages_accepted window sent p (Err PastEnd) of some h = absurd (not_past p of some h)
  messages_accepted window sent p (Err Conflict) of some h = absurd (agrees sent p of h.2)
  messages_accepted window sent p (Err OtherSession) of some h = absurd h
  messages_accepted window sent p (Err EndMoved) of some h = absurd h
  messages_accepted window sent p (Err EndTooEarly) of some h = absurd h

  heartbeat_accepted : (n : ℕ) (answer : Result Outcome LineFault) → n ≤ length s.items + 1
      → ToHeartbeat packets n answer → IsOk answer
  heartbeat_accepted n (Ok outcome) of h = refl
  heartbeat_accepted n (Err PastEnd) of h =
      let end = taken.end h.0 h.1 in let k = h.2 in absurd (omega arith)
  heartbeat_accepted n (Err OtherSession) of h = absurd h
  heartbeat_accepted n (Err EndMoved) of h = absurd h
  heartbeat_accepted n (Err EndTooEarly) of h = absurd h
  heartbeat_accepted n (Err Conflict) of h = absurd h

  -- messages past the session's end were given up
  abbrev IsPassed : Type 0
  IsPassed = length s.items + 1 < first_of packets

  end_accepted : (n : ℕ) (answer : Result Outcome LineFault) → n ≡ length s.items + 1
      → ToEnd packets n answer → IsOk answer ⊎ ((answer ≡ Err EndTooEarly) × IsPassed)
  end_accepted n (Ok outcome) of h = inl refl
  end_accepted n (Err EndMoved) of h = absurd (h.2 (taken.end h.0 h.1 ∙ sym of))
  end_accepted n (Err EndTooEarly) of h =
      let above = h.2 in
      let below = taken_past s packets taken h.1 h.3 (omega arith) in
      inr (refl, omega arith)
  end_accepted n (Err OtherSession) of h = absurd h
  end_accepted n (Err PastEnd) of h = absurd h
  end_accepted n (Err Conflict) of h = absurd h

  kind_accepted : (kind : Kind) (window sent : ℕ) (p : Content) (answer : Result Outcome LineFault)
      → p.kind ≡ kind → KindFits kind p.messages → IsOfSession s p
      → ToKind kind window sent packets p answer
      → IsOk answer ⊎ ((p.kind ≡ kinds.End) × (answer ≡ Err EndTooEarly) × IsPassed)
  kind_accepted kinds.Messages window sent p answer is fits of h =
      inl (messages_accepted window sent p answer of fits.0 h)
  kind_accepted kinds.Heartbeat window sent p answer is fits of h =
      inl (heartbeat_accepted p.number answer (of.heartbeat is) h)
  kind_accepted kinds.End window sent p answer is fits of h =
      elim (end_accepted p.number answer (of.end is) h)
      [ inl ok ↦ inl ok | inr early ↦ inr (is, early.0, early.1) ]

  pub accepted_or_early : (window sent : ℕ) (p : Content) (answer : Result Outcome LineFault)
      → IsContent p → IsOfSession s p → IsOutcome s.name window sent packets p answer
      → IsOk answer ⊎ ((p.kind ≡ kinds.End) × (answer ≡ Err EndTooEarly)
      × (length s.items + 1 < first_of packets))
  accepted_or_early window sent p answer content of h = elim h [
    | inl other ↦ absurd (other.0 of.name)
    | inr same ↦ kind_accepted p.kind window sent p answer refl content.fits of same.1
  ]

-- where the skips went on within the session none is refused
pub accepted : (s : Session) (packets : List Input) → IsPartOf s packets → (window sent : ℕ)
    (p : Content) (answer : Result Outcome LineFault) → IsContent p → IsOfSession s p
    → IsOutcome s.name window sent packets p answer → IsOk answer
accepted s packets part window sent p answer content of h =
    elim (accepted_or_early s packets part.taken window sent p answer content of h) [
      | inl ok ↦ ok
      | inr early ↦
          let within = first_within s packets part.within in
          let past = early.2 in
          absurd (omega arith)
    ]
