-- A packet has one answer, and a renewal.
use Rattle.std.proofs.Common.{◌≡◌, ℕ, ◌+◌, List, length, Option, Some, None, Result, Ok, Err, inl, inr, refl, sym, ap, ◌∙◌, arith}
use Rattle.mold_packet.specs.declared.packet.Kind.{Kind}
use Rattle.mold_packet.specs.declared.packet.Kind.TheVariants as kinds
use Rattle.mold_packet.specs.Content.{Content, last_number}
use Rattle.line_arbiter.specs.declared.outcome.Outcome.{Outcome}
use Rattle.line_arbiter.specs.declared.outcome.Outcome.TheVariants.{Taken, Heartbeat, Ended, Ahead}
use Rattle.line_arbiter.specs.declared.outcome.LineFault.{LineFault}
use Rattle.line_arbiter.specs.declared.outcome.LineFault.TheVariants.{OtherSession, PastEnd, EndMoved, EndTooEarly, Conflict}
use Rattle.line_arbiter.specs.declared.faults.RenewFault.{RenewFault}
use Rattle.line_arbiter.specs.declared.faults.RenewFault.TheVariants.{NotEnded, SessionUsed, TooManySessions}
use Rattle.line_arbiter.specs.Renewals.{IsRenewal}
use Rattle.line_arbiter.specs.Packets.{Input, end_of}
use Rattle.line_arbiter.specs.Outcomes.{IsPast, IsBefore, Disagrees, Agrees, ToMessages, ToHeartbeat, ToEnd, ToKind, IsOutcome}

pub same_some : (a b : ℕ) (o : Option ℕ) → o ≡ Some a → o ≡ Some b → a ≡ b
same_some a b o p q = let e : Some a ≡ Some b = sym p ∙ q in cc

past_or_before : (packets : List Input) (n : ℕ) → IsPast (end_of packets) n
    → IsBefore (end_of packets) n → ⊥
past_or_before packets n past before =
    let b = before past.at past.announced in let p = past.past in omega arith

agrees_or_not : (packets : List Input) (sent : ℕ) (p : Content) → Disagrees packets sent p
    → Agrees packets sent p → ⊥
agrees_or_not packets sent p d a =
    d.differs (a d.place d.item d.in_packet d.unsent d.taken d.message)

taken : ℕ → ℕ → Result Outcome LineFault
taken n r = Ok (Taken n r)

taken_once : (n r m s len : ℕ) → n ≡ m → n + r ≡ len → m + s ≡ len → taken n r ≡ taken m s
taken_once n r m s len e f g = let k : r ≡ s = omega arith in cc

to_messages : (window sent : ℕ) (packets : List Input) (p : Content)
    (a b : Result Outcome LineFault)
    → ToMessages window sent packets p a → ToMessages window sent packets p b → a ≡ b
unfolding taken
to_messages window sent packets p (Err PastEnd) (Err PastEnd) x y = refl
to_messages window sent packets p (Err PastEnd) (Ok Ahead) x y =
    absurd (past_or_before packets (last_number p) x y.0)
to_messages window sent packets p (Err PastEnd) (Err Conflict) x y =
    absurd (past_or_before packets (last_number p) x y.0)
to_messages window sent packets p (Err PastEnd) (Ok (Taken n r)) x y =
    absurd (past_or_before packets (last_number p) x y.0)
to_messages window sent packets p (Ok Ahead) (Err PastEnd) x y =
    absurd (past_or_before packets (last_number p) y x.0)
to_messages window sent packets p (Ok Ahead) (Ok Ahead) x y = refl
to_messages window sent packets p (Ok Ahead) (Err Conflict) x y =
    let u = x.1 in let v = y.1 in absurd (omega arith)
to_messages window sent packets p (Ok Ahead) (Ok (Taken n r)) x y =
    let u = x.1 in let v = y.1 in absurd (omega arith)
to_messages window sent packets p (Err Conflict) (Err PastEnd) x y =
    absurd (past_or_before packets (last_number p) y x.0)
to_messages window sent packets p (Err Conflict) (Ok Ahead) x y =
    let u = x.1 in let v = y.1 in absurd (omega arith)
to_messages window sent packets p (Err Conflict) (Err Conflict) x y = refl
to_messages window sent packets p (Err Conflict) (Ok (Taken n r)) x y =
    absurd (agrees_or_not packets sent p x.2 y.2)
to_messages window sent packets p (Ok (Taken n r)) (Err PastEnd) x y =
    absurd (past_or_before packets (last_number p) y x.0)
to_messages window sent packets p (Ok (Taken n r)) (Ok Ahead) x y =
    let u = x.1 in let v = y.1 in absurd (omega arith)
to_messages window sent packets p (Ok (Taken n r)) (Err Conflict) x y =
    absurd (agrees_or_not packets sent p y.2 x.2)
to_messages window sent packets p (Ok (Taken n r)) (Ok (Taken m s)) x y =
    taken_once n r m s (length p.messages) (x.3 ∙ sym y.3) x.4 y.4
to_messages window sent packets p (Ok Heartbeat) b x y = absurd x
to_messages window sent packets p (Ok Ended) b x y = absurd x
to_messages window sent packets p (Err OtherSession) b x y = absurd x
to_messages window sent packets p (Err EndMoved) b x y = absurd x
to_messages window sent packets p (Err EndTooEarly) b x y = absurd x
to_messages window sent packets p a (Ok Heartbeat) x y = absurd y
to_messages window sent packets p a (Ok Ended) x y = absurd y
to_messages window sent packets p a (Err OtherSession) x y = absurd y
to_messages window sent packets p a (Err EndMoved) x y = absurd y
to_messages window sent packets p a (Err EndTooEarly) x y = absurd y

to_heartbeat : (packets : List Input) (n : ℕ) (a b : Result Outcome LineFault)
    → ToHeartbeat packets n a → ToHeartbeat packets n b → a ≡ b
to_heartbeat packets n (Err PastEnd) (Err PastEnd) x y = refl
to_heartbeat packets n (Err PastEnd) (Ok Heartbeat) x y =
    let u = y x.0 x.1 in let v = x.2 in absurd (omega arith)
to_heartbeat packets n (Ok Heartbeat) (Err PastEnd) x y =
    let u = x y.0 y.1 in let v = y.2 in absurd (omega arith)
to_heartbeat packets n (Ok Heartbeat) (Ok Heartbeat) x y = refl
to_heartbeat packets n (Ok Ended) b x y = absurd x
to_heartbeat packets n (Ok Ahead) b x y = absurd x
to_heartbeat packets n (Ok (Taken m r)) b x y = absurd x
to_heartbeat packets n (Err OtherSession) b x y = absurd x
to_heartbeat packets n (Err EndMoved) b x y = absurd x
to_heartbeat packets n (Err EndTooEarly) b x y = absurd x
to_heartbeat packets n (Err Conflict) b x y = absurd x
to_heartbeat packets n a (Ok Ended) x y = absurd y
to_heartbeat packets n a (Ok Ahead) x y = absurd y
to_heartbeat packets n a (Ok (Taken m r)) x y = absurd y
to_heartbeat packets n a (Err OtherSession) x y = absurd y
to_heartbeat packets n a (Err EndMoved) x y = absurd y
to_heartbeat packets n a (Err EndTooEarly) x y = absurd y
to_heartbeat packets n a (Err Conflict) x y = absurd y

pub none_or_some : (o : Option ℕ) (e : ℕ) → o ≡ None → o ≡ Some e → ⊥
none_or_some o e p q = let r : None ≡ Some e = sym p ∙ q in absurd cc

to_end : (packets : List Input) (n : ℕ) (a b : Result Outcome LineFault) → ToEnd packets n a
    → ToEnd packets n b → a ≡ b
to_end packets n (Err EndMoved) (Err EndMoved) x y = refl
to_end packets n (Err EndMoved) (Err EndTooEarly) x y =
    absurd (none_or_some (end_of packets) x.0 y.0 x.1)
to_end packets n (Err EndMoved) (Ok Ended) x y =
    elim y [
      | inl again ↦ absurd (x.2 (same_some x.0 n (end_of packets) x.1 again))
      | inr first ↦
          absurd (none_or_some (end_of packets) x.0 first.0 x.1)
    ]
to_end packets n (Err EndTooEarly) (Err EndMoved) x y =
    absurd (none_or_some (end_of packets) y.0 x.0 y.1)
to_end packets n (Err EndTooEarly) (Err EndTooEarly) x y = refl
to_end packets n (Err EndTooEarly) (Ok Ended) x y =
    elim y [
      | inl again ↦ absurd (none_or_some (end_of packets) n x.0 again)
      | inr first ↦
          let below = first.1 x.1 x.3 in let above = x.2 in absurd (omega arith)
    ]
to_end packets n (Ok Ended) (Err EndMoved) x y =
    elim x [
      | inl again ↦ absurd (y.2 (same_some y.0 n (end_of packets) y.1 again))
      | inr first ↦
          absurd (none_or_some (end_of packets) y.0 first.0 y.1)
    ]
to_end packets n (Ok Ended) (Err EndTooEarly) x y =
    elim x [
      | inl again ↦ absurd (none_or_some (end_of packets) n y.0 again)
      | inr first ↦
          let below = first.1 y.1 y.3 in let above = y.2 in absurd (omega arith)
    ]
to_end packets n (Ok Ended) (Ok Ended) x y = refl
to_end packets n (Ok Heartbeat) b x y = absurd x
to_end packets n (Ok Ahead) b x y = absurd x
to_end packets n (Ok (Taken m r)) b x y = absurd x
to_end packets n (Err OtherSession) b x y = absurd x
to_end packets n (Err PastEnd) b x y = absurd x
to_end packets n (Err Conflict) b x y = absurd x
to_end packets n a (Ok Heartbeat) x y = absurd y
to_end packets n a (Ok Ahead) x y = absurd y
to_end packets n a (Ok (Taken m r)) x y = absurd y
to_end packets n a (Err OtherSession) x y = absurd y
to_end packets n a (Err PastEnd) x y = absurd y
to_end packets n a (Err Conflict) x y = absurd y

to_kind : (kind : Kind) (window sent : ℕ) (packets : List Input) (p : Content)
    (a b : Result Outcome LineFault)
    → ToKind kind window sent packets p a → ToKind kind window sent packets p b → a ≡ b
to_kind kinds.Messages window sent packets p a b x y = to_messages window sent packets p a b x y
to_kind kinds.Heartbeat window sent packets p a b x y = to_heartbeat packets p.number a b x y
to_kind kinds.End window sent packets p a b x y = to_end packets p.number a b x y

pub one_answer : (session : List ℕ) (window sent : ℕ) (packets : List Input) (p : Content)
    (a b : Result Outcome LineFault)
    → IsOutcome session window sent packets p a → IsOutcome session window sent packets p b → a ≡ b
one_answer session window sent packets p a b x y = elim x [
  | inl other ↦ elim y [ inl too ↦ other.1 ∙ sym too.1 | inr same ↦ absurd (other.0 same.0) ]
  | inr same ↦ elim y [
    | inl other ↦ absurd (other.0 same.0)
    | inr too ↦
        to_kind p.kind window sent packets p a b same.1 too.1
  ]
]

pub one_renewal : (names : List (List ℕ)) (end : Option ℕ) (sent : ℕ) (name : List ℕ)
    (a b : Result ℕ RenewFault)
    → IsRenewal names end sent name a → IsRenewal names end sent name b → a ≡ b
one_renewal names end sent name (Ok m) (Ok n) x y = ap Ok (x.3 ∙ sym y.3)
one_renewal names end sent name (Ok m) (Err NotEnded) x y = absurd (y x.0)
one_renewal names end sent name (Ok m) (Err SessionUsed) x y = absurd (x.1 y.1)
one_renewal names end sent name (Ok m) (Err TooManySessions) x y =
    let few = x.2 in let many = y.2 in absurd (omega arith)
one_renewal names end sent name (Err NotEnded) (Ok n) x y = absurd (x y.0)
one_renewal names end sent name (Err NotEnded) (Err NotEnded) x y = refl
one_renewal names end sent name (Err NotEnded) (Err SessionUsed) x y = absurd (x y.0)
one_renewal names end sent name (Err NotEnded) (Err TooManySessions) x y = absurd (x y.0)
one_renewal names end sent name (Err SessionUsed) (Ok n) x y = absurd (y.1 x.1)
one_renewal names end sent name (Err SessionUsed) (Err NotEnded) x y = absurd (y x.0)
one_renewal names end sent name (Err SessionUsed) (Err SessionUsed) x y = refl
one_renewal names end sent name (Err SessionUsed) (Err TooManySessions) x y = absurd (y.1 x.1)
one_renewal names end sent name (Err TooManySessions) (Ok n) x y =
    let many = x.2 in let few = y.2 in absurd (omega arith)
one_renewal names end sent name (Err TooManySessions) (Err NotEnded) x y = absurd (y x.0)
one_renewal names end sent name (Err TooManySessions) (Err SessionUsed) x y = absurd (x.1 y.1)
one_renewal names end sent name (Err TooManySessions) (Err TooManySessions) x y = refl
