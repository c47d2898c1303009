-- A genuine packet that was answered by the definitions is a genuine arrival.
use Rattle.std.proofs.Common.{◌≡◌, ℕ, true, List, [], ◌∷◌, ◌++◌, Result, Ok, Err, refl, inl, inr}
use Rattle.std.specs.Prelude.{IsOk}
use Rattle.std.specs.List.{AllByRecursion}
use Rattle.std.proofs.lemmas.Bool.{false≢true}
use Rattle.mold_packet.specs.declared.packet.Kind.{Kind}
use Rattle.mold_packet.specs.declared.packet.Kind.TheVariants as kinds
use Rattle.mold_packet.specs.Content.{Content}
use Rattle.line_arbiter.specs.declared.outcome.Outcome.{Outcome}
use Rattle.line_arbiter.specs.declared.outcome.Outcome.TheVariants.{Taken, Heartbeat, Ended, Ahead}
use Rattle.line_arbiter.specs.declared.outcome.LineFault.{LineFault}
use Rattle.line_arbiter.specs.declared.outcome.LineFault.TheVariants.{OtherSession}
use Rattle.feed_types.specs.Sequence.{Carries, Ends}
use Rattle.line_arbiter.specs.Packets.{Input, Arrived, Skip, is_ended, is_taken}
use Rattle.line_arbiter.specs.Answered.{IsAnswered}
use Rattle.line_arbiter.specs.Outcomes.{ToMessages, ToHeartbeat, ToKind, IsOutcome}
use Rattle.line_arbiter.specs.Genuine.{IsGenuineIn, IsGenuineInput, AreGenuine}

-- only an end of session is answered Ended
messages_unended : (window sent : ℕ) (packets : List Input) (p : Content)
    (answer : Result Outcome LineFault)
    → ToMessages window sent packets p answer → is_ended answer ≡ true → ⊥
messages_unended window sent packets p (Ok Ended) h e = h
messages_unended window sent packets p (Ok Heartbeat) h e = false≢true e
messages_unended window sent packets p (Ok Ahead) h e = false≢true e
messages_unended window sent packets p (Ok (Taken new repeated)) h e = false≢true e
messages_unended window sent packets p (Err fault) h e = false≢true e

heartbeat_unended : (packets : List Input) (n : ℕ) (answer : Result Outcome LineFault)
    → ToHeartbeat packets n answer → is_ended answer ≡ true → ⊥
heartbeat_unended packets n (Ok Ended) h e = h
heartbeat_unended packets n (Ok Heartbeat) h e = false≢true e
heartbeat_unended packets n (Ok Ahead) h e = false≢true e
heartbeat_unended packets n (Ok (Taken new repeated)) h e = false≢true e
heartbeat_unended packets n (Err fault) h e = false≢true e

kind_ended : (kind : Kind) (window sent : ℕ) (packets : List Input) (p : Content)
    (answer : Result Outcome LineFault)
    → ToKind kind window sent packets p answer → is_ended answer ≡ true → kind ≡ kinds.End
kind_ended kinds.Messages window sent packets p answer h e =
    absurd (messages_unended window sent packets p answer h e)
kind_ended kinds.Heartbeat window sent packets p answer h e =
    absurd (heartbeat_unended packets p.number answer h e)
kind_ended kinds.End window sent packets p answer h e = refl

ended_is_end : (session : List ℕ) (window sent : ℕ) (packets : List Input) (p : Content)
    (answer : Result Outcome LineFault)
    → IsOutcome session window sent packets p answer → is_ended answer ≡ true → p.kind ≡ kinds.End
ended_is_end session window sent packets p answer h e = elim h [
  | inl other ↦ absurd (refused answer other.1 e)
  | inr same ↦ kind_ended p.kind window sent packets p answer same.1 e
]
  where
    refused : (r : Result Outcome LineFault) → r ≡ Err OtherSession → is_ended r ≡ true → ⊥
    refused (Ok outcome) is e = cc
    refused (Err fault) is e = false≢true e

-- only a packet of the session is answered with an outcome
accepted_is_of_session : (session : List ℕ) (window sent : ℕ) (packets : List Input) (p : Content)
    (answer : Result Outcome LineFault)
    → IsOutcome session window sent packets p answer → IsOk answer → p.session ≡ session
accepted_is_of_session session window sent packets p answer h ok = elim h [
  | inl other ↦ absurd (refused answer other.1 ok)
  | inr same ↦ same.0
]
  where
    refused : (r : Result Outcome LineFault) → r ≡ Err OtherSession → IsOk r → ⊥
    refused (Ok outcome) is ok = cc
    refused (Err fault) is ok = false≢true ok

taken_ok : (r : Result Outcome LineFault) → is_taken r ≡ true → IsOk r
taken_ok (Ok outcome) h = refl
taken_ok (Err fault) h = absurd (false≢true h)

ended_ok : (r : Result Outcome LineFault) → is_ended r ≡ true → IsOk r
ended_ok (Ok outcome) h = refl
ended_ok (Err fault) h = absurd (false≢true h)

pub all_push : {X : Type 0} (Q : X → Type 0) (xs : List X) (x : X) → AllByRecursion Q xs → Q x
    → AllByRecursion Q (xs ++ x ∷ [])
all_push Q [] x all one = (one, tt)
all_push Q (y ∷ xs) x all one = (all.0, all_push Q xs x all.1 one)

pub all_map : {X : Type 0} {P Q : X → Type 0} → ((x : X) → P x → Q x) → (xs : List X)
    → AllByRecursion P xs → AllByRecursion Q xs
all_map f [] all = tt
all_map f (x ∷ xs) all = (f x all.0, all_map f xs all.1)

module _ (carries : Carries) (ends : Ends) (venue ordinal : ℕ) where
  genuine_input : (session : List ℕ) (window : ℕ) (packets : List Input) (x : Input)
      → IsGenuineIn carries ends venue ordinal session x
      → IsAnswered session window packets x → IsGenuineInput carries ends venue ordinal x
  genuine_input session window packets (Skip n) genuine right = tt
  genuine_input session window packets (Arrived a) genuine right = record {
    taken =
        λ h. (genuine (accepted_is_of_session session window right.sent packets a.packet a.answer
        right.outcome (taken_ok a.answer h))).messages;
    ended = λ h.
        (genuine (accepted_is_of_session session window right.sent packets a.packet a.answer
        right.outcome (ended_ok a.answer h))).end
        (ended_is_end session window right.sent packets a.packet a.answer right.outcome h);
  }

  -- what was taken stays genuine when a packet comes that is so where it is of the session
  pub genuine_grows : (window : ℕ) (session : List ℕ) (packets : List Input) (x : Input)
      → AreGenuine carries ends venue ordinal packets
      → IsGenuineIn carries ends venue ordinal session x
      → IsAnswered session window packets x
      → AreGenuine carries ends venue ordinal (packets ++ x ∷ [])
  genuine_grows window session packets x all genuine right =
      all_push (IsGenuineInput carries ends venue ordinal) packets x all
      (genuine_input session window packets x genuine right)
