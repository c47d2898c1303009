-- A venue's history whose packets were all answered by the definitions: with one packet more, with
-- one session more, and the order of its items.
use Rattle.std.proofs.Common.{ℕ, ◌≤◌, List, [], ◌∷◌, length}
use Rattle.std.specs.Prelude.{◌≢◌}
use Rattle.std.specs.List.{AllByRecursion, AllPairs}
use Rattle.line_arbiter.specs.Packets.{Input, Arrived, Skip, end_of}
use Rattle.line_arbiter.specs.Streams.{IsComplete, place_of, stream_of}
use Rattle.line_arbiter.specs.Answered.{IsAnswered, AreAnswered}
use Rattle.line_arbiter.specs.Renewals.{HasEnded}
use Rattle.line_arbiter.specs.Genuine.{AreGenuine}
use Rattle.line_arbiter.specs.SessionOrder.{AreInSequenceFrom, AreSessionsInSequence}
use Rattle.line_arbiter.specs.Histories.{Begun, History, new_history, after_input, after_renewal, names_of}
use Rattle.line_arbiter.specs.laws.Arrivals.{all_map, all_push}
use Rattle.line_arbiter.specs.laws.Below.{answered_more, all_sent}
use Rattle.line_arbiter.specs.laws.InSequence.{stream_in_sequence}
use Rattle.line_arbiter.specs.laws.Parts.{skips_of}

-- a session that is over: each packet was answered by the definitions, and all of its messages came
pub record IsSessionOver (window : ℕ) (b : Begun) : Type 0 where
  pub answered : AreAnswered b.name window b.packets
  pub complete : IsComplete b.packets

-- the sessions that are over, and the present one, each packet of which was answered, too
pub record IsAnsweredThroughout (window : ℕ) (h : History) : Type 0 where
  pub over : AllByRecursion (IsSessionOver window) h.earlier
  pub answered : AreAnswered h.present.name window h.present.packets

pub new_answered : (window : ℕ) (name : List ℕ) → IsAnsweredThroughout window (new_history name)
new_answered window name = record { over = tt; answered = tt }

-- packets are genuine where the lines may carry anything
any_genuine : (packets : List Input)
    → AreGenuine (λ venue ordinal n item. Unit {0}) (λ venue ordinal n. Unit {0}) 0 1 packets
any_genuine [] = tt
any_genuine (Arrived a ∷ packets) =
    (record { taken = λ t m has. tt; ended = λ t. tt }, any_genuine packets)
any_genuine (Skip n ∷ packets) = (tt, any_genuine packets)

answered_in_sequence : (window : ℕ) (b : Begun) → AreAnswered b.name window b.packets
    → AreInSequenceFrom 1 (stream_of b.packets)
answered_in_sequence window b answered =
    stream_in_sequence (λ venue ordinal n item. Unit {0}) (λ venue ordinal n. Unit {0}) 0 1
    b.packets (any_genuine b.packets) (skips_of b.name window [] b.packets answered)

module _ (window : ℕ) (h : History) (k : IsAnsweredThroughout window h) where
  -- where no two sessions have one name, its items are in sequence, session by session
  pub sessions_in_sequence : AllPairs (λ x y. x ≢ y) (names_of h) → AreSessionsInSequence h
  sessions_in_sequence names = record {
    names = names;
    items =
        all_push (λ b. AreInSequenceFrom 1 (stream_of b.packets)) h.earlier h.present
        (all_map (λ (b : Begun) (over : IsSessionOver window b).
        answered_in_sequence window b over.answered) h.earlier k.over)
        (answered_in_sequence window h.present k.answered);
    over = all_map (λ (b : Begun) (over : IsSessionOver window b). over.complete) h.earlier k.over;
  }

  pub answered_arrival : (a : Input) → IsAnswered h.present.name window h.present.packets a
      → IsAnsweredThroughout window (after_input h a)
  answered_arrival a one = record {
    over = k.over;
    answered = answered_more h.present.name window h.present.packets a k.answered one;
  }

  -- the present session has ended, and all of it was sent
  pub answered_renewal : (sent : ℕ) (name : List ℕ) → place_of h.present.packets sent
      ≤ length (stream_of h.present.packets)
      → HasEnded (end_of h.present.packets) sent
      → IsAnsweredThroughout window (after_renewal h name)
  answered_renewal sent name within has = record {
    over = all_push (IsSessionOver window) h.earlier h.present k.over (record {
      answered = k.answered;
      complete =
          (all_sent h.present.name window sent h.present.packets k.answered within has).0;
    });
    answered = tt;
  }
