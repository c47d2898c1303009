-- What the passes of a lane's queue know: one pass at most may push, and it knows what was sent;
-- one at most may pop, and it knows what was received. Cited by private clauses alone.
use Rattle.std.specs.Prelude.{◌≡◌, ℕ, Bool, true, false, List, [], ◌∷◌, ◌++◌}
use mathlib.Core.Option.{some}
use lib.ListN.{get_elem?}
use Rattle.fifo_lane.specs.declared.known.Known.{Known}
use Rattle.fifo_lane.specs.Lane.{Keeps}

module _ {T : Type 0} where
  abbrev pub known : Bool → Bool → ℕ → ℕ → List T → List T → Known T
  known may_push may_pop tag capacity sent received = record {
    may_push = may_push;
    may_pop = may_pop;
    tag = tag;
    capacity = capacity;
    sent = sent;
    received = received;
  }

  -- the first pass of a queue
  abbrev pub first : Known T
  first = known true true 0 0 [] []

  -- the pass of a sending end
  abbrev pub sending : ℕ → ℕ → List T → Known T
  sending tag capacity sent = known true false tag capacity sent []

  -- the pass of a receiving end
  abbrev pub receiving : ℕ → ℕ → List T → Known T
  receiving tag capacity received = known false true tag capacity [] received

  -- the pass of both ends of a lane
  abbrev pub joined : Known T → Known T → Known T
  joined v w = known true true v.tag v.capacity v.sent w.received

  -- a pass that may do nothing
  abbrev pub spent : Known T
  spent = known false false 0 0 [] []

  abbrev pub with_sent : Known T → T → Known T
  with_sent v x = record v { sent = v.sent ++ x ∷ [] }

  abbrev pub with_received : Known T → T → Known T
  with_received v x = record v { received = v.received ++ x ∷ [] }

  -- the pass at this port knows what it may know of the lane
  pub record FitsPass (sender receiver tag capacity : ℕ) (sent received : List T) (port : ℕ)
      (v : Known T) : Type 0 where
    pub sends : v.may_push ≡ true →
        (port ≡ sender) × (v.tag ≡ tag) × (v.capacity ≡ capacity) × (v.sent ≡ sent)
    pub receives : v.may_pop ≡ true →
        (port ≡ receiver) × (v.tag ≡ tag) × (v.capacity ≡ capacity) × (v.received ≡ received)

  -- The rule of the queue: there is a lane that keeps its rule with these items inside, and each
  -- pass fits it.
  pub record IsLane (may_send : ℕ → List T → Type 0) (inside : List T)
      (views : List (Known T)) : Type 0 where
    pub sender : ℕ
    pub receiver : ℕ
    pub tag : ℕ
    pub capacity : ℕ
    pub sent : List T
    pub received : List T
    pub keeps : Keeps may_send tag capacity sent received inside
    pub fits : (port : ℕ) (v : Known T) → get_elem? views port ≡ some v →
        FitsPass sender receiver tag capacity sent received port v
