-- Skips (this project's choice): the caller gives up what is missing at the front, up to a number.
use Rattle.std.specs.Prelude.{◌≡◌, ℕ, ◌+◌, ◌<◌, ◌≤◌, List, [], ◌∷◌, ◌++◌, length, Some, None, IsSome, Result, Ok, Err}
use Rattle.line_arbiter.specs.Packets.{Input, Arrived, Skip, carried, end_of}
use Rattle.line_arbiter.specs.Streams.{front_of, opens_of, part_of}
use Rattle.line_arbiter.specs.declared.faults.SkipFault.{SkipFault}
use Rattle.line_arbiter.specs.declared.faults.SkipFault.TheVariants.{ItemsReady, PastEnd, NothingMissing, HeldBelow}

-- the end is announced below the number
abbrev pub EndsBelow : List Input → ℕ → Type 0
EndsBelow packets n = (e : ℕ) × (end_of packets ≡ Some e) × (e < n)

-- a message past the front and below the number has come
abbrev pub HasBelow : List Input → ℕ → Type 0
HasBelow packets n = (m : ℕ) × (front_of packets < m) × (m < n) × IsSome (carried packets m)

-- at least one message is missing below the number, none past the front and below it has come, and
-- no end is announced below it
pub record MaySkip (packets : List Input) (n : ℕ) : Type 0 where
  pub past : front_of packets + 1 < n
  pub not_ended : (e : ℕ) → end_of packets ≡ Some e → n ≤ e
  pub missing : (m : ℕ) → front_of packets < m → m < n → carried packets m ≡ None

-- each skip could be made when it came
abbrev pub SkipsFrom : List Input → List Input → Type 0
SkipsFrom before [] = Unit {0}
SkipsFrom before (Arrived a ∷ rest) = SkipsFrom (before ++ Arrived a ∷ []) rest
SkipsFrom before (Skip n ∷ rest) = MaySkip before n × SkipsFrom (before ++ Skip n ∷ []) rest

abbrev pub AreSkips : List Input → Type 0
AreSkips packets = SkipsFrom [] packets

-- it is no skip
abbrev pub IsArrival : Input → Type 0
IsArrival (Arrived a) = Unit {0}
IsArrival (Skip n) = ⊥

-- all items up to the first gap were sent
abbrev pub AllSent : List Input → ℕ → Type 0
AllSent packets sent = sent + 1 ≡ opens_of packets + length (part_of packets)

-- no end is announced below the number
abbrev pub EndsFrom : List Input → ℕ → Type 0
EndsFrom packets n = (e : ℕ) → end_of packets ≡ Some e → n ≤ e

-- The answer to a skip to this number, once `sent` was sent.
abbrev pub IsSkip : List Input → ℕ → ℕ → Result (Unit {0}) SkipFault → Type 0
IsSkip packets sent n (Err ItemsReady) = AllSent packets sent → ⊥
IsSkip packets sent n (Err PastEnd) = AllSent packets sent × EndsBelow packets n
IsSkip packets sent n (Err NothingMissing) =
    AllSent packets sent × EndsFrom packets n × (n ≤ front_of packets + 1)
IsSkip packets sent n (Err HeldBelow) =
    AllSent packets sent × EndsFrom packets n × (front_of packets + 1 < n) × HasBelow packets n
IsSkip packets sent n (Ok done) = AllSent packets sent × MaySkip packets n
