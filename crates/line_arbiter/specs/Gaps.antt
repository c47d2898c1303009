-- Gaps, and how far a session is known to go. Cited by laws alone.
use Rattle.std.specs.Prelude.{◌≡◌, ℕ, ◌+◌, ◌-◌, ◌<◌, ◌≤◌, ◌⊎◌, List, Option, Some, None, IsSome, Contains}
use Rattle.std.specs.List.{AllByRecursion}
use Rattle.mold_packet.specs.declared.request.Request.{Request}
use Rattle.line_arbiter.specs.Packets.{Input, carried, heard, known_of}
use Rattle.line_arbiter.specs.Streams.{front_of}

-- This many messages in a row are missing after the front: none of them was taken, all are known of
-- and have a place in the window; and the next one isn't known of, has no place, or was taken.
pub record AreMissing (window sent : ℕ) (packets : List Input) (count : ℕ) : Type 0 where
  pub some : 1 ≤ count
  pub missing : (m : ℕ) → front_of packets < m → m ≤ front_of packets + count
      → carried packets m ≡ None
  pub known : front_of packets + count ≤ known_of packets
  pub inside : front_of packets + count ≤ sent + window
  pub stops : (front_of packets + count ≡ known_of packets)
      ⊎ (front_of packets + count ≡ sent + window)
      ⊎ IsSome (carried packets (front_of packets + count + 1))

-- The run to ask for begins after the front; there is none where nothing after the front is known
-- of, or nothing after it has a place in the window.
abbrev pub IsGap : List ℕ → ℕ → ℕ → List Input → Option Request → Type 0
IsGap session window sent packets (Some request) =
    (request.session ≡ session) × (request.number ≡ front_of packets + 1)
    × AreMissing window sent packets request.count
IsGap session window sent packets None =
    (known_of packets ≤ front_of packets) ⊎ (sent + window ≤ front_of packets)

-- the number is the greatest of 0 and of those that the packets show
pub record IsGreatestHeard (packets : List Input) (n : ℕ) : Type 0 where
  pub most : AllByRecursion (λ a. heard a ≤ n) packets
  pub one : (n ≡ 0) ⊎ ((a : Input) × Contains packets a × (heard a ≡ n))

-- how far the session is known to go, by the announced end: to before it, else to that number
abbrev pub IsKnown : List Input → Option ℕ → ℕ → Type 0
IsKnown packets (Some end) n = n ≡ end - 1
IsKnown packets None n = IsGreatestHeard packets n
