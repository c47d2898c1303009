-- Packets that were answered by the definitions, and skips that may be made, whatever had been sent
-- on when each of them came.
use Rattle.std.specs.Prelude.{ℕ, List, [], ◌∷◌, ◌++◌}
use Rattle.mold_packet.specs.Content.{IsContent}
use Rattle.line_arbiter.specs.Packets.{Arrival, Input, Arrived, Skip}
use Rattle.line_arbiter.specs.Outcomes.{IsOutcome}
use Rattle.line_arbiter.specs.Skips.{MaySkip}

-- the arrival is a packet, and was answered by the definitions after what came before it
pub record IsAnsweredArrival (session : List ℕ) (window : ℕ) (before : List Input)
    (a : Arrival) : Type 0 where
  pub content : IsContent a.packet
  pub sent : ℕ
  pub outcome : IsOutcome session window sent before a.packet a.answer

abbrev pub IsAnswered : List ℕ → ℕ → List Input → Input → Type 0
IsAnswered session window before (Arrived a) = IsAnsweredArrival session window before a
IsAnswered session window before (Skip n) = MaySkip before n

-- the same of all this, one after the other
abbrev pub AreAnsweredAfter : List ℕ → ℕ → List Input → List Input → Type 0
AreAnsweredAfter session window before [] = Unit {0}
AreAnsweredAfter session window before (x ∷ rest) =
    IsAnswered session window before x × AreAnsweredAfter session window (before ++ x ∷ []) rest

abbrev pub AreAnswered : List ℕ → ℕ → List Input → Type 0
AreAnswered session window packets = AreAnsweredAfter session window [] packets
