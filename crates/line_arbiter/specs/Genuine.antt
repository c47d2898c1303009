-- Genuine packets: what the lines may carry at a venue, in each of its sessions.
use Rattle.std.specs.Prelude.{◌≡◌, ℕ, ◌+◌, true, List, [], ◌∷◌}
use Rattle.std.specs.List.{AllByRecursion}
use Rattle.feed_types.specs.declared.item.Numbered.{Numbered}
use Rattle.feed_types.specs.Sequence.{Carries, Ends, MayCarry}
use Rattle.feed_types.specs.Sessions.{SessionNames}
use Rattle.line_arbiter.specs.Packets.{Arrival, Input, Arrived, Skip, has_number, is_ended, is_taken, item_at}
use Rattle.line_arbiter.specs.Streams.{IsComplete}
use Rattle.line_arbiter.specs.Histories.{Begun}
use Rattle.line_arbiter.specs.Skips.{AreSkips}
use Rattle.mold_packet.specs.declared.packet.Kind.TheVariants as kinds
use Rattle.mold_packet.specs.Content.{Content}

-- each message of the packet may be carried at its number, and an end's number may be the end, in
-- the venue's session of this ordinal
pub record IsGenuineAt (carries : Carries) (ends : Ends) (venue ordinal : ℕ)
    (p : Content) : Type 0 where
  pub messages : (m : ℕ) → has_number p m ≡ true → carries venue ordinal m (item_at p m)
  pub end : p.kind ≡ kinds.End → ends venue ordinal p.number

-- the same in each session that has the packet's session name
abbrev pub IsGenuine : SessionNames → Carries → Ends → ℕ → Content → Type 0
IsGenuine sessions carries ends venue p =
    (ordinal : ℕ) → sessions venue ordinal p.session → IsGenuineAt carries ends venue ordinal p

-- what was taken may be carried, and the end that was announced may be the end
pub record IsGenuineArrival (carries : Carries) (ends : Ends) (venue ordinal : ℕ)
    (a : Arrival) : Type 0 where
  pub taken : is_taken a.answer ≡ true → (m : ℕ) → has_number a.packet m ≡ true
      → carries venue ordinal m (item_at a.packet m)
  pub ended : is_ended a.answer ≡ true → ends venue ordinal a.packet.number

abbrev pub IsGenuineInput : Carries → Ends → ℕ → ℕ → Input → Type 0
IsGenuineInput carries ends venue ordinal (Arrived a) =
    IsGenuineArrival carries ends venue ordinal a
IsGenuineInput carries ends venue ordinal (Skip n) = Unit {0}

-- what came is genuine in the venue's session of this ordinal, where it is of the session
abbrev pub IsGenuineIn : Carries → Ends → ℕ → ℕ → List ℕ → Input → Type 0
IsGenuineIn carries ends venue ordinal session (Arrived a) =
    a.packet.session ≡ session → IsGenuineAt carries ends venue ordinal a.packet
IsGenuineIn carries ends venue ordinal session (Skip n) = Unit {0}

abbrev pub AreGenuine : Carries → Ends → ℕ → ℕ → List Input → Type 0
AreGenuine carries ends venue ordinal packets =
    AllByRecursion (IsGenuineInput carries ends venue ordinal) packets

-- a venue's sessions from this ordinal on: the packets of each are genuine, each skip could be
-- made, and all but the last are over
abbrev pub AreGenuineFrom : Carries → Ends → ℕ → ℕ → List Begun → Type 0
AreGenuineFrom carries ends venue ordinal [] = Unit {0}
AreGenuineFrom carries ends venue ordinal (session ∷ []) =
    AreGenuine carries ends venue ordinal session.packets × AreSkips session.packets
AreGenuineFrom carries ends venue ordinal (session ∷ next ∷ rest) =
    AreGenuine carries ends venue ordinal session.packets × AreSkips session.packets
    × IsComplete session.packets × AreGenuineFrom carries ends venue (ordinal + 1) (next ∷ rest)

-- the item may be carried at its number in the venue's session of this ordinal
abbrev pub IsGenuineItem : Carries → Ends → ℕ → ℕ → Numbered → Type 0
IsGenuineItem carries ends venue ordinal x =
    MayCarry carries ends venue (record { ordinal = ordinal; number = x.number }) x.item
