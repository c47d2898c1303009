-- What a sender of a recording has handed over.
use Rattle.std.specs.Prelude.{◌≡◌, ◌⊎◌, ℕ, ◌+◌, ◌-◌, ◌^◌, List, [], ◌∷◌, ◌++◌, min, Option, None, Some}
use Rattle.rtrb.specs.Ring.{sent}
use Rattle.line_recordings.specs.declared.placed.Placed.{Placed}
use Rattle.line_recordings.specs.declared.record_sender.RecordSender.{RecordSender}

-- these bytes at this place, and the session that has begun at them, if one has
pub record IsPlaced (place : ℕ) (begun : Option (List ℕ)) (bytes : List ℕ) (placed : Placed)
    : Type 0 where
  pub at : placed.place ≡ place
  pub begins : placed.begun ≡ begun
  pub holds : placed.bytes.items ≡ bytes

-- one more was handed over: that
pub record HasHandedOver (old : RecordSender) (place : ℕ) (begun : Option (List ℕ))
    (bytes : List ℕ) (new : RecordSender) : Type 0 where
  pub placed : Placed
  pub is : IsPlaced place begun bytes placed
  pub sent_is : sent new.records ≡ sent old.records ++ placed ∷ []
  pub same : new.lost ≡ old.lost

-- one more is lost; the count stays at 2^64 - 1
pub record HasLost (old new : RecordSender) : Type 0 where
  pub sent_is : sent new.records ≡ sent old.records
  pub counted : new.lost ≡ min (old.lost + 1) (2 ^ 64 - 1)

-- what was to be handed over was, or is counted as lost
abbrev pub SendsOrLoses : RecordSender → ℕ → Option (List ℕ) → List ℕ → RecordSender → Type 0
SendsOrLoses old place begun bytes new =
    HasHandedOver old place begun bytes new ⊎ HasLost old new

-- what the venue took is handed over, where it is recorded
abbrev pub HandsOver : Option RecordSender → ℕ → Option (List ℕ) → List ℕ → Option RecordSender
    → Type 0
HandsOver None place begun bytes new = new ≡ None
HandsOver (Some old) place begun bytes new =
    (sender : RecordSender) × (new ≡ Some sender) × SendsOrLoses old place begun bytes sender
