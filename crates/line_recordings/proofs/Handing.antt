-- What was handed over is what was given.
use Rattle.std.proofs.Common.{◌≡◌, ◌++◌, ℕ, List, [], ◌∷◌, Option, Some, inl, refl, subst, sym}
use Rattle.rtrb.specs.Ring.{sent}
use Rattle.line_recordings.specs.Placed.{HandsOver, SendsOrLoses}
use Rattle.line_recordings.specs.declared.placed.Placed.{Placed}
use Rattle.line_recordings.specs.declared.record_sender.RecordSender.{RecordSender}

pub handed : (old new : RecordSender) (placed : Placed) (place : ℕ) (begun : Option (List ℕ))
    (bytes : List ℕ) → sent new.records ≡ sent old.records ++ placed ∷ [] → placed.place ≡ place
    → placed.begun ≡ begun → placed.bytes.items ≡ bytes → new.lost ≡ old.lost
    → SendsOrLoses old place begun bytes new
handed old new placed place begun bytes s a b h l = inl (record {
  placed = placed;
  is = record {
    at = a;
    begins = b;
    holds = h;
  };
  sent_is = s;
  same = l;
})

-- it was handed over where it is recorded
pub handed_if : (records : Option RecordSender) (old new : RecordSender) (place : ℕ)
    (begun : Option (List ℕ)) (bytes : List ℕ) → records ≡ Some old
    → SendsOrLoses old place begun bytes new → HandsOver records place begun bytes (Some new)
handed_if records old new place begun bytes e sent =
    subst (λ (r : Option RecordSender). HandsOver r place begun bytes (Some new)) (sym e)
    (new, refl, sent)
