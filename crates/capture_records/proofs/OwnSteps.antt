-- What the own format's bytes begin with.
use Rattle.std.proofs.Common.{◌≡◌, ℕ, ◌<◌, List, [], ◌∷◌, ◌++◌, length, drop, None, append-nil, refl, sym, ap, ◌∙◌, arith, inl, inr, length-append}
use Rattle.capture_records.specs.Capture.{CaptureRecord, WantsMore, IsWanted, bytes_of_record}
use Rattle.capture_records.specs.Formats.{TakesPiece, timed_record}
use Rattle.capture_records.specs.OwnFormats.{ReadsOwn}

-- a record begins the bytes
pub own_piece : (venues len : ℕ) (bytes : List ℕ) (r : CaptureRecord)
    → len ≡ length (bytes_of_record r) → bytes ≡ bytes_of_record r ++ drop len bytes
    → TakesPiece ReadsOwn venues bytes (timed_record r None ∷ []) len venues
own_piece venues len bytes r is front =
    let n = ap length front ∙ length-append (bytes_of_record r) (drop len bytes) in
    record {
      some = omega (arith, is);
      within = omega (arith, n, is);
      read = record {
        spelled = front ∙ ap (λ (xs : List ℕ). xs ++ drop len bytes)
            (sym (append-nil (bytes_of_record r)));
        no_times = refl;
        same = refl;
      };
    }

-- less than a record
pub own_unfinished : (venues n : ℕ) (bytes : List ℕ) → IsWanted venues bytes n
    → WantsMore venues bytes
own_unfinished venues n [] w = inl refl
own_unfinished venues n (b ∷ bs) (inl w) = inr (record { some = omega arith; cut = inl w.0 })
own_unfinished venues n (b ∷ bs) (inr w) =
    inr (record { some = omega arith; cut = inr (w.0, omega (arith, w.1, w.2)) })

-- so there are few of them
pub own_wants_few : (venues n : ℕ) (bytes : List ℕ) → IsWanted venues bytes n → n < 65540
    → length bytes < 1179648
own_wants_few venues n bytes (inl w) few = omega (arith, w.0)
own_wants_few venues n bytes (inr w) few = omega (arith, w.2, few)
