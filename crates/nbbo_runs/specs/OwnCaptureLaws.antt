-- The laws of captures of the project's own format, as a format of records.
use Rattle.std.proofs.Common.{◌≡◌, ℕ, Bool, List, [], ◌∷◌, ◌++◌, refl, ap, ◌∙◌}
use Rattle.capture_records.specs.Formats.{TimedRecord}
use Rattle.capture_records.specs.OwnFormatLaws.{reads_none_own, reads_more_own, reads_longer_own, reads_venues_own}
use Rattle.nbbo_runs.specs.declared.own_capture.OwnCapture.{OwnCapture}
use Rattle.nbbo_runs.specs.OwnCaptures.{OwnReads, has_begun_by}

begun_more : (b : Bool) (rs qs : List TimedRecord)
    → has_begun_by (has_begun_by b rs) qs ≡ has_begun_by b (rs ++ qs)
begun_more b [] qs = refl
begun_more b (r ∷ rs) [] = refl
begun_more b (r ∷ rs) (q ∷ qs) = refl

-- no record
pub own_none : (s : OwnCapture) (xs : List ℕ) → OwnReads s xs [] s xs
own_none s xs = (reads_none_own s.format xs, refl)

-- records after records
pub own_more : (s t u : OwnCapture) (xs ys zs : List ℕ) (rs qs : List TimedRecord)
    → OwnReads s xs rs t ys → OwnReads t ys qs u zs → OwnReads s xs (rs ++ qs) u zs
own_more s t u xs ys zs rs qs a b = (
  reads_more_own s.format t.format u.format xs ys zs rs qs a.0 b.0,
  b.1 ∙ ap (λ (begun : Bool). has_begun_by begun qs) a.1 ∙ begun_more s.is_begun rs qs,
)

-- whatever follows
pub own_longer : (s t : OwnCapture) (xs ys more : List ℕ) (rs : List TimedRecord)
    → OwnReads s xs rs t ys → OwnReads s (xs ++ more) rs t (ys ++ more)
own_longer s t xs ys more rs a =
    (reads_longer_own s.format t.format xs ys more rs a.0, a.1)

-- the venues stay
pub own_venues : (s t : OwnCapture) (xs ys : List ℕ) (rs : List TimedRecord)
    → OwnReads s xs rs t ys → t.format ≡ s.format
own_venues s t xs ys rs a = reads_venues_own s.format t.format xs ys rs a.0
