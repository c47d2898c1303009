-- The file of a venue's snapshot, place by place.
use Rattle.std.proofs.Common.{◌≡◌, ℕ, zero, suc, ◌+◌, ◌-◌, ◌<◌, ◌≤◌, Bool, true, false, List, [], ◌∷◌, ◌++◌, length, map, drop, get_or, Option, Some, None, refl, sym, ap, subst, ◌∙◌, arith, inl, inr}
use Rattle.std.specs.Prelude.{◌==◌, slice_index_or, if◌then◌else◌}
use Rattle.command_words.specs.declared.snapshot_file.SnapshotFile.{SnapshotFile}
use Rattle.std.proofs.lemmas.Bool.{cases_lt}
use Rattle.std.proofs.lemmas.List.{get_or_append_left, get_or-append_right}
use Rattle.venue_normaliser.specs.Snapshots.{SnapshotContent}
use Rattle.nbbo_runs.specs.Snapshots.{IsSnapshotOf, given_bytes}

none_of : (files : List SnapshotFile) (venue : ℕ) → given_bytes files [] venue ≡ None
none_of [] venue = refl
none_of (f ∷ files) venue = refl

-- no file is left
pub all_passed : (files : List SnapshotFile) (bytes : List (List ℕ)) (venue k : ℕ)
    → length files ≤ k → given_bytes (drop k files) bytes venue ≡ None
all_passed [] bytes venue zero past = refl
all_passed [] bytes venue (suc k) past = refl
all_passed (f ∷ files) bytes venue zero past = absurd (omega (arith, past))
all_passed (f ∷ files) bytes venue (suc k) past =
    all_passed files bytes venue k (omega (arith, past))

-- one more venue's snapshot
pub snapshots_more : (files : List SnapshotFile) (bytes : List (List ℕ)) (k n : ℕ)
    (given : List (Option SnapshotContent)) (s : Option SnapshotContent) → n ≡ k + 1
    → length given ≡ k
    → ((place : ℕ) → place < k
    → IsSnapshotOf (given_bytes files bytes place) (slice_index_or given place None))
    → IsSnapshotOf (given_bytes files bytes k) s → (place : ℕ) → place < n
    → IsSnapshotOf (given_bytes files bytes place) (slice_index_or (given ++ s ∷ []) place None)
snapshots_more files bytes k n given s next len each now place less = elim (cases_lt place k) [
  | inl before ↦
      subst (λ (o : Option SnapshotContent). IsSnapshotOf (given_bytes files bytes place) o)
      (sym (get_or_append_left given (s ∷ []) None place (omega (arith, before, len))))
      (each place before)
  | inr past ↦
      let here : place ≡ k = omega (arith, past, less, next) in
      subst (λ (p : ℕ). IsSnapshotOf (given_bytes files bytes p)
      (slice_index_or (given ++ s ∷ []) p None)) (sym here)
      (subst (λ (o : Option SnapshotContent). IsSnapshotOf (given_bytes files bytes k) o)
      (sym (get_or-append_right given (s ∷ []) k k None len (omega arith)
      ∙ ap (λ (i : ℕ). slice_index_or (s ∷ []) i None) (let z : k - k ≡ 0 = omega arith in z)))
      now)
]

module _ {A : Type 0} (read : A → List ℕ) (venue : ℕ) where
  -- the file at a place is the venue's, and its bytes are there
  pub found_at : (files : List SnapshotFile) (bytes : List A) (k : ℕ) (file d : SnapshotFile)
      (x e : A) → k < length files → k < length bytes → file ≡ get_or files k d
      → (file.venue == venue) ≡ true → x ≡ slice_index_or bytes k e
      → given_bytes (drop k files) (drop k (map read bytes)) venue ≡ Some (read x)
  found_at [] bytes k file d x e less few is same here = absurd (omega (arith, less))
  found_at (f ∷ files) [] k file d x e less few is same here = absurd (omega (arith, few))
  found_at (f ∷ files) (b ∷ bytes) zero file d x e less few is same here =
      ap (λ (t : Bool). if t then Some (read b) else given_bytes files (map read bytes) venue)
      (ap (λ (g : SnapshotFile). g.venue == venue) (sym is) ∙ same)
      ∙ ap (λ (y : A). Some (read y)) (sym here)
  found_at (f ∷ files) (b ∷ bytes) (suc k) file d x e less few is same here =
      found_at files bytes k file d x e (omega (arith, less)) (omega (arith, few)) is same here

  -- the file at a place is the venue's, and its bytes aren't there
  pub lost_at : (files : List SnapshotFile) (bytes : List A) (k : ℕ) → length bytes ≤ k
      → given_bytes (drop k files) (drop k (map read bytes)) venue ≡ None
  lost_at files [] zero few = none_of files venue
  lost_at [] [] (suc k) few = refl
  lost_at (f ∷ files) [] (suc k) few = none_of (drop k files) venue
  lost_at files (b ∷ bytes) zero few = absurd (omega (arith, few))
  lost_at [] (b ∷ bytes) (suc k) few = refl
  lost_at (f ∷ files) (b ∷ bytes) (suc k) few = lost_at files bytes k (omega (arith, few))

  -- the file at a place isn't the venue's
  pub passed_at : (files : List SnapshotFile) (bytes : List A) (k n : ℕ) (file d : SnapshotFile)
      → n ≡ suc k → k < length files → file ≡ get_or files k d → (file.venue == venue) ≡ false
      → given_bytes (drop n files) (drop n (map read bytes)) venue
      ≡ given_bytes (drop k files) (drop k (map read bytes)) venue
  passed_at files bytes k n file d next less is other =
      subst (λ (m : ℕ). given_bytes (drop m files) (drop m (map read bytes)) venue
      ≡ given_bytes (drop k files) (drop k (map read bytes)) venue) (sym next)
      (one_more files bytes k less is)
    where
      one_more : (files : List SnapshotFile) (bytes : List A) (k : ℕ) → k < length files
          → file ≡ get_or files k d
          → given_bytes (drop (suc k) files) (drop (suc k) (map read bytes)) venue
          ≡ given_bytes (drop k files) (drop k (map read bytes)) venue
      one_more [] bytes k less is = absurd (omega (arith, less))
      one_more (f ∷ files) [] zero less is = none_of files venue
      one_more (f ∷ files) [] (suc k) less is =
          none_of (drop (suc k) files) venue ∙ sym (none_of (drop k files) venue)
      one_more (f ∷ files) (b ∷ bytes) zero less is =
          sym (ap (λ (t : Bool). if t then Some (read b)
          else given_bytes files (map read bytes) venue)
          (ap (λ (g : SnapshotFile). g.venue == venue) (sym is) ∙ other))
      one_more (f ∷ files) (b ∷ bytes) (suc k) less is =
          one_more files bytes k (omega (arith, less)) is
