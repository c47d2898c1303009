-- Cursors, and what they are past.
use Rattle.std.proofs.Common.{ℕ, zero, suc, ◌≡◌, ◌+◌, ◌<◌, ◌≤◌, List, [], ◌∷◌, ◌++◌, ap, refl, length, get_or, subst, sym, arith, map, filter, inl, inr}
use Rattle.std.proofs.lemmas.Bool.{cases_lt}
use Rattle.filter_terms.specs.Terms.{meets}
use Rattle.std.specs.Prelude.{slice_get, Some, min, ◌⊎◌}
use Rattle.std.specs.List.{AllByRecursion}
use Rattle.std.proofs.lemmas.List.{take-append-le}
use Rattle.feed_types.specs.declared.journal.Notice.{Notice}
use Rattle.journal_book.specs.declared.cursor.Cursor.{Cursor}
use Rattle.journal_book.specs.Journals.{subscription_of}
use Rattle.journal_book.specs.Keeping.{IsWithin}
use Rattle.journal_book.specs.Slowest.{slowest}

-- cursors within some changes are within more of them
pub still_within : (cursors : List Cursor) (first end more : ℕ) → end ≤ more
    → AllByRecursion (IsWithin first end) cursors
    → AllByRecursion (IsWithin first more) cursors
still_within [] first end more le h = tt
still_within (c ∷ cs) first end more le h =
    let here = h.0 in (
      record { from = here.from; to = omega (arith, here.to) },
      still_within
          cs first end more le h.1,
    )

-- one of them is
within_at : (first end : ℕ) (cursors : List Cursor) (i : ℕ) (d : Cursor) → i < length cursors
    → AllByRecursion (IsWithin first end) cursors
    → IsWithin first end (get_or cursors i d)
within_at first end [] i d h each = absurd (omega arith)
within_at first end (c ∷ cs) zero d h each = each.0
within_at first end (c ∷ cs) (suc i) d h each = within_at first end cs i d (omega arith) each.1

pub one_within : (first end : ℕ) (cursors : List Cursor) (i : ℕ) (c : Cursor) → i < length cursors
    → AllByRecursion (IsWithin first end) cursors
    → c ≡ get_or cursors i c → IsWithin first end c
one_within first end cursors i c h each is = subst (IsWithin first end) (sym is)
    (within_at first end cursors i c h each)

pub cursor_within : (first end : ℕ) (cursors : List Cursor) (i : ℕ) (c : Cursor)
    → slice_get cursors i ≡ Some c → AllByRecursion (IsWithin first end) cursors
    → IsWithin first end c
cursor_within first end [] i c at each = absurd cc
cursor_within first end (x ∷ xs) zero c at each =
    let same : x ≡ c = cc in subst (IsWithin first end) same each.0
cursor_within first end (x ∷ xs) (suc i) c at each = cursor_within first end xs i c at each.1

-- and more changes change nothing of what was offered
pub same_offered : (cursors : List Cursor) (first : ℕ) (notices more : List Notice)
    → AllByRecursion (IsWithin first (length notices)) cursors
    → map (subscription_of (notices ++ more)) cursors ≡ map (subscription_of notices) cursors
same_offered [] first notices more h = refl
same_offered (c ∷ cs) first notices more h = λ i. one i ∷ same_offered cs first notices more h.1 i
  where
    one : subscription_of (notices ++ more) c ≡ subscription_of notices c
    one = ap (λ l. record { terms = c.terms; offered = length (filter (meets c.terms) l) })
        (take-append-le c.seen notices more h.0.to)

-- ---- the slowest one

-- it isn't past the end
pub slowest_within : (end : ℕ) (cursors : List Cursor) → slowest end cursors ≤ end
slowest_within end [] = omega arith
slowest_within end (c ∷ cs) = let h = slowest_within (min end c.seen) cs in omega arith

-- nor before what none was before
pub slowest_from : (first to end : ℕ) (cursors : List Cursor) → first ≤ end
    → AllByRecursion (IsWithin first to) cursors
    → first ≤ slowest end cursors
slowest_from first to end [] le h = le
slowest_from first to end (c ∷ cs) le h =
    let here = h.0 in slowest_from first to (min end c.seen) cs (omega (arith, here.from)) h.1

-- and none is before it
pub within_slowest : (n first to end : ℕ) (cursors : List Cursor) → n ≤ slowest end cursors
    → AllByRecursion (IsWithin first to) cursors
    → AllByRecursion (IsWithin n to) cursors
within_slowest n first to end [] le h = tt
within_slowest n first to end (c ∷ cs) le h =
    let here = h.0 in
    let least = slowest_within (min end c.seen) cs in (
      record { from = omega (arith, le, least); to = here.to },
      within_slowest n first to
          (min end c.seen) cs le h.1,
    )

-- a cursor that is behind by more than this
pub record HasBehind (most last : ℕ) (cursors : List Cursor) : Type 0 where
  pub id : ℕ
  pub cursor : Cursor
  pub at : slice_get cursors id ≡ Some cursor
  pub behind : cursor.seen + most < last

one_behind : (most last end : ℕ) (cursors : List Cursor) → slowest end cursors + most < last
    → (end + most < last) ⊎ HasBehind most last cursors
one_behind most last end [] h = inl h
one_behind most last end (c ∷ cs) h = elim (one_behind most last (min end c.seen) cs h) [
  | inl low ↦ elim (cases_lt (c.seen + most) last) [
    | inl below ↦ inr (record { id = 0; cursor = c; at = refl; behind = below })
    | inr above ↦ inl (omega arith)
  ]
  | inr found ↦ inr (record {
    id = suc found.id;
    cursor = found.cursor;
    at = found.at;
    behind = found.behind;
  })
]

pub some_behind : (most end : ℕ) (cursors : List Cursor) → slowest end cursors + most < end
    → HasBehind most end cursors
some_behind most end cursors h = elim (one_behind most end end cursors h)
    [ inl low ↦ absurd (omega arith) | inr found ↦ found ]
