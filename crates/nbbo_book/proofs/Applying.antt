-- A step over one row, or over all rows, one after the other.
use Rattle.std.proofs.Common.{ℕ, zero, suc, ◌<◌, ◌≡◌, ◌+◌, List, [], ◌∷◌, ◌++◌, Bool, true, not, refl, ap, sym, ◌∙◌, arith, length, map, take, drop, Option, Some, None, set, get_or, append_assoc, add-one}
use Rattle.std.specs.Prelude.{position}
use Rattle.std.specs.List.{filter_map, cons_option}
use Rattle.std.specs.Option.{option_to_list}
use Rattle.std.specs.Str.{bytes_eq}
use Rattle.std.specs.Cmp.Lexicographic.{bytes_decides}
use Rattle.nbbo_book.specs.declared.row.Row.{Row}
use Rattle.nbbo_book.specs.declared.change.Change.{Change}
use Rattle.nbbo_book.specs.declared.steps.Step.{Step}
use Rattle.nbbo_book.specs.Changes.{is_same_national}
use Rattle.nbbo_book.specs.Rows.{row_stepped, row_told, told_where, national_at, symbol_in, AppliesStep}
use Rattle.nbbo_book.specs.Tables.{IsTable, symbols_in_rows}
use Rattle.nbbo_book.proofs.Keys.{symbols_apart}
use Rattle.nbbo_book.proofs.Stepping.{alone, found_steps, found_symbol, missed_steps, option_list, told_is}

walk_read : (f : Row → Row) (rs : List Row) (i : ℕ) (d : Row) → i < length rs
    → get_or (map f (take i rs) ++ drop i rs) i d ≡ get_or rs i d
walk_read f [] i d h = absurd (omega (arith, h))
walk_read f (r ∷ rs) zero d h = refl
walk_read f (r ∷ rs) (suc i) d h = walk_read f rs i d (omega (arith, h))

walk_on : (f : Row → Row) (rs : List Row) (i : ℕ) (d : Row) → i < length rs
    → set (map f (take i rs) ++ drop i rs) i (f (get_or rs i d)) ≡ map f (take (suc i) rs)
    ++ drop (suc i) rs
walk_on f [] i d h = absurd (omega (arith, h))
walk_on f (r ∷ rs) zero d h = refl
walk_on f (r ∷ rs) (suc i) d h = ap (λ t. f r ∷ t) (walk_on f rs i d (omega (arith, h)))

walk_gives : (g : Row → Option Change) (rs : List Row) (i : ℕ) (d : Row) → i < length rs
    → filter_map g (take (suc i) rs) ≡ filter_map g (take i rs)
    ++ option_to_list (g (get_or rs i d))
walk_gives g [] i d h = absurd (omega (arith, h))
walk_gives g (r ∷ rs) zero d h = option_list (g r) [] ∙ alone (option_to_list (g r))
walk_gives g (r ∷ rs) (suc i) d h =
    ap (cons_option (g r)) (walk_gives g rs i d (omega (arith, h)))
    ∙ option_list (g r) (filter_map g (take i rs) ++ option_to_list (g (get_or rs i d)))
    ∙ sym (append_assoc (option_to_list (g r)) (filter_map g (take i rs))
    (option_to_list (g (get_or rs i d))))
    ∙ ap (λ t. t ++ option_to_list (g (get_or rs i d)))
    (sym (option_list (g r) (filter_map g (take i rs))))

-- the first rows are stepped and have told their changes, the others are as before
pub record HasWalked (step : Step) (i : ℕ) (old rows : List Row) (before items : List Change) : Type
    0 where
  pub stepped : rows ≡ map (row_stepped step) (take i old) ++ drop i old
  pub told : items ≡ before ++ filter_map (row_told step) (take i old)

-- what a step over a row leaves and tells
pub record HasStepped (step : Step) (row next : Row) (moved : Bool)
    (items after : List Change) : Type 0 where
  pub stepped : next ≡ row_stepped step row
  pub differs : moved ≡ not (is_same_national (national_at row) (national_at next))
  pub told : after ≡ items ++ option_to_list (told_where moved step.position next)

tells : (step : Step) (row next : Row) (moved : Bool) (items after : List Change)
    → HasStepped step row next moved items after
    → after ≡ items ++ option_to_list (row_told step row)
tells step row next moved items after h =
    h.told ∙ ap (λ o. items ++ option_to_list o)
    (told_is step.venues.now.helped step.age step.position step.entry.now row next
    moved h.stepped h.differs)

at_place : (step : Step) (i : ℕ) (old rows : List Row) (before items : List Change) (d : Row)
    → i < length old
    → HasWalked step i old rows before items → get_or rows i d ≡ get_or old i d
at_place step i old rows before items d l h = ap (λ (t : List Row). get_or t i d) h.stepped
    ∙ walk_read (row_stepped step) old i d l

pub walked_on : (step : Step) (i : ℕ) (old rows : List Row) (before items after : List Change)
    (d next : Row)
    (moved : Bool) → i < length old → HasWalked step i old rows before items
    → HasStepped step (get_or rows i d) next moved items after
    → HasWalked step (i + 1) old (set rows i next) before after
walked_on step i old rows before items after d next moved l h one =
    let f : Row → Row = row_stepped step in
    let g : Row → Option Change = row_told step in
    let read = at_place step i old rows before items d l h in
    record {
      stepped =
          ap (λ (t : Row). set rows i t) (one.stepped ∙ ap f read)
          ∙ ap (λ (t : List Row). set t i (f (get_or old i d))) h.stepped
          ∙ walk_on f old i d l
          ∙ ap (λ (n : ℕ). map f (take n old) ++ drop n old) (sym (add-one i));
      told =
          tells step (get_or rows i d) next moved items after one
          ∙ ap (λ (t : List Change). t ++ option_to_list (g (get_or rows i d))) h.told
          ∙ ap (λ (t : Row). (before ++ filter_map g (take i old)) ++ option_to_list (g t)) read
          ∙ append_assoc before (filter_map g (take i old)) (option_to_list (g (get_or old i d)))
          ∙ ap (λ (t : List Change). before ++ t) (sym (walk_gives g old i d l))
          ∙ ap (λ (n : ℕ). before ++ filter_map g (take n old)) (sym (add-one i));
    }

-- a symbol that was found, and whose row alone was stepped
pub found_applies : (step : Step) (s : List ℕ) (old : List Row) (keys : List ℕ) (i : ℕ)
    (before after : List Change)
    (d next : Row) (moved : Bool) → symbol_in step.entry.now ≡ Some s
    → IsTable (symbols_in_rows old) keys
    → position (bytes_eq s) (symbols_in_rows old) ≡ Some i
    → HasStepped step (get_or old i d) next moved before after
    → AppliesStep step old (set old i next) before after
found_applies step s old keys i before after d next moved of table at one =
    let k = found_steps step.venues.now.helped step.age step.position step.entry.now s old i d of
    (symbols_apart (symbols_in_rows old) keys table) at in
    record {
      rows = ap (λ (t : Row). set old i t) one.stepped ∙ sym k.0;
      items = tells step (get_or old i d) next moved before after one
          ∙ ap (λ (t : List Change). before ++ t) (sym k.1);
    }

-- where no row changes
pub still_applies : (step : Step) (old : List Row) (before : List Change)
    → (map (row_stepped step) old ≡ old) × (filter_map (row_told step) old ≡ [])
    → AppliesStep step old old before before
still_applies step old before k = record {
  rows = sym k.0;
  items = sym (alone before) ∙ ap (λ (t : List Change). before ++ t) (sym k.1);
}

pub missed_applies : (step : Step) (s : List ℕ) (old : List Row) (before : List Change)
    → symbol_in step.entry.now ≡ Some s → position (bytes_eq s) (symbols_in_rows old) ≡ None
    → AppliesStep step old old before before
missed_applies step s old before of at = still_applies step old before
    (missed_steps step.venues.now.helped step.age step.position step.entry.now s old of at)

-- the row of the symbol that was found
pub found_own : (s : List ℕ) (old : List Row) (i : ℕ) (d : Row)
    → position (bytes_eq s) (symbols_in_rows old) ≡ Some i
    → bytes_eq s (get_or old i d).symbol ≡ true
found_own s old i d at = (bytes_decides s (get_or old i d).symbol).1
    (sym (found_symbol old s i d at).1)
