-- The keys that are left once the items of a journal's entries came.
use Rattle.std.proofs.Common.{◌≡◌, ℕ, ◌+◌, ◌<◌, ◌≤◌, List, [], ◌∷◌, ◌++◌, true, false, get_or, length, take, refl, sym, ap, subst, ◌∙◌}
use Rattle.std.specs.Prelude.{Bool, ◌&&◌, ◌||◌, not}
use Rattle.std.specs.List.{list_any}
use Rattle.std.proofs.lemmas.Grind.{take_at_read}
use Rattle.std.proofs.lemmas.List.{take_all}
use Rattle.std.proofs.lemmas.List.Folds.{list_any-append}
use Rattle.feed_types.specs.declared.journal.Entry.{Entry}
use Rattle.run_notes.specs.AbsentLaws.{one_or_other}
use Rattle.run_notes.specs.AbsentSymbols.{enters, has_key}

-- of the keys that were there these are left after the entries
abbrev pub IsAfterEntries : List ℕ → List Entry → List ℕ → Type 0
IsAfterEntries before entries after =
    (key : ℕ) → has_key after key ≡ (has_key before key && not (list_any (enters key) entries))

or_none : (a : Bool) → (a || false) ≡ a
or_none false = refl
or_none true = refl

-- after one entry more
pub entry_more : (entries : List Entry) (i : ℕ) (x : Entry) (before mid after : List ℕ)
    → i < length entries → x ≡ get_or entries i x
    → IsAfterEntries before (take i entries) mid
    → ((key : ℕ) → has_key after key ≡ (has_key mid key && not (enters key x)))
    → IsAfterEntries before (take (i + 1) entries) after
entry_more entries i x before mid after less here first second key =
    let front = take i entries in
    let whole : take (i + 1) entries ≡ front ++ x ∷ [] =
    (take_at_read entries i x less).1 ∙ ap (λ (y : Entry). front ++ y ∷ []) (sym here) in
    second key
    ∙ ap (λ (b : Bool). b && not (enters key x)) (first key)
    ∙ one_or_other (has_key before key) (list_any (enters key) front) (enters key x)
    ∙ ap (λ (b : Bool). has_key before key && not (list_any (enters key) front || b))
    (sym (or_none (enters key x)))
    ∙ ap (λ (b : Bool). has_key before key && not b)
    (sym (list_any-append (enters key) front (x ∷ [])))
    ∙ ap (λ (es : List Entry). has_key before key && not (list_any (enters key) es)) (sym whole)

-- after all of them
pub entries_all : (entries : List Entry) (i : ℕ) (before after : List ℕ) → length entries ≤ i
    → IsAfterEntries before (take i entries) after → IsAfterEntries before entries after
entries_all entries i before after long is =
    subst (λ (es : List Entry). IsAfterEntries before es after) (take_all i entries long) is
