-- Laws of what the last entry of a journal made; proved here, and nobody has to read them.
use Rattle.std.proofs.Common.{ℕ, ◌≡◌, ◌+◌, ◌-◌, List, [], ◌∷◌, ◌++◌, ap, ◌∙◌, sym, length, take, drop, arith}
use Rattle.std.proofs.lemmas.List.{length-append, take-append-le, take_all}
use Rattle.std.proofs.Math.Seq.{drop-append_seam}
use Rattle.feed_types.specs.declared.journal.Entry.{Entry}
use Rattle.feed_types.specs.declared.journal.Notice.{Notice}
use Rattle.nbbo_book.specs.Changes.{changes_by}
use Rattle.journal_book.specs.Changes.{changes_of, notices_from}
use Rattle.journal_book.specs.NumberedBooks.{before_last, latest_of}
use Rattle.journal_book.specs.Growth.{changes-put, length-numbered}

-- the entries before the one that was put
pub before-put : (es : List Entry) (e : Entry) → before_last (es ++ e ∷ []) ≡ es
before-put es e =
    let count : length (es ++ e ∷ []) - 1 ≡ length es = omega (arith, length-append es (e ∷ [])) in
    ap (λ (n : ℕ). take n (es ++ e ∷ [])) count
    ∙ take-append-le (length es) es (e ∷ []) (omega arith)
    ∙ take_all (length es) es (omega arith)

-- what the entry that was put made
pub latest-put : (symbols : List (List ℕ)) (es : List Entry) (e : Entry)
    → latest_of symbols (es ++ e ∷ [])
    ≡ notices_from (length (changes_of symbols es) + 1)
    (changes_by symbols es (length es + 1) e)
latest-put symbols es e =
    let made =
    notices_from (length (changes_of symbols es) + 1) (changes_by symbols es (length es + 1) e)
    in
    ap (λ (l : List Entry). drop (length (changes_of symbols l))
    (changes_of symbols (es ++ e ∷ []))) (before-put es e)
    ∙ ap (λ (l : List Notice). drop (length (changes_of symbols es)) l) (changes-put symbols es e)
    ∙ drop-append_seam (changes_of symbols es) made

-- and how many notices there are then
pub count-put : (symbols : List (List ℕ)) (es : List Entry) (e : Entry)
    → length (changes_of symbols (es ++ e ∷ []))
    ≡ length (changes_of symbols es) + length (changes_by symbols es (length es + 1) e)
count-put symbols es e =
    let made = changes_by symbols es (length es + 1) e in
    ap length (changes-put symbols es e)
    ∙ length-append (changes_of symbols es) (notices_from (length (changes_of symbols es) + 1) made)
    ∙ ap (λ (n : ℕ). length (changes_of symbols es) + n)
    (length-numbered (length (changes_of symbols es) + 1) made)

-- they come after those of the entries before
pub latest-after : (symbols : List (List ℕ)) (es : List Entry) (e : Entry)
    → changes_of symbols es ++ latest_of symbols (es ++ e ∷ [])
    ≡ changes_of symbols (es ++ e ∷ [])
latest-after symbols es e =
    ap (λ (l : List Notice). changes_of symbols es ++ l) (latest-put symbols es e)
    ∙ sym (changes-put symbols es e)
