-- Laws of how the changes of a journal grow by one entry; proved here, and nobody has to read them.
use Rattle.std.proofs.Common.{ℕ, zero, suc, ◌≡◌, ◌+◌, ◌-◌, ◌<◌, ◌≤◌, List, [], ◌∷◌, ◌++◌, ap, ◌∙◌, sym, refl, length, take, arith, append_assoc}
use Rattle.std.proofs.lemmas.List.{length-append, take-append-le, take_all}
use Rattle.std.proofs.lemmas.Grind.{flat_map-append}
use Rattle.std.proofs.lemmas.List.{append-nil}
use Rattle.std.specs.List.{filter_map, flat_map, range_with_len}
use Rattle.feed_types.specs.declared.journal.Entry.{Entry}
use Rattle.feed_types.specs.Prefix.{IsPrefix}
use Rattle.nbbo_book.specs.declared.change.Change.{Change}
use Rattle.nbbo_book.specs.Changes.{change_of, changes_by}
use Rattle.nbbo_book.specs.Nationals.{national_of}
use Rattle.journal_book.specs.Changes.{changes_at, all_changes, notice_of, notices_from, changes_of}

-- one more number, at the end
range_more : (a n : ℕ) → range_with_len a (suc n) ≡ range_with_len a n ++ (a + n) ∷ []
range_more a zero = let e : a ≡ a + 0 = omega arith in ap (λ k. k ∷ []) e
range_more a (suc n) =
    let e : a + 1 + n ≡ a + suc n = omega arith in
    ap (λ l. a ∷ l) (range_more (a + 1) n ∙ ap (λ k. range_with_len (a + 1) n ++ k ∷ []) e)

-- two functions that agree on the range
flat_map_same : {A : Type 0} (f g : ℕ → List A) (a n : ℕ)
    → ((p : ℕ) → a ≤ p → p < a + n → f p ≡ g p)
    → flat_map f (range_with_len a n) ≡ flat_map g (range_with_len a n)
flat_map_same f g a zero h = refl
flat_map_same f g a (suc n) h =
    ap (λ l. l ++ flat_map f (range_with_len (a + 1) n)) (h a (omega arith) (omega arith))
    ∙ ap (λ l. g a ++ l) (flat_map_same f g (a + 1) n
    (λ p low high. h p (omega arith) (omega arith)))

module _ (symbols : List (List ℕ)) (es : List Entry) (e : Entry) where
  -- the earlier changes stay
  changes_at-before : (p : ℕ) → p ≤ length es
      → changes_at symbols (es ++ e ∷ []) p ≡ changes_at symbols es p
  changes_at-before p low =
      let earlier : take (p - 1) (es ++ e ∷ []) ≡ take (p - 1) es =
      take-append-le (p - 1) es (e ∷ []) (omega arith) in
      let now : take p (es ++ e ∷ []) ≡ take p es = take-append-le p es (e ∷ []) low in
      λ i. filter_map (λ symbol. change_of p symbol (national_of (earlier i) symbol)
      (national_of (now i) symbol)) symbols

  -- and at the new position are the entry's changes
  changes_at-now : (p : ℕ) → p ≡ length es + 1
      → changes_at symbols (es ++ e ∷ []) p ≡ changes_by symbols es p e
  changes_at-now p is =
      let below : p - 1 ≤ length es = omega arith in
      let all : length es ≤ p - 1 = omega arith in
      let whole : length (es ++ e ∷ []) ≤ p = omega (arith, length-append es (e ∷ [])) in
      let earlier : take (p - 1) (es ++ e ∷ []) ≡ es =
      take-append-le (p - 1) es (e ∷ []) below ∙ take_all (p - 1) es all in
      let now : take p (es ++ e ∷ []) ≡ es ++ e ∷ [] = take_all p (es ++ e ∷ []) whole in
      λ i. filter_map (λ symbol. change_of p symbol (national_of (earlier i) symbol)
      (national_of (now i) symbol)) symbols

  pub all_changes-put : all_changes symbols (es ++ e ∷ [])
      ≡ all_changes symbols es ++ changes_by symbols es (length es + 1) e
  all_changes-put =
      let n : ℕ = length es in
      let f : ℕ → List Change = changes_at symbols (es ++ e ∷ []) in
      let count : length (es ++ e ∷ []) ≡ suc n = omega (arith, length-append es (e ∷ [])) in
      let place : 1 + n ≡ n + 1 = omega arith in
      let tail : flat_map f ((1 + n) ∷ []) ≡ changes_by symbols es (n + 1) e =
      append-nil (f (1 + n)) ∙ ap f place ∙ changes_at-now (n + 1) refl in
      ap (λ k. flat_map f (range_with_len 1 k)) count
      ∙ ap (flat_map f) (range_more 1 n)
      ∙ flat_map-append f (range_with_len 1 n) ((1 + n) ∷ [])
      ∙ ap (λ l. l ++ flat_map f ((1 + n) ∷ []))
      (flat_map_same f (changes_at symbols es) 1 n
      (λ p low high. changes_at-before p (omega arith)))
      ∙ ap (λ l. all_changes symbols es ++ l) tail

numbered-append : (n : ℕ) (xs ys : List Change)
    → notices_from n (xs ++ ys) ≡ notices_from n xs ++ notices_from (length xs + n) ys
numbered-append n [] ys = ap (λ k. notices_from k ys) (omega arith)
numbered-append n (x ∷ xs) ys =
    let here : length xs + (n + 1) ≡ suc (length xs) + n = omega arith in
    ap (λ t. notice_of n x ∷ t)
    (numbered-append (n + 1) xs ys
    ∙ ap (λ k. notices_from (n + 1) xs ++ notices_from k ys) here)

pub length-numbered : (n : ℕ) (xs : List Change) → length (notices_from n xs) ≡ length xs
length-numbered n [] = refl
length-numbered n (x ∷ xs) = ap suc (length-numbered (n + 1) xs)

-- the changes of one more entry, after the earlier ones
pub changes-put : (symbols : List (List ℕ)) (es : List Entry) (e : Entry)
    → changes_of symbols (es ++ e ∷ [])
    ≡ changes_of symbols es ++ notices_from (length (changes_of symbols es) + 1)
    (changes_by symbols es (length es + 1) e)
changes-put symbols es e =
    ap (notices_from 1) (all_changes-put symbols es e)
    ∙ numbered-append 1 (all_changes symbols es) (changes_by symbols es (length es + 1) e)
    ∙ ap (λ k. changes_of symbols es ++ notices_from (k + 1)
    (changes_by symbols es (length es + 1) e))
    (sym (length-numbered 1 (all_changes symbols es)))

-- a longer journal's changes begin with a shorter one's
pub changes_begin : (symbols : List (List ℕ)) (es fs : List Entry)
    → IsPrefix (changes_of symbols es) (changes_of symbols (es ++ fs))
changes_begin symbols es [] =
    record {
      rest = [];
      is = ap (changes_of symbols) (append-nil es)
          ∙ sym (append-nil (changes_of symbols es));
    }
changes_begin symbols es (f ∷ fs) =
    let more =
    notices_from (length (changes_of symbols es) + 1) (changes_by symbols es (length es + 1) f)
    in
    let later : IsPrefix (changes_of symbols (es ++ f ∷ []))
    (changes_of symbols ((es ++ f ∷ []) ++ fs)) = changes_begin symbols (es ++ f ∷ []) fs in
    record {
      rest = more ++ later.rest;
      is = ap (changes_of symbols) (sym (append_assoc es (f ∷ []) fs)) ∙ later.is
          ∙ ap (λ l. l ++ later.rest) (changes-put symbols es f)
          ∙ append_assoc (changes_of symbols es) more later.rest;
    }
