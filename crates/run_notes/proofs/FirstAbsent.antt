-- The first eight of the symbols that pass a test, with one symbol more.
use Rattle.std.proofs.Common.{◌≡◌, ℕ, ◌+◌, ◌<◌, ◌≤◌, cond, List, [], ◌∷◌, ◌++◌, true, false, length, take, get_or, refl, sym, ap, subst, ◌∙◌, append-nil, arith, length-append, flat_map}
use Rattle.std.specs.Prelude.{Bool, ◌&&◌, filter, min, nat_lt}
use Rattle.std.proofs.lemmas.Bool.{ltb-true, ltb-false}
use Rattle.std.proofs.lemmas.Grind.{flat_map-append, take_at_read}
use Rattle.std.proofs.lemmas.List.{take_all, take-append-le}
use Rattle.std.proofs.lemmas.List.Elements.{filter-append}
use Rattle.text_out.specs.Devices.{Writing}
use Rattle.text_out.specs.StandardError.{SaysEach}
use Rattle.text_out.specs.laws.SaidTexts.{says_each}
use Rattle.run_notes.specs.AbsentSymbols.{symbol_texts, texts_if}

-- what passes of one element more
filter_more : {X : Type 0} (p : X → Bool) (xs : List X) (i : ℕ) (d : X) → i < length xs
    → filter p (take (i + 1) xs)
    ≡ filter p (take i xs) ++ cond (p (get_or xs i d)) (get_or xs i d ∷ []) []
filter_more p xs i d less =
    ap (filter p) (take_at_read xs i d less).1
    ∙ filter-append p (take i xs) (get_or xs i d ∷ [])

-- the first eight with one element more at the end, if it passes, where n of the first eight are
-- there
record IsFirst {X : Type 0} (ys zs : List X) (x : X) (n : ℕ) (b : Bool) : Type 0 where
  first : take 8 zs ≡ take 8 ys ++ cond b (x ∷ []) []
  count : min 8 (length zs) ≡ n + cond b 1 0

first_same : {X : Type 0} (ys : List X) (x : X) (n : ℕ) → n ≡ min 8 (length ys)
    → IsFirst ys (ys ++ []) x n false
first_same {X} ys x n is =
    let counted : min 8 (length ys) ≡ n + 0 = omega (arith, is) in
    record {
      first = ap (take 8) (append-nil ys) ∙ sym (append-nil (take 8 ys));
      count = ap (λ (l : List X). min 8 (length l)) (append-nil ys) ∙ counted;
    }

first_by : {X : Type 0} (ys : List X) (x : X) (n : ℕ) (few passes : Bool)
    → nat_lt n 8 ≡ few → n ≡ min 8 (length ys)
    → IsFirst ys (ys ++ cond passes (x ∷ []) []) x n (few && passes)
first_by {X} ys x n true true e is =
    let less = ltb-true n 8 e in
    let short : length ys < 8 = omega (arith, less, is) in
    let longer : length (ys ++ x ∷ []) ≡ length ys + 1 = length-append ys (x ∷ []) in
    let within : length (ys ++ x ∷ []) ≤ 8 = omega (arith, short, longer) in
    let whole : length ys ≤ 8 = omega (arith, short) in
    let counted : min 8 (length (ys ++ x ∷ [])) ≡ n + 1 = omega (arith, short, longer, is) in
    record {
      first = take_all 8 (ys ++ x ∷ []) within
          ∙ ap (λ (l : List X). l ++ x ∷ []) (sym (take_all 8 ys whole));
      count = counted;
    }
first_by {X} ys x n true false e is = first_same ys x n is
first_by {X} ys x n false true e is =
    let most = ltb-false n 8 e in
    let long : 8 ≤ length ys = omega (arith, most, is) in
    let longer : length (ys ++ x ∷ []) ≡ length ys + 1 = length-append ys (x ∷ []) in
    let counted : min 8 (length (ys ++ x ∷ [])) ≡ n + 0 = omega (arith, long, longer, is) in
    record {
      first = take-append-le 8 ys (x ∷ []) long ∙ sym (append-nil (take 8 ys));
      count = counted;
    }
first_by {X} ys x n false false e is = first_same ys x n is

first_more : {X : Type 0} (p : X → Bool) (xs : List X) (i : ℕ) (d : X) (n : ℕ) → i < length xs
    → n ≡ min 8 (length (filter p (take i xs)))
    → IsFirst (filter p (take i xs)) (filter p (take (i + 1) xs)) (get_or xs i d) n
    (nat_lt n 8 && p (get_or xs i d))
first_more {X} p xs i d n less is =
    let ys = filter p (take i xs) in
    let x = get_or xs i d in
    subst (λ (zs : List X). IsFirst ys zs x n (nat_lt n 8 && p x)) (sym (filter_more p xs i d less))
    (first_by ys x n (nat_lt n 8) (p x) refl is)

says_if : {S : Type 0} (w : Writing S) (what x : List ℕ) (b : Bool) (s t : S)
    → SaysEach w (texts_if b what x) s t
    → SaysEach w (flat_map (symbol_texts what) (cond b (x ∷ []) [])) s t
says_if w what x true s t says =
    subst (λ (texts : List (List ℕ)). SaysEach w texts s t)
    (sym (append-nil (symbol_texts what x))) says
says_if w what x false s t says = says

-- what is said of the first symbols, and how many these are
abbrev pub SaysFirst : {S : Type 0} → Writing S → List ℕ → (List ℕ → Bool) → List (List ℕ) → ℕ → ℕ
    → S → S → Type 0
SaysFirst w what p xs i n s t =
    SaysEach w (flat_map (symbol_texts what) (take 8 (filter p (take i xs)))) s t
    × (n ≡ min 8 (length (filter p (take i xs))))

pub says_first : {S : Type 0} (w : Writing S) (what : List ℕ) (p : List ℕ → Bool)
    (xs : List (List ℕ)) (i : ℕ) (x : List ℕ) (n m : ℕ) (b : Bool) (s t u : S) → i < length xs
    → x ≡ get_or xs i x → b ≡ (nat_lt n 8 && p x) → m ≡ cond b 1 0
    → SaysFirst w what p xs i n s t → SaysEach w (texts_if b what x) t u
    → SaysFirst w what p xs (i + 1) (n + m) s u
says_first {S} w what p xs i x n m b s t u less here due counted said one =
    let at = get_or xs i x in
    let ys = take 8 (filter p (take i xs)) in
    let more = first_more p xs i x n less said.1 in
    let same : (nat_lt n 8 && p at) ≡ b =
    ap (λ (y : List ℕ). nat_lt n 8 && p y) (sym here) ∙ sym due in
    let first : take 8 (filter p (take (i + 1) xs)) ≡ ys ++ cond b (x ∷ []) [] =
    more.first ∙ ap (λ (c : Bool). ys ++ cond c (at ∷ []) []) same
    ∙ ap (λ (y : List ℕ). ys ++ cond b (y ∷ []) []) (sym here) in
    let count : min 8 (length (filter p (take (i + 1) xs))) ≡ n + m =
    more.count ∙ ap (λ (c : Bool). n + cond c 1 0) same ∙ ap (λ (k : ℕ). n + k) (sym counted) in (
      subst (λ (zs : List (List ℕ)). SaysEach w (flat_map (symbol_texts what) zs) s u) (sym first)
          (subst (λ (texts : List (List ℕ)). SaysEach w texts s u)
          (sym (flat_map-append (symbol_texts what) ys (cond b (x ∷ []) [])))
          (says_each w (flat_map (symbol_texts what) ys)
          (flat_map (symbol_texts what) (cond b (x ∷ []) [])) s t u said.0
          (says_if w what x b t u one))),
      sym count,
    )

-- once all are gone through
pub says_all : {S : Type 0} (w : Writing S) (what : List ℕ) (p : List ℕ → Bool)
    (xs : List (List ℕ)) (i n : ℕ) (s t : S) → length xs ≤ i → SaysFirst w what p xs i n s t
    → SaysEach w (flat_map (symbol_texts what) (take 8 (filter p xs))) s t
says_all {S} w what p xs i n s t long said =
    subst (λ (ys : List (List ℕ)). SaysEach w
    (flat_map (symbol_texts what) (take 8 (filter p ys))) s t) (take_all i xs long) said.0
