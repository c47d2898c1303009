-- Lists, and the messages of packets, by their parts.
use Rattle.std.proofs.Common.{◌≡◌, ◌⊎◌, ℕ, zero, suc, ◌+◌, ◌-◌, ◌≤◌, Bor, List, [], ◌∷◌, ◌++◌, length, map, take, drop, refl, sym, ap, ap₂, subst, ◌∙◌, inl, inr, arith, append-nil, length-append, length-drop, length-take, take-add}
use Rattle.std.specs.List.{AllByRecursion}
use Rattle.std.proofs.lemmas.List.{map-append, take_all}
use Rattle.feed_types.specs.declared.item.Item.{Item}
use Rattle.feed_types.specs.declared.item.Numbered.{Numbered}
use Rattle.feed_types.specs.Sessions.{numbered_from, end_item}
use Rattle.quote_payload.specs.Payload.{item_of}
use Rattle.item_packets.specs.Carried.{IsMessageItem, RunsFrom, items_carried, numbered_item}
use Rattle.item_packets.specs.Filled.{message_of, packet_of_items}

-- ---- lists

pub all_append : {A : Type 0} (P : A → Type 0) (xs ys : List A) → AllByRecursion P xs
    → AllByRecursion P ys → AllByRecursion P (xs ++ ys)
all_append P [] ys a b = b
all_append P (x ∷ xs) ys a b = (a.0, all_append P xs ys a.1 b)

pub numbered_append : (n : ℕ) (xs ys : List Item)
    → numbered_from n (xs ++ ys) ≡ numbered_from n xs ++ numbered_from (n + length xs) ys
numbered_append n [] ys = ap (λ (k : ℕ). numbered_from k ys) (omega arith)
numbered_append n (x ∷ xs) ys =
    ap (λ (rest : List Numbered). record { number = n; item = x } ∷ rest)
    (numbered_append (n + 1) xs ys
    ∙ ap (λ (k : ℕ). numbered_from (n + 1) xs ++ numbered_from k ys) (omega arith))

pub items_numbered : (n : ℕ) (its : List Item) → map numbered_item (numbered_from n its) ≡ its
items_numbered n [] = refl
items_numbered n (x ∷ xs) = ap (λ (rest : List Item). x ∷ rest) (items_numbered (n + 1) xs)

pub length-of-row : (n : ℕ) (its : List Item) → length (numbered_from n its) ≡ length its
length-of-row n [] = refl
length-of-row n (x ∷ xs) = ap suc (length-of-row (n + 1) xs)

pub length-map-of : {A B : Type 0} (f : A → B) (xs : List A) → length (map f xs) ≡ length xs
length-map-of f [] = refl
length-map-of f (x ∷ xs) = ap suc (length-map-of f xs)

-- ---- items in a row

pub taken_rest : {A : Type 0} (xs : List A) (n : ℕ) → take (length xs - n) (drop n xs) ≡ drop n xs
taken_rest xs n = take_all (length xs - n) (drop n xs)
    (let l = length-drop n xs in omega (arith, l))

pub row_front : (first : ℕ) (its : List Item) (ends : List Numbered)
    → take (length its) (numbered_from first its ++ ends) ≡ numbered_from first its
row_front first [] ends = refl
row_front first (x ∷ xs) ends =
    ap (λ (z : List Numbered). record { number = first; item = x } ∷ z)
    (row_front (first + 1) xs ends)

pub row_back : (first : ℕ) (its : List Item) (ends : List Numbered)
    → drop (length its) (numbered_from first its ++ ends) ≡ ends
row_back first [] ends = refl
row_back first (x ∷ xs) ends = row_back (first + 1) xs ends

-- the first n items of a row, numbered again
pub front_of_row : (number : ℕ) (its : List Item) (n : ℕ)
    → numbered_from number (map numbered_item (take n (numbered_from number its)))
    ≡ take n (numbered_from number its)
front_of_row number its zero = refl
front_of_row number [] (suc n) = refl
front_of_row number (x ∷ xs) (suc n) =
    ap (λ (z : List Numbered). record { number = number; item = x } ∷ z)
    (front_of_row (number + 1) xs n)

-- a row without its first n items
pub rest_of_row : (n number : ℕ) (its : List Item)
    → drop n (numbered_from number its) ≡ numbered_from (number + n) (drop n its)
rest_of_row zero number its = ap (λ (k : ℕ). numbered_from k its) (omega arith)
rest_of_row (suc n) number [] = refl
rest_of_row (suc n) number (x ∷ xs) =
    rest_of_row n (number + 1) xs
    ∙ ap (λ (k : ℕ). numbered_from k (drop n xs)) (omega arith)

pub all_dropped : {A : Type 0} (P : A → Type 0) (n : ℕ) (xs : List A) → AllByRecursion P xs
    → AllByRecursion P (drop n xs)
all_dropped P zero xs each = each
all_dropped P (suc n) [] each = tt
all_dropped P (suc n) (x ∷ xs) each = all_dropped P n xs each.1

-- what the packet of a row's first items carries
pub carries_front : (session : List ℕ) (number n : ℕ) (items : List Numbered) (its : List Item)
    → items ≡ numbered_from number its
    → map item_of (map message_of (take n items)) ≡ map numbered_item (take n items)
    → items_carried (packet_of_items session number n items) ≡ take n items
carries_front session number n items its is reads =
    append-nil (numbered_from number (map item_of (map message_of (take n items))))
    ∙ ap (numbered_from number) reads
    ∙ ap (λ (z : List Numbered). numbered_from number (map numbered_item (take n z))) is
    ∙ front_of_row number its n
    ∙ ap (take n) (sym is)

pub items_each : (items : List Numbered) (first : ℕ) (its : List Item)
    → items ≡ numbered_from first its → AllByRecursion IsMessageItem its
    → AllByRecursion IsMessageItem (map numbered_item items)
items_each items first its is each =
    subst (λ (z : List Item). AllByRecursion IsMessageItem z)
    (sym (ap (map numbered_item) is ∙ items_numbered first its)) each
