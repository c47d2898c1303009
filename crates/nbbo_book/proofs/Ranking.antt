-- Ranks, after one venue's side was taken out or put in.
use Rattle.std.proofs.Common.{ℕ, suc, ◌<◌, ◌≤◌, ◌≡◌, List, [], ◌∷◌, Bool, true, false, refl, ap, sym, ◌∙◌, subst, arith, length, map, cond, nat_eq, Option, Some, None, ◌⊎◌, inl, inr, ◌||◌}
use Rattle.std.specs.List.{AllByRecursion, IsDistinct, list_any}
use Rattle.std.proofs.lemmas.Map.Steps.{length-le_from_distinct_below}
use Rattle.feed_types.specs.declared.line.Side.{Side}
use Rattle.feed_types.specs.declared.national.Best.{Best}
use Rattle.nbbo_book.specs.Nationals.{beats}
use Rattle.nbbo_book.specs.Ranks.{InRank, IsIn, HasNone, without, with_rank, placed, IsRankingOf}
use Rattle.nbbo_book.proofs.Beating.{beats_chain, beats_one_way, beats_either, beats_same}

pub nat_same : (a b : ℕ) → nat_eq a b ≡ true → a ≡ b
nat_same a b h = grind (arith, h)

pub nat_refl : (a : ℕ) → nat_eq a a ≡ true
nat_refl a = grind arith

pub nat_apart : (a b : ℕ) → nat_eq a b ≡ false → nat_eq b a ≡ false
nat_apart a b h = grind (arith, h)

pub nat_split : (w v : ℕ) (P : Type 0) → (w ≡ v → P) → (nat_eq w v ≡ false → P) → P
nat_split w v P here there = (elim (nat_eq w v) as (λ t. nat_eq w v ≡ t → P)
    [ true ↦ λ e. here (nat_same w v e) | false ↦ there ]) refl

pub some_same : {T : Type 0} {x y : T} → Some x ≡ Some y → x ≡ y
some_same e = cc

pub all_from_in : (P : Best → Type 0) (xs : List Best) → ((x : Best) → IsIn xs x → P x)
    → AllByRecursion P xs
all_from_in P [] h = tt
all_from_in P (x ∷ xs) h = (h x (inl refl), all_from_in P xs (λ y i. h y (inr i)))

pub in_all : (P : Best → Type 0) (xs : List Best) → AllByRecursion P xs
    → (x : Best) → IsIn xs x → P x
in_all P [] h x i = absurd i
in_all P (y ∷ ys) h x i = elim i [ inl e ↦ subst P e h.0 | inr k ↦ in_all P ys h.1 x k ]

without_in : (v : ℕ) (xs : List Best) (z : Best) → IsIn (without v xs) z → IsIn xs z
without_in v [] z i = i
without_in v (x ∷ xs) z i = (elim (nat_eq x.venue v) as
    (λ t. IsIn (cond t xs (x ∷ without v xs)) z → IsIn (x ∷ xs) z) [
      | true ↦ λ k. inr k
      | false ↦ λ k. elim k [ inl e ↦ inl e | inr m ↦ inr (without_in v xs z m) ]
    ]) i

without_kept : (v : ℕ) (xs : List Best) (z : Best) → IsIn xs z → nat_eq z.venue v ≡ false
    → IsIn (without v xs) z
without_kept v [] z i n = i
without_kept v (x ∷ xs) z i n =
    let R : Bool → Type 0 = λ t. nat_eq x.venue v ≡ t → IsIn (cond t xs (x ∷ without v xs)) z in
    (elim (nat_eq x.venue v) as R [
      | true ↦ λ e. elim i [
        | inl s ↦
            (let no : true ≡ false = sym e ∙ ap (λ (y : Best). nat_eq y.venue v) s ∙ n in cc)
        | inr k ↦ k
      ]
      | false ↦ λ e. elim i [ inl s ↦ inl s | inr k ↦ inr (without_kept v xs z k n) ]
    ]) refl

-- of two ranks, each what its venue is ranked with, only one is the venue's
other_venue : (b : Side) (f : ℕ → ℕ) (e : ℕ → Option Best) (v : ℕ) (x y : Best)
    → nat_eq x.venue v ≡ true
    → e x.venue ≡ Some x → e y.venue ≡ Some y → beats b f x y ≡ true → nat_eq y.venue v ≡ false
other_venue b f e v x y h p q k =
    let R : Bool → Type 0 = λ t. nat_eq y.venue v ≡ t → t ≡ false in
    (elim (nat_eq y.venue v) as R [
      | true ↦ λ m.
          let same : x ≡ y = some_same (sym p ∙ ap e (nat_same x.venue v h
          ∙ sym (nat_same y.venue v m)) ∙ q) in
          absurd (beats_one_way b f x y k
          (ap (λ (t : Best). beats b f t x) (sym same) ∙ ap (λ (t : Best). beats b f x t) same ∙ k))
      | false ↦ λ m. refl
    ]) refl

pub without_none : (b : Side) (f : ℕ → ℕ) (e : ℕ → Option Best) (v : ℕ) (xs : List Best)
    → ((x : Best) → IsIn xs x → e x.venue ≡ Some x) → InRank b f xs → HasNone v (without v xs)
without_none b f e v [] each order = tt
without_none b f e v (x ∷ xs) each order =
    let R : Bool → Type 0 = λ t. nat_eq x.venue v ≡ t → HasNone v (cond t xs (x ∷ without v xs)) in
    (elim (nat_eq x.venue v) as R [
      | true ↦ λ h. all_from_in (λ y. nat_eq y.venue v ≡ false) xs
          (λ y i. other_venue b f e v x y h (each x (inl refl)) (each y (inr i))
          (in_all (λ z. beats b f x z ≡ true) xs order.0 y i))
      | false ↦ λ h. (h, without_none b f e v xs (λ y i. each y (inr i)) order.1)
    ]) refl

all_without : (P : Best → Type 0) (v : ℕ) (xs : List Best) → AllByRecursion P xs
    → AllByRecursion P (without v xs)
all_without P v [] h = tt
all_without P v (x ∷ xs) h = elim (nat_eq x.venue v) as
    (λ t. AllByRecursion P (cond t xs (x ∷ without v xs)))
    [ true ↦ h.1 | false ↦ (h.0, all_without P v xs h.1) ]

pub InRank-without : (b : Side) (f : ℕ → ℕ) (v : ℕ) (xs : List Best) → InRank b f xs
    → InRank b f (without v xs)
InRank-without b f v [] h = tt
InRank-without b f v (x ∷ xs) h =
    elim (nat_eq x.venue v) as (λ t. InRank b f (cond t xs (x ∷ without v xs))) [
      | true ↦ h.1
      | false ↦ (
        all_without (λ y. beats b f x y ≡ true) v xs h.0,
        InRank-without b f v xs h.1,
      )
    ]

-- the order by ages that agree at each of them
pub InRank-ages : (b : Side) (f g : ℕ → ℕ) (xs : List Best)
    → ((x : Best) → IsIn xs x → f x.venue ≡ g x.venue)
    → InRank b f xs → InRank b g xs
InRank-ages b f g [] same h = tt
InRank-ages b f g (x ∷ xs) same h = (
  all_from_in (λ y. beats b g x y ≡ true) xs
      (λ y i. sym (beats_same b f g x y (same x (inl refl)) (same y (inr i)))
      ∙ in_all (λ z. beats b f x z ≡ true) xs h.0 y i),
  InRank-ages b f g xs (λ y i. same y (inr i)) h.1,
)

in_with : (b : Side) (f : ℕ → ℕ) (x : Best) (xs : List Best) (z : Best)
    → IsIn (with_rank b f x xs) z
    → (x ≡ z) ⊎ IsIn xs z
in_with b f x [] z i = i
in_with b f x (y ∷ ys) z i = (elim (beats b f x y) as
    (λ t. IsIn (cond t (x ∷ y ∷ ys) (y ∷ with_rank b f x ys)) z → (x ≡ z) ⊎ IsIn (y ∷ ys) z) [
      | true ↦ λ k. k
      | false ↦ λ k. elim k [
        | inl e ↦ inr (inl e)
        | inr m ↦ elim (in_with b f x ys z m)
            [ inl e ↦ inl e | inr n ↦ inr (inr n) ]
      ]
    ]) i

with_in : (b : Side) (f : ℕ → ℕ) (x : Best) (xs : List Best) (z : Best) → (x ≡ z) ⊎ IsIn xs z
    → IsIn (with_rank b f x xs) z
with_in b f x [] z i = i
with_in b f x (y ∷ ys) z i = (elim (beats b f x y) as
    (λ t. (x ≡ z) ⊎ IsIn (y ∷ ys) z → IsIn (cond t (x ∷ y ∷ ys) (y ∷ with_rank b f x ys)) z) [
      | true ↦ λ k. k
      | false ↦ λ k. elim k [
        | inl e ↦ inr (with_in b f x ys z (inl e))
        | inr m ↦ elim m
            [ inl e ↦ inl e | inr n ↦ inr (with_in b f x ys z (inr n)) ]
      ]
    ]) i

-- a side put at its rank keeps the order
InRank-with : (b : Side) (f : ℕ → ℕ) (x : Best) (xs : List Best)
    → ((y : Best) → IsIn xs y → beats b f x y ≡ false → beats b f y x ≡ true) → InRank b f xs
    → InRank b f (with_rank b f x xs)
InRank-with b f x [] either h = (tt, tt)
InRank-with b f x (y ∷ ys) either h =
    let R : Bool → Type 0 = λ t. beats b f x y ≡ t
    → InRank b f (cond t (x ∷ y ∷ ys) (y ∷ with_rank b f x ys)) in
    (elim (beats b f x y) as R [
      | true ↦ λ e. (
        (
          e,
          all_from_in (λ z. beats b f x z ≡ true) ys
              (λ z i. beats_chain b f x y z e (in_all (λ t. beats b f y t ≡ true) ys h.0 z i)),
        ),
        h,
      )
      | false ↦ λ e. (
        all_from_in (λ z. beats b f y z ≡ true) (with_rank b f x ys)
            (λ z i. elim (in_with b f x ys z i) [
              | inl s ↦ subst (λ (t : Best). beats b f y t ≡ true) s (either y (inl refl) e)
              | inr k ↦ in_all (λ t. beats b f y t ≡ true) ys h.0 z k
            ]),
        InRank-with b f x ys (λ z i. either z (inr i)) h.1,
      )
    ]) refl

-- ranks of venues that are ranked alike, by ages alike
pub ranking_same : (b : Side) (e g : ℕ → Option Best) (f a : ℕ → ℕ) (xs : List Best)
    → ((w : ℕ) → w < 16 → e w ≡ g w)
    → ((w : ℕ) → w < 16 → f w ≡ a w) → IsRankingOf b e f xs → IsRankingOf b g a xs
ranking_same b e g f a xs same ages h = record {
  members = λ x. (
    λ i. (((h.members x).0 i).0, sym (same x.venue ((h.members x).0 i).0) ∙ ((h.members x).0 i).1),
    λ k. (h.members x).1 (k.0, same x.venue k.0 ∙ k.1),
  );
  order = InRank-ages b f a xs (λ x i. ages x.venue ((h.members x).0 i).0) h.order;
}

-- One venue is ranked with another side than before, or not ranked any more: the ranks are as
-- before without it, and with it
-- at its rank.
pub ranking_set : (b : Side) (e g : ℕ → Option Best) (f a : ℕ → ℕ) (v : ℕ) (xs : List Best) → v < 16
    → ((w : ℕ) (x : Best) → g w ≡ Some x → x.venue ≡ w) → ((w : ℕ) → nat_eq w v ≡ false → g w ≡ e w)
    → ((w : ℕ) → nat_eq w v ≡ false → a w ≡ f w)
    → ((w : ℕ) (x y : Best) → w < 16 → nat_eq w v ≡ false → g w ≡ Some y
    → g v ≡ Some x → a v ≡ a w → ⊥)
    → IsRankingOf b e f xs → IsRankingOf b g a (placed b a (g v) (without v xs))
ranking_set b e g f a v xs below own same same_age apart h =
    let each : (x : Best) → IsIn xs x → e x.venue ≡ Some x = λ x i. ((h.members x).0 i).1 in
    let none : HasNone v (without v xs) = without_none b f e v xs each h.order in
    let away : (x : Best) → IsIn (without v xs) x
    → nat_eq x.venue v ≡ false = in_all (λ x. nat_eq x.venue v ≡ false) (without v xs) none in
    let order : InRank b a (without v xs) =
    InRank-ages b f a (without v xs) (λ x i. sym (same_age x.venue (away x i)))
    (InRank-without b f v xs h.order)
    in
    let stays : (x : Best) → IsIn (without v xs) x
    → (x.venue < 16) × (g x.venue ≡ Some x) =
    λ x i. (
      ((h.members x).0 (without_in v xs x i)).0,
      same x.venue (away x i)
          ∙ each x (without_in v xs x i),
    ) in
    let kept : (x : Best) → x.venue < 16 → g x.venue ≡ Some x → nat_eq x.venue v ≡ false
    → IsIn (without v xs) x = λ x l k n. without_kept v xs x
    ((h.members x).1 (l, sym (same x.venue n) ∙ k)) n in
    let R : Option Best → Type 0 = λ o. g v ≡ o → IsRankingOf b g a (placed b a o (without v xs)) in
    (elim (g v) as R [
      | None ↦ λ none_now. record {
        members = λ x. (
          stays x,
          λ k.
              let Q : Bool → Type 0 = λ t. nat_eq x.venue v ≡ t → IsIn (without v xs) x in
              (elim (nat_eq x.venue v) as Q [
                | true ↦ λ n. (let no : None ≡ Some x = sym none_now
                    ∙ ap g (sym (nat_same x.venue v n)) ∙ k.1 in cc)
                | false ↦ λ n. kept x k.0 k.1 n
              ]) refl,
        );
        order = order;
      }
      | Some c ↦ λ here. record {
        members = λ x. (
          λ i. elim (in_with b a c (without v xs) x i) [
            | inl s ↦ (let at : c.venue ≡ v =
                own v c here in (
                  subst (λ (t : Best). t.venue < 16) s (subst (λ (n : ℕ). n < 16) (sym at) below),
                  ap g (ap (λ (t : Best). t.venue) (sym s) ∙ at) ∙ here ∙ ap Some s,
                ))
            | inr k ↦ stays x k
          ],
          λ k.
              let Q : Bool → Type 0 = λ t. nat_eq x.venue v ≡ t
              → IsIn (with_rank b a c (without v xs)) x in
              (elim (nat_eq x.venue v) as Q [
                | true ↦ λ n. with_in b a c (without v xs) x
                    (inl (some_same (sym here ∙ ap g (sym (nat_same x.venue v n)) ∙ k.1)))
                | false ↦ λ n. with_in b a c (without v xs) x (inr (kept x k.0 k.1 n))
              ]) refl,
        );
        order = InRank-with b a c (without v xs)
            (λ y i. beats_either b a c y (λ same_ages. apart y.venue c y ((stays y i).0)
            (away y i) ((stays y i).1)
            here (sym (ap a (own v c here)) ∙ same_ages))) order;
      }
    ]) refl

map_all : (P : ℕ → Type 0) (xs : List Best) → AllByRecursion (λ (x : Best). P x.venue) xs
    → AllByRecursion P (map (λ (x : Best). x.venue) xs)
map_all P [] h = tt
map_all P (x ∷ xs) h = (h.0, map_all P xs h.1)

apart_venues : (b : Side) (f : ℕ → ℕ) (e : ℕ → Option Best) (xs : List Best)
    → ((x : Best) → IsIn xs x → e x.venue ≡ Some x) → InRank b f xs
    → IsDistinct nat_eq (map (λ (x : Best). x.venue) xs)
unfolding IsDistinct
apart_venues b f e [] each h = tt
apart_venues b f e (x ∷ xs) each h = (
  map_all (λ n. nat_eq x.venue n ≡ false) xs
      (all_from_in (λ y. nat_eq x.venue y.venue ≡ false) xs
      (λ y i. nat_apart y.venue x.venue
      (other_venue b f e x.venue x y (nat_refl x.venue) (each x (inl refl)) (each y (inr i))
      (in_all (λ z. beats b f x z ≡ true) xs h.0 y i)))),
  apart_venues b f e xs (λ y i. each y (inr i)) h.1,
)

venues_below : (xs : List Best) → ((x : Best) → IsIn xs x → x.venue < 16) → (q : ℕ)
    → list_any (nat_eq q) (map (λ (x : Best). x.venue) xs) ≡ true → q < 16
venues_below [] h q e = grind (arith, e)
venues_below (x ∷ xs) h q e =
    let R : Bool → Type 0 = λ t. nat_eq q x.venue ≡ t
    → (t || list_any (nat_eq q) (map (λ (y : Best). y.venue) xs)) ≡ true → q < 16 in
    (elim (nat_eq q x.venue) as R [
      | true ↦ λ k m. subst (λ (n : ℕ). n < 16) (sym (nat_same q x.venue k))
          (h x (inl refl))
      | false ↦ λ k m. venues_below xs (λ y i. h y (inr i)) q m
    ]) refl e

cons_distinct : (n : ℕ) (ns : List ℕ) → AllByRecursion (λ m. nat_eq n m ≡ false) ns
    → IsDistinct nat_eq ns
    → IsDistinct nat_eq (n ∷ ns)
unfolding IsDistinct
cons_distinct n ns a d = (a, d)

long_map : (xs : List Best) → length (map (λ (x : Best). x.venue) xs) ≡ length xs
long_map [] = refl
long_map (x ∷ xs) = ap suc (long_map xs)

-- there is room for one more venue's
pub ranking_room : (b : Side) (e : ℕ → Option Best) (f : ℕ → ℕ) (v : ℕ) (xs : List Best) → v < 16
    → IsRankingOf b e f xs → length (without v xs) < 16
ranking_room b e f v xs below h =
    let each : (x : Best) → IsIn xs x → e x.venue ≡ Some x = λ x i. ((h.members x).0 i).1 in
    let none : HasNone v (without v xs) = without_none b f e v xs each h.order in
    let ns = map (λ (x : Best). x.venue) (without v xs) in
    let distinct : IsDistinct nat_eq (v ∷ ns) = cons_distinct v ns
    (map_all (λ n. nat_eq v n ≡ false) (without v xs)
    (all_from_in (λ y. nat_eq v y.venue ≡ false) (without v xs)
    (λ y i. nat_apart y.venue v (in_all (λ x. nat_eq x.venue v ≡ false) (without v xs) none y i))))
    (apart_venues b f e (without v xs) (λ x i. each x (without_in v xs x i))
    (InRank-without b f v xs h.order)) in
    let under : (q : ℕ) → list_any (nat_eq q) (v ∷ ns) ≡ true → q < 16 = λ q m.
    (let R : Bool → Type 0 = λ t. nat_eq q v ≡ t → (t || list_any (nat_eq q) ns) ≡ true → q < 16 in
    (elim (nat_eq q v) as R [
      | true ↦ λ k n. subst (λ (n : ℕ). n < 16) (sym (nat_same q v k)) below
      | false ↦ λ k n.
          venues_below (without v xs) (λ y i. ((h.members y).0 (without_in v xs y i)).0) q n
    ]) refl m) in
    let most : length (v ∷ ns) ≤ 16 = length-le_from_distinct_below (v ∷ ns) 16 distinct under in
    let long : length ns ≡ length (without v xs) = long_map (without v xs) in
    omega (arith, most, long)
