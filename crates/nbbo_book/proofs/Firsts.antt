-- The side that beats every other one.
use Rattle.std.proofs.Common.{ℕ, zero, suc, ◌<◌, ◌≤◌, ◌≡◌, ◌+◌, List, [], ◌∷◌, Bool, true, false, refl, ap, sym, ◌∙◌, subst, arith, nat_eq, cond, add-one, Option, Some, None, ◌⊎◌, inl, inr}
use Rattle.std.specs.Prelude.{◌&&◌, ◌||◌, find}
use Rattle.std.specs.List.{filter_map, list_all, cons_option, range_with_len}
use Rattle.feed_types.specs.declared.national.Best.{Best}
use Rattle.feed_types.specs.declared.line.Side.{Side}
use Rattle.nbbo_book.specs.Nationals.{beats, all_venues, beats_others}
use Rattle.nbbo_book.specs.Ranks.{best_of_ranks, IsRankingOf}
use Rattle.nbbo_book.proofs.Beating.{beats_chain, beats_one_way, beats_either}
use Rattle.nbbo_book.proofs.Ranking.{nat_same, nat_refl, nat_apart, nat_split, some_same, in_all}
use Rattle.nbbo_book.proofs.EntryEffects.{and_left, and_right}

-- among the numbers
abbrev pub IsNumber : ℕ → List ℕ → Type 0
IsNumber v [] = ⊥
IsNumber v (w ∷ ws) = (w ≡ v) ⊎ IsNumber v ws

in_range : (n a v : ℕ) → a ≤ v → v < a + n → IsNumber v (range_with_len a n)
in_range zero a v low high = absurd (omega (arith, low, high))
in_range (suc n) a v low high =
    (elim (nat_eq a v) as (λ t. nat_eq a v ≡ t → (a ≡ v) ⊎ IsNumber v (range_with_len (a + 1) n)) [
      | true ↦ λ e. inl (nat_same a v e)
      | false ↦ λ e. inr (in_range n (a + 1) v (grind (arith, low, e)) (omega (arith, high)))
    ]) refl

under_range : (n a v : ℕ) → IsNumber v (range_with_len a n) → v < a + n
under_range zero a v i = absurd i
under_range (suc n) a v i = elim i [
  | inl e ↦ omega (arith, e)
  | inr k ↦ (let h : v < (a + 1) + n = under_range n (a + 1) v
      k in omega (arith, h))
]

pub in_all_venues : (v : ℕ) → v < 16 → IsNumber v all_venues
in_all_venues v h = in_range 16 0 v (omega arith) (omega (arith, h))

pub under_sixteen : (v : ℕ) → IsNumber v all_venues → v < 16
under_sixteen v i = (let h : v < 0 + 16 = under_range 16 0 v i in omega (arith, h))

all_rest : (q : Best → Bool) (o : Option Best) (cs : List Best)
    → list_all q (cons_option o cs) ≡ true
    → list_all q cs ≡ true
all_rest q None cs h = h
all_rest q (Some d) cs h = and_right (q d) (list_all q cs) h

pub all_at : (q : Best → Bool) (g : ℕ → Option Best) (vs : List ℕ)
    → list_all q (filter_map g vs) ≡ true
    → (v : ℕ) (c : Best) → IsNumber v vs → g v ≡ Some c → q c ≡ true
all_at q g [] h v c i e = absurd i
all_at q g (w ∷ vs) h v c i e = elim i [
  | inl k ↦ and_left (q c) (list_all q (filter_map g vs))
      (sym (ap (λ o. list_all q (cons_option o (filter_map g vs))) (ap g k ∙ e)) ∙ h)
  | inr k ↦ all_at q g vs (all_rest q (g w) (filter_map g vs) h) v c k e
]

pub all_here : (q : Best → Bool) (g : ℕ → Option Best) (vs : List ℕ)
    → ((w : ℕ) (d : Best) → IsNumber w vs → g w ≡ Some d → q d ≡ true)
    → list_all q (filter_map g vs) ≡ true
all_here q g [] h = refl
all_here q g (w ∷ vs) h =
    let rest : list_all q (filter_map g vs) ≡ true = all_here q g vs (λ k d i e. h k d (inr i) e) in
    let R : Option Best → Type 0 = λ o. g w ≡ o
    → list_all q (cons_option o (filter_map g vs)) ≡ true in
    (elim (g w) as R [
      | None ↦ λ e. rest
      | Some d ↦ λ e. ap (λ t. t && list_all q (filter_map g vs))
          (h w d (inl refl) e) ∙ rest
    ]) refl

pub find_here : (p : Best → Bool) (g : ℕ → Option Best) (vs : List ℕ) (v : ℕ) (c : Best)
    → IsNumber v vs
    → g v ≡ Some c → p c ≡ true
    → ((w : ℕ) (d : Best) → IsNumber w vs → g w ≡ Some d → p d ≡ true → d ≡ c)
    → find p (filter_map g vs) ≡ Some c
find_here p g [] v c i e t u = absurd i
find_here p g (w ∷ vs) v c i e t u =
    let rest : IsNumber v vs → find p (filter_map g vs) ≡ Some c =
    λ k. find_here p g vs v c k e t (λ x d j m n. u x d (inr j) m n) in
    let R : Option Best → Type 0 = λ o. g w ≡ o → find p (cons_option o (filter_map g vs)) ≡ Some c
    in
    (elim (g w) as R [
      | None ↦ λ m. elim i [
        | inl k ↦ (let no : None ≡ Some c = sym m ∙ ap g k ∙ e
            in cc)
        | inr k ↦ rest k
      ]
      | Some d ↦ λ m.
          let S : Bool → Type 0 = λ y. p d ≡ y → cond y (Some d) (find p (filter_map g vs)) ≡ Some c
          in
          (elim (p d) as S [
            | true ↦ λ n. ap Some (u w d (inl refl) m n)
            | false ↦ λ n. elim i [
              | inl k ↦
                  (let same : d ≡ c = some_same (sym m ∙ ap g k ∙ e) in let no : true ≡ false =
                  sym t ∙ ap p (sym same)
                  ∙ n in cc)
              | inr k ↦ rest k
            ]
          ]) refl
    ]) refl

pub none_here : (p : Best → Bool) (g : ℕ → Option Best) (vs : List ℕ)
    → ((w : ℕ) → IsNumber w vs → g w ≡ None)
    → find p (filter_map g vs) ≡ None
none_here p g [] h = refl
none_here p g (w ∷ vs) h = ap (λ o. find p (cons_option o (filter_map g vs))) (h w (inl refl))
    ∙ none_here p g vs (λ k i. h k (inr i))

pub or_true : (a : Bool) → (a || true) ≡ true
or_true true = refl
or_true false = refl

-- the one that beats every other: `best_of` is this of the eligible sides by their ages
abbrev pub best_in : Side → (ℕ → ℕ) → (ℕ → Option Best) → Option Best
best_in side age rank =
    find (beats_others side age (filter_map rank all_venues)) (filter_map rank all_venues)

-- the one of two that ranks first
abbrev better_of : Side → (ℕ → ℕ) → Option Best → Option Best → Option Best
better_of side age best None = best
better_of side age None (Some x) = Some x
better_of side age (Some best) (Some x) = cond (beats side age x best) (Some x) (Some best)

-- each is ranked under its own number
abbrev pub IsOwn : (ℕ → Option Best) → Type 0
IsOwn g = (w : ℕ) (x : Best) → g w ≡ Some x → x.venue ≡ w

-- no two that are ranked are of one age
abbrev pub IsApart : (ℕ → ℕ) → (ℕ → Option Best) → Type 0
IsApart f g = (v w : ℕ) (x y : Best) → v < 16 → w < 16 → nat_eq v w ≡ false → g v ≡ Some x
    → g w ≡ Some y → f v ≡ f w
    → ⊥

-- of some venues this is the side that beats every other one, or none is ranked
abbrev pub IsTop : (ℕ → Type 0) → Side → (ℕ → ℕ) → (ℕ → Option Best) → Option Best → Type 0
IsTop P b f g None = (w : ℕ) → P w → g w ≡ None
IsTop P b f g (Some x) = P x.venue × (g x.venue ≡ Some x) ×
    ((w : ℕ) (y : Best) → P w → g w ≡ Some y → nat_eq w x.venue ≡ false → beats b f x y ≡ true)

abbrev pub IsBelow : ℕ → ℕ → Type 0
IsBelow n w = w < n

-- the side that beats every other one is found
pub top_found : (b : Side) (f : ℕ → ℕ) (g : ℕ → Option Best) (o : Option Best) → IsOwn g
    → IsTop (IsBelow 16) b f g o
    → best_in b f g ≡ o
top_found b f g None own h = none_here (beats_others b f (filter_map g all_venues)) g all_venues
    (λ w i. h w (under_sixteen w i))
top_found b f g (Some x) own h =
    let inside : IsNumber x.venue all_venues = in_all_venues x.venue h.0 in
    let ahead : (w : ℕ) (d : Best) → IsNumber w all_venues → g w ≡ Some d
    → nat_eq d.venue x.venue ≡ false
    → beats b f x d ≡ true = λ w d i e n. h.2 w d (under_sixteen w i) e
    (subst (λ (k : ℕ). nat_eq k x.venue ≡ false) (own w d e) n) in
    find_here (beats_others b f (filter_map g all_venues)) g all_venues x.venue x inside h.1
    (all_here (λ y. nat_eq y.venue x.venue || beats b f x y) g all_venues (λ w d i e.
    (elim (nat_eq d.venue x.venue) as (λ t. nat_eq d.venue x.venue ≡ t
    → (t || beats b f x d) ≡ true) [
      | true ↦ λ n. refl
      | false ↦ λ n. ahead w d i e n
    ]) refl))
    (λ w d i e n.
    nat_split d.venue x.venue (d ≡ x)
    (λ same. some_same (sym (ap g (own w d e) ∙ e) ∙ ap g same ∙ h.1))
    (λ differ.
    let met : (nat_eq x.venue d.venue || beats b f d x) ≡ true =
    all_at (λ y. nat_eq y.venue d.venue || beats b f d y) g all_venues n x.venue x inside h.1 in
    absurd (beats_one_way b f x d (ahead w d i e differ)
    (ap (λ t. t || beats b f d x) (sym (nat_apart d.venue x.venue differ)) ∙ met))))

-- one more venue: of the side that was first and its own, the one that beats the other
pub top_joined : (P Q : ℕ → Type 0) (b : Side) (f : ℕ → ℕ) (g : ℕ → Option Best)
    (v : ℕ) (o : Option Best)
    → ((w : ℕ) → Q w → nat_eq w v ≡ false → P w) → ((w : ℕ) → P w → Q w × (nat_eq w v ≡ false))
    → ((w : ℕ) → Q w → w < 16) → Q v → IsOwn g → IsApart f g → IsTop P b f g o
    → IsTop Q b f g (better_of b f o (g v))
top_joined P Q b f g v None others more few here own apart h =
    (elim (g v) as (λ r. g v ≡ r → IsTop Q b f g (better_of b f None r)) [
      | None ↦ λ e. λ w q. nat_split w v (g w ≡ None) (λ same. ap g same ∙ e)
          (λ d. h w (others w q d))
      | Some x ↦ λ e.
          let at : x.venue ≡ v = own v x e in (
            subst (λ (n : ℕ). Q n) (sym at) here,
            ap g at ∙ e,
            λ w y q k n. (let no : None ≡ Some y =
                sym (h w (others w q (subst (λ (m : ℕ). nat_eq w m ≡ false) at n))) ∙ k in cc),
          )
    ]) refl
top_joined P Q b f g v (Some c) others more few here own apart h =
    (elim (g v) as (λ r. g v ≡ r → IsTop Q b f g (better_of b f (Some c) r)) [
      | None ↦ λ e. (
        (more c.venue h.0).0,
        h.1,
        λ w y q k n. nat_split w v (beats b f c y ≡ true)
            (λ same. (let no : None ≡ Some y = sym e ∙ ap g (sym same) ∙ k in cc))
            (λ d. h.2 w y (others w q d) k n),
      )
      | Some x ↦ λ e.
          let at : x.venue ≡ v = own v x e in
          (elim (beats b f x c) as (λ t. beats b f x c ≡ t
          → IsTop Q b f g (cond t (Some x) (Some c))) [
            | true ↦ λ m. (
              subst (λ (n : ℕ). Q n) (sym at) here,
              ap g at ∙ e,
              λ w y q k n. nat_split w c.venue (beats b f x y ≡ true)
                  (λ same. subst (λ (t : Best). beats b f x t ≡ true)
                  (some_same (sym h.1 ∙ ap g (sym same) ∙ k)) m)
                  (λ differ. beats_chain b f x c y m
                  (h.2 w y (others w q (subst (λ (m : ℕ). nat_eq w m ≡ false) at n)) k differ)),
            )
            | false ↦ λ m.
                let in_p = more c.venue h.0 in (
                  in_p.0,
                  h.1,
                  λ w y q k n. nat_split w v (beats b f c y ≡ true)
                      (λ same. subst (λ (t : Best). beats b f c t ≡ true)
                      (some_same (sym e ∙ ap g (sym same) ∙ k))
                      (beats_either b f x c (λ ages. apart v c.venue x c
                      (few v here) (few c.venue in_p.0)
                      (nat_apart c.venue v in_p.1) e h.1 (ap f (sym at) ∙ ages)) m))
                      (λ d. h.2 w y (others w q d) k n),
                )
          ]) refl
    ]) refl

-- the walk over the venues has come to one more
pub top_more : (n : ℕ) (b : Side) (f : ℕ → ℕ) (g : ℕ → Option Best) (o : Option Best) → n < 16
    → IsOwn g
    → IsApart f g → IsTop (IsBelow n) b f g o
    → IsTop (IsBelow (n + 1)) b f g (better_of b f o (g n))
top_more n b f g o l own apart h =
    top_joined (IsBelow n) (IsBelow (n + 1)) b f g n o
    (λ w q d. grind (arith, q, d))
    (λ w p. (omega (arith, p), grind (arith, p)))
    (λ w q. omega (arith, l, q))
    (omega arith) own apart h

top_any : (n : ℕ) (b : Side) (f : ℕ → ℕ) (g : ℕ → Option Best) → n ≤ 16 → IsOwn g → IsApart f g
    → (o : Option Best) × IsTop (IsBelow n) b f g o
top_any zero b f g l own apart = (None, λ w p. absurd (omega (arith, p)))
top_any (suc n) b f g l own apart =
    let rest = top_any n b f g (omega (arith, l)) own apart in (
      better_of b f rest.0 (g n),
      subst (λ (m : ℕ). IsTop (IsBelow m) b f g (better_of b f rest.0 (g n))) (add-one n)
          (top_more n b f g rest.0 (omega (arith, l)) own apart rest.1),
    )

-- what is found beats every other one
pub top_is : (b : Side) (f : ℕ → ℕ) (g : ℕ → Option Best) → IsOwn g → IsApart f g
    → IsTop (IsBelow 16) b f g (best_in b f g)
top_is b f g own apart =
    let t = top_any 16 b f g (omega arith) own apart in
    subst (λ (o : Option Best). IsTop (IsBelow 16) b f g o) (sym (top_found b f g t.0 own t.1)) t.1

-- the first of the ranks beats every other one
front_is_top : (b : Side) (f : ℕ → ℕ) (g : ℕ → Option Best) (xs : List Best)
    → IsOwn g → IsRankingOf b g f xs
    → IsTop (IsBelow 16) b f g (best_of_ranks xs)
front_is_top b f g [] own h = λ w l.
    (elim (g w) as (λ o. g w ≡ o → o ≡ None) [
      | None ↦ λ e. refl
      | Some x ↦ λ e. absurd ((h.members x).1 (
        subst (λ (n : ℕ). n < 16) (sym (own w x e))
            l,
        ap g (own w x e) ∙ e,
      ))
    ]) refl
front_is_top b f g (x ∷ xs) own h =
    let first = (h.members x).0 (inl refl) in (
      first.0,
      first.1,
      λ w y l e d. elim ((h.members y).1 (
        subst (λ (n : ℕ). n < 16) (sym (own w y e)) l,
        ap g (own w y e) ∙ e,
      )) [
        | inl same ↦ (let no : true ≡ false = sym (nat_refl x.venue)
            ∙ ap (λ (n : ℕ). nat_eq n x.venue) (ap (λ (t : Best). t.venue) same ∙ own w y e) ∙ d
            in cc)
        | inr k ↦ in_all (λ z. beats b f x z ≡ true) xs h.order.0 y k
      ],
    )

pub front_is_best : (b : Side) (f : ℕ → ℕ) (g : ℕ → Option Best) (xs : List Best)
    → IsOwn g → IsRankingOf b g f xs
    → best_of_ranks xs ≡ best_in b f g
front_is_best b f g xs own h = sym (top_found b f g (best_of_ranks xs) own
    (front_is_top b f g xs own h))
