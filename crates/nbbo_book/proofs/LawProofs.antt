-- Laws of the definitions: ages, and the one best side.
use Rattle.std.proofs.Common.{ℕ, zero, suc, ◌<◌, ◌≤◌, ◌≡◌, List, [], ◌∷◌, ◌++◌, true, false, refl, ap, sym, ◌∙◌, subst, arith, length, take, cond, nat_eq, Option, Some, None, unwrap_or, ◌⊎◌, inl, inr, append_assoc}
use Rattle.std.specs.Prelude.{IsSome, is_some}
use Rattle.feed_types.specs.declared.journal.Entry.{Entry}
use Rattle.feed_types.specs.declared.journal.Entry.TheVariants.{Consumed, SelfHelp}
use Rattle.feed_types.specs.declared.line.Side.{Side}
use Rattle.feed_types.specs.declared.national.Best.{Best}
use Rattle.nbbo_book.specs.declared.side_quote.SideQuote.{SideQuote}
use Rattle.nbbo_book.specs.Sides.{side_said, side_said_by, side_of, is_same_side, since, age_of}
use Rattle.nbbo_book.specs.Eligible.{IsEligible, may_rank, eligible_of}
use Rattle.nbbo_book.specs.Nationals.{beats, IsBest, best_of}
use Rattle.nbbo_book.specs.Books.{venue_of}
use Rattle.nbbo_book.proofs.Beating.{beats_either}
use Rattle.nbbo_book.proofs.Ranking.{nat_same, nat_refl, nat_apart, nat_split, some_same}
use Rattle.nbbo_book.proofs.EntryEffects.{side_of-put, age-kept, age-new, age-≤, since-≤, same_side_sound, same_side_refl}
use Rattle.nbbo_book.proofs.SideInvariant.{ranked_own, ranked_quote, apart_from}
use Rattle.nbbo_book.proofs.Firsts.{IsOwn, IsApart, IsTop, IsBelow, top_found, top_is}
use Rattle.nbbo_book.proofs.Eligibility.{eligible_told, eligible_is}

-- an entry of another venue says nothing of a side
not_its_own : (e : Entry) (w : ℕ) (s : List ℕ) (b : Side) → nat_eq (venue_of e) w ≡ false
    → side_said w s b e ≡ None
not_its_own (Consumed v x) w s b h = ap (λ t. cond t (side_said_by s b x.item) None) h
not_its_own (SelfHelp v on) w s b h = refl

no_more : {X : Type 0} (xs : List X) → xs ++ [] ≡ xs
no_more [] = refl
no_more (x ∷ xs) = ap (λ t. x ∷ t) (no_more xs)

take_every : {X : Type 0} (xs : List X) → take (length xs) xs ≡ xs
take_every [] = refl
take_every (x ∷ xs) = ap (λ t. x ∷ t) (take_every xs)

-- no two venues' sides are of one age
abbrev Apart : List Entry → Type 0
Apart es = (s : List ℕ) (b : Side) (v w : ℕ) → (v ≡ w → ⊥) → IsSome (side_of es v s b)
    → IsSome (side_of es w s b)
    → age_of es v s b ≡ age_of es w s b → ⊥

-- a side stays what it is, with its age, or has the age of the entry
data Turn (es : List Entry) (e : Entry) (v : ℕ) (s : List ℕ) (b : Side) : Type 0 where
  Stays : side_of (es ++ e ∷ []) v s b ≡ side_of es v s b → Turn es e v s b
  Turns : nat_eq (venue_of e) v ≡ true → age_of (es ++ e ∷ []) v s b ≡ suc (length es)
      → Turn es e v s b

turn : (es : List Entry) (e : Entry) (v : ℕ) (s : List ℕ) (b : Side) → Turn es e v s b
turn es e v s b =
    (elim (nat_eq (venue_of e) v) as (λ t. nat_eq (venue_of e) v ≡ t → Turn es e v s b) [
      | true ↦ λ own.
          (elim (is_same_side (side_of es v s b) (side_of (es ++ e ∷ []) v s b)) as
          (λ t. is_same_side (side_of es v s b) (side_of (es ++ e ∷ []) v s b) ≡ t
          → Turn es e v s b) [
            | true ↦ λ q. Stays
                (sym (same_side_sound (side_of es v s b) (side_of (es ++ e ∷ []) v s b) q))
            | false ↦ λ q. Turns own (age-new es e v s b q)
          ]) refl
      | false ↦ λ other. Stays (side_of-put es e v s b
          ∙ ap (λ o. unwrap_or o (side_of es v s b)) (not_its_own e v s b other))
    ]) refl

apart_put : (es : List Entry) (e : Entry) → Apart es → Apart (es ++ e ∷ [])
apart_put es e h s b v w differ there too same =
    elim (turn es e v s b) [
      | Stays p ↦ elim (turn es e w s b) [
        | Stays q ↦ h s b v w differ (sym (ap is_some p) ∙ there) (sym (ap is_some q) ∙ too)
            (sym (age-kept es e v s b p) ∙ same ∙ age-kept es e w s b q)
        | Turns own age ↦ (let k = age-kept es e v s b p in let m = age-≤ es v s b
            in omega (arith, k, m, age, same))
      ]
      | Turns own age ↦ elim (turn es e w s b) [
        | Stays q ↦ (let k = age-kept es e w s b q in let m = age-≤ es w s b
            in omega (arith, k, m, age, same))
        | Turns own' age' ↦ differ (sym (nat_same (venue_of e) v own)
            ∙ nat_same (venue_of e) w own')
      ]
    ]

apart_more : (es more : List Entry) → Apart es → Apart (es ++ more)
apart_more es [] h = subst (λ (t : List Entry). Apart t) (sym (no_more es)) h
apart_more es (e ∷ more) h = subst (λ (t : List Entry). Apart t) (append_assoc es (e ∷ []) more)
    (apart_more (es ++ e ∷ []) more (apart_put es e h))

apart_all : (es : List Entry) → Apart es
apart_all es = apart_more [] es (λ s b v w differ there too same. (let no : false ≡ true = there
    in cc))

-- two eligible sides of different venues: one of them ranks first
pub either_beats : (es : List Entry) (s : List ℕ) (b : Side) (x y : Best)
    → IsEligible es s b x → IsEligible es s b y
    → (y.venue ≡ x.venue → ⊥) → (beats b (λ v. age_of es v s b) x y ≡ true) ⊎
    (beats b (λ v. age_of es v s b) y x ≡ true)
either_beats es s b x y h k differ =
    let age : ℕ → ℕ = λ v. age_of es v s b in
    (elim (beats b age x y) as (λ t. beats b age x y ≡ t → (beats b age x y ≡ true)
    ⊎ (beats b age y x ≡ true)) [
      | true ↦ λ e. inl e
      | false ↦ λ e. inr (beats_either b age x y
          (λ same. apart_all es s b x.venue y.venue (λ q. differ (sym q)) (ap is_some h.automated)
          (ap is_some k.automated) same) e)
    ]) refl

eligible_own : (es : List Entry) (s : List ℕ) (b : Side) → IsOwn (eligible_of es s b)
eligible_own es s b = λ w x e. ranked_own (may_rank es w s) w (side_of es w s b) x e

eligible_apart : (es : List Entry) (s : List ℕ) (b : Side)
    → IsApart (λ v. age_of es v s b) (eligible_of es s b)
eligible_apart es s b = λ v w x y l m d e k same. apart_all es s b v w
    (apart_from v w (nat_apart v w d))
    (ranked_quote (may_rank es v s) v (side_of es v s b) x e)
    (ranked_quote (may_rank es w s) w (side_of es w s b) y k) same

-- the side that beats every other one is found
pub best_found : (es : List Entry) (s : List ℕ) (b : Side) (x : Best) → IsBest es s b x
    → best_of es s b ≡ Some x
best_found es s b x h = top_found b (λ v. age_of es v s b) (eligible_of es s b) (Some x)
    (eligible_own es s b) (
      h.eligible.venue,
      eligible_is es s b x h.eligible,
      λ w y l e d.
          let own : y.venue ≡ w = eligible_own es s b w y e in
          h.first y (eligible_told es s b y (subst (λ (n : ℕ). n < 16) (sym own) l)
          (ap (eligible_of es s b) own ∙ e))
          (λ q. (let no : true ≡ false = sym (ap (λ t. nat_eq t x.venue) (sym own ∙ q)
          ∙ nat_refl x.venue) ∙ d in cc)),
    )

-- the result of the walk over the venues
cases_of : (es : List Entry) (s : List ℕ) (b : Side) (o : Option Best)
    → IsTop (IsBelow 16) b (λ v. age_of es v s b) (eligible_of es s b) o
    → ((o ≡ None) × ((x : Best) → IsEligible es s b x → ⊥))
    ⊎ ((x : Best) × (o ≡ Some x) × IsBest es s b x)
cases_of es s b None t = inl (
  refl,
  λ x h. (let none : None ≡ Some x = sym (t x.venue h.venue) ∙ eligible_is es s b x h in cc),
)
cases_of es s b (Some x) t = inr (
  x,
  refl,
  record {
    eligible = eligible_told es s b x t.0 t.1;
    first = λ y k differ. t.2 y.venue y k.venue (eligible_is es s b y k)
        (nat_split y.venue x.venue (nat_eq y.venue x.venue ≡ false)
        (λ q. absurd (differ q)) (λ d. d));
  },
)

best_cases : (es : List Entry) (s : List ℕ) (b : Side)
    → ((best_of es s b ≡ None) × ((x : Best) → IsEligible es s b x → ⊥)) ⊎
    ((x : Best) × (best_of es s b ≡ Some x) × IsBest es s b x)
best_cases es s b = cases_of es s b (best_of es s b)
    (top_is b (λ v. age_of es v s b) (eligible_of es s b) (eligible_own es s b)
    (eligible_apart es s b))

pub best_is : (es : List Entry) (s : List ℕ) (b : Side) (x : Best)
    → best_of es s b ≡ Some x → IsBest es s b x
best_is es s b x e = elim (best_cases es s b) [
  | inl k ↦ (let no : None ≡ Some x = sym k.0 ∙ e in cc)
  | inr k ↦ subst (λ (t : Best). IsBest es s b t) (some_same (sym k.1 ∙ e)) k.2
]

pub nobody_is : (es : List Entry) (s : List ℕ) (b : Side) → best_of es s b ≡ None → (x : Best)
    → IsEligible es s b x → ⊥
nobody_is es s b e = elim (best_cases es s b) [
  | inl k ↦ k.1
  | inr k ↦ λ x h. (let no : Some k.0 ≡ None = sym k.1 ∙ e in cc)
]

pub is_nobody : (es : List Entry) (s : List ℕ) (b : Side) → ((x : Best) → IsEligible es s b x → ⊥)
    → best_of es s b ≡ None
is_nobody es s b h = elim (best_cases es s b) [ inl k ↦ k.0 | inr k ↦ absurd (h k.0 k.2.eligible) ]

-- ages: from the age on each prefix has the side, and from no earlier number on
since_holds : (f : ℕ → Option SideQuote) (x : Option SideQuote) (n k : ℕ)
    → since f x n ≤ k → k < n → f k ≡ x
since_holds f x zero k low high = absurd (omega (arith, high))
since_holds f x (suc n) k low high =
    (elim (is_same_side (f n) x) as (λ t. is_same_side (f n) x ≡ t
    → cond t (since f x n) (suc n) ≤ k → f k ≡ x) [
      | true ↦ λ e l. nat_split k n (f k ≡ x)
          (λ same. ap f same ∙ same_side_sound (f n) x e)
          (λ differ. since_holds f x n k l (grind (arith, high, differ)))
      | false ↦ λ e l. absurd (omega (arith, l, high))
    ]) refl low

since_least : (f : ℕ → Option SideQuote) (x : Option SideQuote) (n p : ℕ)
    → ((k : ℕ) → p ≤ k → k < n → f k ≡ x)
    → p ≤ n → since f x n ≤ p
since_least f x zero p h l = omega arith
since_least f x (suc n) p h l =
    (elim (is_same_side (f n) x) as (λ t. is_same_side (f n) x ≡ t
    → cond t (since f x n) (suc n) ≤ p) [
      | true ↦ λ e. nat_split p (suc n) (since f x n ≤ p)
          (λ same. (let m = since-≤ f x n in omega (arith, m, same)))
          (λ differ. since_least f x n p (λ k a c. h k a (omega (arith, c)))
          (grind (arith, l, differ)))
      | false ↦ λ e. nat_split p (suc n) (suc n ≤ p)
          (λ same. omega (arith, same))
          (λ differ. (let no : true ≡ false =
          sym (ap (λ t. is_same_side t x) (h n (grind (arith, l, differ)) (omega arith))
          ∙ same_side_refl x)
          ∙ e in cc))
    ]) refl

pub age_holds : (es : List Entry) (v : ℕ) (s : List ℕ) (b : Side) (n : ℕ)
    → age_of es v s b ≤ n → n ≤ length es
    → side_of (take n es) v s b ≡ side_of es v s b
age_holds es v s b n low high = nat_split n (length es)
    (side_of (take n es) v s b ≡ side_of es v s b)
    (λ same. ap (λ (k : ℕ). side_of (take k es) v s b) same
    ∙ ap (λ (t : List Entry). side_of t v s b) (take_every es))
    (λ differ. since_holds (λ k. side_of (take k es) v s b) (side_of es v s b) (length es) n low
    (grind (arith, high, differ)))

pub age_least : (es : List Entry) (v : ℕ) (s : List ℕ) (b : Side) (p : ℕ) → p ≤ length es
    → ((n : ℕ) → p ≤ n → n ≤ length es → side_of (take n es) v s b ≡ side_of es v s b)
    → age_of es v s b ≤ p
age_least es v s b p l h = since_least (λ k. side_of (take k es) v s b)
    (side_of es v s b) (length es) p
    (λ k a c. h k a (omega (arith, c))) l
