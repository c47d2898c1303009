-- A side that moves past its neighbours, one place at a time.
use Rattle.std.proofs.Common.{ℕ, zero, suc, ◌+◌, ◌<◌, ◌≤◌, ◌≡◌, List, [], ◌∷◌, ◌++◌, Bool, true, false, refl, ap, sym, ◌∙◌, subst, arith, length, take, drop, set, get_or, cond, add-one, nat_eq, nat_lt, inl, inr}
use Rattle.std.specs.List.{insert, remove, refill, AllByRecursion}
use Rattle.std.proofs.lemmas.List.Edits.{length-remove}
use Rattle.feed_types.specs.declared.line.Side.{Side}
use Rattle.feed_types.specs.declared.national.Best.{Best}
use Rattle.nbbo_book.specs.Nationals.{beats, is_better}
use Rattle.nbbo_book.specs.declared.ranks.Cause.{Cause}
use Rattle.nbbo_book.specs.declared.ranks.Cause.TheVariants.{Quoted, Rechecked}
use Rattle.nbbo_book.specs.Ranks.{InRank, IsIn, IsNewest, is_ahead_by, without, with_rank}
use Rattle.nbbo_book.proofs.Beating.{beats_chain, beats_one_way, newest_beats}
use Rattle.nbbo_book.proofs.Ranking.{nat_same, nat_refl, in_all}
use Rattle.nbbo_book.proofs.SideInvariant.{set_off}

-- past the neighbour before it
up_one : (ys : List Best) (k : ℕ) (x d : Best) → k < length ys
    → set (set (insert ys (suc k) x) (suc k) (get_or ys k d)) k x ≡ insert ys k x
up_one [] k x d h = absurd (omega (arith, h))
up_one (y ∷ ys) zero x d h = refl
up_one (y ∷ ys) (suc k) x d h = ap (λ t. y ∷ t) (up_one ys k x d (omega (arith, h)))

-- past the neighbour after it
down_one : (ys : List Best) (k : ℕ) (x d : Best) → k < length ys
    → set (set (insert ys k x) k (get_or ys k d)) (suc k) x ≡ insert ys (suc k) x
down_one [] k x d h = absurd (omega (arith, h))
down_one (y ∷ ys) zero x d h = refl
down_one (y ∷ ys) (suc k) x d h = ap (λ t. y ∷ t) (down_one ys k x d (omega (arith, h)))

before_it : (ys : List Best) (k : ℕ) (x d : Best) → k < length ys
    → get_or (insert ys (suc k) x) k d ≡ get_or ys k d
before_it [] k x d h = absurd (omega (arith, h))
before_it (y ∷ ys) zero x d h = refl
before_it (y ∷ ys) (suc k) x d h = before_it ys k x d (omega (arith, h))

after_it : (ys : List Best) (k : ℕ) (x d : Best) → k < length ys
    → get_or (insert ys k x) (suc k) d ≡ get_or ys k d
after_it [] k x d h = absurd (omega (arith, h))
after_it (y ∷ ys) zero x d h = refl
after_it (y ∷ ys) (suc k) x d h = after_it ys k x d (omega (arith, h))

-- a side in the place of another
pub set_in_place : (xs : List Best) (i : ℕ) (x : Best) → i < length xs
    → set xs i x ≡ insert (remove xs i) i x
set_in_place [] i x h = absurd (omega (arith, h))
set_in_place (y ∷ xs) zero x h = refl
set_in_place (y ∷ xs) (suc i) x h = ap (λ t. y ∷ t) (set_in_place xs i x (omega (arith, h)))

set_twice : (xs : List Best) (i : ℕ) (x n : Best) → set (set xs i x) i n ≡ set xs i n
set_twice [] i x n = refl
set_twice (y ∷ xs) zero x n = refl
set_twice (y ∷ xs) (suc i) x n = ap (λ t. y ∷ t) (set_twice xs i x n)

any_default : (xs : List Best) (i : ℕ) (c d : Best) → i < length xs → get_or xs i c ≡ get_or xs i d
any_default [] i c d h = absurd (omega (arith, h))
any_default (x ∷ xs) zero c d h = refl
any_default (x ∷ xs) (suc i) c d h = any_default xs i c d (omega (arith, h))

ahead_of_all : (b : Side) (f : ℕ → ℕ) (x y : Best) (ys : List Best) (k : ℕ) (d : Best)
    → k < length ys
    → AllByRecursion (λ z. beats b f y z ≡ true) ys → beats b f y (get_or ys k d) ≡ true
ahead_of_all b f x y [] k d h a = absurd (omega (arith, h))
ahead_of_all b f x y (z ∷ ys) zero d h a = a.0
ahead_of_all b f x y (z ∷ ys) (suc k) d h a = ahead_of_all b f x y ys k d (omega (arith, h)) a.1

-- x is at its rank where it doesn't beat the side before it, and beats the one after it
pub ranked_here : (b : Side) (f : ℕ → ℕ) (x : Best) (ys : List Best) (k : ℕ)
    → k ≤ length ys → InRank b f ys
    → ((j : ℕ) → k ≡ suc j → beats b f x (get_or ys j x) ≡ false)
    → (k < length ys → beats b f x (get_or ys k x) ≡ true) → insert ys k x ≡ with_rank b f x ys
ranked_here b f x [] zero h order before behind = refl
ranked_here b f x [] (suc k) h order before behind = absurd (omega (arith, h))
ranked_here b f x (y ∷ ys) zero h order before behind =
    ap (λ t. cond t (x ∷ y ∷ ys) (y ∷ with_rank b f x ys)) (sym (behind (omega arith)))
ranked_here b f x (y ∷ ys) (suc zero) h order before behind =
    ap (λ t. y ∷ t) (ranked_here b f x ys zero (omega arith) order.1
    (λ j e. absurd (omega (arith, e)))
    (λ l. behind (omega (arith, l))))
    ∙ ap (λ t. cond t (x ∷ y ∷ ys) (y ∷ with_rank b f x ys)) (sym (before zero refl))
ranked_here b f x (y ∷ ys) (suc (suc k)) h order before behind =
    let not_here : beats b f x y ≡ false =
    (let R : Bool → Type 0 = λ t. beats b f x y ≡ t → t ≡ false in
    (elim (beats b f x y) as R [
      | true ↦ λ e.
          let on : beats b f x (get_or ys k x) ≡ true =
          beats_chain b f x y (get_or ys k x) e (ahead_of_all b f x y ys k x
          (omega (arith, h)) order.0) in
          let no : true ≡ false = sym on ∙ before (suc k) refl in no
      | false ↦ λ e. refl
    ]) refl) in
    ap (λ t. y ∷ t) (ranked_here b f x ys (suc k) (omega (arith, h)) order.1
    (λ j e. before (suc j) (ap suc e))
    (λ l. behind (omega (arith, l))))
    ∙ ap (λ t. cond t (x ∷ y ∷ ys) (y ∷ with_rank b f x ys)) (sym not_here)

-- one step up: the neighbour before it takes its place
moved_up : (ys ranks : List Best) (at k : ℕ) (x n : Best) → ranks ≡ insert ys at x
    → at ≡ suc k → k < length ys
    → n ≡ get_or ranks k n → (set (set ranks at n) k x ≡ insert ys k x) × (n ≡ get_or ys k x)
moved_up ys ranks at k x n now is h read =
    let here : n ≡ get_or ys k n = read ∙ ap (λ t. get_or t k n) now
    ∙ ap (λ t. get_or (insert ys t x) k n) is
    ∙ before_it ys k x n h in (
      ap (λ t. set (set t at n) k x) now ∙ ap (λ t. set (set (insert ys t x) t n) k x) is
          ∙ ap (λ t. set (set (insert ys (suc k) x) (suc k) t) k x) here ∙ up_one ys k x n h,
      here ∙ any_default ys k n x h,
    )

moved_down : (ys ranks : List Best) (k : ℕ) (x n : Best) → ranks ≡ insert ys k x → k < length ys
    → n ≡ get_or ranks (suc k) n → (set (set ranks k n) (suc k) x ≡ insert ys (suc k) x)
    × (n ≡ get_or ys k x)
moved_down ys ranks k x n now h read =
    let here : n ≡ get_or ys k n = read ∙ ap (λ t. get_or t (suc k) n) now
    ∙ after_it ys k x n h in (
      ap (λ t. set (set t k n) (suc k) x) now
          ∙ ap (λ t. set (set (insert ys k x) k t) (suc k) x) here
          ∙ down_one ys k x n h,
      here ∙ any_default ys k n x h,
    )

-- the same where x stands in its place only at the end
pub slid_up : (ys ranks : List Best) (at k : ℕ) (x n : Best) → set ranks at x ≡ insert ys at x
    → at ≡ suc k
    → k < length ys → n ≡ get_or ranks k n → (set (set ranks at n) k x ≡ insert ys k x)
    × (n ≡ get_or ys k x)
slid_up ys ranks at k x n now is h read =
    let m = moved_up ys (set ranks at x) at k x n now is h
    (read ∙ sym (set_off ranks at k x n (λ e. (let no : suc k ≡ k = sym is ∙ e
    in omega (arith, no))))) in
    (ap (λ t. set t k x) (sym (set_twice ranks at x n)) ∙ m.0, m.1)

pub slid_down : (ys ranks : List Best) (k : ℕ) (x n : Best) → set ranks k x ≡ insert ys k x
    → k < length ys
    → n ≡ get_or ranks (suc k) n → (set (set ranks k n) (suc k) x ≡ insert ys (suc k) x)
    × (n ≡ get_or ys k x)
slid_down ys ranks k x n now h read =
    let m = moved_down ys (set ranks k x) k x n now h
    (read ∙ sym (set_off ranks k (suc k) x n (λ e. (let no : k ≡ suc k = e in omega (arith, no)))))
    in
    (ap (λ t. set t (suc k) x) (sym (set_twice ranks k x n)) ∙ m.0, m.1)

remove_set : (xs : List Best) (i : ℕ) (x : Best) → remove (set xs i x) i ≡ remove xs i
remove_set [] i x = refl
remove_set (y ∷ xs) zero x = refl
remove_set (y ∷ xs) (suc i) x = ap (λ t. y ∷ t) (remove_set xs i x)

remove_insert : (ys : List Best) (k : ℕ) (x : Best) → k ≤ length ys → remove (insert ys k x) k ≡ ys
remove_insert ys zero x h = refl
remove_insert [] (suc k) x h = absurd (omega (arith, h))
remove_insert (y ∷ ys) (suc k) x h = ap (λ t. y ∷ t) (remove_insert ys k x (omega (arith, h)))

-- where x has risen past none, the others are unchanged
pub left_over : (xs ranks : List Best) (i at : ℕ) (x : Best) → i < length xs → at ≡ i
    → set ranks at x ≡ insert (remove xs i) at x → remove ranks i ≡ remove xs i
left_over xs ranks i at x h same now =
    let within : i ≤ length (remove xs i) = omega (arith, length-remove xs i h, h) in
    let here : set ranks i x ≡ insert (remove xs i) i x =
    subst (λ (n : ℕ). set ranks n x ≡ insert (remove xs i) n x) same now in
    sym (remove_set ranks i x) ∙ ap (λ t. remove t i) here ∙ remove_insert (remove xs i) i x within

pub remove_last : (ys : List Best) (x : Best) → remove (ys ++ x ∷ []) (length ys) ≡ ys
remove_last [] x = refl
remove_last (y ∷ ys) x = ap (λ t. y ∷ t) (remove_last ys x)

-- a search for a venue that has come to a place
pub searched_on : (v : ℕ) (xs : List Best) (i : ℕ) (d : Best) → i < length xs
    → nat_eq (get_or xs i d).venue v ≡ false
    → take i xs ++ without v (drop i xs) ≡ take (suc i) xs ++ without v (drop (suc i) xs)
searched_on v [] i d h e = absurd (omega (arith, h))
searched_on v (x ∷ xs) zero d h e = ap (λ t. cond t xs (x ∷ without v xs)) e
searched_on v (x ∷ xs) (suc i) d h e = ap (λ t. x ∷ t) (searched_on v xs i d (omega (arith, h)) e)

pub searched_here : (v : ℕ) (xs : List Best) (i : ℕ) (d : Best) → i < length xs
    → nat_eq (get_or xs i d).venue v ≡ true → take i xs ++ without v (drop i xs) ≡ remove xs i
searched_here v [] i d h e = absurd (omega (arith, h))
searched_here v (x ∷ xs) zero d h e = ap (λ t. cond t xs (x ∷ without v xs)) e
searched_here v (x ∷ xs) (suc i) d h e = ap (λ t. x ∷ t)
    (searched_here v xs i d (omega (arith, h)) e)

pub searched_all : (v : ℕ) (xs : List Best) → take (length xs) xs
    ++ without v (drop (length xs) xs) ≡ xs
searched_all v [] = refl
searched_all v (x ∷ xs) = ap (λ t. x ∷ t) (searched_all v xs)

pub in_at : (xs : List Best) (i : ℕ) (d : Best) → i < length xs → IsIn xs (get_or xs i d)
in_at [] i d h = absurd (omega (arith, h))
in_at (x ∷ xs) zero d h = inl refl
in_at (x ∷ xs) (suc i) d h = inr (in_at xs i d (omega (arith, h)))

-- a side is at its rank where the walk of its cause has ended
pub walked_here : (c : Cause) (b : Side) (f : ℕ → ℕ) (x : Best) (ys : List Best) (k : ℕ)
    → k ≤ length ys
    → ((j : ℕ) → k ≡ j + 1 → is_ahead_by c b f x (get_or ys j x) ≡ false)
    → (k < length ys → is_ahead_by c b f x (get_or ys k x) ≡ true) → InRank b f ys
    → (c ≡ Quoted → IsNewest f x ys)
    → insert ys k x ≡ with_rank b f x ys
walked_here Quoted b f x ys k within before at order newest =
    let by : (j : ℕ) → j < length ys
    → beats b f x (get_or ys j x) ≡ is_better b x (get_or ys j x) =
    λ j l. newest_beats b f x (get_or ys j x)
    (in_all (λ y. nat_lt (f x.venue) (f y.venue) ≡ false) ys (newest refl)
    (get_or ys j x) (in_at ys j x l)) in
    ranked_here b f x ys k within order
    (λ j e. by j (omega (arith, within, e)) ∙ before j (e ∙ sym (add-one j)))
    (λ l. by k l ∙ at l)
walked_here Rechecked b f x ys k within before at order newest =
    ranked_here b f x ys k within order (λ j e. before j (e ∙ sym (add-one j))) at

-- the first of these ranks stays it
first_again : (b : Side) (f : ℕ → ℕ) (x : Best) (ys : List Best)
    → AllByRecursion (λ y. beats b f x y ≡ true) ys
    → with_rank b f x ys ≡ x ∷ ys
first_again b f x [] h = refl
first_again b f x (y ∷ ys) h = ap (λ t. cond t (x ∷ y ∷ ys) (y ∷ with_rank b f x ys)) h.0

one_way : (b : Side) (f : ℕ → ℕ) (x y : Best) → beats b f y x ≡ true → beats b f x y ≡ false
one_way b f x y h = (elim (beats b f x y) as (λ t. beats b f x y ≡ t → t ≡ false)
    [ true ↦ λ e. absurd (beats_one_way b f y x h e) | false ↦ λ e. refl ]) refl

-- a side that is ranked already stays where it is
pub ranked_stays : (b : Side) (f : ℕ → ℕ) (x : Best) (xs : List Best) → InRank b f xs → IsIn xs x
    → ((y : Best) → IsIn xs y → y.venue ≡ x.venue → y ≡ x)
    → with_rank b f x (without x.venue xs) ≡ xs
ranked_stays b f x [] order i same = absurd i
ranked_stays b f x (y ∷ ys) order i same =
    (elim (nat_eq y.venue x.venue) as
    (λ t. nat_eq y.venue x.venue ≡ t → with_rank b f x (cond t ys (y ∷ without x.venue ys)) ≡ y
    ∷ ys) [
      | true ↦ λ e.
          let one : y ≡ x = same y (inl refl) (nat_same y.venue x.venue e) in
          first_again b f x ys (subst (λ (t : Best). AllByRecursion (λ z. beats b f t z ≡ true) ys)
          one order.0)
          ∙ ap (λ t. t ∷ ys) (sym one)
      | false ↦ λ e. elim i [
        | inl q ↦ (let no : true ≡ false = sym (nat_refl x.venue)
            ∙ ap (λ (t : Best). nat_eq t.venue x.venue) (sym q)
            ∙ e in cc)
        | inr k ↦
            let after : beats b f x y ≡ false = one_way b f x y
            (in_all (λ z. beats b f y z ≡ true) ys order.0 x k) in
            ap (λ t. cond t (x ∷ y ∷ without x.venue ys) (y ∷ with_rank b f x (without x.venue ys)))
            after
            ∙ ap (λ t. y ∷ t) (ranked_stays b f x ys order.1 k (λ z j q. same z (inr j) q))
      ]
    ]) refl

-- what a slice of the whole list was left as
pub refill_whole : (xs ws : List Best) → length ws ≡ length xs → refill (length xs) xs ws ≡ ws
refill_whole [] [] h = refl
refill_whole [] (w ∷ ws) h = absurd (omega (arith, h))
refill_whole (x ∷ xs) [] h = absurd (omega (arith, h))
refill_whole (x ∷ xs) (w ∷ ws) h = ap (λ t. w ∷ t) (refill_whole xs ws (omega (arith, h)))
