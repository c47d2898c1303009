-- The place of each venue's side among the ranks, after one has moved.
use Rattle.std.proofs.Common.{ℕ, zero, suc, ◌+◌, ◌<◌, ◌≤◌, ◌≡◌, List, [], ◌∷◌, ◌++◌, true, false, refl, ap, sym, ◌∙◌, subst, arith, length, set, get_or, cond, nat_eq, length-append}
use Rattle.std.specs.List.{remove}
use Rattle.std.proofs.lemmas.List.Edits.{length-remove, get_or-remove_above}
use Rattle.feed_types.specs.declared.national.Best.{Best}
use Rattle.nbbo_book.specs.Ranks.{AreNoted, HasNone, without}
use Rattle.nbbo_book.proofs.Ranking.{nat_split, in_all}
use Rattle.nbbo_book.proofs.Moving.{in_at}
use Rattle.nbbo_book.proofs.SideInvariant.{set_at, set_off, apart_from, long_set}

-- x moves to b, and the neighbour that was there to the place that x leaves
pub noted_past : (P : List ℕ) (L : List Best) (a b : ℕ) (x n : Best) → a < length L
    → b < length L → (a ≡ b → ⊥)
    → x.venue < length P → n.venue < length P → AreNoted (set P x.venue a) (set L a x)
    → n ≡ get_or L b n
    → AreNoted (set (set P n.venue a) x.venue b) (set (set L a n) b x)
noted_past P L a b x n la lb ne px pn h is = λ k d l.
    let Q : List ℕ = set (set P n.venue a) x.venue b in
    let M : List Best = set (set L a n) b x in
    let lk : k < length L = omega (arith, l, long_set (set L a n) b x, long_set L a n) in
    let seen : (j : ℕ) (e : Best) → j < length L → (j ≡ a → ⊥)
    → ((get_or L j e).venue ≡ x.venue → ⊥) × (get_or P (get_or L j e).venue 16 ≡ j) = λ j e lj nj.
    (let there : get_or (set P x.venue a) (get_or L j e).venue 16 ≡ j =
    ap (λ (y : Best). get_or (set P x.venue a) y.venue 16)
    (sym (set_off L a j x e (λ q. nj (sym q))))
    ∙ h j e (omega (arith, lj, long_set L a x)) in
    let other : (get_or L j e).venue ≡ x.venue
    → ⊥ = λ q. nj (sym there ∙ ap (λ (w : ℕ). get_or (set P x.venue a) w 16) q
    ∙ set_at P x.venue a 16 px) in
    (other, sym (set_off P x.venue (get_or L j e).venue a 16 (λ q. other (sym q))) ∙ there)) in
    let its = seen b n lb (λ q. ne (sym q)) in
    let apart : x.venue ≡ n.venue → ⊥ = λ q. its.0 (ap (λ (y : Best). y.venue) (sym is) ∙ sym q) in
    let was : get_or P n.venue 16 ≡ b = ap (λ (y : Best). get_or P y.venue 16) is ∙ its.1 in
    nat_split k b (get_or Q (get_or M k d).venue 16 ≡ k)
    (λ q. ap (λ (i : ℕ). get_or Q (get_or M i d).venue 16) q
    ∙ ap (λ (y : Best). get_or Q y.venue 16) (set_at (set L a n) b x d
    (omega (arith, lb, long_set L a n)))
    ∙ set_at (set P n.venue a) x.venue b 16 (omega (arith, px, long_set P n.venue a)) ∙ sym q)
    (λ kb. nat_split k a (get_or Q (get_or M k d).venue 16 ≡ k)
    (λ q. ap (λ (i : ℕ). get_or Q (get_or M i d).venue 16) q
    ∙ ap (λ (y : Best). get_or Q y.venue 16) (set_off (set L a n) b a x d (λ u. ne (sym u))
    ∙ set_at L a n d la)
    ∙ set_off (set P n.venue a) x.venue n.venue b 16 apart ∙ set_at P n.venue a 16 pn ∙ sym q)
    (λ ka.
    let z = seen k d lk (λ u. apart_from a k ka (sym u)) in
    ap (λ (y : Best). get_or Q y.venue 16)
    (set_off (set L a n) b k x d (apart_from b k kb) ∙ set_off L a k n d (apart_from a k ka))
    ∙ set_off (set P n.venue a) x.venue (get_or L k d).venue b 16 (λ u. z.0 (sym u))
    ∙ set_off P n.venue (get_or L k d).venue a 16
    (λ u. apart_from b k kb (sym was ∙ ap (λ (w : ℕ). get_or P w 16) u ∙ z.1))
    ∙ z.1))

-- a place that is noted may be noted again
pub noted_again : (P : List ℕ) (L : List Best) (a : ℕ) (x : Best)
    → a < length L → x.venue < length P
    → AreNoted P (set L a x) → AreNoted (set P x.venue a) (set L a x)
noted_again P L a x la px h = λ k d l.
    let y : Best = get_or (set L a x) k d in
    let mine : get_or P x.venue 16 ≡ a = ap (λ (t : Best). get_or P t.venue 16)
    (sym (set_at L a x d la))
    ∙ h a d (omega (arith, la, long_set L a x)) in
    nat_split y.venue x.venue (get_or (set P x.venue a) y.venue 16 ≡ k)
    (λ q. ap (λ (w : ℕ). get_or (set P x.venue a) w 16) q ∙ set_at P x.venue a 16 px ∙ sym mine
    ∙ ap (λ (w : ℕ). get_or P w 16) (sym q) ∙ h k d l)
    (λ e. set_off P x.venue y.venue a 16 (apart_from x.venue y.venue e) ∙ h k d l)

-- another side of the venue in the same place
pub noted_in_place : (P : List ℕ) (L : List Best) (a : ℕ) (x : Best) → a < length L
    → (get_or L a x).venue ≡ x.venue
    → AreNoted P L → AreNoted P (set L a x)
noted_in_place P L a x la own h = λ k d l.
    nat_split k a (get_or P (get_or (set L a x) k d).venue 16 ≡ k)
    (λ q. ap (λ (i : ℕ). get_or P (get_or (set L a x) i d).venue 16) q
    ∙ ap (λ (y : Best). get_or P y.venue 16) (set_at L a x d la)
    ∙ ap (λ (w : ℕ). get_or P w 16) (sym own)
    ∙ h a x la ∙ sym q)
    (λ e. ap (λ (y : Best). get_or P y.venue 16) (set_off L a k x d (apart_from a k e))
    ∙ h k d (omega (arith, l, long_set L a x)))

-- the first side of a venue is the one at the place that is noted
pub without_here : (v : ℕ) (xs : List Best) (i : ℕ) (d : Best) → i < length xs
    → nat_eq (get_or xs i d).venue v ≡ true
    → ((j : ℕ) → j < i → nat_eq (get_or xs j d).venue v ≡ false)
    → without v xs ≡ remove xs i
without_here v [] i d l e h = absurd (omega (arith, l))
without_here v (x ∷ xs) zero d l e h = ap (λ t. cond t xs (x ∷ without v xs)) e
without_here v (x ∷ xs) (suc i) d l e h =
    ap (λ t. cond t xs (x ∷ without v xs)) (h zero (omega arith))
    ∙ ap (λ t. x ∷ t) (without_here v xs i d (omega (arith, l)) e
    (λ j m. h (suc j) (omega (arith, m))))

pub without_missing : (v : ℕ) (xs : List Best) (d : Best)
    → ((j : ℕ) → j < length xs → nat_eq (get_or xs j d).venue v ≡ false) → without v xs ≡ xs
without_missing v [] d h = refl
without_missing v (x ∷ xs) d h =
    ap (λ t. cond t xs (x ∷ without v xs)) (h zero (omega arith))
    ∙ ap (λ t. x ∷ t) (without_missing v xs d (λ j m. h (suc j) (omega (arith, m))))

at_the_end : (xs : List Best) (x d : Best) → get_or (xs ++ x ∷ []) (length xs) d ≡ x
at_the_end [] x d = refl
at_the_end (y ∷ xs) x d = at_the_end xs x d

before_the_end : (xs : List Best) (x d : Best) (k : ℕ) → k < length xs
    → get_or (xs ++ x ∷ []) k d ≡ get_or xs k d
before_the_end [] x d k l = absurd (omega (arith, l))
before_the_end (y ∷ xs) x d zero l = refl
before_the_end (y ∷ xs) x d (suc k) l = before_the_end xs x d k (omega (arith, l))

pub set_the_end : (xs : List Best) (x : Best) → set (xs ++ x ∷ []) (length xs) x ≡ xs ++ x ∷ []
set_the_end [] x = refl
set_the_end (y ∷ xs) x = ap (λ t. y ∷ t) (set_the_end xs x)

-- one more side, at the end
pub noted_pushed : (P : List ℕ) (xs : List Best) (x : Best) → x.venue < length P
    → HasNone x.venue xs → AreNoted P xs
    → AreNoted (set P x.venue (length xs)) (xs ++ x ∷ [])
noted_pushed P xs x px none h = λ k d l.
    let Q : List ℕ = set P x.venue (length xs) in
    nat_split k (length xs) (get_or Q (get_or (xs ++ x ∷ []) k d).venue 16 ≡ k)
    (λ q. ap (λ (i : ℕ). get_or Q (get_or (xs ++ x ∷ []) i d).venue 16) q
    ∙ ap (λ (y : Best). get_or Q y.venue 16) (at_the_end xs x d)
    ∙ set_at P x.venue (length xs) 16 px ∙ sym q)
    (λ e.
    let lk : k < length xs = (let off = apart_from (length xs) k e in let long =
    length-append xs (x ∷ []) in grind (arith, l, long, e)) in
    ap (λ (y : Best). get_or Q y.venue 16) (before_the_end xs x d k lk)
    ∙ set_off P x.venue (get_or xs k d).venue (length xs) 16
    (apart_from x.venue (get_or xs k d).venue
    (in_all (λ y. nat_eq y.venue x.venue ≡ false) xs none (get_or xs k d) (in_at xs k d lk)))
    ∙ h k d lk)

-- the sides after one that was taken out are one place further on than they are noted
pub noted_after : (P : List ℕ) (L : List Best) (i k : ℕ) (d : Best) → i < length L → i ≤ k
    → k < length (remove L i)
    → AreNoted P L → get_or P (get_or (remove L i) k d).venue 16 ≡ k + 1
noted_after P L i k d li lk l h = ap (λ (y : Best). get_or P y.venue 16)
    (get_or-remove_above L i d k lk li)
    ∙ h (k + 1) d (omega (arith, li, l, length-remove L i li))

-- a venue's side is where its place is noted, if there
pub stands_there : (v : ℕ) (P : List ℕ) (xs : List Best) (at : ℕ) (d : Best)
    → AreNoted P xs → get_or P v 16 ≡ at
    → at < length xs → nat_eq (get_or xs at d).venue v ≡ true → without v xs ≡ remove xs at
stands_there v P xs at d h is l own =
    without_here v xs at d l own (λ j m. nat_split (get_or xs j d).venue v
    (nat_eq (get_or xs j d).venue v ≡ false)
    (λ q. (let same : j ≡ at = sym (h j d (omega (arith, m, l))) ∙ ap (λ (w : ℕ). get_or P w 16) q
    ∙ is in absurd (omega (arith, same, m))))
    (λ e. e))

pub stands_nowhere : (v : ℕ) (P : List ℕ) (xs : List Best) (at : ℕ) (d : Best)
    → AreNoted P xs → get_or P v 16 ≡ at
    → (at < length xs → nat_eq (get_or xs at d).venue v ≡ false) → without v xs ≡ xs
stands_nowhere v P xs at d h is off =
    without_missing v xs d (λ j m. nat_split (get_or xs j d).venue v
    (nat_eq (get_or xs j d).venue v ≡ false)
    (λ q. (let same : at ≡ j = sym is ∙ ap (λ (w : ℕ). get_or P w 16) (sym q) ∙ h j d m in
    subst (λ (i : ℕ). nat_eq (get_or xs i d).venue v ≡ false) same
    (off (subst (λ (i : ℕ). i < length xs) (sym same) m))))
    (λ e. e))

pub any_default : (P : List ℕ) (i c d : ℕ) → i < length P → get_or P i c ≡ get_or P i d
any_default [] i c d h = absurd (omega (arith, h))
any_default (x ∷ P) zero c d h = refl
any_default (x ∷ P) (suc i) c d h = any_default P i c d (omega (arith, h))
