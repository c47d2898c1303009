-- Parts of a list, from one place to another.
use Rattle.std.proofs.Common.{◌≡◌, ℕ, ◌+◌, ◌-◌, ◌≤◌, List, ◌++◌, length, take, drop, get_or, slice_range, rules, arith, ap, ◌∙◌}
use Rattle.std.proofs.lemmas.List.{places, same_lists}

-- a part of a list without its first n
pub range_drop : (b view : List ℕ) (s n e : ℕ) → slice_range b s e ≡ view → s ≤ e → e ≤ length b
    → n ≤ length view → slice_range b (s + n) e ≡ drop n view
range_drop b view s n e v h k m =
    let len : length (slice_range b s e) ≡ e - s = search (rules, places) in
    let same : slice_range b (s + n) e ≡ drop n (slice_range b s e) = same_lists _ _
    (search (rules, places)) (λ i d l. grind (arith, places)) in
    same ∙ ap (drop n) v

-- a part that lies within the prefix that stayed
pub range_kept : (moved new view : List ℕ) (s e : ℕ) → slice_range moved s e ≡ view → s ≤ e
    → e ≤ length moved → e ≤ length new → take e new ≡ take e moved → slice_range new s e ≡ view
range_kept moved new view s e v h k m front =
    let same : slice_range new s e ≡ slice_range moved s e = same_lists _ _ (search (rules, places))
    (λ i d l. let at : get_or (take e new) (s + i) d ≡ get_or (take e moved) (s + i) d =
    ap (λ xs. get_or xs (s + i) d) front in grind (arith, places)) in
    same ∙ v

-- what was there, and what follows it
pub range_more : (moved new view : List ℕ) (s e n : ℕ) → slice_range moved s e ≡ view → s ≤ e
    → e ≤ length moved → e + n ≤ length new → take e new ≡ take e moved
    → slice_range new s (e + n) ≡ view ++ slice_range new e (e + n)
range_more moved new view s e n v h k m front =
    let split : slice_range new s (e + n) ≡ slice_range new s e ++ slice_range new e (e + n) =
    same_lists _ _ (search (rules, places)) (λ i d l. grind (arith, places)) in
    split ∙ ap (λ xs. xs ++ slice_range new e (e + n)) (range_kept moved new view s e v
    h k (omega arith) front)

-- a part of what was made longer at its end
pub range_longer : (moved new view : List ℕ) (s e : ℕ) → slice_range moved s e ≡ view
    → s ≤ e → e ≤ length moved
    → length moved ≤ length new → take (length moved) new ≡ moved → slice_range new s e ≡ view
range_longer moved new view s e v h k m front =
    let same : slice_range new s e ≡ slice_range moved s e = same_lists _ _
    (search (rules, places)) (λ i d l.
    let at : get_or (take (length moved) new) (s + i) d ≡ get_or moved (s + i) d =
    ap (λ xs. get_or xs (s + i) d) front in
    grind (arith, places)) in
    same ∙ v
