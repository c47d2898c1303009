-- Items in sequence come once each, and a history with a refused skip has others.
use Rattle.std.proofs.Common.{◌≡◌, ℕ, zero, suc, ◌+◌, ◌<◌, ◌≤◌, List, [], ◌∷◌, Some, subst, arith}
use Rattle.std.specs.Prelude.{◌≢◌, slice_get}
use Rattle.std.specs.List.{AllByRecursion}
use Rattle.feed_types.specs.declared.item.Item.{Item}
use Rattle.feed_types.specs.declared.item.Item.TheVariants as items
use Rattle.feed_types.specs.declared.item.Numbered.{Numbered}
use Rattle.feed_types.specs.Sequence.{HasPlace}
use Rattle.line_arbiter.specs.Streams.{stream_of}
use Rattle.line_arbiter.specs.SessionOrder.{AreInSequenceFrom}
use Rattle.line_arbiter.specs.Histories.{History, all_begun}
use Rattle.feed_steps.specs.declared.event.Event.{Event}
use Rattle.feed_core.specs.Worlds.{Venue}
use Rattle.feed_core.specs.VenueHalf.{VenueHalf}
use Rattle.feed_core.specs.RefusedSkip.{with_refused_skip}

at_place : (n number : ℕ) (item : Item) → HasPlace n number item → n ≤ number
at_place n number items.End h = omega arith
at_place n number items.Other h = omega arith
at_place n number items.Skipped h = h
at_place n number (items.Quote quote) h = omega arith
at_place n number (items.Halt symbol halted) h = omega arith

-- no number is below the first
from : (n : ℕ) (xs : List Numbered) → AreInSequenceFrom n xs → (j : ℕ) (y : Numbered)
    → slice_get xs j ≡ Some y → n ≤ y.number
from n [] all j y there = absurd cc
from n (x ∷ xs) all zero y there =
    let same : x ≡ y = cc in
    subst (λ (z : Numbered). n ≤ z.number) same (at_place n x.number x.item all.0)
from n (x ∷ xs) all (suc j) y there =
    let here = at_place n x.number x.item all.0 in
    let rest = from (x.number + 1) xs all.2 j y there in
    omega arith

none_in : (xs : List Numbered) (j : ℕ) (y : Numbered) → xs ≡ [] → slice_get xs j ≡ Some y → ⊥
none_in [] j y none there = absurd cc
none_in (x ∷ xs) j y none there = absurd cc

pub come_once : (n : ℕ) (xs : List Numbered) → AreInSequenceFrom n xs → (i j : ℕ) (x y : Numbered)
    → i < j → slice_get xs i ≡ Some x → slice_get xs j ≡ Some y
    → (x.number < y.number) × (x.item ≢ items.End)
come_once n [] all i j x y before at there = absurd cc
come_once n (z ∷ xs) all i zero x y before at there = absurd (omega arith)
come_once n (z ∷ xs) all zero (suc j) x y before at there =
    let same : z ≡ x = cc in
    let rest = from (z.number + 1) xs all.2 j y there in
    subst (λ (w : Numbered). (w.number < y.number) × (w.item ≢ items.End)) same
    (omega arith, λ end. none_in xs j y (all.1 end) there)
come_once n (z ∷ xs) all (suc i) (suc j) x y before at there =
    come_once (z.number + 1) xs all.2 i j x y (omega arith) at there

next_after : (n : ℕ) (xs : List Numbered) → AreInSequenceFrom n xs → (i : ℕ)
    (x y : Numbered) → slice_get xs i ≡ Some x → slice_get xs (suc i) ≡ Some y
    → HasPlace (x.number + 1) y.number y.item
next_after n [] all i x y at there = absurd cc
next_after n (z ∷ []) all zero x y at there = absurd cc
next_after n (z ∷ w ∷ xs) all zero x y at there =
    let one : z ≡ x = cc in
    let two : w ≡ y = cc in
    subst (λ (u : Numbered). HasPlace (u.number + 1) y.number y.item) one
    (subst (λ (u : Numbered). HasPlace (z.number + 1) u.number u.item) two all.2.0)
next_after n (z ∷ xs) all (suc i) x y at there =
    next_after (z.number + 1) xs all.2 i x y at there

pub next_number : (n : ℕ) (xs : List Numbered) → AreInSequenceFrom n xs → (i : ℕ)
    (x y : Numbered) → slice_get xs i ≡ Some x → slice_get xs (i + 1) ≡ Some y
    → HasPlace (x.number + 1) y.number y.item
next_number n xs all i x y at there =
    let same : i + 1 ≡ suc i = omega arith in
    next_after n xs all i x y at (subst (λ (k : ℕ). slice_get xs k ≡ Some y) same there)

pub refused_never : (events : List Event) (place : ℕ) (v : Venue) (session : List ℕ)
    → v.history ≡ with_refused_skip session → VenueHalf events place v → ⊥
refused_never events place v session is half =
    let each = subst (λ (h : History).
    AllByRecursion (λ b. AreInSequenceFrom 1 (stream_of b.packets)) (all_begun h))
    is half.sequence.items in
    let low : 6 ≤ 2 = each.0.2.2.2.2.2.0 in
    absurd (omega arith)
