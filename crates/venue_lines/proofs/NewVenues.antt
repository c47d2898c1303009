-- The making of a feed's venues, in terms of plain states.
use Rattle.std.proofs.Common.{◌≡◌, ℕ, zero, suc, ◌+◌, List, [], ◌∷◌, ◌++◌, length, Some, refl, sym, ap, subst, ◌∙◌, length-append, inl, inr}
use Rattle.std.specs.Prelude.{slice_get}
use Rattle.std.proofs.lemmas.Grind.{replicate_next}
use Rattle.std.proofs.lemmas.List.{map-append}
use Rattle.feed_types.specs.declared.item.Numbered.{Numbered}
use Rattle.fifo_lane.specs.Lane.{LaneEnd}
use Rattle.feed_steps.specs.laws.Lists.{get_push}
use Rattle.venue_lines.specs.Starts.{AreStarts, StartState, names_by_venue, none_next}

get_last : {X : Type 0} (xs : List X) (x : X) → slice_get (xs ++ x ∷ []) (length xs) ≡ Some x
get_last [] x = refl
get_last (y ∷ ys) x = get_last ys x

get_more : {X : Type 0} (xs ys : List X) (k : ℕ) (x : X) → slice_get xs k ≡ Some x
    → slice_get (xs ++ ys) k ≡ Some x
get_more [] ys k x e = absurd cc
get_more (z ∷ xs) ys zero x e = e
get_more (z ∷ xs) ys (suc k) x e = get_more xs ys k x e

-- one more venue
pub starts_more : (window lane : ℕ) (starts : List StartState) (receivers : List (LaneEnd Numbered))
    (s : StartState)
    (e : LaneEnd Numbered) → AreStarts window lane starts receivers → e ≡ s.lane
    → e.tag ≡ length receivers
    → e.items ≡ []
    → (s.arbiter.window ≡ window) × (s.lane.capacity ≡ lane)
    → s.arbiter.venue ≡ length receivers
    → AreStarts window lane (starts ++ s ∷ []) (receivers ++ e ∷ [])
starts_more window lane starts receivers s e h same tag empty sized of = record {
  count = length-append starts (s ∷ []) ∙ ap (λ (n : ℕ). n + 1) h.count
      ∙ sym (length-append receivers (e ∷ []));
  of = λ k y at. elim (get_push starts k s y at) [
    | inl here ↦ ap (λ (x : StartState). x.arbiter.venue) here.1 ∙ of ∙ sym h.count ∙ sym here.0
    | inr there ↦ h.of k y there.1
  ];
  same = λ k y at. elim (get_push starts k s y at) [
    | inl here ↦ ap (slice_get (receivers ++ e ∷ [])) (here.0 ∙ h.count) ∙ get_last receivers e
        ∙ ap Some (same ∙ sym (ap (λ (x : StartState). x.lane) here.1))
    | inr there ↦ get_more receivers (e ∷ []) k y.lane (h.same k y there.1)
  ];
  new = λ k y at. elim (get_push receivers k e y at) [
    | inl here ↦ subst (λ (p : ℕ × LaneEnd Numbered). (p.1.tag ≡ p.0) × (p.1.items ≡ []))
        (λ i. (sym here.0 i, sym here.1 i)) (tag, empty)
    | inr there ↦ h.new k y there.1
  ];
  sized = λ k y at. elim (get_push starts k s y at) [
    | inl here ↦ subst (λ (x : StartState). (x.arbiter.window ≡ window) × (x.lane.capacity ≡ lane))
        (sym here.1) sized
    | inr there ↦ h.sized k y there.1
  ];
}

-- no session is named to follow at one more venue
pub next_more : (starts : List StartState) (s : StartState) (venues : ℕ)
    → names_by_venue starts ≡ none_next venues → s.next ≡ []
    → names_by_venue (starts ++ s ∷ []) ≡ none_next (venues + 1)
next_more starts s venues none last =
    map-append (λ (x : StartState). x.next) starts (s ∷ [])
    ∙ (λ i. none i ++ last i ∷ [])
    ∙ sym (replicate_next venues [])
