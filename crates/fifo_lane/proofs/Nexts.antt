-- What a pop leaves: of an empty lane, and of a settled one.
use Rattle.std.proofs.Common.{◌≡◌, ℕ, true, List, [], ◌∷◌, ◌++◌, length, drop, Option, Some, None, MatchOption, sym, refl, ap, ◌∙◌, append_assoc, append-nil}
use Rattle.std.proofs.Math.Seq.{drop-append_seam, drop-length}
use Rattle.crossbeam_queue.specs.Fifo.{Held}
use Rattle.fifo_lane.specs.declared.known.Known.{Known}
use Rattle.fifo_lane.specs.Lane.{Keeps}
use Rattle.fifo_lane.specs.Passes.{with_received}

module _ {T : Type 0} (may : ℕ → List T → Type 0) where
  none_in : (items : List T) → length items ≡ 0 → items ≡ []
  none_in [] e = refl
  none_in (x ∷ xs) e = cc

  -- what was sent is all received
  pub all_received : (tag capacity : ℕ) (sent received inside : List T) → length inside ≡ 0
      → Keeps may tag capacity sent received inside → sent ≡ received
  all_received tag capacity sent received inside none k = k.whole
      ∙ ap (λ l. received ++ l) (none_in inside none) ∙ append-nil received

  -- what a pop of a settled lane shows
  abbrev pub Taken : Option T → Known T → Known T → Type 0
  Taken r v w =
      MatchOption r ((w ≡ v)
      × Held 0 (λ inside. Keeps may v.tag v.capacity v.sent v.received inside))
      (λ x. (w ≡ with_received v x) × ((rest : List T) × (v.sent ≡ v.received ++ x ∷ rest)))

  abbrev pub IsSettled : Known T → Type 0
  IsSettled v = (v.may_push ≡ true) × (v.may_pop ≡ true)
      × ((rest : List T) × (v.sent ≡ v.received ++ rest))

  abbrev pub left_in : Known T → List T
  left_in v = drop (length v.received) v.sent

  -- a settled lane stays settled
  pub stays_settled : (r : Option T) (v w : Known T) → Taken r v w → IsSettled v → IsSettled w
  stays_settled None v w p s = rw p.0 s
  stays_settled (Some x) v w p s =
      rw p.0 (s.0, s.1, (p.1.0, p.1.1 ∙ sym (append_assoc v.received (x ∷ []) p.1.0)))

  -- and returns the first of what is left in it
  pub nexts : (r : Option T) (v w : Known T) → Taken r v w
      → MatchOption r ((left_in v ≡ []) × (left_in w ≡ [])) (λ x. left_in v ≡ x ∷ left_in w)
  nexts None v w p =
      let same = all_received v.tag v.capacity v.sent v.received p.1.0 p.1.1 p.1.2 in
      let none : left_in v ≡ [] = ap (λ l. drop (length v.received) l) same
      ∙ drop-length v.received in
      (none, ap left_in p.0 ∙ none)
  nexts (Some x) v w p =
      let here : left_in v ≡ x ∷ p.1.0 = ap (λ l. drop (length v.received) l) p.1.1
      ∙ drop-append_seam v.received (x ∷ p.1.0) in
      let more : v.sent ≡ (v.received ++ x ∷ []) ++ p.1.0 = p.1.1
      ∙ sym (append_assoc v.received (x ∷ []) p.1.0) in
      let then : left_in w ≡ p.1.0 = ap left_in p.0
      ∙ ap (λ l. drop (length (v.received ++ x ∷ [])) l) more
      ∙ drop-append_seam (v.received ++ x ∷ []) p.1.0 in
      here ∙ ap (λ l. x ∷ l) (sym then)
