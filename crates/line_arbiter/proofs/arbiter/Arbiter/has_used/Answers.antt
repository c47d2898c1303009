use Rattle.std.proofs.Common.{◌≡◌, ◌∷◌, [], List, ℕ, rules, arith, inl, inr, subst}
use Rattle.std.specs.Prelude.{Contains, slice_index_or}
use Rattle.std.proofs.lemmas.List.Elements.{Contains-append_left, Contains-append_right, Contains-append_cases}
use Rattle.line_arbiter.proofs.arbiter.Arbiter.has_used.Goals as goal

only_one : (one name : List ℕ) → Contains (one ∷ []) name → one ≡ name
only_one one name has =
    let first : has.0 ≡ 0 = let below = has.1 in omega arith in
    subst (λ (k : ℕ). slice_index_or (one ∷ []) k name ≡ name) first has.2

pub returns-then-eq : goal.returns-then-eq
returns-then-eq g c =
    let same : c.self.inside.session_name ≡ c.args.name.now = search rules in
    let here : Contains (c.self.inside.session_name ∷ []) c.args.name.now = (0, omega arith, same)
    in
    rw (← c.self.view_is) (Contains-append_right c.self.inside.earlier_names.items
    (c.self.inside.session_name ∷ []) c.args.name.now here)

pub returns-then-contains : goal.returns-then-contains
returns-then-contains g c =
    let here : Contains c.self.inside.earlier_names.items c.args.name.now = search rules in
    rw (← c.self.view_is) (Contains-append_left c.self.inside.earlier_names.items
    (c.self.inside.session_name ∷ []) c.args.name.now here)

pub returns : goal.returns
returns g c =
    let apart : c.self.inside.session_name ≡ c.args.name.now → ⊥ = search rules in
    let never : Contains c.self.inside.earlier_names.items c.args.name.now → ⊥ = search rules in
    rw (← c.self.view_is) (λ has. elim (Contains-append_cases c.self.inside.earlier_names.items
    (c.self.inside.session_name ∷ []) c.args.name.now has) [
      | inl earlier ↦ never earlier
      | inr present ↦ apart (only_one c.self.inside.session_name c.args.name.now present)
    ])
