-- What comes next is genuine, where what was taken is.
use Rattle.std.proofs.Common.{◌≡◌, ℕ, Bool, true, false, ◌+◌, List, Option, Some, None, refl, sym, ◌∙◌, subst, arith}
use Rattle.std.specs.Prelude.{IfSome, ◌==◌, if◌then◌else◌}
use Rattle.std.proofs.lemmas.Bool.{eqb-true}
use Rattle.feed_types.specs.declared.item.Item.{Item}
use Rattle.feed_types.specs.declared.item.Item.TheVariants as items
use Rattle.feed_types.specs.declared.item.Numbered.{Numbered}
use Rattle.feed_types.specs.Sequence.{MayCarry}
use Rattle.line_arbiter.specs.Packets.{Input, carried}
use Rattle.line_arbiter.specs.Holding.{held_at}
use Rattle.line_arbiter.specs.States.{State, held_of, next_from, next_of}
use Rattle.line_arbiter.specs.Genuine.{AreGenuine}
use Rattle.line_arbiter.specs.laws.Genuine.{allowed_item, carried_may, carried_never_end, end_may}
use Rattle.line_arbiter.proofs.Standing.{Stands}
use Rattle.line_arbiter.proofs.Cursors.{held_is}

allowed_next : (carries : ℕ → ℕ → ℕ → Item → Type 0) (ends : ℕ → ℕ → ℕ → Type 0)
    (venue ordinal m : ℕ) (held : Option Item) (end : Option ℕ)
    → ((item : Item) → held ≡ Some item → MayCarry carries ends venue (record {
      ordinal =
          ordinal;
      number = m;
    }) item) → ((e : ℕ) → end ≡ Some e → ends venue ordinal e)
    → IfSome (next_from m held end) (λ n. MayCarry carries ends venue (record {
      ordinal =
          ordinal;
      number = n.number;
    }) n.item)
allowed_next carries ends venue ordinal m (Some item) end message last = message item refl
allowed_next carries ends venue ordinal m None None message last = tt
allowed_next carries ends venue ordinal m None (Some e) message last = by_test (e == m) refl
  where
    by_test : (t : Bool) → (e == m) ≡ t
        → IfSome {T = Numbered} (if t then Some (record { number = m; item = items.End }) else None)
        (λ n. MayCarry carries ends venue (record { ordinal = ordinal; number = n.number })
        n.item)
    by_test true is = subst (λ (n : ℕ). ends venue ordinal n) (eqb-true e m is) (last e refl)
    by_test false is = tt

-- what comes next is allowed at its place, where what was taken is genuine
pub next_allowed : (carries : ℕ → ℕ → ℕ → Item → Type 0) (ends : ℕ → ℕ → ℕ → Type 0)
    (venue ordinal : ℕ) (s : State) (packets : List Input)
    → Stands s packets → AreGenuine carries ends venue ordinal packets
    → IfSome (next_of s) (λ n. MayCarry carries ends venue
    (record { ordinal = ordinal; number = n.number }) n.item)
next_allowed carries ends venue ordinal s packets stands all =
    let held : held_at (held_of s) (s.sent + 1) ≡ carried packets (s.sent + 1) =
    held_is s packets stands (s.sent + 1) (omega arith) in
    allowed_next carries ends venue ordinal (s.sent + 1) (held_at (held_of s) (s.sent + 1)) s.end
    (λ item is. allowed_item carries ends venue ordinal (s.sent + 1) item
    (λ message. carried_may carries ends venue ordinal packets (s.sent + 1) item all (sym held ∙ is)
    message)
    (carried_never_end packets (s.sent + 1) item (sym held ∙ is)))
    (λ e is. end_may carries ends venue ordinal packets e all (sym stands.end ∙ is))
