-- The inside of a window and of an arbiter. Cited by private clauses alone.
use Rattle.std.specs.Prelude.{◌∷◌, ◌++◌, []}
use Rattle.line_arbiter.specs.declared.window.Window.TheInside.{Inside as WindowInside}
use Rattle.line_arbiter.specs.declared.arbiter.Arbiter.TheInside.{Inside as ArbiterInside}
use Rattle.line_arbiter.specs.Holding.{Held}
use Rattle.line_arbiter.specs.Filling.{IsHeld, IsNextHeld}
use Rattle.line_arbiter.specs.Marks.{IsBitmap}
use Rattle.line_arbiter.specs.States.{State}
use Rattle.line_arbiter.specs.Steps.{IsSound}

abbrev pub window_inside : WindowInside → Held
window_inside w =
    record { base = w.base_number; width = w.places.capacity; places = w.places.items }

-- what a window keeps, and that its bitmap says which numbers are held
pub record IsWindow (w : WindowInside) : Type 0 where
  pub held : IsHeld w.held_items (window_inside w)
  pub marks : IsBitmap w.marks.items (window_inside w)

-- the state of an arbiter
abbrev pub arbiter_inside : {G : Type 0} → ArbiterInside G → State
arbiter_inside a = record {
  venue = a.venue_id;
  sessions = a.earlier_names.items ++ a.session_name ∷ [];
  session = a.session_name;
  window = a.held.width;
  sent = a.held.base;
  front = a.run_to;
  known = a.known_to;
  end = a.end_number;
  places = a.held.places;
  wins = a.won;
  earlier = a.won_before;
}

-- what an arbiter keeps, and the lowest number past its front at which it holds an item
pub record IsArbiter {G : Type 0} (a : ArbiterInside G) : Type 0 where
  pub sound : IsSound (arbiter_inside a)
  pub next : IsNextHeld a.held a.run_to a.next_held
