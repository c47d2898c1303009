-- Lanes that serve a list: the first of it in order, given out in order.
use Rattle.std.proofs.Common.{◌≡◌, List, [], ◌∷◌, ◌++◌, length, drop, Some, refl, sym, ap, ◌∙◌, append_assoc}
use Rattle.feed_types.specs.Prefix.{IsPrefix}
use Rattle.feed_core.specs.Worlds.{Lane, inside}
use Rattle.feed_core.specs.Steps.{next_in, next_out}
use Rattle.feed_steps.specs.laws.Lists.{begins_then, begins_next, begins_drop}

pub record Serves {X : Type 0} (lane : Lane X) (all : List X) : Type 0 where
  pub sent : IsPrefix lane.sent all
  pub received : IsPrefix lane.received lane.sent

pub serve_in : {X : Type 0} (lane : Lane X) (all : List X) (x : X) → Serves lane all
    → next_in all lane ≡ Some x → Serves (record lane { sent = lane.sent ++ x ∷ [] }) all
serve_in lane all x s e =
    record {
      sent = begins_next lane.sent all x s.sent e;
      received =
          begins_then s.received (record { rest = x ∷ []; is = refl });
    }

pub serve_out : {X : Type 0} (lane : Lane X) (all : List X) (x : X) → Serves lane all
    → next_out lane ≡ Some x → Serves (record lane { received = lane.received ++ x ∷ [] }) all
serve_out lane all x s e =
    record { sent = s.sent; received = begins_next lane.received lane.sent x s.received e }

pub serve_more : {X : Type 0} (lane : Lane X) (all more : List X) → IsPrefix all more
    → Serves lane all → Serves lane more
serve_more lane all more g s = record { sent = begins_then s.sent g; received = s.received }

pub serve_all : {X : Type 0} (lane : Lane X) (all : List X) → Serves lane all
    → lane.received ++ (inside lane ++ drop (length lane.sent) all) ≡ all
serve_all lane all s =
    sym (append_assoc lane.received (inside lane) (drop (length lane.sent) all))
    ∙ ap (λ (l : List _). l ++ drop (length lane.sent) all) (begins_drop s.received)
    ∙ begins_drop s.sent
