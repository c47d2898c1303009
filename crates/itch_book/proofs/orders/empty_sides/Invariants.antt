use Rattle.std.proofs.Common.{◌≡◌, [], replicate}
use Rattle.itch_book.proofs.orders.empty_sides.Given as goal

abbrev pub invariant-loop : goal.invariant-loop
invariant-loop l = l.sides.items ≡ replicate l.counter []
