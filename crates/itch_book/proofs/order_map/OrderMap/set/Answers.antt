use Rattle.std.proofs.Common.{ap, arith, Option}
use Rattle.std.specs.Prelude.{nat_eq}
use Rattle.std.specs.Option.{option_map, unwrap_or}
use Rattle.std.proofs.lemmas.Map.Entries.{sum_by_puts_entry}
use Rattle.itch_book.specs.declared.order.Order.{Order}
use Rattle.itch_book.proofs.order_map.OrderMap.set.Goals as goal

pub returns-clause-sums : goal.returns-clause-sums
returns-clause-sums c f =
    let e = c.in_default.ensures in
    let was = ap (λ (o : Option Order). unwrap_or (option_map f o) 0) e.old in
    rw (← c.self.view_is) (omega (
      arith,
      was,
      sum_by_puts_entry f nat_eq c.self.inside.live c.insert.new.self c.args.reference c.args.order
          c.in_default.field-0 e.old e.entries,
    ))
