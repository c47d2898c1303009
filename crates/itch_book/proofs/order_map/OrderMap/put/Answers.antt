use Rattle.std.proofs.Common.{◌≡◌, ◌∙◌, ap, arith, subst, Option, None}
use Rattle.std.specs.HashMap.{PutsEntry}
use Rattle.std.specs.Prelude.{nat_eq}
use Rattle.std.specs.Option.{option_map, unwrap_or}
use Rattle.std.proofs.lemmas.Map.Entries.{sum_by_puts_entry}
use Rattle.itch_book.specs.declared.order.Order.{Order}
use Rattle.itch_book.proofs.MapKeys.{sum_keys-put}
use Rattle.itch_book.proofs.order_map.OrderMap.put.Goals as goal

pub returns-clause-sums : goal.returns-clause-sums
returns-clause-sums c f =
    let e = c.in_default.ensures in
    let none : c.in_default.field-0 ≡ None = e.old ∙ (rw (← c.self.view_is) at c.requires) in
    let was = ap (λ (o : Option Order). unwrap_or (option_map f o) 0) none in
    rw (← c.self.view_is) (omega (
      arith,
      was,
      sum_by_puts_entry f nat_eq c.self.inside.live c.insert.new.self c.args.reference c.args.order
          c.in_default.field-0 e.old e.entries,
    ))

pub returns-clause-keys : goal.returns-clause-keys
returns-clause-keys c f =
    let e = c.in_default.ensures in
    let es = c.self.inside.live.entries in
    let none : c.in_default.field-0 ≡ None = e.old ∙ (rw (← c.self.view_is) at c.requires) in
    rw (← c.self.view_is) (sum_keys-put f es c.insert.new.self.entries c.args.reference c.args.order
    (subst (λ o. PutsEntry nat_eq c.self.inside.live c.insert.new.self c.args.reference
    c.args.order o) none e.entries))
