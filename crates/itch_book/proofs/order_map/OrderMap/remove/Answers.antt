use Rattle.std.proofs.Common.{arith}
use Rattle.std.specs.Prelude.{nat_eq}
use Rattle.std.specs.Map.{remove_entry}
use Rattle.std.proofs.lemmas.Map.Entries.{sum_by-remove_entry, sum_by_values_permutation}
use Rattle.itch_book.proofs.MapKeys.{sum_keys-alike, sum_keys-gone}
use Rattle.itch_book.proofs.order_map.OrderMap.remove.Goals as goal

pub returns-clause-sums : goal.returns-clause-sums
returns-clause-sums c f =
    let es = c.self.inside.live.entries in
    rw (← c.self.view_is) (omega (
      arith,
      sum_by_values_permutation f (remove_entry (nat_eq c.args.reference) es)
          c.remove.new.self.entries
          c.remove.ensures.entries,
      sum_by-remove_entry f (nat_eq c.args.reference) es,
    ))

pub returns-clause-keys : goal.returns-clause-keys
returns-clause-keys c f =
    let es = c.self.inside.live.entries in
    rw (← c.self.view_is) (omega (
      arith,
      sum_keys-alike f (remove_entry (nat_eq c.args.reference) es) c.remove.new.self.entries
          c.remove.ensures.entries,
      sum_keys-gone f es c.args.reference (rw (← c.self.view_is) at c.requires),
    ))
