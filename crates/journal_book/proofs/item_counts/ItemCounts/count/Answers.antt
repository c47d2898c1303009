use Rattle.journal_book.proofs.Counting.{counts_small, counts_more}
use Rattle.journal_book.proofs.item_counts.ItemCounts.count.Goals as goal

pub count_entry-requires : goal.count_entry-requires
count_entry-requires c =
    counts_small c.self.inside.counts c.self.inside.past.items 4294967295 c.self.invariant
    (rw (← c.self.view_is) at c.requires)

pub invariant_of-self : goal.invariant_of-self
invariant_of-self c =
    rw (c.count_entry.ensures, c.with-self-inside.ensures)
    (counts_more c.self.inside.counts c.self.inside.past.items c.args.entry.now c.self.invariant)
