use Rattle.itch_book.proofs.Stored.{stored_filled}
use Rattle.itch_book.proofs.buckets.Buckets.put.Goals as goal

pub returns-in-Some-clause-stored : goal.returns-in-Some-clause-stored
returns-in-Some-clause-stored c =
    let free = rw c.as_slice.ensures.value at c.in-Some.ensures in
    (stored_filled c.args.self.now.mask c.args.self.now.slots.items c.fill.new.slots.items
    c.args.self.now.beyond c.in-Some.at c.args.reference c.args.order c.requires.stored free.0
    free.1 c.requires.some c.requires.none c.fill.ensures).0

pub returns-in-Some-clause-put : goal.returns-in-Some-clause-put
returns-in-Some-clause-put c =
    let free = rw c.as_slice.ensures.value at c.in-Some.ensures in
    (stored_filled c.args.self.now.mask c.args.self.now.slots.items c.fill.new.slots.items
    c.args.self.now.beyond c.in-Some.at c.args.reference c.args.order c.requires.stored free.0
    free.1 c.requires.some c.requires.none c.fill.ensures).1
