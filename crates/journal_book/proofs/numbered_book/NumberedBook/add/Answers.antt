use Rattle.std.proofs.Common.{◌≡◌, ◌<◌, ◌≤◌, ◌+◌, ◌++◌, ◌∙◌, length, arith}
use Rattle.std.specs.Vec.{vec_capacity}
use Rattle.nbbo_book.specs.Changes.{changes_by}
use Rattle.journal_book.proofs.Adding.{still_numbers}
use Rattle.journal_book.proofs.numbered_book.NumberedBook.add.Goals as goal

pub invariant_of-self : goal.invariant_of-self
invariant_of-self c =
    let old = c.self.inside in
    let keeps = c.self.invariant in
    let entries = old.past.items in
    let place : c.last_position-position.result + 1 ≡ length entries + 1 =
    omega (arith, c.last_position-position.ensures, keeps.last) in
    let below : length entries < old.limit = rw (← c.self.view_is) at c.requires.room in
    let made = c.apply.ensures.changes entries keeps.fits
    ∙ (λ i. c.pass_changes.ensures.items i ++ changes_by old.book.symbols entries
    (place i) c.args.entry.now) in
    let few : length c.apply.new.out.items ≤ length old.book.symbols =
    omega (arith, c.apply.ensures.count, c.pass_changes.ensures.len, c.apply.new.out.ok.0) in
    let earlier : c.pass_changes.new.earlier ≡ old.earlier + length old.latest.items =
    omega (arith, c.pass_changes.ensures.earlier, old.latest.ok.0) in
    let room : vec_capacity c.apply.new.out ≡ vec_capacity old.latest = c.apply.ensures.capacity
    ∙ c.pass_changes.ensures.capacity in
    rw (c.with-self-inside.ensures, earlier, room)
    (still_numbers old.book c.apply.new.self old.limit old.earlier (vec_capacity old.latest) entries
    c.args.entry.now old.latest.items c.apply.new.out.items
    keeps below (c.apply.ensures.fits entries keeps.fits) c.apply.ensures.symbols
    (c.apply.ensures.last ∙ place) made few)
