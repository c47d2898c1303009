use Rattle.std.proofs.Common.{get_or, List, ℕ, arith, ap, ◌∙◌, ◌≡◌, ◌<◌, ◌++◌, ◌∷◌, [], length, vec_len}
use Rattle.std.proofs.Math.Seq.{get_or-append_seam}
use Rattle.feed_types.specs.declared.journal.Entry.{Entry}
use Rattle.std.specs.Vec.{vec_capacity}
use Rattle.journal_book.specs.NumberedBooks.{GoesOnBy}
use Rattle.journal_book.proofs.Adding.{below_limit, still_keeps, still_offered}
use Rattle.journal_book.proofs.journal.Journal.add.Goals.{After-add-position}
use Rattle.journal_book.proofs.journal.Journal.add.Goals as goal

-- the entry is read where it was written
there : (c : After-add-position) → c.index.result.now ≡ c.args.entry
there c =
    let place : c.len-place.result ≡ length c.self.inside.entries.items =
    omega (arith, c.len-place.ensures, c.self.inside.entries.ok.0) in
    c.index.ensures
    ∙ ap (λ (xs : List Entry). get_or xs c.len-place.result c.index.result.now)
    c.push_entry.ensures.items
    ∙ ap (λ (i : ℕ). get_or (c.self.inside.entries.items ++ c.args.entry ∷ []) i c.index.result.now)
    place
    ∙ get_or-append_seam c.self.inside.entries.items c.args.entry [] c.index.result.now

goes_on : (c : After-add-position) → GoesOnBy c.self.inside.numbered c.args.entry
    c.add-position.new.self
goes_on c = rw (there c) at c.add-position.ensures.goes_on

pub count-requires : goal.count-requires
count-requires c =
    let old = c.self.inside in
    let room = rw (← c.self.view_is) at c.requires.ready in
    let below = below_limit old.numbered.journal (length old.numbered.symbols)
    (length old.numbered.entries) (vec_len old.entries) (vec_capacity old.entries)
    (vec_len old.notices) (vec_capacity old.notices) room in
    rw (c.self.invariant.counts) (omega (arith, below, c.self.invariant.limited))

pub invariant_of-self : goal.invariant_of-self
invariant_of-self c =
    let d = (goal.at.invariant_of-self c).After-add-position in
    let old = c.self.inside in
    let ready = rw (← c.self.view_is) at c.requires.ready in
    let room : length old.numbered.entries < old.numbered.journal = below_limit old.numbered.journal
    (length old.numbered.symbols) (length old.numbered.entries) (vec_len old.entries)
    (vec_capacity old.entries)
    (vec_len old.notices) (vec_capacity old.notices) ready in
    let capacity = c.let_entries_go.ensures.capacity ∙ c.push_entry.ensures.capacity in
    rw (
      c.count.ensures,
      c.let_entries_go.ensures.items,
      capacity,
      c.push_notices.ensures.items,
      c.push_notices.ensures.capacity,
      c.push_entry.ensures.items,
      c.latest.ensures.notices,
    )
    (still_keeps old.numbered c.add-position.new.self c.args.entry (goes_on d) old.counted old.most
    old.entries.items (vec_capacity old.entries) old.first old.notices.items
    (vec_capacity old.notices) old.cursors.items c.self.invariant room c.latest.ensures.small)

pub returns-clause-offered : goal.returns-clause-offered
returns-clause-offered c =
    let d = (goal.at.returns-clause-offered c).After-add-position in
    let old = c.self.inside in
    rw (← c.self.view_is)
    (still_offered old.numbered c.add-position.new.self c.args.entry (goes_on d) old.counted
    old.most old.entries.items (vec_capacity old.entries) old.first old.notices.items
    (vec_capacity old.notices) old.cursors.items c.self.invariant)
