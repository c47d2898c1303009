use Rattle.std.proofs.Common.{ℕ, ◌≡◌, ◌<◌, ◌∙◌, ap, get_or, length, arith}
use Rattle.journal_book.specs.Changes.{changes_of}
use Rattle.journal_book.proofs.CursorMoving.{one_within}
use Rattle.journal_book.proofs.journal.Journal.seen.Goals as goal

pub returns-clause-small : goal.returns-clause-small
returns-clause-small c =
    let old = c.self.inside in
    let all = changes_of old.numbered.symbols old.numbered.entries in
    let cursor = c.index-2.result.now in
    let known : c.args.id < length old.cursors.items = rw (← c.self.view_is) at c.requires in
    let here : cursor ≡ get_or old.cursors.items c.args.id cursor =
    c.index-2.ensures ∙ ap (λ (i : ℕ). get_or old.cursors.items i cursor) c.index.ensures.value in
    let within = one_within old.first (length all) old.cursors.items c.args.id cursor known
    c.self.invariant.seen here in
    omega (arith, within.to, c.self.invariant.small)
