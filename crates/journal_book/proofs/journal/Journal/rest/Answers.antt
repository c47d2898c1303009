use Rattle.std.proofs.Common.{ℕ, ◌≡◌, ◌<◌, ◌∙◌, Some, ap, sym, get_or, length, arith, length-drop}
use Rattle.std.proofs.lemmas.Option.{slice_get-get_or}
use Rattle.journal_book.specs.Changes.{changes_of}
use Rattle.journal_book.proofs.CursorMoving.{one_within}
use Rattle.journal_book.proofs.journal.Journal.rest.Goals as goal

pub returns : goal.returns
returns c =
    let old = c.self.inside in
    let all = changes_of old.numbered.symbols old.numbered.entries in
    let cursor = c.index-2.result.now in
    let known : c.args.id < length old.cursors.items = rw (← c.self.view_is) at c.requires in
    let here : cursor ≡ get_or old.cursors.items c.args.id cursor =
    c.index-2.ensures ∙ ap (λ (i : ℕ). get_or old.cursors.items i cursor) c.index.ensures.value in
    let within = one_within old.first (length all) old.cursors.items c.args.id cursor known
    c.self.invariant.seen here in
    let run = c.as_slice.ensures.value ∙ c.self.invariant.run in
    let count = ap length run ∙ length-drop old.first all in
    rw (← c.self.view_is) (record {
      cursor = cursor;
      at = slice_get-get_or old.cursors.items c.args.id cursor known ∙ ap Some (sym here);
      gone = old.first;
      begun = c.self.invariant.begun;
      is = run;
      seen = omega (arith, within.from);
      within = omega (arith, within.to, count);
    })
