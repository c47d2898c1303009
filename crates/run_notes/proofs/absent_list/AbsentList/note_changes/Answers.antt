use Rattle.std.proofs.Common.{◌≡◌, ◌+◌, ◌++◌, ◌∷◌, ◌∙◌, [], List, ap, sym, take}
use Rattle.std.proofs.lemmas.Grind.{take_at_read}
use Rattle.feed_types.specs.declared.journal.Notice.{Notice}
use Rattle.run_notes.specs.AbsentLaws.{more_unchanged, unchanged_by_none}
use Rattle.run_notes.proofs.absent_list.AbsentList.note_changes.Goals as goal

pub loop-notice-init : goal.loop-notice-init
loop-notice-init c = sym (unchanged_by_none c.args.self.now)

pub loop-notice-preserved : goal.loop-notice-preserved
loop-notice-preserved c =
    let notices = c.args.notices.now in
    let i = c.loop-notice.notice-index in
    let front = take i notices in
    let x = c.notice-item.result in
    let whole : take (i + 1) notices ≡ front ++ x ∷ [] =
    (take_at_read notices i x c.loop-notice-test.true).1
    ∙ ap (λ (y : Notice). front ++ y ∷ []) (sym c.notice-item.is) in
    more_unchanged front (take (i + 1) notices) x c.args.self.now c.loop-notice.self
    c.note_change.new.self whole c.loop-notice.invariant c.note_change.ensures
