use Rattle.std.proofs.Common.{◌≡◌, subst}
use Rattle.std.specs.Prelude.{Bool, IfOk}
use Rattle.journal_book.specs.Journals.{kept_of}
use Rattle.udp_listening.specs.Reports.{absent_if}
use Rattle.udp_listening.proofs.listen_report.absent_of.Goals as goal

pub returns : goal.returns
returns c =
    let journal = c.args.settlement.now.journal in
    let symbols = c.args.settings.now.feed.symbols.items in
    subst (λ (told : Bool). IfOk c.absent_if_told.result
    (λ absent. absent ≡ absent_if told (kept_of journal.kept journal.entries) symbols))
    c.tells_absent.ensures c.absent_if_told.ensures
