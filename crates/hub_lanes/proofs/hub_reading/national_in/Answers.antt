use Rattle.std.proofs.Common.{◌≡◌, IfSome, subst}
use Rattle.feed_types.specs.declared.national.National.{National}
use Rattle.journal_book.specs.Journals.{JournalState}
use Rattle.nbbo_book.specs.Nationals.{national_of}
use Rattle.hub_lanes.proofs.hub_reading.national_in.Goals as goal

pub returns-clause-value : goal.returns-clause-value
returns-clause-value g c =
    subst (λ (j : JournalState). IfSome c.national.result
    (λ (n : National). n ≡ national_of j.entries c.args.symbol.now)) c.journal.ensures
    c.national.ensures.value
