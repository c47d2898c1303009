use Rattle.std.proofs.Common.{◌++◌, codes}
use Rattle.text_out.specs.Devices.{Writing}
use Rattle.text_out.specs.Members.{writing_of}
use Rattle.text_out.specs.laws.SaidTexts.{says_each}
use Rattle.nbbo_runs.specs.NormaliseReports.{own_messages_texts, standing_texts, venue_count_texts}
use Rattle.nbbo_runs.proofs.normalise_report.write_report.Goals as goal

pub returns : goal.returns
returns g c =
    let w : Writing g.row.E.Denot = writing_of g.E.TextOut in
    let report = c.args.report.now in
    let counts = report.counts in
    let missing = c.write_standing.new.errors in
    let bad = c.write_venue_count.new.errors in
    let refused = c.write_venue_count-2.new.errors in
    let end = c.write_own_messages.new.errors in
    let bads = venue_count_texts report.venue (codes ": datagrams that are no packet: ") counts.bad
    in
    let refusals = venue_count_texts report.venue (codes ": packets refused: ") counts.refused in
    let own = own_messages_texts report.venue counts in
    says_each w (standing_texts report.venue report.missing) (bads ++ (refusals ++ own))
    c.args.errors.now missing end c.write_standing.ensures
    (says_each w bads (refusals ++ own) missing bad end c.write_venue_count.ensures
    (says_each w refusals own bad refused end c.write_venue_count-2.ensures
    c.write_own_messages.ensures))
