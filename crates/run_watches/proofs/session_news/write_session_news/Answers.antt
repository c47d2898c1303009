use Rattle.std.proofs.Common.{◌∷◌, ◌++◌}
use Rattle.std.specs.Prelude.{codes}
use Rattle.text_out.specs.Devices.{Writing}
use Rattle.text_out.specs.Members.{writing_of}
use Rattle.text_out.specs.laws.SaidTexts.{says_each}
use Rattle.run_notes.specs.SessionNames.{name_texts}
use Rattle.run_watches.specs.GapNews.{venue_time_texts}
use Rattle.run_watches.specs.SessionNews.{missed_texts}
use Rattle.run_watches.proofs.session_news.write_session_news.Goals as goal

pub returns : goal.returns
returns g c =
    let w : Writing g.row.E.Denot = writing_of g.E.TextOut in
    let news = c.args.news.now in
    let name = name_texts news.session in
    let rest = missed_texts news.missed in
    let timed = c.write_venue.new.errors in
    let begun = c.write_stderr.new.errors in
    let named = c.write_session_name.new.errors in
    let last = c.write_missed.new.errors in
    says_each w (venue_time_texts c.args.names.now news.second news.venue)
    (codes " begins session " ∷ (name ++ rest)) c.args.errors.now timed last c.write_venue.ensures (
      begun,
      c.write_stderr.ensures,
      says_each w name rest begun named last c.write_session_name.ensures c.write_missed.ensures,
    )
