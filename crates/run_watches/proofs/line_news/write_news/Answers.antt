use Rattle.text_out.specs.Devices.{Writing}
use Rattle.text_out.specs.Members.{writing_of}
use Rattle.text_out.specs.laws.SaidTexts.{says_each}
use Rattle.std.proofs.Common.{◌++◌}
use Rattle.run_watches.specs.News.{change_texts, line_name_texts, time_texts}
use Rattle.run_watches.proofs.line_news.write_news.Goals as goal

pub returns : goal.returns
returns g c =
    let w : Writing g.row.E.Denot = writing_of g.E.TextOut in
    let news = c.args.news.now in
    let name = line_name_texts c.args.names.now news.venue news.line in
    let first = c.args.errors.now in
    let timed = c.write_time.new.errors in
    let named = c.write_line_name.new.errors in
    let last = c.write_change.new.errors in
    says_each w (time_texts news.second) (name ++ change_texts news.change) first timed last
    c.write_time.ensures
    (says_each w name (change_texts news.change) timed named last c.write_line_name.ensures
    c.write_change.ensures)
