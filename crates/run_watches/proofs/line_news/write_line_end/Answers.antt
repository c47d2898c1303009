use Rattle.text_out.specs.Devices.{Writing}
use Rattle.text_out.specs.Members.{writing_of}
use Rattle.text_out.specs.laws.SaidTexts.{says_each}
use Rattle.run_watches.specs.News.{change_texts, line_name_texts}
use Rattle.run_watches.proofs.line_news.write_line_end.Goals as goal

pub returns : goal.returns
returns g c =
    let w : Writing g.row.E.Denot = writing_of g.E.TextOut in
    let name = line_name_texts c.args.names.now c.args.venue c.args.line in
    let begun = c.write_stderr.new.errors in
    let named = c.write_line_name.new.errors in
    let last = c.write_change.new.errors in (
      begun,
      c.write_stderr.ensures,
      says_each w name (change_texts c.args.change) begun named last c.write_line_name.ensures
          c.write_change.ensures,
    )
