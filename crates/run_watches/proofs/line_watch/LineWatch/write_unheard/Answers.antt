use Rattle.std.proofs.Common.{flat_map, subst, sym}
use Rattle.text_out.specs.Devices.{Writing}
use Rattle.text_out.specs.Members.{writing_of}
use Rattle.text_out.specs.StandardError.{SaysEach}
use Rattle.run_watches.specs.News.{line_end_texts, unheard_note}
use Rattle.run_watches.specs.RunLines.{watched}
use Rattle.run_watches.specs.declared.line_news.LineChange.TheVariants.{Unheard}
use Rattle.run_watches.proofs.Telling.{each_of_one}
use Rattle.run_watches.proofs.line_watch.LineWatch.write_unheard.Goals as goal

pub returns-then-unheard : goal.returns-then-unheard
returns-then-unheard g c =
    let w : Writing g.row.E.Denot = writing_of g.E.TextOut in
    let texts = line_end_texts c.args.names.now (watched c.args.self.now) in
    let first = c.args.errors.now in
    let last = c.write_line_end.new.errors in
    subst (λ unheard. SaysEach w (flat_map texts (unheard_note unheard)) first last)
    (sym c.if-unheard.true)
    (each_of_one w texts Unheard first last c.write_line_end.ensures)
