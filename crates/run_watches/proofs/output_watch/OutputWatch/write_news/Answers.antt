use Rattle.std.proofs.Common.{subst}
use Rattle.text_out.specs.Devices.{Writing}
use Rattle.text_out.specs.Members.{writing_of}
use Rattle.run_watches.specs.RunNews.{IsNewsOfOutput, SaysNews}
use Rattle.run_watches.specs.RunNewsLaws.{more_news}
use Rattle.run_watches.proofs.output_watch.OutputWatch.write_news.Goals as goal

pub write_change-requires : goal.write_change-requires
write_change-requires g c =
    c.new_errors-of_errors.ensures c.new_output-of_output.new.self.follows

pub returns-clause-news : goal.returns-clause-news
returns-clause-news g c =
    let w : Writing g.row.E.Denot = writing_of g.E.TextOut in
    let now = c.new_output-of_output.new.self.follows in
    let first = c.args.errors.now in
    let last = c.write_change-2.new.errors in
    λ names. subst (λ follows. SaysNews w names (IsNewsOfOutput follows) first last)
    c.new_output-of_output.ensures.follows
    (more_news w names (IsNewsOfOutput now) first c.write_change.new.errors last
    (c.write_change.ensures names) (c.write_change-2.ensures names))
