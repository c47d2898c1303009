use Rattle.text_out.specs.Devices.{Writing}
use Rattle.text_out.specs.Members.{writing_of}
use Rattle.run_watches.specs.RunNews.{IsNewsOfOutput, IsToldOfOutput, of_output}
use Rattle.run_watches.proofs.Telling.{of_some, one_news}
use Rattle.run_watches.proofs.output_watch.OutputWatch.write_change.Goals as goal

pub returns-in-Some : goal.returns-in-Some
returns-in-Some g c =
    let w : Writing g.row.E.Denot = writing_of g.E.TextOut in
    let follows = c.args.self.now.follows in
    let told = of_some (IsToldOfOutput follows) c.args.change _ c.in-Some.is c.requires in
    λ names. one_news w names (IsNewsOfOutput follows) (of_output _)
    c.args.errors.now c.write_output_news.new.errors told c.write_output_news.ensures
