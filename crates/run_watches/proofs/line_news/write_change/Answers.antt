use Rattle.std.proofs.Common.{List, subst, ℕ}
use Rattle.text_out.specs.Devices.{Writing}
use Rattle.text_out.specs.Members.{writing_of}
use Rattle.text_out.specs.StandardError.{Says}
use Rattle.run_watches.proofs.line_news.write_change.Goals as goal

pub returns : goal.returns
returns g c =
    let w : Writing g.row.E.Denot = writing_of g.E.TextOut in
    let mid = c.write_stderr.new.errors in (
      mid,
      subst (λ (text : List ℕ). Says w text c.args.errors.now mid) c.change_end.ensures
          c.write_stderr.ensures,
      c.write_rest.ensures,
    )
