use Rattle.std.proofs.Common.{◌∙◌, subst}
use Rattle.text_out.specs.Devices.{Writing}
use Rattle.run_watches.specs.RunLines.{watched_lines}
use Rattle.run_watches.specs.RunNews.{IsNewsOfLines, SaysNews}
use Rattle.run_watches.specs.RunNewsLaws.{more_news}
use Rattle.run_watches.proofs.line_watch.LineWatches.write_news.Goals as goal

pub loop-place-preserved : goal.loop-place-preserved
loop-place-preserved g c =
    let w : Writing g.row.E.Denot = record {
      adds = g.E.TextOut.adds;
      failures =
          g.E.TextOut.failures;
    } in
    let same = c.loop-place.invariant.0 in
    let told = c.write_news_at.new.errors in (
      c.write_news_at.ensures.lines ∙ same,
      more_news w c.args.names.now (IsNewsOfLines (watched_lines c.args.self.now)) c.args.errors.now
          c.loop-place.errors told c.loop-place.invariant.1
          (subst (λ lines. SaysNews w c.args.names.now (IsNewsOfLines lines) c.loop-place.errors
          told) same c.write_news_at.ensures.news),
    )
