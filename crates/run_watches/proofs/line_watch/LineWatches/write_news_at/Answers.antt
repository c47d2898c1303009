use Rattle.std.proofs.Common.{◌∙◌, Contains, ap, subst, sym}
use Rattle.std.proofs.Math.Seq.{map-set_same}
use Rattle.std.specs.Prelude.{is_some}
use Rattle.text_out.specs.Devices.{Writing}
use Rattle.run_watches.specs.RunLines.{watched, watched_lines}
use Rattle.run_watches.specs.RunNews.{IsNewsOfLine, IsNewsOfLines, SaysNews}
use Rattle.run_watches.proofs.Telling.{line_within, made_within, news_within}
use Rattle.run_watches.proofs.line_watch.LineWatches.write_news_at.Goals as goal

pub returns-in-Some-clause-lines : goal.returns-in-Some-clause-lines
returns-in-Some-clause-lines g c =
    let old = c.in-Some.line.now in
    ap (λ lines. record { tells_more = is_some c.args.self.now.tables; lines = lines })
    (map-set_same watched c.args.self.now.lines.items c.args.place c.write_news.new.self old
    (c.write_news.ensures.line ∙ ap (λ line. watched line) c.in-Some.ensures.item.1))

pub returns-in-Some-clause-news : goal.returns-in-Some-clause-news
returns-in-Some-clause-news g c =
    let w : Writing g.row.E.Denot = record {
      adds = g.E.TextOut.adds;
      failures =
          g.E.TextOut.failures;
    } in
    let items = c.args.self.now.lines.items in
    let more = is_some c.args.self.now.tables in
    let lines = watched_lines c.args.self.now in
    let old = c.in-Some.line.now in
    let there = subst (λ line. Contains lines.lines (watched line)) (sym c.in-Some.ensures.item.1)
    (made_within watched items c.args.place old c.in-Some.ensures.item.3.0) in
    news_within w c.args.names.now (IsNewsOfLine more (watched old)) (IsNewsOfLines lines)
    c.args.errors.now
    c.write_news.new.errors (line_within lines (watched old) there)
    (subst (λ told. SaysNews w c.args.names.now (IsNewsOfLine told (watched old)) c.args.errors.now
    c.write_news.new.errors) c.is_some-tells_more.ensures c.write_news.ensures.news)
