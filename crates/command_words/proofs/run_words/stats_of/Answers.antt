use Rattle.std.proofs.Common.{rules, inl, inr, false}
use Rattle.std.proofs.lemmas.Result.{err_from_is_err_and}
use Rattle.clap.specs.Matches.{found_of}
use Rattle.clap.specs.Walk.{rows_of}
use Rattle.command_words.specs.FeedRequests.{ReadsFeed}
use Rattle.command_words.specs.Readings.{Then}
use Rattle.command_words.specs.RunRequests.{ReadsRunOf, ReadsStatsOutput}
use Rattle.command_words.proofs.Subcommands.{onward}
use Rattle.command_words.proofs.run_words.stats_of.Goals as goal

pub returns-in_err-plain : goal.returns-in_err-plain
returns-in_err-plain c =
    let residual = c.from_residual-in_err-plain in
    let p = err_from_is_err_and residual.result residual.ensures.1 in
    rw (p.1, p.2) (inr (c.in_ok-feed.feed, search rules, inl (search rules)))

pub returns : goal.returns
returns c =
    let rows = rows_of (found_of c.args.stats.now) in
    onward (ReadsFeed rows 4294967295)
    (λ feed. Then (ReadsStatsOutput rows) (λ plain. ReadsRunOf rows feed false plain))
    c.in_ok-feed.feed c.run_of.result (search rules)
    (onward (ReadsStatsOutput rows) (λ plain. ReadsRunOf rows c.in_ok-feed.feed false plain)
    c.in_ok-plain.plain c.run_of.result c.in_ok-plain.ensures c.run_of.ensures)
