use Rattle.std.proofs.Common.{rules, inl, inr, codes}
use Rattle.std.specs.Prelude.{unwrap_or}
use Rattle.std.proofs.lemmas.Result.{err_from_is_err_and}
use Rattle.clap.specs.Matches.{found_of}
use Rattle.clap.specs.Walk.{one_of, rows_of}
use Rattle.command_words.specs.FeedRequests.{ReadsFeed}
use Rattle.command_words.specs.OptionValues.{is_flag_set, number_given}
use Rattle.command_words.specs.Readings.{Then}
use Rattle.command_words.specs.RunRequests.{ReadsReplayOutput, ReadsRunOf, replay_journal}
use Rattle.command_words.proofs.Subcommands.{onward}
use Rattle.command_words.proofs.run_words.replay_of.Goals as goal

pub returns-in_err-plain : goal.returns-in_err-plain
returns-in_err-plain c =
    let residual = c.from_residual-in_err-plain in
    let p = err_from_is_err_and residual.result residual.ensures.1 in
    rw (p.1, p.2) (inr (c.in_ok-feed.feed, search rules, inl (search rules)))

pub returns : goal.returns
returns c =
    let rows = rows_of (found_of c.args.replay.now) in
    let gaps = is_flag_set (one_of (codes "gaps") rows) in
    let journal = unwrap_or (number_given (one_of (codes "journal") rows)) (replay_journal rows) in
    onward (ReadsFeed rows journal)
    (λ feed. Then (ReadsReplayOutput rows) (λ plain. ReadsRunOf rows feed gaps plain))
    c.in_ok-feed.feed c.run_of.result (search rules)
    (onward (ReadsReplayOutput rows) (λ plain. ReadsRunOf rows c.in_ok-feed.feed gaps plain)
    c.in_ok-plain.plain c.run_of.result (search rules) (search rules))
