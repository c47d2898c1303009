use Rattle.std.proofs.Common.{rules, sym, inr}
use Rattle.command_words.proofs.SnapshotNaming.{found, nameless, twice, unknown}
use Rattle.command_words.proofs.snapshot_words.read_snapshots.Goals as goal

pub returns-then-not-name_files-clause-reads : goal.returns-then-not-name_files-clause-reads
returns-then-not-name_files-clause-reads c =
    inr (sym (nameless c.args.texts.now c.args.sessions.now (search rules)))

pub returns-then-not-name_venues-clause-reads : goal.returns-then-not-name_venues-clause-reads
returns-then-not-name_venues-clause-reads c =
    inr (sym (unknown c.args.texts.now c.args.sessions.now (search rules) (search rules)))

pub returns-then-not-venues_once-clause-reads : goal.returns-then-not-venues_once-clause-reads
returns-then-not-venues_once-clause-reads c =
    inr (sym (twice c.args.texts.now c.args.sessions.now c.in_ok-files.files.items (search rules)
    (search rules) c.in_ok-files.ensures.files (search rules)))

pub returns-clause-reads : goal.returns-clause-reads
returns-clause-reads c =
    sym (found c.args.texts.now c.args.sessions.now c.in_ok-files.files.items (search rules)
    (search rules) c.in_ok-files.ensures.files (search rules))
