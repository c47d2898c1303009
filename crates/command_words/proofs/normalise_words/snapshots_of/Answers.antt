use Rattle.std.proofs.Common.{◌≡◌, ◌∙◌, ap, [], List, Option, Some, None, codes, subst, map}
use Rattle.std.specs.Prelude.{unwrap_or}
use Rattle.clap.proofs.WalkLemmas.{raw_values-rows}
use Rattle.clap.specs.Matches.{found_of}
use Rattle.clap.specs.Walk.{Text}
use Rattle.command_words.specs.Readings.{mapped}
use Rattle.command_words.specs.SnapshotFiles.{ReadsSnapshots, named_by}
use Rattle.command_words.proofs.normalise_words.snapshots_of.Goals as goal

-- where the values of an option are, and where it has none
all_found : (found all : Option (List Text)) (words : List Text) → Some words ≡ found → found ≡ all
    → words ≡ unwrap_or all []
all_found found all words e f = ap (λ (o : Option (List Text)). unwrap_or o []) (e ∙ f)

none_found : (found all : Option (List Text)) → None ≡ found → found ≡ all → [] ≡ unwrap_or all []
none_found found all e f = ap (λ (o : Option (List Text)). unwrap_or o []) (e ∙ f)

pub returns-in-Some-clause-reads : goal.returns-in-Some-clause-reads
returns-in-Some-clause-reads c =
    let told = all_found _ _ (map (λ text. text.now) c.in-Some.texts.now) c.in-Some.ensures
    (raw_values-rows (found_of c.args.options.now) (codes "snapshot")) in
    subst (λ (ts : List Text). ReadsSnapshots ts c.args.sessions.now
    (mapped (λ files. map named_by files.items) c.read_snapshots.result)) told
    c.read_snapshots.ensures.reads

pub returns-in-None-clause-reads : goal.returns-in-None-clause-reads
returns-in-None-clause-reads c =
    let told = none_found _ _ c.in-None.ensures
    (raw_values-rows (found_of c.args.options.now) (codes "snapshot")) in
    subst (λ (ts : List Text). ReadsSnapshots ts c.args.sessions.now
    (mapped (λ files. map named_by files.items) c.read_snapshots-in-None.result)) told
    c.read_snapshots-in-None.ensures.reads
