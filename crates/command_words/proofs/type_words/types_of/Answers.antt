use Rattle.std.proofs.Common.{rules, ◌≡◌, Bool, true, false}
use Rattle.std.specs.Prelude.{Result}
use Rattle.clap.specs.Matches.{found_of}
use Rattle.clap.specs.Walk.{rows_of}
use Rattle.command_words.specs.TypeRequests.{ReadsTypesAlone, UnlessRows, asks_rows}
use Rattle.command_words.specs.declared.refusal.Refusal.{Refusal}
use Rattle.command_words.specs.declared.type_settings.TypeSettings.{TypeSettings}
use Rattle.command_words.proofs.type_words.types_of.Goals as goal

-- where no other rows are asked for
when_alone : (asked : Bool) (Read : Result TypeSettings Refusal → Type 0)
    (result : Result TypeSettings Refusal) → asked ≡ false → Read result
    → UnlessRows asked Read result
when_alone true Read result is read = absurd (cc)
when_alone false Read result is read = read

pub returns : goal.returns
returns c =
    let rows = rows_of (found_of c.args.stats.now) in
    when_alone (asks_rows rows) (ReadsTypesAlone rows) c.types_alone.result (search rules)
    c.types_alone.ensures
