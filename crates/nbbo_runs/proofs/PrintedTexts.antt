-- The texts that are printed at the end of a replay.
use Rattle.std.proofs.Common.{◌≡◌, List, ℕ, Ok, Err, subst}
use Rattle.std.specs.Prelude.{IfOk, IsOkAnd, Result}
use Rattle.std.specs.Result.{result_and}
use Rattle.feed_text.specs.declared.replay.ReplayConfig.{ReplayConfig}
use Rattle.event_sinks.specs.declared.replay_stop.ReplayStop.{ReplayStop}
use Rattle.event_sinks.specs.declared.replay_stop.ReplayStop.TheVariants.{ReadFailed, SinkFailed, Bad, Short, TooManyTurns, JournalFull, NoMemory}
use Rattle.text_out.specs.Devices.{Reading, Writing}
use Rattle.capture_records.specs.Formats.{Parsing}
use Rattle.nbbo_runs.specs.Printing.{LeavesMissing, PrintsText}
use Rattle.nbbo_runs.specs.declared.watched_sink.Missing.{Missing}

-- a text of one kind is of another one, too
pub text_as : {W F : Type 0} (writing : Writing W) (One Other : List ℕ → Type 0) (before after : W)
    (printed : Result (Unit {0}) (ReplayStop F)) → ((text : List ℕ) → One text → Other text)
    → PrintsText writing One before after printed → PrintsText writing Other before after printed
text_as writing One Other before after (Ok done) each (text, is, wrote, kept) =
    (text, each text is, wrote, kept)
text_as writing One Other before after (Err SinkFailed) each (text, is, wrote, failed) =
    (text, each text is, wrote, failed)
text_as writing One Other before after (Err NoMemory) each kept = kept
text_as writing One Other before after (Err ReadFailed) each bad = absurd bad
text_as writing One Other before after (Err (Bad fault)) each bad = absurd bad
text_as writing One Other before after (Err Short) each bad = absurd bad
text_as writing One Other before after (Err TooManyTurns) each bad = absurd bad
text_as writing One Other before after (Err JournalFull) each bad = absurd bad

-- a text that was made is of the kind of what was made
pub made_as : {A E : Type 0} (items : A → List ℕ) (made : Result A E) (P : A → Type 0)
    (Is : List ℕ → Type 0) (text : List ℕ) → IfOk made P → ((a : A) → P a → Is (items a))
    → IsOkAnd made (λ a. items a ≡ text) → Is text
made_as items (Ok a) P Is text made each same = subst Is same (each a made)
made_as items (Err e) P Is text made each none = absurd none

-- what is missing after a replay is so after its printing, which comes first
pub missing_after : {R S F : Type 0} (reading : Reading R) (parsing : Parsing S F)
    (config : ReplayConfig) (from to : R) (start finish : S) (old new : Missing)
    (printed seen : Result (Unit {0}) (ReplayStop F))
    → LeavesMissing reading parsing config from to start finish old new seen
    → LeavesMissing reading parsing config from to start finish old new (result_and printed seen)
missing_after reading parsing config from to start finish old new (Ok done) seen left = left
missing_after reading parsing config from to start finish old new (Err stop) seen left =
    record { gaps = tt; absent = tt }
