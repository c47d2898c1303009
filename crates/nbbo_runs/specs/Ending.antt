-- The end of the program after a replay: its status, and the text on standard error. This project's
-- own texts.
use Rattle.std.specs.Prelude.{ℕ, List, [], ◌∷◌, codes, Result, Ok, Err, if◌then◌else◌}
use Rattle.event_sinks.specs.declared.replay_stop.ReplayStop.{ReplayStop}
use Rattle.event_sinks.specs.declared.replay_stop.ReplayStop.TheVariants.{ReadFailed, SinkFailed, Bad, Short, TooManyTurns, JournalFull, NoMemory}
use Rattle.nbbo_runs.specs.Hints.{format_hint}
use Rattle.nbbo_runs.specs.declared.own_capture.BadRecord.{BadRecord}

-- 0 after a run that came to its end, else 1
abbrev pub ending_status : {E : Type 0} → Result (Unit {0}) E → ℕ
ending_status (Ok done) = 0
ending_status (Err stop) = 1

abbrev pub write_failed_text : List ℕ
write_failed_text = codes "nbbo: write failed\n"

-- one line
abbrev pub stop_line_text : {F : Type 0} → ReplayStop F → List ℕ
stop_line_text ReadFailed = codes "nbbo: read failed\n"
stop_line_text SinkFailed = write_failed_text
stop_line_text (Bad fault) = codes "nbbo: bad record\n"
stop_line_text Short = codes "nbbo: short record\n"
stop_line_text TooManyTurns = codes "nbbo: too many turns\n"
stop_line_text JournalFull = codes "nbbo: journal full\n"
stop_line_text NoMemory = codes "nbbo: no memory\n"

-- what stands where the first record is bad may be a packet capture, or a packed file
abbrev pub first_hint : BadRecord → List ℕ
first_hint bad = if bad.is_first then format_hint bad.start else []

abbrev pub own_hint : ReplayStop BadRecord → List ℕ
own_hint (Bad bad) = first_hint bad
own_hint stop = []

-- After a capture of the project's own format, whatever was read of it: one line and a hint, or
-- none where it came to its end.
abbrev pub own_end_texts : {S : Type 0} → S → Result (Unit {0}) (ReplayStop BadRecord)
    → List (List ℕ)
own_end_texts read (Ok done) = []
own_end_texts read (Err stop) = stop_line_text stop ∷ own_hint stop ∷ []

-- texts of what was read and of the outcome, whichever sessions began
abbrev pub of_any_sessions : {S F : Type 0} → (S → Result (Unit {0}) F → List (List ℕ))
    → S → (ordinals : List ℕ) → Result (Unit {0}) F → List (List ℕ)
of_any_sessions texts s ordinals outcome = texts s outcome
