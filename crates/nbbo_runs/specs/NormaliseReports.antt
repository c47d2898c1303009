-- What is said on standard error at the end of a run of normalise. This project's own texts.
use Rattle.std.specs.Prelude.{ℕ, ◌==◌, ◌&&◌, not, List, [], ◌∷◌, ◌++◌, codes, decimal, flat_map, Option, Some, None, Result, Ok, Err, if◌then◌else◌}
use Rattle.event_sinks.specs.VenueGapTexts.{venue_gap_texts}
use Rattle.event_sinks.specs.declared.venue_gap.VenueGap.{VenueGap}
use Rattle.feed_types.specs.declared.missing_range.MissingRange.{MissingRange}
use Rattle.event_sinks.specs.declared.replay_stop.ReplayStop.{ReplayStop}
use Rattle.itch_book.specs.declared.fault.BookFault.{BookFault}
use Rattle.itch_book.specs.declared.fault.BookFault.TheVariants.{NoMemory}
use Rattle.run_notes.specs.ItchNotes.{book_fault_texts, unquoted_texts}
use Rattle.run_settings.specs.declared.venue_names.VenueNames.TheVariants.{Numbers}
use Rattle.normalising.specs.declared.normalise_stop.NormaliseStop.{NormaliseStop}
use Rattle.normalising.specs.declared.normalise_stop.NormaliseStop.TheVariants as stops
use Rattle.normalising.specs.declared.packet_counts.PacketCounts.{PacketCounts}
use Rattle.normalising.specs.declared.venue_report.VenueReport.{VenueReport}
use Rattle.venue_normaliser.specs.declared.fault.NormaliserFault.{NormaliserFault}
use Rattle.venue_normaliser.specs.declared.fault.NormaliserFault.TheVariants as faults
use Rattle.venue_normaliser.specs.declared.resume_fault.ResumeFault.{ResumeFault}
use Rattle.venue_normaliser.specs.declared.resume_fault.ResumeFault.TheVariants as resumes

-- a line of a venue
abbrev pub venue_line_texts : (venue : ℕ) → (text : List ℕ) → List (List ℕ)
venue_line_texts venue text = codes "nbbo: venue " ∷ decimal venue ∷ text ∷ []

-- ---- the report of a venue

-- which messages are missing, if any are
abbrev pub standing_texts : (venue : ℕ) → Option MissingRange → List (List ℕ)
standing_texts venue None = []
standing_texts venue (Some messages) =
    venue_gap_texts (record { venue = venue; messages = messages })

-- a line with a count, where that isn't 0
abbrev pub venue_count_texts : (venue : ℕ) → (label : List ℕ) → ℕ → List (List ℕ)
venue_count_texts venue label count =
    if count == 0 then []
    else venue_line_texts venue label ++ (decimal count ∷ codes "\n" ∷ [])

-- that the packets begin with this project's own messages, where some do and none with one of ITCH
abbrev pub own_messages_texts : (venue : ℕ) → PacketCounts → List (List ℕ)
own_messages_texts venue counts =
    if not counts.has_itch && counts.has_own
    then venue_line_texts venue
    (codes " looks like own messages, which nbbo replay reads as they are\n")
    else []

abbrev pub venue_report_texts : VenueReport → List (List ℕ)
venue_report_texts report =
    standing_texts report.venue report.missing
    ++ (venue_count_texts report.venue (codes ": datagrams that are no packet: ") report.counts.bad
    ++ (venue_count_texts report.venue (codes ": packets refused: ") report.counts.refused
    ++ own_messages_texts report.venue report.counts))

-- ---- why a run ended

-- the book of a venue
abbrev pub book_stop_texts : (venue : ℕ) → BookFault → List (List ℕ)
book_stop_texts venue NoMemory = codes "nbbo: no memory\n" ∷ []
book_stop_texts venue fault = book_fault_texts Numbers venue fault

-- it wasn't begun
abbrev pub begin_fault_texts : NormaliserFault → List (List ℕ)
begin_fault_texts faults.BadWindow = codes "nbbo: bad window\n" ∷ []
begin_fault_texts (faults.Book fault) = book_stop_texts 0 fault

-- a venue's session doesn't begin with its snapshot
abbrev pub resume_fault_texts : (venue : ℕ) → ResumeFault → List (List ℕ)
resume_fault_texts venue (resumes.Book fault) = book_stop_texts venue fault
resume_fault_texts venue resumes.TooFewNumbers =
    venue_line_texts venue
    (codes ": its snapshot shows more than the messages before its number can\n")
resume_fault_texts venue resumes.HasBegun =
    venue_line_texts venue (codes ": its session has begun\n")

-- The text of an outcome, where `end_texts` is what a replay says of what was read and of its own:
-- a run that a book ended has read what it read without a fault.
abbrev pub normalise_end_texts : {S F : Type 0}
    → (end_texts : S → List ℕ → Result (Unit {0}) (ReplayStop F) → List (List ℕ)) → (read : S)
    → Result (Unit {0}) (NormaliseStop F) → List (List ℕ)
normalise_end_texts end_texts read (Ok done) = end_texts read [] (Ok tt)
normalise_end_texts end_texts read (Err (stops.Replay stop)) = end_texts read [] (Err stop)
normalise_end_texts end_texts read (Err (stops.Fault fault)) = begin_fault_texts fault
normalise_end_texts end_texts read (Err (stops.Snapshot venue fault)) =
    resume_fault_texts venue fault
normalise_end_texts end_texts read (Err (stops.Book venue fault)) =
    end_texts read [] (Ok tt) ++ book_stop_texts venue fault

-- the gaps that were given up, then the reports of the venues, and then why the run ended
abbrev pub normalise_texts : {S F : Type 0}
    → (end_texts : S → List ℕ → Result (Unit {0}) (ReplayStop F) → List (List ℕ)) → (read : S)
    → List VenueGap → List VenueReport → Result (Unit {0}) (NormaliseStop F) → List (List ℕ)
normalise_texts end_texts read gaps reports outcome =
    flat_map (unquoted_texts Numbers) gaps
    ++ (flat_map venue_report_texts reports ++ normalise_end_texts end_texts read outcome)
