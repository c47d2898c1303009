-- What a sink is told of the machine's events.
use Rattle.std.specs.Prelude.{ℕ, ◌+◌, Bool, List, [], ◌∷◌, ◌++◌, length, map, Option, Some, None, if◌then◌else◌}
use Rattle.feed_types.specs.declared.journal.Entry.{Entry}
use Rattle.feed_types.specs.declared.line.LineId.TheVariants.{A, B, Recovery}
use Rattle.nbbo_book.specs.Eligible.{is_so}
use Rattle.line_arbiter.specs.Counts.{shown}
use Rattle.line_arbiter.specs.Histories.{History, all_begun, streams_of, wins_in}
use Rattle.feed_text.specs.ReplayEvents.{ReplayEvent, packet_answered, packet_refused, item_taken, gap_left, renewal_answered, skip_answered, self_help_declared, entries_after}
use Rattle.event_sinks.specs.SinkEvents.{SinkEvent, told_packet, told_refusal, told_item, told_best, told_gap, told_renewal, told_skip, told_declaration, told_last}
use Rattle.feed_text.specs.Texts.{event_notices}

-- the position of the entry that a declaration adds, unless that is declared already
abbrev pub position_of : List Entry → ℕ → Bool → Option ℕ
position_of entries venue on =
    if is_so entries venue on then None else Some (length entries + 1)

-- an event of the machine, after these entries
abbrev pub own_told : List Entry → ReplayEvent → SinkEvent
own_told entries (packet_answered venue line number count bytes answer) =
    told_packet venue line number count bytes answer
own_told entries (packet_refused venue line fault) = told_refusal venue line fault
own_told entries (item_taken venue numbered) = told_item venue numbered
own_told entries (gap_left venue request) = told_gap venue request
own_told entries (renewal_answered venue answer) = told_renewal venue answer
own_told entries (skip_answered venue number answer) = told_skip venue number answer
own_told entries (self_help_declared venue on) =
    told_declaration venue on (position_of entries venue on)

-- it, and then the national bests that it changes
abbrev pub told_since : List (List ℕ) → List Entry → ReplayEvent → List SinkEvent
told_since symbols entries h =
    own_told entries h ∷ map told_best (event_notices symbols entries h)

-- events of the machine, one after another
abbrev pub told_of : List (List ℕ) → List Entry → List ReplayEvent → List SinkEvent
told_of symbols entries [] = []
told_of symbols entries (h ∷ hs) =
    told_since symbols entries h ++ told_of symbols (entries_after entries h) hs

-- a venue's last event: how many items of all its sessions were taken, and how many numbers each
-- line brought first
abbrev pub last_told : ℕ → History → SinkEvent
last_told venue h =
    told_last venue (shown (length (streams_of h))) (shown (wins_in (all_begun h) A))
    (shown (wins_in (all_begun h) B)) (shown (wins_in (all_begun h) Recovery))

-- the last events, venue by venue
abbrev pub lasts_told : ℕ → List History → List SinkEvent
lasts_told venue [] = []
lasts_told venue (h ∷ hs) = last_told venue h ∷ lasts_told (venue + 1) hs
