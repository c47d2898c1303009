-- How long the national bests of a symbol stood in a period of the clock. Of a list of events the
-- last one stands first.
use Rattle.std.specs.Prelude.{ℕ, ◌+◌, ◌-◌, ◌*◌, Bool, true, false, nat_eq, List, [], ◌∷◌, max, min, Option, Some, None, option_map, unwrap_or, if◌then◌else◌}
use Rattle.feed_types.specs.Nationals.{state_of}
use Rattle.feed_types.specs.Symbols.{key_of}
use Rattle.feed_types.specs.declared.national.Best.{Best}
use Rattle.feed_types.specs.declared.national.National.{National}
use Rattle.feed_types.specs.declared.national.NationalState.{NationalState}
use Rattle.event_sinks.specs.SinkEvents.{SinkEvent, TimedEvent, told_before, told_best, told_last}
use Rattle.report_rows.specs.EventFigures.{is_best_of}
use Rattle.period_rows.specs.Periods.{period_begin}

-- ---- the national best of a symbol

abbrev pub no_best : National
no_best = record { bid = None; offer = None }

-- what an event makes it, if it changes that of the symbol of this key; one before all that is told
-- does, too
abbrev pub best_in : ℕ → SinkEvent → Option National
best_in key (told_best notice) =
    if nat_eq (key_of notice.symbol) key then Some notice.national else None
best_in key (told_before event) = best_in key event
best_in key _ = None

-- what it is after events
abbrev pub best_told : ℕ → List TimedEvent → National
best_told key [] = no_best
best_told key (last ∷ earlier) = unwrap_or (best_in key last.event) (best_told key earlier)

-- ---- what is summed: of each national best a number, times how long it stood

abbrev pub one_if : Bool → ℕ
one_if true = 1
one_if false = 0

-- the best bid is this venue's, the first of those that are tied
abbrev pub bids : ℕ → National → ℕ
bids venue best = one_if (is_best_of venue best.bid)

abbrev pub offers : ℕ → National → ℕ
offers venue best = one_if (is_best_of venue best.offer)

abbrev pub in_state : (NationalState → Bool) → National → ℕ
in_state is best = one_if (is (state_of best))

-- by how much the offer is above the bid, in ten-thousandths of a dollar
abbrev pub spread_by : Option Best → Option Best → ℕ
spread_by (Some bid) (Some offer) = offer.price - bid.price
spread_by _ _ = 0

abbrev pub spread_of : National → ℕ
spread_of best = spread_by best.bid best.offer

-- ---- a clock that never goes back

-- what comes before all that is told, and the end of the capture, have no time
abbrev pub time_of_event : SinkEvent → Option ℕ → Option ℕ
time_of_event (told_before event) time = None
time_of_event (told_last venue sent a b recovery) time = None
time_of_event _ time = time

-- the latest time so far, 0 before any
abbrev pub clock_after : Option ℕ → ℕ → ℕ
clock_after None clock = clock
clock_after (Some time) clock = max clock time

-- that from which all is told is the first one, if there is such a time
abbrev pub clock_told : Option ℕ → List TimedEvent → ℕ
clock_told from [] = unwrap_or from 0
clock_told from (last ∷ earlier) =
    clock_after (time_of_event last.event last.time) (clock_told from earlier)

-- when the period at hand began, if a time is known: that of the clock
abbrev pub begin_after : ℕ → Option ℕ → ℕ → Option ℕ → Option ℕ
begin_after length None clock begin = begin
begin_after length (Some time) clock begin = Some (period_begin length (max clock time))

abbrev pub begin_told : ℕ → Option ℕ → List TimedEvent → Option ℕ
begin_told length from [] = option_map (period_begin length) from
begin_told length from (last ∷ earlier) =
    begin_after length (time_of_event last.event last.time) (clock_told from earlier)
    (begin_told length from earlier)

-- ---- how long something stood

-- how much of a piece of time lies in the period that began then
abbrev pub overlap : ℕ → ℕ → ℕ → ℕ → ℕ
overlap length begin from to = min to (begin + length) - max from begin

-- the sum over the pieces of time between events, from the first time on: how much of each lies in
-- the period, times what the symbol's national best weighs that stood meanwhile
abbrev pub stood : (National → ℕ) → ℕ → ℕ → ℕ → Option ℕ → List TimedEvent → ℕ
stood weight key length begin from [] = 0
stood weight key length begin from (last ∷ earlier) =
    weight (best_told key earlier)
    * overlap length begin (clock_told from earlier) (clock_told from (last ∷ earlier))
    + stood weight key length begin from earlier
