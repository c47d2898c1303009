-- A period's figures as sums over the events whose time lies in it. Of a list of events the last
-- one stands first.
use Rattle.std.specs.Prelude.{◌≡◌, ℕ, ◌+◌, ◌<◌, ◌==◌, ◌&&◌, Bool, false, List, [], ◌∷◌, ◌++◌, min, slice_index_or, Option, None, Some, if◌then◌else◌}
use Rattle.std.specs.List.{AllByRecursion, list_any}
use Rattle.event_sinks.specs.SinkEvents.{SinkEvent, TimedEvent}
use Rattle.report_rows.specs.EventFigures.{bytes_in, first_in, repeated_in}
use Rattle.report_rows.specs.SpanEvents.{ends_all}
use Rattle.period_rows.specs.CountStates.{CountPeriod, datagram_line, own_begin, state_told}
use Rattle.period_rows.specs.LineFigures.{no_figures}
use Rattle.period_rows.specs.PrintedPeriods.{ended_told}
use Rattle.period_rows.specs.declared.line_figures.LineFigures.{LineFigures}

-- there is a number, and it is this one
abbrev pub is_number : Option ℕ → ℕ → Bool
is_number None n = false
is_number (Some m) n = m == n

-- the event is a datagram of the line at a place, in the period that began then
abbrev pub is_in_period : ℕ → ℕ → ℕ → TimedEvent → Bool
is_in_period length begin place e =
    is_number (own_begin length e) begin && is_number (datagram_line e.event) place

-- the sum of a figure over the datagrams of a line in a period
abbrev pub period_sum : (SinkEvent → ℕ) → ℕ → ℕ → ℕ → List TimedEvent → ℕ
period_sum figure length begin place [] = 0
period_sum figure length begin place (e ∷ earlier) =
    (if is_in_period length begin place e then figure e.event else 0)
    + period_sum figure length begin place earlier

-- The figures of a line in a period are these sums, 2^64 - 1 where they are larger.
pub record ArePeriodSums (length begin place : ℕ) (events : List TimedEvent) (f : LineFigures)
    : Type 0 where
  pub packets : f.packets
      ≡ min (period_sum (λ event. 1) length begin place events) 18446744073709551615
  pub bytes : f.bytes ≡ min (period_sum bytes_in length begin place events) 18446744073709551615
  pub messages : f.messages
      ≡ min (period_sum (λ event. first_in event + repeated_in event) length begin place events)
      18446744073709551615
  pub first : f.first ≡ min (period_sum first_in length begin place events) 18446744073709551615

abbrev pub HasPeriodSums : ℕ → List TimedEvent → CountPeriod → Type 0
HasPeriodSums length events p =
    (place : ℕ) → place < 32
    → ArePeriodSums length p.begin place events (slice_index_or p.figures place no_figures)

-- As long as no datagram is late, each period that is kept or was ended has these figures.
abbrev pub FiguresAreSums : Type 0
FiguresAreSums = (length : ℕ) (events : List TimedEvent)
    → list_any (λ e. ends_all e.event) events ≡ false → (state_told length events).late ≡ 0
    → AllByRecursion (HasPeriodSums length events)
    ((state_told length events).periods ++ ended_told length events)
