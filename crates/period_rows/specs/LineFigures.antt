-- What a line brought in a period.
use Rattle.std.specs.Prelude.{ℕ}
use Rattle.feed_types.specs.FullCounts.{count_after}
use Rattle.event_sinks.specs.SinkEvents.{SinkEvent}
use Rattle.report_rows.specs.EventFigures.{bytes_in, first_in, repeated_in}
use Rattle.period_rows.specs.declared.line_figures.LineFigures.{LineFigures}

abbrev pub no_figures : LineFigures
no_figures = record { packets = 0; bytes = 0; messages = 0; first = 0; missing = 0 }

-- the figures after a datagram more, whose number passes over this many messages
abbrev pub figures_after : LineFigures → ℕ → SinkEvent → LineFigures
figures_after f passed event = record {
  packets = count_after f.packets 1;
  bytes = count_after f.bytes (bytes_in event);
  messages = count_after (count_after f.messages (first_in event)) (repeated_in event);
  first = count_after f.first (first_in event);
  missing = count_after f.missing passed;
}
