-- The metrics of a run that listens, in Prometheus' text format: of each metric a line with its
-- help, one with its type, and a row for each value, with the value's labels. The names are this
-- project's own. A venue's label is its name or its number, neither of which has a byte that the
-- format gives a meaning.
use Rattle.std.specs.Prelude.{ℕ, ◌/◌, List, [], ◌∷◌, ◌++◌, Option, Some, None, codes, decimal, flat_map, slice_index}
use Rattle.std.specs.List.{concat}
use Rattle.text_out.specs.TextParts.{nine_places}
use Rattle.venue_lines.specs.declared.line_counts.LineCounts.{LineCounts}
use Rattle.run_settings.specs.VenueNames.{venue_text}
use Rattle.run_settings.specs.declared.venue_names.VenueNames.{VenueNames}
use Rattle.run_metrics.specs.LineFigures.{datagram_count, lacking, lag, message_count}
use Rattle.run_metrics.specs.declared.figures.LineEndReason.{LineEndReason}
use Rattle.run_metrics.specs.declared.figures.LineEndReason.TheVariants as ends
use Rattle.run_metrics.specs.declared.figures.LineState.{LineState}
use Rattle.run_metrics.specs.declared.figures.RunFigures.{RunFigures}
use Rattle.run_metrics.specs.declared.figures.VenueFigures.{VenueFigures}
use Rattle.run_metrics.specs.declared.line_metric.LineMetric.{LineMetric}
use Rattle.run_metrics.specs.declared.line_metric.LineMetric.TheVariants as lines
use Rattle.run_metrics.specs.declared.run_metric.RunMetric.{RunMetric}
use Rattle.run_metrics.specs.declared.run_metric.RunMetric.TheVariants as runs
use Rattle.run_metrics.specs.declared.state_metric.StateMetric.{StateMetric}
use Rattle.run_metrics.specs.declared.state_metric.StateMetric.TheVariants as states
use Rattle.run_metrics.specs.declared.venue_metric.VenueMetric.{VenueMetric}
use Rattle.run_metrics.specs.declared.venue_metric.VenueMetric.TheVariants as venues

-- ---- heads and rows

-- what stands before the rows of a metric
unfoldable pub head_text : (name help kind : List ℕ) → List ℕ
head_text name help kind =
    concat (codes "# HELP " ∷ name ∷ codes " " ∷ help ∷ [])
    ++ (concat (codes "\n# TYPE " ∷ name ∷ codes " " ∷ kind ∷ []) ++ codes "\n")

-- the row of a figure of the run
unfoldable pub run_row : (name : List ℕ) → ℕ → List ℕ
run_row name value = concat (name ∷ codes " " ∷ decimal value ∷ codes "\n" ∷ [])

-- how a row of a venue begins, up to the venue's label
unfoldable pub row_start : (name venue : List ℕ) → List ℕ
row_start name venue = concat (name ∷ codes "{venue=\"" ∷ venue ∷ [])

-- of a line, up to the line's letter
unfoldable pub line_start : (name venue line : List ℕ) → List ℕ
line_start name venue line = row_start name venue ++ concat (codes "\",line=\"" ∷ line ∷ [])

-- how a row ends, after its labels: with its value
unfoldable pub value_end : ℕ → List ℕ
value_end value = concat (codes "\"} " ∷ decimal value ∷ codes "\n" ∷ [])

-- with nanoseconds as seconds, after what stands before these
unfoldable pub time_end : List ℕ → ℕ → List ℕ
time_end before time =
    concat (before ∷ decimal (time / 1000000000) ∷ codes "." ∷ nine_places time ∷ [])
    ++ codes "\n"

-- the row of a venue, by its label
unfoldable pub venue_row : (name venue : List ℕ) → ℕ → List ℕ
venue_row name venue value = row_start name venue ++ value_end value

-- of a line, by its letter
unfoldable pub line_row : (name venue line : List ℕ) → ℕ → List ℕ
line_row name venue line value = line_start name venue line ++ value_end value

-- of a time of a line
unfoldable pub line_time_row : (name venue line : List ℕ) → ℕ → List ℕ
line_time_row name venue line time = line_start name venue line ++ time_end (codes "\"} ") time

-- of a line's refusals of one number
unfoldable pub refusal_row : (venue line number : List ℕ) → ℕ → List ℕ
refusal_row venue line number value =
    line_start (codes "nbbo_refused_packets_total") venue line
    ++ (concat (codes "\",refusal=\"" ∷ number ∷ []) ++ value_end value)

-- the rows of what there is, if it is there
abbrev pub rows_if : {X : Type 0} → Option X → (X → List ℕ) → List ℕ
rows_if None rows = []
rows_if (Some x) rows = rows x

-- ---- metrics of the run

abbrev pub run_name : RunMetric → List ℕ
run_name runs.Seconds = codes "nbbo_run_seconds"
run_name runs.Changes = codes "nbbo_best_changes_total"
run_name runs.Waiting = codes "nbbo_waiting_changes"
run_name runs.Printed = codes "nbbo_printed_rows_total"
run_name runs.Untaken = codes "nbbo_untaken_texts_total"

abbrev pub run_help : RunMetric → List ℕ
run_help runs.Seconds = codes "Seconds since the run began."
run_help runs.Changes = codes "Changes of the national best."
run_help runs.Waiting = codes "Changes of the national best that wait to be printed."
run_help runs.Printed = codes "Rows of changes that were printed."
run_help runs.Untaken = codes "Texts that standard error didn't take."

abbrev pub run_kind : RunMetric → List ℕ
run_kind runs.Seconds = codes "gauge"
run_kind runs.Changes = codes "counter"
run_kind runs.Waiting = codes "gauge"
run_kind runs.Printed = codes "counter"
run_kind runs.Untaken = codes "counter"

abbrev pub run_value : RunMetric → RunFigures → ℕ
run_value runs.Seconds figures = figures.seconds
run_value runs.Changes figures = figures.changes
run_value runs.Waiting figures = figures.waiting
run_value runs.Printed figures = figures.printed
run_value runs.Untaken figures = figures.untaken

unfoldable pub run_family : RunFigures → RunMetric → List ℕ
run_family figures metric =
    head_text (run_name metric) (run_help metric) (run_kind metric)
    ++ run_row (run_name metric) (run_value metric figures)

-- the row of a time of the run
unfoldable pub run_time_row : (name : List ℕ) → ℕ → List ℕ
run_time_row name time = name ++ time_end (codes " ") time

-- the sum of the rows' latencies, and how many rows there are
abbrev pub latency_family : RunFigures → List ℕ
latency_family figures =
    head_text (codes "nbbo_row_latency_seconds")
    (codes "Time from the datagrams of printed rows to their printing.")
    (codes "summary")
    ++ (run_time_row (codes "nbbo_row_latency_seconds_sum") figures.latency
    ++ run_row (codes "nbbo_row_latency_seconds_count") figures.timed)

-- ---- metrics of venues

abbrev pub venue_name : VenueMetric → List ℕ
venue_name venues.Sent = codes "nbbo_sent_sequence_number"
venue_name venues.Known = codes "nbbo_known_sequence_number"
venue_name venues.Lag = codes "nbbo_lag_messages"
venue_name venues.Lacking = codes "nbbo_lacking_messages"
venue_name venues.Requests = codes "nbbo_requests_total"
venue_name venues.GivenUp = codes "nbbo_given_up_messages_total"

abbrev pub venue_help : VenueMetric → List ℕ
venue_help venues.Sent = codes "Number of the session's last item in sequence."
venue_help venues.Known = codes "Greatest number up to which the session is known to go."
venue_help venues.Lag = codes "Messages that are known of and not in sequence yet."
venue_help venues.Lacking = codes "Messages that are missing of the first gap."
venue_help venues.Requests = codes "Requests for missing messages that were sent."
venue_help venues.GivenUp = codes "Missing messages that were given up."

abbrev pub venue_kind : VenueMetric → List ℕ
venue_kind venues.Sent = codes "gauge"
venue_kind venues.Known = codes "gauge"
venue_kind venues.Lag = codes "gauge"
venue_kind venues.Lacking = codes "gauge"
venue_kind venues.Requests = codes "counter"
venue_kind venues.GivenUp = codes "counter"

abbrev pub venue_value : VenueMetric → VenueFigures → ℕ
venue_value venues.Sent v = v.status.cursors.sent
venue_value venues.Known v = v.status.cursors.known
venue_value venues.Lag v = lag v.status
venue_value venues.Lacking v = lacking v.status
venue_value venues.Requests v = v.status.requests
venue_value venues.GivenUp v = v.given_up

-- what stands for it in its rows
abbrev pub venue_label : VenueNames → VenueFigures → List ℕ
venue_label names v = venue_text names v.venue

abbrev pub venue_row_of : VenueNames → VenueMetric → VenueFigures → List ℕ
venue_row_of names metric v =
    venue_row (venue_name metric) (venue_label names v) (venue_value metric v)

unfoldable pub venue_family : VenueNames → List VenueFigures → VenueMetric → List ℕ
venue_family names all metric =
    head_text (venue_name metric) (venue_help metric) (venue_kind metric)
    ++ flat_map (λ v. venue_row_of names metric v) all

-- ---- metrics of lines

abbrev pub line_name : LineMetric → List ℕ
line_name lines.Packets = codes "nbbo_packets_total"
line_name lines.Messages = codes "nbbo_messages_total"
line_name lines.NewMessages = codes "nbbo_new_messages_total"
line_name lines.RepeatedMessages = codes "nbbo_repeated_messages_total"
line_name lines.Heartbeats = codes "nbbo_heartbeats_total"
line_name lines.Ends = codes "nbbo_ends_of_session_total"
line_name lines.AheadPackets = codes "nbbo_ahead_packets_total"
line_name lines.OtherSessions = codes "nbbo_other_session_packets_total"

abbrev pub line_help : LineMetric → List ℕ
line_help lines.Packets = codes "Datagrams that came on the line."
line_help lines.Messages = codes "Messages of the line's packets that were taken."
line_help lines.NewMessages = codes "Messages that came first on the line."
line_help lines.RepeatedMessages = codes "Messages of the line that had come before."
line_help lines.Heartbeats = codes "Heartbeats of the line."
line_help lines.Ends = codes "Ends of session of the line."
line_help lines.AheadPackets = codes "Packets of the line past the window."
line_help lines.OtherSessions = codes "Packets of sessions that aren't the venue's."

abbrev pub line_value : LineMetric → LineCounts → ℕ
line_value lines.Packets counts = datagram_count counts
line_value lines.Messages counts = message_count counts
line_value lines.NewMessages counts = counts.wins
line_value lines.RepeatedMessages counts = counts.repeated
line_value lines.Heartbeats counts = counts.heartbeats
line_value lines.Ends counts = counts.ends
line_value lines.AheadPackets counts = counts.ahead
line_value lines.OtherSessions counts = slice_index counts.refused 7

-- line R's row, where the venue has that line
abbrev pub recovery_row : VenueNames → LineMetric → VenueFigures → List ℕ
recovery_row names metric v =
    rows_if v.recovery
    (λ _. line_row (line_name metric) (venue_label names v) (codes "R")
    (line_value metric v.status.recovery))

-- a venue's rows of a metric, of line A, of line B and of line R
unfoldable pub line_rows : VenueNames → LineMetric → VenueFigures → List ℕ
line_rows names metric v =
    let venue = venue_label names v in
    line_row (line_name metric) venue (codes "A") (line_value metric v.status.a)
    ++ (line_row (line_name metric) venue (codes "B") (line_value metric v.status.b)
    ++ recovery_row names metric v)

unfoldable pub line_family : VenueNames → List VenueFigures → LineMetric → List ℕ
line_family names all metric =
    head_text (line_name metric) (line_help metric) (codes "counter")
    ++ flat_map (λ v. line_rows names metric v) all

-- ---- refusals

-- The datagrams of a line that were refused, by each number that a datagram's refusal can have: a
-- packet's faults at 1 to 4, a line's at 7 to 11.
unfoldable pub line_refusals : (venue line refused : List ℕ) → List ℕ
line_refusals venue line refused =
    flat_map (λ (c : List ℕ × ℕ). refusal_row venue line c.0 c.1)
    ((codes "1", slice_index refused 1) ∷ (codes "2", slice_index refused 2)
    ∷ (codes "3", slice_index refused 3) ∷ (codes "4", slice_index refused 4)
    ∷ (codes "7", slice_index refused 7) ∷ (codes "8", slice_index refused 8)
    ∷ (codes "9", slice_index refused 9) ∷ (codes "10", slice_index refused 10)
    ∷ (codes "11", slice_index refused 11) ∷ [])

-- line R's, where the venue has that line
abbrev pub recovery_refusals : VenueNames → VenueFigures → List ℕ
recovery_refusals names v =
    rows_if v.recovery
    (λ _. line_refusals (venue_label names v) (codes "R") v.status.recovery.refused)

unfoldable pub venue_refusals : VenueNames → VenueFigures → List ℕ
venue_refusals names v =
    let venue = venue_label names v in
    line_refusals venue (codes "A") v.status.a.refused
    ++ (line_refusals venue (codes "B") v.status.b.refused ++ recovery_refusals names v)

abbrev pub refusal_family : VenueNames → List VenueFigures → List ℕ
refusal_family names all =
    head_text (codes "nbbo_refused_packets_total")
    (codes "Datagrams of the line that were refused, by the number of the refusal.")
    (codes "counter")
    ++ flat_map (λ v. venue_refusals names v) all

-- ---- what is known of lines

abbrev pub state_name : StateMetric → List ℕ
state_name states.OtherSenders = codes "nbbo_other_sender_datagrams_total"
state_name states.Withheld = codes "nbbo_withheld_datagrams_total"
state_name states.Unsent = codes "nbbo_unsent_requests_total"
state_name states.HeldBack = codes "nbbo_held_back_requests_total"
state_name states.Dropped = codes "nbbo_dropped_datagrams_total"
state_name states.Heard = codes "nbbo_line_last_datagram_timestamp_seconds"
state_name states.Ended = codes "nbbo_line_ended"

abbrev pub state_help : StateMetric → List ℕ
state_help states.OtherSenders = codes "Datagrams of senders whose datagrams aren't taken."
state_help states.Withheld = codes "Datagrams that were withheld, since they aren't plausible."
state_help states.Unsent = codes "Requests that couldn't be sent."
state_help states.HeldBack = codes "Requests that weren't sent, since too many were."
state_help states.Dropped = codes "Datagrams that the system dropped at the line's socket."
state_help states.Heard = codes "Time of the line's last datagram, in seconds since 1970."
state_help states.Ended = codes "1 at what has ended the line, if it has ended."

abbrev pub state_kind : StateMetric → List ℕ
state_kind states.OtherSenders = codes "counter"
state_kind states.Withheld = codes "counter"
state_kind states.Unsent = codes "counter"
state_kind states.HeldBack = codes "counter"
state_kind states.Dropped = codes "counter"
state_kind states.Heard = codes "gauge"
state_kind states.Ended = codes "gauge"

-- whether a line has ended by a cause
unfoldable pub end_row : (venue line cause : List ℕ) → ℕ → List ℕ
end_row venue line cause value =
    line_start (codes "nbbo_line_ended") venue line
    ++ (concat (codes "\",by=\"" ∷ cause ∷ []) ++ value_end value)

-- 1 at what has ended a line, and 0 at the other causes
abbrev pub end_counts : Option LineEndReason → List ℕ
end_counts None = 0 ∷ 0 ∷ 0 ∷ 0 ∷ []
end_counts (Some ends.OwnSession) = 1 ∷ 0 ∷ 0 ∷ 0 ∷ []
end_counts (Some ends.OtherSession) = 0 ∷ 1 ∷ 0 ∷ 0 ∷ []
end_counts (Some ends.ReadOut) = 0 ∷ 0 ∷ 1 ∷ 0 ∷ []
end_counts (Some ends.Failed) = 0 ∷ 0 ∷ 0 ∷ 1 ∷ []

unfoldable pub line_end_rows : (venue line : List ℕ) → Option LineEndReason → List ℕ
line_end_rows venue line end =
    let counts = end_counts end in
    end_row venue line (codes "own_session") (slice_index counts 0)
    ++ (end_row venue line (codes "other_session") (slice_index counts 1)
    ++ (end_row venue line (codes "datagrams") (slice_index counts 2)
    ++ end_row venue line (codes "fault") (slice_index counts 3)))

-- The rows of a metric of a line. What the system has dropped and when the last datagram came has a
-- row where it is known.
abbrev pub state_row : StateMetric → (venue line : List ℕ) → LineState → List ℕ
state_row states.OtherSenders venue line state =
    line_row (state_name states.OtherSenders) venue line state.foreign
state_row states.Withheld venue line state =
    line_row (state_name states.Withheld) venue line state.withheld
state_row states.Unsent venue line state =
    line_row (state_name states.Unsent) venue line state.unsent
state_row states.HeldBack venue line state =
    line_row (state_name states.HeldBack) venue line state.held_back
state_row states.Dropped venue line state =
    rows_if state.dropped (line_row (state_name states.Dropped) venue line)
state_row states.Heard venue line state =
    rows_if state.heard (line_time_row (state_name states.Heard) venue line)
state_row states.Ended venue line state = line_end_rows venue line state.end

-- a venue's rows of a metric, of line A, of line B, and of line R where it has that line
unfoldable pub state_rows : VenueNames → StateMetric → VenueFigures → List ℕ
state_rows names metric v =
    let venue = venue_label names v in
    state_row metric venue (codes "A") v.a
    ++ (state_row metric venue (codes "B") v.b
    ++ rows_if v.recovery (state_row metric venue (codes "R")))

unfoldable pub state_family : VenueNames → List VenueFigures → StateMetric → List ℕ
state_family names all metric =
    head_text (state_name metric) (state_help metric) (state_kind metric)
    ++ flat_map (λ v. state_rows names metric v) all

-- ---- the page

abbrev pub run_metrics : List RunMetric
run_metrics =
    runs.Seconds ∷ runs.Changes ∷ runs.Waiting ∷ runs.Printed ∷ runs.Untaken ∷ []

abbrev pub venue_metrics : List VenueMetric
venue_metrics =
    venues.Sent ∷ venues.Known ∷ venues.Lag ∷ venues.Lacking ∷ venues.Requests ∷ venues.GivenUp
    ∷ []

abbrev pub line_metrics : List LineMetric
line_metrics =
    lines.Packets ∷ lines.Messages ∷ lines.NewMessages ∷ lines.RepeatedMessages
    ∷ lines.Heartbeats ∷ lines.Ends ∷ lines.AheadPackets ∷ lines.OtherSessions ∷ []

abbrev pub state_metrics : List StateMetric
state_metrics =
    states.OtherSenders ∷ states.Withheld ∷ states.Unsent ∷ states.HeldBack ∷ states.Dropped
    ∷ states.Heard ∷ states.Ended ∷ []

-- the metrics of the run, of its venues, of their lines, the refusals, and what else is known of
-- the lines
abbrev pub page_text : RunFigures → List ℕ
page_text figures =
    flat_map (λ m. run_family figures m) run_metrics
    ++ (latency_family figures
    ++ (flat_map (λ m. venue_family figures.names.now figures.venues.now m) venue_metrics
    ++ (flat_map (λ m. line_family figures.names.now figures.venues.now m) line_metrics
    ++ (refusal_family figures.names.now figures.venues.now
    ++ flat_map (λ m. state_family figures.names.now figures.venues.now m) state_metrics))))
