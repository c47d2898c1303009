-- What was counted of a capture, as a table and as JSON (RFC 8259).
use Rattle.std.specs.Prelude.{ℕ, ◌+◌, ◌-◌, ◌==◌, ◌||◌, List, [], ◌∷◌, ◌++◌, codes, decimal, flat_map, length, Option, None, Some, option_map, if◌then◌else◌}
use Rattle.run_settings.specs.declared.formats.StatsFormat.{StatsFormat}
use Rattle.run_settings.specs.declared.formats.StatsFormat.TheVariants.{Table, Json}
use Rattle.run_settings.specs.declared.formats.TimeStyle.{TimeStyle}
use Rattle.run_settings.specs.declared.formats.TimeStyle.TheVariants.{Seconds, Utc}
use Rattle.best_rows.specs.UtcTexts.{utc_text}
use Rattle.text_out.specs.TextParts.{filled_text, labelled_texts, spaces}
use Rattle.line_captures.specs.declared.frame_counts.FrameCounts.{FrameCounts}
use Rattle.line_discovery.specs.declared.counts.SurveyCounts.{SurveyCounts}
use Rattle.line_discovery.specs.declared.line_key.LineKey.{LineKey}
use Rattle.line_discovery.specs.declared.line_row.LineRow.{LineRow}
use Rattle.line_discovery.specs.declared.unlisted.Unlisted.{Unlisted}
use Rattle.line_discovery.specs.declared.span.Span.{Span}
use Rattle.line_discovery.specs.LineWords.{words_of}
use Rattle.line_discovery.specs.Looks.{look_member, look_row}
pub use Rattle.line_discovery.specs.Places.{other_key, place_text, session_name}
use Rattle.line_discovery.specs.Tables.{packets_at, rows_of, unlisted_of, up_to_most}

-- ---- parts

abbrev pub place_cell : ℕ → LineKey → List ℕ
place_cell columns key =
    let place = place_text key.address key.port in place ++ spaces (columns - length place)

abbrev pub low_of : Option Span → Option ℕ
low_of span = option_map (λ s. s.low) span

abbrev pub high_of : Option Span → Option ℕ
high_of span = option_map (λ s. s.high) span

-- the frames that carry no datagram, of whatever kind
abbrev pub blanks_of : FrameCounts → ℕ
blanks_of f = up_to_most (f.no_ip + f.no_udp + f.fragments + f.cut + f.malformed + f.not_read)

-- ---- times

-- a time as a number of nanoseconds, or as a date
abbrev pub time_value : TimeStyle → ℕ → List ℕ
time_value Seconds time = decimal time
time_value Utc time = utc_text time

abbrev pub time_columns : TimeStyle → ℕ
time_columns Seconds = 20
time_columns Utc = 30

-- a time at the end of its columns, or '-' where it isn't known
abbrev pub time_cell : TimeStyle → Option ℕ → List ℕ
time_cell style None = filled_text (time_columns style) (codes " ") (codes "-")
time_cell style (Some time) =
    filled_text (time_columns style) (codes " ") (time_value style time)

-- a member of an object with a date, or null where it isn't known
abbrev pub date_member : List ℕ → Option ℕ → List ℕ
date_member label None = label ++ codes "null"
date_member label (Some time) = label ++ (codes "\"" ++ (utc_text time ++ codes "\""))

-- ---- what is in no row

-- the other datagrams and where they went, frames without a datagram, and datagrams that are in no
-- row
abbrev pub rest_of : SurveyCounts → Unlisted
rest_of c = record {
  others = up_to_most (length c.others);
  addresses = length (rows_of c.others);
  blanks = blanks_of c.progress.counts;
  unlisted = unlisted_of c.lines;
  unlisted_others = unlisted_of c.others;
}

-- ---- the table

abbrev pub times_head : TimeStyle → List ℕ
times_head Seconds = codes "           first time            last time\n"
times_head Utc = codes "                     first time                      last time\n"

abbrev pub table_head : TimeStyle → List ℕ
table_head style =
    codes "address and port         session          packets      messages         first     "
    ++ (codes "     last         bytes         other" ++ times_head style)

-- a line: where, its session, what was counted, and the other datagrams to that address and port
abbrev pub table_row : TimeStyle → List LineRow → LineRow → List ℕ
table_row style others r =
    place_cell 24 r.key
    ++ (codes " "
    ++ (session_name r.key.session
    ++ (labelled_texts 13 (codes "-") (
    (codes " ", Some r.packets)
    ∷ (codes " ", Some r.messages)
    ∷ (codes " ", low_of r.numbers)
    ∷ (codes " ", high_of r.numbers)
    ∷ (codes " ", Some r.bytes)
    ∷ (codes " ", Some (packets_at others (other_key r.key)))
    ∷ [])
    ++ (time_cell style (low_of r.times)
    ++ (time_cell style (high_of r.times) ++ codes "\n")))))

abbrev pub table_rest : Unlisted → List ℕ
table_rest r =
    labelled_texts 13 (codes "-") (
    (codes "\ndatagrams that are no packets      ", Some r.others)
    ∷ (codes "\n  addresses and ports they went to ", Some r.addresses)
    ∷ (codes "\nframes without a UDP datagram      ", Some r.blanks)
    ∷ (codes "\npackets past the first 4096 rows   ", Some r.unlisted)
    ∷ (codes "\nothers past the first 4096 rows    ", Some r.unlisted_others)
    ∷ [])
    ++ codes "\n"

-- and then which sessions look like ITCH, and the words for the lines that came
abbrev pub table_of : TimeStyle → List LineRow → List LineRow → Unlisted → List ℕ
table_of style others rows rest =
    table_head style
    ++ (flat_map (table_row style others) rows
    ++ (table_rest rest ++ (flat_map (look_row rows) rows ++ words_of rows)))

-- ---- JSON: an object on a line of its own for each row, and then one of the rest

-- a byte of a string of printable ASCII
abbrev pub escaped_code : ℕ → List ℕ
escaped_code b = if b == 34 || b == 92 then 92 ∷ b ∷ [] else b ∷ []

-- where a line is, and its session
abbrev pub json_head : LineKey → List ℕ
json_head key =
    codes "{\"address\":\""
    ++ (place_cell 0 key
    ++ (codes "\",\"session\":\"" ++ flat_map escaped_code (session_name key.session)))

-- its times as dates, where these are asked for
abbrev pub json_dates : TimeStyle → LineRow → List ℕ
json_dates Seconds r = []
json_dates Utc r =
    date_member (codes ",\"first_time\":") (low_of r.times)
    ++ date_member (codes ",\"last_time\":") (high_of r.times)

-- what was counted of it
abbrev pub json_members : TimeStyle → List LineRow → List LineRow → LineRow → List ℕ
json_members style others rows r =
    labelled_texts 0 (codes "null") (
    (codes "\",\"packets\":", Some r.packets)
    ∷ (codes ",\"messages\":", Some r.messages)
    ∷ (codes ",\"first\":", low_of r.numbers)
    ∷ (codes ",\"last\":", high_of r.numbers)
    ∷ (codes ",\"bytes\":", Some r.bytes)
    ∷ (codes ",\"other_datagrams\":", Some (packets_at others (other_key r.key)))
    ∷ (codes ",\"first_time_ns\":", low_of r.times)
    ∷ (codes ",\"last_time_ns\":", high_of r.times)
    ∷ [])
    ++ (json_dates style r ++ (look_member rows r ++ codes "}\n"))

abbrev pub json_line : TimeStyle → List LineRow → List LineRow → LineRow → List ℕ
json_line style others rows r = json_head r.key ++ json_members style others rows r

abbrev pub json_rest : Unlisted → List ℕ
json_rest r =
    labelled_texts 0 (codes "null") (
    (codes "{\"other_datagrams\":", Some r.others)
    ∷ (codes ",\"other_addresses\":", Some r.addresses)
    ∷ (codes ",\"frames_without_datagram\":", Some r.blanks)
    ∷ (codes ",\"unlisted_packets\":", Some r.unlisted)
    ∷ (codes ",\"unlisted_others\":", Some r.unlisted_others)
    ∷ [])
    ++ codes "}\n"

abbrev pub json_of : TimeStyle → List LineRow → List LineRow → Unlisted → List ℕ
json_of style others rows rest = flat_map (json_line style others rows) rows ++ json_rest rest

abbrev pub text_of_survey : StatsFormat → TimeStyle → SurveyCounts → List ℕ
text_of_survey Table style c =
    table_of style (rows_of c.others) (rows_of c.lines) (rest_of c)
text_of_survey Json style c = json_of style (rows_of c.others) (rows_of c.lines) (rest_of c)
