-- The table of some datagrams: a row for each line, by the key.
use Rattle.std.specs.Prelude.{◌≡◌, ℕ, ◌+◌, ◌-◌, List, [], ◌∷◌, length, map, min, if◌then◌else◌}
use Rattle.std.specs.List.{sum_by}
use Rattle.line_discovery.specs.declared.line_key.LineKey.{LineKey}
use Rattle.line_discovery.specs.declared.line_row.LineRow.{LineRow}
use Rattle.line_discovery.specs.declared.endpoint_packet.EndpointPacket.{EndpointPacket}
use Rattle.line_discovery.specs.KeyedRows.{IsKeyedTable, Keying, keyed_rows}
use Rattle.line_discovery.specs.Keys.{same_key}
use Rattle.line_discovery.specs.Spans.{span_of, wider}

-- a count stays at 2^64 - 1 once it is there
abbrev pub up_to_most : ℕ → ℕ
up_to_most n = min n 18446744073709551615

-- what is counted of a line's datagrams, which are all of its key
abbrev pub row_over : LineKey → List EndpointPacket → LineRow
row_over key mine = record {
  key = key;
  packets = up_to_most (length mine);
  messages = up_to_most (sum_by (λ s. s.messages) mine);
  own = up_to_most (sum_by (λ s. s.own) mine);
  itch = up_to_most (sum_by (λ s. s.itch) mine);
  bytes = up_to_most (sum_by (λ s. s.bytes) mine);
  numbers = span_of (map (λ s. s.numbers) mine);
  times = span_of (map (λ s. s.times) mine);
}

-- rows by line, of the first 4,096
abbrev pub by_line : Keying EndpointPacket LineKey LineRow
by_line = record {
  key_of = λ s. s.key;
  same = same_key;
  over = row_over;
  key_in = λ r. r.key;
  most = 4096;
}

abbrev pub rows_of : List EndpointPacket → List LineRow
rows_of seen = keyed_rows by_line seen

abbrev pub keys_of : List LineRow → List LineKey
keys_of rows = map (λ r. r.key) rows

-- how many datagrams are in some row
abbrev pub listed_in : List LineRow → ℕ
listed_in rows = up_to_most (sum_by (λ r. r.packets) rows)

-- how many datagrams are in no row, since there were 4,096 when the first of their line came
abbrev pub unlisted_of : List EndpointPacket → ℕ
unlisted_of seen = up_to_most (length seen) - listed_in (rows_of seen)

-- how many datagrams the row of this key has, 0 without one
abbrev pub packets_at : List LineRow → LineKey → ℕ
packets_at [] key = 0
packets_at (r ∷ rows) key = if same_key r.key key then r.packets else packets_at rows key

-- ---- one datagram more. Only private clauses cite this part.

abbrev pub row_at_first : LineKey → LineRow
row_at_first key = row_over key []

-- a row after one more datagram of its line
abbrev pub row_with : EndpointPacket → LineRow → LineRow
row_with s r = record {
  key = r.key;
  packets = up_to_most (r.packets + 1);
  messages = up_to_most (r.messages + s.messages);
  own = up_to_most (r.own + s.own);
  itch = up_to_most (r.itch + s.itch);
  bytes = up_to_most (r.bytes + s.bytes);
  numbers = wider r.numbers s.numbers;
  times = wider r.times s.times;
}

-- these are the rows and the count of what was seen
pub record IsLineTable (rows : List LineRow) (count : ℕ) (seen : List EndpointPacket) : Type 0 where
  pub table : IsKeyedTable by_line rows seen
  pub count_is : count ≡ up_to_most (length seen)
