-- The rows after one more datagram.
use Rattle.std.proofs.Common.{◌≡◌, ℕ, ◌+◌, ◌<◌, ◌≤◌, cond, List, [], ◌∷◌, ◌++◌, Option, Some, None, true, false, length, map, set, refl, sym, ap, ◌∙◌, arith, length-append}
use Rattle.std.specs.Prelude.{Bool, ◌||◌, min, max, nat_le, slice_get}
use Rattle.std.specs.List.{sum_by}
use Rattle.std.proofs.lemmas.Bool.{leb-false, leb-true, or_left, or_right}
use Rattle.std.proofs.lemmas.List.{map-append}
use Rattle.std.proofs.lemmas.List.Sums.{sum_by-append}
use Rattle.line_discovery.specs.declared.line_key.LineKey.{LineKey}
use Rattle.line_discovery.specs.declared.line_row.LineRow.{LineRow}
use Rattle.line_discovery.specs.declared.endpoint_packet.EndpointPacket.{EndpointPacket}
use Rattle.line_discovery.specs.declared.span.Span.{Span}
use Rattle.line_discovery.specs.KeyedRowLaws.{IsKeying, grows_at, has_at, none_grows, table_more}
use Rattle.line_discovery.specs.KeyedRows.{AreApart, grown_by, has_row, rows_grown}
use Rattle.line_discovery.specs.Keys.{same_key}
use Rattle.line_discovery.specs.Spans.{span_of, wider}
use Rattle.line_discovery.specs.Tables.{IsLineTable, by_line, keys_of, row_over, row_with, up_to_most}
use Rattle.line_discovery.proofs.SameKeys.{key_is, key_same}

-- ---- spans

wider_none : (s : Option Span) → wider s None ≡ s
wider_none None = refl
wider_none (Some s) = refl

wider_assoc : (a b c : Option Span) → wider a (wider b c) ≡ wider (wider a b) c
wider_assoc None b c = refl
wider_assoc (Some a) None c = refl
wider_assoc (Some a) (Some b) None = refl
wider_assoc (Some a) (Some b) (Some c) =
    let low : min a.low (min b.low c.low) ≡ min (min a.low b.low) c.low = omega arith in
    let high : max a.high (max b.high c.high) ≡ max (max a.high b.high) c.high = omega arith in
    let lows : ℕ → Option Span =
    λ n. Some (record { low = n; high = max a.high (max b.high c.high) }) in
    let highs : ℕ → Option Span =
    λ n. Some (record { low = min (min a.low b.low) c.low; high = n }) in
    ap lows low ∙ ap highs high

span_more : (ss : List (Option Span)) (s : Option Span)
    → span_of (ss ++ s ∷ []) ≡ wider (span_of ss) s
span_more [] s = wider_none s
span_more (t ∷ ss) s =
    ap (wider t) (span_more ss s) ∙ wider_assoc t (span_of ss) s

-- ---- one row

most_more : (n m all : ℕ) → all ≡ n + m → up_to_most all ≡ up_to_most (up_to_most n + m)
most_more n m all e = omega (arith, e)

summed : (f : EndpointPacket → ℕ) (mine : List EndpointPacket) (s : EndpointPacket)
    → sum_by f (mine ++ s ∷ []) ≡ sum_by f mine + f s
summed f mine s =
    let one : sum_by f (s ∷ []) ≡ f s = omega arith in
    sum_by-append f mine (s ∷ []) ∙ ap (λ (n : ℕ). sum_by f mine + n) one

spanned : (f : EndpointPacket → Option Span) (mine : List EndpointPacket) (s : EndpointPacket)
    → span_of (map f (mine ++ s ∷ [])) ≡ wider (span_of (map f mine)) (f s)
spanned f mine s = ap span_of (map-append f mine (s ∷ [])) ∙ span_more (map f mine) (f s)

over_one : (key : LineKey) (mine : List EndpointPacket) (s : EndpointPacket)
    → row_over key (mine ++ s ∷ []) ≡ row_with s (row_over key mine)
over_one key mine s =
    let packets = most_more (length mine) 1 (length (mine ++ s ∷ []))
    (length-append mine (s ∷ [])) in
    let messages = most_more (sum_by (λ (x : EndpointPacket). x.messages) mine) s.messages _
    (summed (λ x. x.messages) mine s) in
    let own = most_more (sum_by (λ (x : EndpointPacket). x.own) mine) s.own _
    (summed (λ x. x.own) mine s) in
    let itch = most_more (sum_by (λ (x : EndpointPacket). x.itch) mine) s.itch _
    (summed (λ x. x.itch) mine s) in
    let bytes = most_more (sum_by (λ (x : EndpointPacket). x.bytes) mine) s.bytes _
    (summed (λ x. x.bytes) mine s) in
    let numbers = spanned (λ x. x.numbers) mine s in
    let times = spanned (λ x. x.times) mine s in
    cc

-- ---- the table

pub keyed_by_line : IsKeying by_line row_with
keyed_by_line = record {
  is_key = key_is;
  same_key = key_same;
  in_row = λ key mine. refl;
  kept = λ s r. refl;
  one_more = over_one;
}

-- what a row of one datagram more makes of the rows: it stands among them, or is new, or isn't kept

abbrev grown : EndpointPacket → LineRow → LineRow
grown s = grown_by by_line row_with s

by_test : (rows : List LineRow) (s : EndpointPacket) (b : Bool)
    → (has_row by_line rows s.key || nat_le 4096 (length rows)) ≡ b
    → cond b (map (grown s) rows) (map (grown s) rows ++ row_with s (row_over s.key []) ∷ [])
    ≡ rows_grown by_line row_with rows s
by_test rows s b test =
    ap (λ (x : Bool). cond x (map (grown s) rows)
    (map (grown s) rows ++ row_with s (row_over s.key []) ∷ [])) (sym test)

-- a row that grows keeps its key

kept_key : (s : EndpointPacket) (r : LineRow) (b : Bool) → (cond b (row_with s r) r).key ≡ r.key
kept_key s r true = refl
kept_key s r false = refl

keys_kept : (s : EndpointPacket) (rows : List LineRow) → keys_of (map (grown s) rows) ≡ keys_of rows
keys_kept s [] = refl
keys_kept s (r ∷ rows) =
    ap (λ (k : LineKey). k ∷ keys_of (map (grown s) rows)) (kept_key s r (same_key r.key s.key))
    ∙ ap (λ (ks : List LineKey). r.key ∷ ks) (keys_kept s rows)

pub keys_grown : (rows : List LineRow) (s : EndpointPacket) → has_row by_line rows s.key ≡ true
    → keys_of rows ≡ keys_of (rows_grown by_line row_with rows s)
keys_grown rows s has =
    sym (keys_kept s rows)
    ∙ ap keys_of (by_test rows s true
    (or_left (has_row by_line rows s.key) (nat_le 4096 (length rows)) has))

pub line_grows : (rows : List LineRow) (s : EndpointPacket) (i : ℕ) (r : LineRow)
    → AreApart by_line rows
    → slice_get rows i ≡ Some r → same_key r.key s.key ≡ true
    → set rows i (row_with s r) ≡ rows_grown by_line row_with rows s
line_grows rows s i r apart is same =
    grows_at by_line row_with keyed_by_line s rows i r apart is same
    ∙ by_test rows s true (or_left (has_row by_line rows s.key) (nat_le 4096 (length rows))
    (has_at by_line row_with keyed_by_line s.key rows i r is same))

few_rows : (b : Bool) (n : ℕ) → nat_le 4096 n ≡ b → n < 4096 → b ≡ false
few_rows true n e less = let most = leb-true 4096 n e in absurd (omega (arith, most, less))
few_rows false n e less = refl

all_rows : (b : Bool) (n : ℕ) → nat_le 4096 n ≡ b → 4096 ≤ n → b ≡ true
all_rows true n e most = refl
all_rows false n e most = let less = leb-false 4096 n e in absurd (omega (arith, most, less))

pub line_added : (rows : List LineRow) (s : EndpointPacket) → has_row by_line rows s.key ≡ false
    → length rows < 4096
    → rows ++ row_with s (row_over s.key []) ∷ [] ≡ rows_grown by_line row_with rows s
line_added rows s none less =
    ap (λ (rs : List LineRow). rs ++ row_with s (row_over s.key []) ∷ [])
    (sym (none_grows by_line row_with keyed_by_line s rows none))
    ∙ by_test rows s false (ap (λ (b : Bool). b || nat_le 4096 (length rows)) none
    ∙ few_rows (nat_le 4096 (length rows)) (length rows) refl less)

pub line_left_out : (rows : List LineRow) (s : EndpointPacket) → has_row by_line rows s.key ≡ false
    → 4096 ≤ length rows → rows ≡ rows_grown by_line row_with rows s
line_left_out rows s none most =
    sym (none_grows by_line row_with keyed_by_line s rows none)
    ∙ by_test rows s true (or_right (has_row by_line rows s.key) (nat_le 4096 (length rows))
    (all_rows (nat_le 4096 (length rows)) (length rows) refl most))

pub line_table_more : (rows : List LineRow) (count : ℕ) (seen : List EndpointPacket) (s :
    EndpointPacket)
    → IsLineTable rows count seen
    → IsLineTable (rows_grown by_line row_with rows s) (up_to_most (count + 1)) (seen ++ s ∷ [])
line_table_more rows count seen s is = record {
  table = table_more by_line row_with keyed_by_line rows seen s is.table;
  count_is = ap (λ (n : ℕ). up_to_most (n + 1)) is.count_is
      ∙ sym (most_more (length seen) 1 (length (seen ++ s ∷ [])) (length-append seen (s ∷ [])));
}
