use Rattle.std.proofs.Common.{ℕ, drop, length, take, ◌≡◌, ◌∙◌, ◌++◌, ◌∷◌, [], List, true, false, ap, sym, arith}
use Rattle.std.proofs.Math.Seq.{take-append_seam}
use Rattle.std.specs.Prelude.{position, slice_get}
use Rattle.std.specs.List.{list_any}
use Rattle.line_discovery.specs.declared.line_key.LineKey.{LineKey}
use Rattle.line_discovery.specs.declared.line_row.LineRow.{LineRow}
use Rattle.line_discovery.specs.KeyedRows.{has_row, rows_grown}
use Rattle.line_discovery.specs.KeyedRowLaws.{has_at}
use Rattle.line_discovery.specs.Tables.{by_line, keys_of, row_at_first, row_with}
use Rattle.line_discovery.proofs.Growth.{keyed_by_line, keys_grown, line_added, line_left_out}
use Rattle.line_discovery.proofs.RowPlaces.{key_eq, no_row, own_eq, row_found}
use Rattle.line_discovery.proofs.table.count_in.Goals as goal

pub grow_at-requires-clause-found : goal.grow_at-requires-clause-found
grow_at-requires-clause-found c =
    let rows = c.args.rows.now.items in
    let key = c.args.sighting.now.key in
    let place = c.in-Some.place in
    let lent = c.as_mut_slice.ensures.value in
    let found = row_found own_eq key_eq key rows place (row_at_first key)
    (ap (λ (ks : List LineKey). position (own_eq key) ks) (sym c.requires.keyed)
    ∙ sym c.in-Some.ensures.index) in (
      found.0,
      ap (λ (rs : List LineRow). slice_get rs place) lent ∙ found.1,
      found.2,
    )

pub returns-in-Some-clause-keyed : goal.returns-in-Some-clause-keyed
returns-in-Some-clause-keyed c =
    let rows = c.args.rows.now.items in
    let s = c.args.sighting.now in
    let place = c.in-Some.place in
    let found = row_found own_eq key_eq s.key rows place (row_at_first s.key)
    (ap (λ (ks : List LineKey). position (own_eq s.key) ks) (sym c.requires.keyed)
    ∙ sym c.in-Some.ensures.index) in
    let new = c.grow_at.new.rows in
    let rest = drop (length new) rows in
    let long : length new ≡ c.args.rows.now.len =
    c.grow_at.auto.rows ∙ c.as_mut_slice.ensures.len in
    let grown : rows_grown by_line row_with rows s ≡ new =
    sym (c.grow_at.ensures
    ∙ ap (λ (rs : List LineRow). rows_grown by_line row_with rs s) c.as_mut_slice.ensures.value) in
    let kept : take c.args.rows.now.len (new ++ rest) ≡ new =
    ap (λ (n : ℕ). take n (new ++ rest)) (sym long) ∙ take-append_seam new rest in
    c.requires.keyed
    ∙ keys_grown rows s (has_at by_line row_with keyed_by_line s.key rows place found.0 found.1
    found.2)
    ∙ ap keys_of (grown ∙ sym kept)

pub returns-in-None-clause-rows : goal.returns-in-None-clause-rows
returns-in-None-clause-rows c =
    let rows = c.args.rows.now.items in
    let s = c.args.sighting.now in
    let less = c.if-len-lt-MOST.true in
    let len = c.len.ensures in
    let none : has_row by_line rows s.key ≡ false =
    sym (no_row own_eq key_eq s.key rows) ∙ ap (list_any (own_eq s.key)) (sym c.requires.keyed)
    ∙ sym c.in-None.ensures.found in
    c.push_reserved.ensures.items
    ∙ ap (λ (r : LineRow). rows ++ r ∷ [])
    (c.grow.ensures ∙ ap (row_with s) c.empty-row.ensures)
    ∙ line_added rows s none (omega (arith, less, len))

pub returns-else-len-lt-MOST-clause-rows : goal.returns-else-len-lt-MOST-clause-rows
returns-else-len-lt-MOST-clause-rows c =
    let rows = c.args.rows.now.items in
    let s = c.args.sighting.now in
    let most = c.if-len-lt-MOST.false in
    let len = c.len.ensures in
    let none : has_row by_line rows s.key ≡ false =
    sym (no_row own_eq key_eq s.key rows) ∙ ap (list_any (own_eq s.key)) (sym c.requires.keyed)
    ∙ sym c.in-None.ensures.found in
    line_left_out rows s none (omega (arith, most, len))
