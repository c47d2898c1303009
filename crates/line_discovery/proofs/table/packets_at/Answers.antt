use Rattle.std.proofs.Common.{◌≡◌, ◌∙◌, List, false, ap, sym}
use Rattle.std.specs.Prelude.{position}
use Rattle.std.specs.List.{list_any}
use Rattle.line_discovery.specs.declared.line_key.LineKey.{LineKey}
use Rattle.line_discovery.specs.KeyedRows.{has_row}
use Rattle.line_discovery.specs.Tables.{by_line}
use Rattle.line_discovery.proofs.RowPlaces.{key_eq, no_packets, no_row, own_eq, packets_found}
use Rattle.line_discovery.proofs.table.packets_at.Goals as goal

pub returns-in-Some : goal.returns-in-Some
returns-in-Some c =
    let rows = c.args.rows.now in
    let key = c.args.key.now in
    sym (packets_found own_eq key_eq key rows c.in-Some.place _
    (ap (λ (ks : List LineKey). position (own_eq key) ks) (sym c.requires)
    ∙ sym c.in-Some.ensures.index))

pub returns-in-None : goal.returns-in-None
returns-in-None c =
    let rows = c.args.rows.now in
    let key = c.args.key.now in
    let none : has_row by_line rows key ≡ false =
    sym (no_row own_eq key_eq key rows) ∙ ap (list_any (own_eq key)) (sym c.requires)
    ∙ sym c.in-None.ensures.found in
    sym (no_packets key rows none)
