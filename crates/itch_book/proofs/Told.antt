-- What a message tells of one symbol.
use Rattle.std.proofs.Common.{ℕ, ◌<◌, List, length, get_or, set, sym, subst}
use Rattle.std.proofs.lemmas.List.{get_or_default, get_or-set_same, get_or-set_other}
use Rattle.feed_types.specs.declared.item.Item.{Item}
use Rattle.itch_book.specs.declared.row.SymbolRow.{SymbolRow}
use Rattle.itch_book.specs.Books.{TellsOfOne}
use Rattle.itch_book.specs.Rows.{Tells}

pub tells_one : (rows : List SymbolRow) (place : ℕ) (read new : SymbolRow) (item : Item)
    → place < length rows → Tells (get_or rows place read) new item
    → TellsOfOne rows (set rows place new) item
tells_one rows place read new item inside tells = record {
  place = place;
  told = λ d. (
      subst (λ (r : SymbolRow). Tells (get_or rows place d) r item)
      (sym (get_or-set_same rows place new d inside))
      (subst (λ (r : SymbolRow). Tells r new item) (get_or_default rows place read d inside) tells)
      );
  others = λ other d apart. get_or-set_other rows place other new d apart;
}
