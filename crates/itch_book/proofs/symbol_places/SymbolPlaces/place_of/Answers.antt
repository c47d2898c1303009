use Rattle.std.proofs.Common.{◌≡◌, ℕ, ◌<◌, List, length, get_or, ap, sym, ◌∙◌, subst}
use Rattle.feed_types.specs.Symbols.{key_of}
use Rattle.itch_book.proofs.Places.{place_of_key}
use Rattle.itch_book.proofs.symbol_places.SymbolPlaces.place_of.Goals as goal

pub returns-then-is_key_at-clause-value : goal.returns-then-is_key_at-clause-value
returns-then-is_key_at-clause-value c =
    let keys = c.self.inside.keys.keys in
    let place = c.index-hint.result.now in
    let within : place < length keys =
    subst (λ (ks : List ℕ). place < length ks) c.as_slice.ensures.keys
    c.if-is_key_at.ensures.0 in
    let at : get_or keys place 0 ≡ key_of c.args.symbol =
    ap (λ (ks : List ℕ). get_or ks place 0) (sym c.as_slice.ensures.keys)
    ∙ c.if-is_key_at.ensures.1 ∙ c.key-key.ensures.value in
    rw (← c.self.view_is)
    (sym (place_of_key keys place (key_of c.args.symbol) c.as_slice.ensures.unique within at))
