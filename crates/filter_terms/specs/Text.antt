-- The texts of terms and of advice.
use Rattle.std.specs.Prelude.{ℕ, List, ◌++◌, codes, decimal}
use Rattle.std.specs.List.{flat_map, join_by}
use Rattle.feed_types.specs.Symbols.{name_of}
use Rattle.feed_types.specs.Text.{best_text, state_text}
use Rattle.filter_terms.specs.declared.terms.Terms.{Terms, All, Symbol, AnyOf, MinSize, StateIs, Both'}
use Rattle.filter_terms.specs.declared.advice.Advice.{Advice}
use Rattle.filter_terms.specs.declared.advice.Advice.TheVariants.{Hold, Buy, Sell}

-- each symbol with a comma and a space before it
abbrev pub others_text : List (List ℕ) → List ℕ
others_text symbols = flat_map (λ symbol. codes ", " ++ name_of symbol) symbols

-- the symbols, separated by a comma and a space
abbrev pub symbols_text : List (List ℕ) → List ℕ
symbols_text symbols = join_by name_of (codes ", ") symbols

abbrev pub terms_text : Terms → List ℕ
terms_text All = codes "all"
terms_text (Symbol symbol) = codes "symbol " ++ name_of symbol
terms_text (AnyOf symbols) = codes "any-of(" ++ symbols_text symbols.items ++ codes ")"
terms_text (MinSize size) = codes "min-size " ++ decimal size
terms_text (StateIs state) = codes "state " ++ state_text state
terms_text (Both' p first q second) =
    codes "both(" ++ terms_text first ++ codes ", " ++ terms_text second ++ codes ")"

-- an order is its side and what it takes: the venue, the price and the size
abbrev pub advice_text : Advice → List ℕ
advice_text Hold = codes "hold"
advice_text (Buy venue price size) =
    codes "buy " ++ best_text (record { venue = venue; price = price; size = size })
advice_text (Sell venue price size) =
    codes "sell " ++ best_text (record { venue = venue; price = price; size = size })
