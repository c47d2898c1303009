-- The symbols of which no item comes, or no change of the national best, and what is said of them
-- at the end.
use Rattle.std.specs.Prelude.{◌≡◌, ℕ, zero, suc, ◌-◌, ◌==◌, Bool, true, false, not, nat_eq, List, [], ◌∷◌, ◌++◌, codes, decimal, filter, flat_map, length, map, take, if◌then◌else◌}
use Rattle.std.specs.List.{list_any}
use Rattle.feed_types.specs.Symbols.{key_of, name_of}
use Rattle.feed_types.specs.declared.item.Item.{Item}
use Rattle.feed_types.specs.declared.item.Item.TheVariants.{Quote, Halt}
use Rattle.feed_types.specs.declared.journal.Entry.{Entry}
use Rattle.feed_types.specs.declared.journal.Entry.TheVariants.{Consumed}
use Rattle.feed_types.specs.declared.journal.Notice.{Notice}

-- ---- which symbols come

-- whether an item is a quotation or a halt of the symbol of this key
abbrev pub is_item_of : ℕ → Item → Bool
is_item_of key (Quote quote) = nat_eq (key_of quote.symbol) key
is_item_of key (Halt symbol halted) = nat_eq (key_of symbol) key
is_item_of key _ = false

-- whether an entry of a journal is such an item
abbrev pub enters : ℕ → Entry → Bool
enters key (Consumed venue numbered) = is_item_of key numbered.item
enters key _ = false

-- the symbols of which no item is among the entries
abbrev pub absent_among : List Entry → List (List ℕ) → List (List ℕ)
absent_among entries symbols =
    filter (λ symbol. not (list_any (enters (key_of symbol)) entries)) symbols

-- whether a change of the national best is one of the symbol of this key
abbrev pub is_change_of : ℕ → Notice → Bool
is_change_of key notice = nat_eq (key_of notice.symbol) key

-- the symbols of which no change is among the notices: a symbol has no best before its first change
abbrev pub unchanged_among : List Notice → List (List ℕ) → List (List ℕ)
unchanged_among notices symbols =
    filter (λ symbol. not (list_any (is_change_of (key_of symbol)) notices)) symbols

-- ---- symbols by their keys

abbrev pub has_key : List ℕ → ℕ → Bool
has_key keys key = list_any (nat_eq key) keys

abbrev pub AreKeysOf : List (List ℕ) → List ℕ → Type 0
AreKeysOf symbols keys = (key : ℕ) → has_key keys key ≡ has_key (map key_of symbols) key

-- the symbols of these keys
abbrev pub symbols_with : List ℕ → List (List ℕ) → List (List ℕ)
symbols_with keys symbols = filter (λ symbol. has_key keys (key_of symbol)) symbols

-- ---- what is said

-- that this is so of a symbol
abbrev pub symbol_texts : List ℕ → List ℕ → List (List ℕ)
symbol_texts what symbol = codes "nbbo: symbol " ∷ name_of symbol ∷ what ∷ []

abbrev pub more_symbols_text : ℕ → List ℕ
more_symbols_text count = if count == 1 then codes " more symbol" else codes " more symbols"

-- of how many symbols more it is than of those that are named
abbrev pub more_symbols_texts : List ℕ → ℕ → List (List ℕ)
more_symbols_texts what zero = []
more_symbols_texts what (suc n) =
    codes "nbbo: " ∷ decimal (suc n) ∷ more_symbols_text (suc n) ∷ what ∷ []

-- that it is so of the first eight symbols, and of how many more
abbrev pub listed_texts : List ℕ → List (List ℕ) → List (List ℕ)
listed_texts what symbols =
    flat_map (symbol_texts what) (take 8 symbols) ++ more_symbols_texts what (length symbols - 8)

-- of symbols of which no item came
abbrev pub absent_texts : List (List ℕ) → List (List ℕ)
absent_texts symbols = listed_texts (codes " never came\n") symbols

-- of symbols of which the national best never changed
abbrev pub unchanged_texts : List (List ℕ) → List (List ℕ)
unchanged_texts symbols = listed_texts (codes " never had a best\n") symbols

-- of one symbol, if it is to be named. Only private clauses cite this.
abbrev pub texts_if : Bool → List ℕ → List ℕ → List (List ℕ)
texts_if true what symbol = symbol_texts what symbol
texts_if false what symbol = []
