use Rattle.std.proofs.Common.{◌≡◌, ◌∙◌, ap, [], List, Option, Some, None, codes, subst, map}
use Rattle.std.specs.Prelude.{unwrap_or}
use Rattle.clap.proofs.WalkLemmas.{raw_values-rows}
use Rattle.clap.specs.Matches.{found_of}
use Rattle.clap.specs.Walk.{Text}
use Rattle.command_words.specs.Readings.{mapped}
use Rattle.command_words.specs.Symbols.{ReadsSymbols}
use Rattle.command_words.proofs.feed_words.symbols_of.Goals as goal

-- where the values of an option are, and where it has none
all_found : (found all : Option (List Text)) (words : List Text) → Some words ≡ found → found ≡ all
    → words ≡ unwrap_or all []
all_found found all words e f = ap (λ (o : Option (List Text)). unwrap_or o []) (e ∙ f)

none_found : (found all : Option (List Text)) → None ≡ found → found ≡ all → [] ≡ unwrap_or all []
none_found found all e f = ap (λ (o : Option (List Text)). unwrap_or o []) (e ∙ f)

pub returns-in-Some : goal.returns-in-Some
returns-in-Some c =
    let told = all_found _ _ (map (λ word. word.now) c.in-Some.words.now) c.in-Some.ensures
    (raw_values-rows (found_of c.args.options.now) (codes "symbols")) in
    subst (λ (ws : List Text). ReadsSymbols ws
    (mapped (λ symbols. symbols.items) c.read_symbols.result)) told c.read_symbols.ensures

pub returns-in-None : goal.returns-in-None
returns-in-None c =
    let told = none_found _ _ c.in-None.ensures
    (raw_values-rows (found_of c.args.options.now) (codes "symbols")) in
    subst (λ (ws : List Text). ReadsSymbols ws
    (mapped (λ symbols. symbols.items) c.read_symbols-in-None.result)) told
    c.read_symbols-in-None.ensures
