-- The symbols that words name.
use Rattle.std.proofs.Common.{Err, ◌≡◌, ◌<◌, ◌≤◌, ℕ, ◌∙◌, sym, subst, List, length, map, true, false, arith}
use Rattle.std.specs.Borrow.{Bor}
use Rattle.std.specs.List.{IsDistinct, list_all}
use Rattle.std.specs.Str.{bytes_eq}
use Rattle.std.proofs.lemmas.List.{length-map}
use Rattle.std.proofs.lemmas.List.Folds.{list_all-map}
use Rattle.std.proofs.lemmas.Simd.{map-map}
use Rattle.feed_types.specs.Symbols.{filled, is_symbol_name}
use Rattle.command_words.specs.Symbols.{NameSymbols, NamesSymbols, named_symbols}
use Rattle.command_words.specs.declared.refusal.Refusal.TheVariants.{BadSymbol, TooManySymbols, DuplicateSymbol}

-- the texts of references
abbrev pub texts : List (Bor (List ℕ)) → List (List ℕ)
texts words = map (λ word. word.now) words

-- these are the symbols, as far as they were named one by one
abbrev AreNamed : List (Bor (List ℕ)) → List (List ℕ) → Type 0
AreNamed words symbols = symbols ≡ map (λ word. filled word.now) words

are_all : (words : List (Bor (List ℕ))) (symbols : List (List ℕ)) → AreNamed words symbols
    → symbols ≡ named_symbols (texts words)
are_all words symbols e = e ∙ sym (map-map filled (λ word. word.now) words)

pub symbols_named : (words : List (Bor (List ℕ))) (symbols : List (List ℕ))
    → list_all (λ word. is_symbol_name word.now) words ≡ true → length words ≤ 4096
    → AreNamed words symbols → IsDistinct bytes_eq symbols → NameSymbols (texts words) symbols
symbols_named words symbols names few e distinct = record {
  names = list_all-map is_symbol_name (λ word. word.now) words ∙ names;
  few = omega (arith, few, length-map words (λ word. word.now));
  symbols_are = are_all words symbols e;
  distinct = distinct;
}

pub one_is_bad : (words : List (Bor (List ℕ))) → list_all (λ word. is_symbol_name word.now)
    words ≡ false → NamesSymbols (texts words) (Err BadSymbol)
one_is_bad words bad = list_all-map is_symbol_name (λ word. word.now) words ∙ bad

pub are_too_many : (words : List (Bor (List ℕ))) → list_all (λ word. is_symbol_name word.now)
    words ≡ true → 4096 < length words → NamesSymbols (texts words) (Err TooManySymbols)
are_too_many words names many = (
  list_all-map is_symbol_name (λ word. word.now) words ∙ names,
  omega (arith, many, length-map words (λ word. word.now)),
)

pub one_is_twice : (words : List (Bor (List ℕ))) (symbols : List (List ℕ))
    → list_all (λ word. is_symbol_name word.now) words ≡ true → length words ≤ 4096
    → AreNamed words symbols → (IsDistinct bytes_eq symbols → ⊥)
    → NamesSymbols (texts words) (Err DuplicateSymbol)
one_is_twice words symbols names few e twice = (
  list_all-map is_symbol_name (λ word. word.now) words ∙ names,
  omega (arith, few, length-map words (λ word. word.now)),
  λ distinct. twice (subst (λ (s : List (List ℕ)). IsDistinct bytes_eq s)
      (sym (are_all words symbols e)) distinct),
)
