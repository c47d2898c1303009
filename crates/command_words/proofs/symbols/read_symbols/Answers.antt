use Rattle.std.proofs.Common.{rules, inr, ℕ, List, subst}
use Rattle.std.specs.List.{IsDistinct}
use Rattle.std.specs.Str.{bytes_eq}
use Rattle.command_words.proofs.Listing.{symbols_named, one_is_bad, are_too_many, one_is_twice}
use Rattle.command_words.proofs.symbols.read_symbols.Goals as goal

pub returns-then-not-are_names : goal.returns-then-not-are_names
returns-then-not-are_names c =
    inr (one_is_bad c.args.words.now (search rules))

pub returns-then-words-gt-MAX_SYMBOLS : goal.returns-then-words-gt-MAX_SYMBOLS
returns-then-words-gt-MAX_SYMBOLS c =
    inr (are_too_many c.args.words.now (search rules) (search rules))

pub returns-then-not-branch : goal.returns-then-not-branch
returns-then-not-branch c =
    let twice = c.in_ok-are_distinct.ensures.twice (search rules) in
    inr (one_is_twice c.args.words.now c.in_ok-symbols.symbols.items (search rules)
    (search rules) (search rules)
    (subst (λ (s : List (List ℕ)). IsDistinct bytes_eq s → ⊥) c.as_slice.ensures.value twice))

pub returns : goal.returns
returns c =
    let apart = c.in_ok-are_distinct.ensures.apart (search rules) in
    symbols_named c.args.words.now c.in_ok-symbols.symbols.items (search rules)
    (search rules) (search rules)
    (subst (λ (s : List (List ℕ)). IsDistinct bytes_eq s) c.as_slice.ensures.value apart)
