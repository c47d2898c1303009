-- Laws of what was offered, a prefix of what is wanted; proved here, and nobody has to read them.
use Rattle.std.proofs.Common.{ℕ, Bool, List, ◌++◌, ap, ◌∙◌, filter}
use Rattle.std.proofs.lemmas.List.Elements.{filter-append}
use Rattle.std.proofs.lemmas.List.{append_assoc}
use Rattle.feed_types.specs.declared.journal.Entry.{Entry}
use Rattle.feed_types.specs.declared.journal.Notice.{Notice}
use Rattle.feed_types.specs.Prefix.{IsPrefix}
use Rattle.filter_terms.specs.declared.terms.Terms.{Terms}
use Rattle.filter_terms.specs.Terms.{meets}
use Rattle.journal_book.specs.Changes.{changes_of}
use Rattle.journal_book.specs.Wanted.{wanted_of}
use Rattle.journal_book.specs.Growth.{changes_begin}

filter_begins : (p : Notice → Bool) (xs ys : List Notice) → IsPrefix xs ys
    → IsPrefix (filter p xs) (filter p ys)
filter_begins p xs ys h =
    record { rest = filter p h.rest; is = ap (filter p) h.is ∙ filter-append p xs h.rest }

pub prefix_then : {X : Type 0} (xs ys zs : List X) → IsPrefix xs ys → IsPrefix ys zs
    → IsPrefix xs zs
prefix_then xs ys zs h k = record {
  rest = h.rest ++ k.rest;
  is = k.is ∙ ap (λ l. l ++ k.rest) h.is ∙ append_assoc xs h.rest k.rest;
}

pub wanted_begin : (symbols : List (List ℕ)) (terms : Terms) (es fs : List Entry)
    → IsPrefix (wanted_of symbols terms es) (wanted_of symbols terms (es ++ fs))
wanted_begin symbols terms es fs =
    filter_begins (meets terms) (changes_of symbols es) (changes_of symbols (es ++ fs))
    (changes_begin symbols es fs)
