-- What the counts of items are after one more entry.
use Rattle.std.proofs.Common.{ℕ, ◌+◌, ◌<◌, List, [], ◌∷◌, ◌++◌, ap, ◌∙◌, sym, length, get_or, inl, inr, arith, length-append, append-nil}
use Rattle.std.specs.Prelude.{slice_set}
use Rattle.std.proofs.lemmas.Bool.{cases_lt, cases_eq}
use Rattle.std.proofs.lemmas.List.{get_or_past, length-set, get_or-set_same, get_or-set_other}
use Rattle.feed_types.specs.declared.journal.Entry.{Entry}
use Rattle.feed_types.specs.declared.journal.Entry.TheVariants.{Consumed, SelfHelp}
use Rattle.journal_book.specs.ItemsIn.{items_in}
use Rattle.journal_book.specs.ItemLaws.{items_put, items_here, items_there, items_few}
use Rattle.journal_book.specs.ItemCounting.{AreCounts, item_count, items_counted}

pub counts_small : (counts : List ℕ) (entries : List Entry) (most : ℕ) → AreCounts counts entries
    → length entries < most
    → (venue : ℕ) → item_count counts venue < most
counts_small counts entries most are few venue = elim (cases_lt venue 16) [
  | inl below ↦ omega (arith, are.each venue below, items_few venue entries, few)
  | inr past ↦ omega (arith, get_or_past counts venue 0 (omega (arith, are.sixteen, past)), few)
]

pub counts_more : (counts : List ℕ) (entries : List Entry) (e : Entry) → AreCounts counts entries
    → AreCounts (items_counted e counts) (entries ++ e ∷ [])
counts_more counts entries (SelfHelp v on) are = record {
  sixteen = are.sixteen;
  each = λ venue below. are.each venue below
      ∙ sym (ap length (items_put venue entries (SelfHelp v on)
      ∙ append-nil (items_in entries venue)));
}
counts_more counts entries (Consumed v x) are = record {
  sixteen = length-set counts v (item_count counts v + 1) ∙ are.sixteen;
  each = λ venue below. elim (cases_eq venue v) [
    | inl same ↦
        ap (λ (k : ℕ). get_or (slice_set counts v (item_count counts v + 1)) k 0) same
        ∙ get_or-set_same counts v (item_count counts v + 1) 0
        (omega (arith, are.sixteen, below, same))
        ∙ ap (λ (k : ℕ). item_count counts k + 1) (sym same)
        ∙ ap (λ (n : ℕ). n + 1) (are.each venue below)
        ∙ sym (ap length (items_here venue v entries x same)
        ∙ length-append (items_in entries venue) (x ∷ []))
    | inr apart ↦
        get_or-set_other counts v venue (item_count counts v + 1) 0 apart
        ∙ are.each venue below
        ∙ sym (ap length (items_there venue v entries x apart))
  ];
}
