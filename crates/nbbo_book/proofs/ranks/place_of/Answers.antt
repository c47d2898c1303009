use Rattle.std.proofs.Common.{ℕ, List, ◌≡◌, ◌∙◌, true, false, ap, sym, arith, get_or, nat_eq}
use Rattle.feed_types.specs.declared.national.Best.{Best}
use Rattle.nbbo_book.proofs.Places.{any_default, stands_there, stands_nowhere}
use Rattle.nbbo_book.proofs.ranks.place_of.Goals as goal
use Rattle.nbbo_book.proofs.ranks.place_of.Goals.{else-at-len-via-then-at-len+else-eq, else-at-len-via-else-at-len}

pub returns-then-eq-clause-there : goal.returns-then-eq-clause-there
returns-then-eq-clause-there c =
    let v : ℕ = c.args.venue in
    let P : List ℕ = c.args.noted.now.places in
    let xs : List Best = c.args.ranks.now in
    let at : ℕ = c.from-at.result in
    let d : Best = c.index-ranks-at.result in
    let is : get_or P v 16 ≡ at = any_default P v 16 _
    (omega (arith, c.index.ensures.value, c.index.ensures.in_range))
    ∙ ap (λ (i : ℕ). get_or P i _) (sym c.index.ensures.value) ∙ sym c.from-at.ensures in
    let own : nat_eq d.venue v ≡ true = first_of (cc, grind arith) in
    stands_there v P xs at d c.requires.places is
    (omega (arith, c.if-at-len.true, c.len.ensures, c.requires.count))
    (ap (λ (y : Best). nat_eq y.venue v) (sym c.index-ranks-at.is) ∙ own)

pub returns-clause-absent : goal.returns-clause-absent
returns-clause-absent c = λ none.
    let v : ℕ = c.args.venue in
    let P : List ℕ = c.args.noted.now.places in
    let xs : List Best = c.args.ranks.now in
    let at : ℕ = c.from-at.result in
    let is : get_or P v 16 ≡ at = any_default P v 16 0
    (omega (arith, c.index.ensures.value, c.index.ensures.in_range))
    ∙ ap (λ (i : ℕ). get_or P i 0) (sym c.index.ensures.value) ∙ sym c.from-at.ensures in
    elim c.else-at-len.branch [
      | else-at-len-via-then-at-len+else-eq w ↦
          let d : Best = w.index-ranks-at.result in
          let other : nat_eq d.venue v ≡ false = first_of (cc, grind arith) in
          stands_nowhere v P xs at d c.requires.places is
          (λ l. ap (λ (y : Best). nat_eq y.venue v) (sym w.index-ranks-at.is) ∙ other)
      | else-at-len-via-else-at-len w ↦
          let d : Best = record { venue = 0; price = 0; size = 0 } in
          stands_nowhere v P xs at d c.requires.places is
          (λ l. absurd (omega (arith, l, w.if-at-len.false, c.len.ensures, c.requires.count)))
    ]
