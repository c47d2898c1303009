use Rattle.std.proofs.Common.{rules, ℕ, List, [], ◌∷◌, ◌++◌, ◌≡◌, ◌∙◌, refl, ap, sym, subst, arith, length, set}
use Rattle.std.specs.List.{insert, remove}
use Rattle.feed_types.specs.declared.national.Best.{Best}
use Rattle.nbbo_book.specs.declared.ranks.Cause.{Cause}
use Rattle.nbbo_book.specs.declared.ranks.Cause.TheVariants.{Quoted}
use Rattle.nbbo_book.specs.declared.ranks.Order.{Order}
use Rattle.nbbo_book.specs.Ranks.{AreNoted, HasNone, InRank, IsCause, IsNewest, IsPlace, ages_in}
use Rattle.nbbo_book.proofs.Moving.{walked_here, refill_whole, remove_last}
use Rattle.nbbo_book.proofs.Places.{noted_pushed, set_the_end}
use Rattle.nbbo_book.proofs.ranks.RankPlaces.add.Goals as goal

pub returns-clause-ranks : goal.returns-clause-ranks
returns-clause-ranks c =
    let order : Order = c.args.order.now in
    let ages : ℕ → ℕ = ages_in order in
    let x : Best = c.args.x in
    let xs : List Best = c.args.best_first.now.items in
    let to : ℕ = c.move_to_rank.result in
    let rest : remove c.as_mut_slice-ranks.result.now c.len-from.result ≡ xs =
    ap (λ (t : List Best). remove t c.len-from.result)
    (c.as_mut_slice-ranks.ensures.value ∙ c.push.ensures.items)
    ∙ ap (remove (xs ++ x ∷ [])) (c.len-from.ensures ∙ c.requires.kept.count)
    ∙ remove_last xs x in
    let place : IsPlace order x xs to = subst (λ (t : List Best). IsPlace order x t to) rest
    c.move_to_rank.ensures.place in
    let newest : order.cause ≡ Quoted → IsNewest ages x xs = λ quoted.
    subst (λ (t : List Best). IsNewest ages x t) c.requires.absent
    (subst (λ (u : Cause). IsCause u order.side ages x xs) quoted
    (c.requires.ready.caused x refl)).0 in
    refill_whole c.push.new.self.items c.move_to_rank.new.ranks
    (c.move_to_rank.auto.ranks ∙ ap length c.as_mut_slice-ranks.ensures.value)
    ∙ c.move_to_rank.ensures.ranks
    ∙ ap (λ (t : List Best). insert t to x) rest
    ∙ walked_here order.cause order.side ages x xs to place.within place.before place.at
    (subst (λ (t : List Best). InRank order.side ages t) c.requires.absent c.requires.ready.others)
    newest

pub move_to_rank-requires-clause-ready : goal.move_to_rank-requires-clause-ready
move_to_rank-requires-clause-ready c =
    let x : Best = c.args.x in
    let P : List ℕ = c.args.self.now.places in
    let xs : List Best = c.args.best_first.now.items in
    let first : c.len-from.result ≡ length xs = c.len-from.ensures ∙ c.requires.kept.count in
    let from : ℕ = c.len-from.result in
    let none : HasNone x.venue xs =
    subst (λ (t : List Best). HasNone x.venue t) c.requires.absent
    c.requires.ready.once in
    record {
      below = search rules;
      few = search rules;
      venue = search rules;
      noted = subst (λ (t : List Best). AreNoted (set P c.index.result from) t)
          (sym (ap (λ (t : List Best). set t from x) (c.as_mut_slice-ranks.ensures.value
          ∙ c.push.ensures.items)
          ∙ ap (λ (n : ℕ). set (xs ++ x ∷ []) n x) first ∙ set_the_end xs x))
          (subst (λ (i : ℕ). AreNoted (set P i from) (xs ++ x ∷ [])) (sym c.index.ensures.value)
          (subst (λ (n : ℕ). AreNoted (set P x.venue n) (xs ++ x ∷ []))
          (sym first)
          (noted_pushed P xs x (omega (arith, c.index.ensures.value, c.index.ensures.in_range))
          none c.requires.kept.places)));
    }

pub returns-clause-kept : goal.returns-clause-kept
returns-clause-kept c =
    let whole = refill_whole c.push.new.self.items c.move_to_rank.new.ranks
    (c.move_to_rank.auto.ranks ∙ ap length c.as_mut_slice-ranks.ensures.value) in
    record {
      count = omega (
        arith,
        ap length whole,
        c.move_to_rank.auto.ranks,
        ap length c.as_mut_slice-ranks.ensures.value,
        c.push.ensures.len,
        c.requires.kept.count,
      );
      places = subst (λ (t : List Best). AreNoted c.move_to_rank.new.places t) (sym whole)
          c.move_to_rank.ensures.noted;
    }
