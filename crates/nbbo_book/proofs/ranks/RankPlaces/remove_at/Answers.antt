use Rattle.std.proofs.Common.{ℕ, List, ◌≡◌, ◌<◌, ◌∙◌, ap, subst, length, get_or, arith}
use Rattle.std.specs.List.{remove}
use Rattle.feed_types.specs.declared.national.Best.{Best}
use Rattle.nbbo_book.specs.Ranks.{AreNoted}
use Rattle.nbbo_book.proofs.Places.{noted_after}
use Rattle.nbbo_book.proofs.ranks.RankPlaces.remove_at.Goals as goal

pub note_anew-requires-clause-after : goal.note_anew-requires-clause-after
note_anew-requires-clause-after c = λ k x above below.
    let P : List ℕ = c.args.self.now.places in
    let xs : List Best = c.args.best_first.now.items in
    let at : ℕ = c.args.at in
    let seen : c.as_slice.result.now ≡ remove xs at = c.as_slice.ensures.value
    ∙ c.remove.ensures.items in
    ap (λ (t : List Best). get_or P (get_or t k x).venue 16) seen
    ∙ noted_after P xs at k x c.requires.within above
    (subst (λ (t : List Best). k < length t) seen below)
    c.requires.kept.places

pub returns-clause-kept : goal.returns-clause-kept
returns-clause-kept c = record {
  count = omega (arith, c.requires.kept.count, c.requires.within, c.remove.ensures.len);
  places = subst (λ (t : List Best). AreNoted c.note_anew.new.places t) c.as_slice.ensures.value
      c.note_anew.ensures;
}
