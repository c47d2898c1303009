use Rattle.std.proofs.Common.{ℕ, List, ◌≡◌, ◌<◌, ◌∙◌, ap, sym, subst, arith, set, cond, true, false, length}
use Rattle.feed_types.specs.declared.line.Side.{Side}
use Rattle.feed_types.specs.declared.national.Best.{Best}
use Rattle.nbbo_book.specs.declared.ranks.Cause.TheVariants.{Quoted}
use Rattle.nbbo_book.specs.declared.venue_side.VenueSide.{VenueSide}
use Rattle.nbbo_book.specs.declared.venue_sides.VenueSides.{VenueSides}
use Rattle.nbbo_book.specs.Sides.{is_same_side}
use Rattle.nbbo_book.specs.Eligible.{ranked_by}
use Rattle.nbbo_book.specs.VenueSides.{BookSide, age_at, book_side_of, sides_across, sides_in, venue_side_at}
use Rattle.nbbo_book.specs.Ranks.{placed, without}
use Rattle.nbbo_book.specs.BookSides.{CanRank, side_set}
use Rattle.nbbo_book.proofs.SideInvariant.{can_update, others_stay, others_older, ranked_own, not_among, venue_side_set}
use Rattle.nbbo_book.proofs.SetSides.{set_across, set_side}
use Rattle.nbbo_book.proofs.book_side.set_quote.Goals as goal

pub update-requires-clause-ready : goal.update-requires-clause-ready
update-requires-clause-ready c =
    let v : ℕ = c.args.quoter.now.venue in
    let may = c.args.quoter.now.may_rank in
    let st : VenueSide = c.args.venue_side in
    let side : Side = c.args.side in
    let k : BookSide = book_side_of side c.args.sides.now c.args.ranks.now.items in
    let below : v < 16 = omega (arith, c.get-shown.ensures.in_range) in
    let under : v < length k.venue_sides = omega (arith, below, c.requires.ranked.count) in
    let differs : is_same_side (venue_side_at k.venue_sides v).quote st.quote ≡ false =
    ap (λ (s : VenueSide). is_same_side s.quote st.quote) (sym c.get-shown.ensures.value)
    ∙ ap (λ o. is_same_side o st.quote) (sym c.quote.ensures)
    ∙ ap (is_same_side c.quote.result) (sym c.quote-2.ensures) ∙ sym c.is_same.ensures
    ∙ c.if-is_same.false in
    let after = ap (λ (t : VenueSides). book_side_of side t c.args.ranks.now.items) c.set.ensures
    ∙ set_side side v st c.args.sides.now c.args.ranks.now.items in
    can_update _ v may c.args.ranks.now.items c.rank_of-best.result below
    (subst (λ (t : BookSide). CanRank side v Quoted t) (sym after) (record {
      others = others_stay side k v st c.requires.ranked;
      once = c.requires.ranked.once v;
      room = c.requires.ranked.room v;
      caused = λ x e. (
        others_older side k v x st below
            (ranked_own true v (venue_side_at (set k.venue_sides v st) v).quote x e) c.requires.past
            c.requires.ranked,
        not_among side k v st x below c.requires.ranked differs e,
      );
    }))
    (c.rank_of-best.ensures ∙ ap (ranked_by may v) c.quote-3.ensures
    ∙ sym (ap (λ (t : BookSide). ranked_by may v (venue_side_at t.venue_sides v).quote) after
    ∙ ap (λ (t : VenueSide). ranked_by may v t.quote) (venue_side_set k.venue_sides v st under)))

pub returns-clause-side : goal.returns-clause-side
returns-clause-side c =
    let v : ℕ = c.args.quoter.now.venue in
    let may = c.args.quoter.now.may_rank in
    let st : VenueSide = c.args.venue_side in
    let side : Side = c.args.side in
    let k : BookSide = book_side_of side c.args.sides.now c.args.ranks.now.items in
    let differs : is_same_side (venue_side_at k.venue_sides v).quote st.quote ≡ false =
    ap (λ (s : VenueSide). is_same_side s.quote st.quote) (sym c.get-shown.ensures.value)
    ∙ ap (λ o. is_same_side o st.quote) (sym c.quote.ensures)
    ∙ ap (is_same_side c.quote.result) (sym c.quote-2.ensures) ∙ sym c.is_same.ensures
    ∙ c.if-is_same.false in
    let after = ap (λ (t : VenueSides). book_side_of side t c.args.ranks.now.items) c.set.ensures
    ∙ set_side side v st c.args.sides.now c.args.ranks.now.items in
    ap (λ (t : List Best). book_side_of side c.set.new.self t) (c.update.ensures.ranks
    ∙ ap (λ o. placed side (age_at (sides_in side c.set.new.self)) o (without v k.ranks))
    (c.rank_of-best.ensures ∙ ap (ranked_by may v) c.quote-3.ensures))
    ∙ ap (λ (t : BookSide). record {
      venue_sides = t.venue_sides;
      ranks = placed side (age_at t.venue_sides) (ranked_by may v st.quote) (without v k.ranks);
    }) after
    ∙ ap (λ t. cond t k (side_set side v st may k)) (sym differs)

pub returns-clause-across : goal.returns-clause-across
returns-clause-across c =
    ap (λ (t : VenueSides). sides_across c.args.side t) c.set.ensures
    ∙ set_across c.args.side c.args.quoter.now.venue c.args.venue_side c.args.sides.now
