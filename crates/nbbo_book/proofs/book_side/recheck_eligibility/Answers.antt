use Rattle.std.proofs.Common.{ℕ, ◌∙◌, ap, arith}
use Rattle.nbbo_book.specs.declared.venue_side.VenueSide.{VenueSide}
use Rattle.nbbo_book.specs.Eligible.{ranked_by}
use Rattle.nbbo_book.specs.VenueSides.{BookSide, book_side_of}
use Rattle.nbbo_book.proofs.SideInvariant.{can_update, others_in_order}
use Rattle.nbbo_book.proofs.book_side.recheck_eligibility.Goals as goal

pub update-requires-clause-ready : goal.update-requires-clause-ready
update-requires-clause-ready c =
    let v : ℕ = c.args.quoter.now.venue in
    let may = c.args.quoter.now.may_rank in
    let k : BookSide = book_side_of c.args.side c.args.sides.now c.args.ranks.now.items in
    can_update _ v may c.args.ranks.now.items c.rank_of-best.result
    (omega (arith, c.get-shown.ensures.in_range))
    (record {
      others = others_in_order c.args.side k v c.requires.ready;
      once = c.requires.ready.once v;
      room = c.requires.ready.room v;
      caused = c.requires.ready;
    })
    (c.rank_of-best.ensures ∙ ap (ranked_by may v)
    (c.quote.ensures ∙ ap (λ (s : VenueSide). s.quote) c.get-shown.ensures.value))
