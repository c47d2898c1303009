use Rattle.text_out.specs.Members.{writing_of}
use Rattle.std.proofs.Common.{sym, subst, Ok, Err}
use Rattle.std.proofs.lemmas.Result.{err_from_is_err_and}
use Rattle.normalising.specs.Normalised.{MaySkipBefore}
use Rattle.normalising.proofs.Venues.{first_none, first_then, is_same, same_then}
use Rattle.normalising.proofs.normalised_venues.NormalisedVenues.give_up_overdue.Goals as goal

pub returns-in_default-clause-puts_in : goal.returns-in_default-clause-puts_in
returns-in_default-clause-puts_in g c = λ r is. first_none
    (writing_of g.W.TextOut) g.met.W.TextOut.adds_none r c.args.self.now c.args.writer.now (tt {0})

pub loop-place-init : goal.loop-place-init
loop-place-init g c = record {
  same = is_same c.args.self.now;
  puts_in = λ r is. first_none
      (writing_of g.W.TextOut)
      g.met.W.TextOut.adds_none r c.args.self.now c.args.writer.now (tt {0});
}

pub returns-in_err-give_up_standing-clause-puts_in :
    goal.returns-in_err-give_up_standing-clause-puts_in
returns-in_err-give_up_standing-clause-puts_in g c = λ r is.
    let p = err_from_is_err_and c.from_residual.result c.from_residual.ensures.1 in
    rw (p.1, p.2) (first_then
    (writing_of g.W.TextOut)
    g.met.W.TextOut.adds_more r c.args.self.now c.loop-place.self c.give_up_standing.new.self
    c.args.writer.now c.loop-place.writer c.give_up_standing.new.writer
    c.loop-place.invariant.same {B = Unit {0}} (tt {0})
    (Err c.in_err-give_up_standing.field-0.0) (c.loop-place.invariant.puts_in r is)
    (c.in_err-give_up_standing.ensures.puts_in r
    (subst (λ feed. MaySkipBefore feed.skips r c.at.result)
    (sym c.loop-place.invariant.same.settings) (c.in-Some.ensures r c.at.result is))))

pub loop-place-preserved : goal.loop-place-preserved
loop-place-preserved g c = record {
  same = same_then c.args.self.now c.loop-place.self c.give_up_standing.new.self
      c.loop-place.invariant.same c.in_ok-give_up_standing.ensures.same;
  puts_in = λ r is. first_then
      (writing_of g.W.TextOut)
      g.met.W.TextOut.adds_more r c.args.self.now c.loop-place.self c.give_up_standing.new.self
      c.args.writer.now c.loop-place.writer c.give_up_standing.new.writer
      c.loop-place.invariant.same (tt {0}) (Ok (tt {0})) (c.loop-place.invariant.puts_in r is)
      (c.in_ok-give_up_standing.ensures.puts_in r
      (subst (λ feed. MaySkipBefore feed.skips r c.at.result)
      (sym c.loop-place.invariant.same.settings) (c.in-Some.ensures r c.at.result is)));
}

pub returns-clause-puts_in : goal.returns-clause-puts_in
returns-clause-puts_in g c = λ r is. c.loop-place.invariant.puts_in r is
