use Rattle.text_out.specs.Members.{writing_of}
use Rattle.std.proofs.Common.{Ok, Err}
use Rattle.std.proofs.lemmas.Result.{err_from_is_err_and}
use Rattle.capture_records.specs.Capture.{skip_record}
use Rattle.normalising.proofs.Venues.{first_none, first_then, gaps_may, is_same, put_in_first, same_then}
use Rattle.normalising.proofs.normalised_venues.NormalisedVenues.give_up_ahead.Goals as goal

pub loop-init : goal.loop-init
loop-init g c = record {
  same = is_same c.args.self.now;
  puts_in = λ r is. first_none
      (writing_of g.W.TextOut)
      g.met.W.TextOut.adds_none r c.args.self.now c.args.writer.now (tt {0});
}

pub returns-in_default-clause-puts_in : goal.returns-in_default-clause-puts_in
returns-in_default-clause-puts_in g c = λ r is. c.loop.invariant.puts_in r is

pub returns-in_err-give_up-clause-puts_in : goal.returns-in_err-give_up-clause-puts_in
returns-in_err-give_up-clause-puts_in g c = λ r is.
    let p = err_from_is_err_and c.from_residual.result c.from_residual.ensures.1 in
    rw (p.1, p.2) (first_then
    (writing_of g.W.TextOut)
    g.met.W.TextOut.adds_more r c.args.self.now c.loop.self c.give_up.new.self
    c.args.writer.now c.loop.writer c.give_up.new.writer
    c.loop.invariant.same {B = Unit {0}} (tt {0}) (Err c.in_err-give_up.field-0.0)
    (c.loop.invariant.puts_in r is)
    (put_in_first {A = Unit {0}}
    (writing_of g.W.TextOut)
    r (skip_record c.args.venue c.in-Some.number) c.loop.self c.give_up.new.self
    c.loop.writer c.give_up.new.writer (Err c.in_err-give_up.field-0.0)
    (gaps_may c.in-Some.number r c.args.venue c.requires.rule c.loop.invariant.same is)
    c.in_err-give_up.ensures.takes))

pub loop-preserved : goal.loop-preserved
loop-preserved g c = record {
  same = same_then c.args.self.now c.loop.self c.give_up.new.self
      c.loop.invariant.same c.in_ok-give_up.ensures.same;
  puts_in = λ r is. first_then
      (writing_of g.W.TextOut)
      g.met.W.TextOut.adds_more r c.args.self.now c.loop.self c.give_up.new.self
      c.args.writer.now c.loop.writer c.give_up.new.writer
      c.loop.invariant.same (tt {0}) (Ok (tt {0})) (c.loop.invariant.puts_in r is)
      (put_in_first
      (writing_of g.W.TextOut)
      r (skip_record c.args.venue c.in-Some.number) c.loop.self c.give_up.new.self
      c.loop.writer c.give_up.new.writer (Ok (tt {0}))
      (gaps_may c.in-Some.number r c.args.venue c.requires.rule c.loop.invariant.same is)
      c.in_ok-give_up.ensures.takes);
}

pub returns-clause-puts_in : goal.returns-clause-puts_in
returns-clause-puts_in g c = λ r is. c.loop.invariant.puts_in r is
