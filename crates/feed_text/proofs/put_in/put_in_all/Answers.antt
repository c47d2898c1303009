use Rattle.std.proofs.Common.{rules, ◌≡◌, ◌∙◌, Bool, true, false, subst, Ok}
use Rattle.std.specs.Prelude.{Result}
use Rattle.std.proofs.lemmas.Result.{err_from_is_err_and}
use Rattle.feed_text.specs.declared.replay_sink.PublishStop.{PublishStop}
use Rattle.feed_text.specs.PuttingIn.{PutsOne}
use Rattle.feed_text.specs.ReplayStates.{state_of_replay}
use Rattle.feed_text.proofs.PuttingIn.{of_coming, stands_for}
use Rattle.feed_text.proofs.Taking.{all_put_in, one_so_far, put_stopped}
use Rattle.feed_text.proofs.Tales.{SinkLaws, laws_by}
use Rattle.feed_text.proofs.put_in.put_in_all.Given.{Over}
use Rattle.feed_text.proofs.put_in.put_in_all.Goals as goal

laws_of : (g : Over)
    → SinkLaws (record { takes = g.K.EventSink.takes; fails = g.K.EventSink.fails })
laws_of g = laws_by g.met.K.EventSink.takes_none g.met.K.EventSink.takes_more
    g.met.K.EventSink.fails_after g.met.K.EventSink.fails_longer

pub put_in_next-requires-clause-follow : goal.put_in_next-requires-clause-follow
put_in_next-requires-clause-follow g c =
    let some = c.requires.follow in
    let s = c.loop.invariant.taken (of_coming c.args.coming.now) some.0
    (stands_for c.args.coming.now) some.1 some.2 in
    (s.after, s.follow, s.knows)

pub returns-in_err-put_in_next-clause-taken : goal.returns-in_err-put_in_next-clause-taken
returns-in_err-put_in_next-clause-taken g c = λ r at is f k.
    let p = err_from_is_err_and c.from_residual.result c.from_residual.ensures.1 in
    let x = c.loop.invariant.taken r at is f k in
    rw (p.1, p.2) (put_stopped (laws_of g) c.args.config.now r at
    (state_of_replay c.args.output.now) (state_of_replay c.loop.output)
    (state_of_replay c.put_in_next.new.output) c.loop.venues.items c.put_in_next.new.venues.items
    c.loop.kept c.in_err-put_in_next.field-0.0 x
    (c.in_err-put_in_next.ensures.puts r x.after is x.follow x.knows))

pub returns-then-not-branch-clause-taken : goal.returns-then-not-branch-clause-taken
returns-then-not-branch-clause-taken g c = λ r at is f k.
    let x = c.loop.invariant.taken r at is f k in
    let none : c.put_in_next.result ≡ Ok false = search rules in
    all_put_in (laws_of g) c.args.config.now r at (state_of_replay c.args.output.now)
    (state_of_replay c.loop.output) (state_of_replay c.put_in_next.new.output)
    c.loop.venues.items c.put_in_next.new.venues.items c.loop.kept c.put_in_next.new.kept x
    (subst (λ (answer : Result Bool PublishStop). PutsOne (record {
      takes = g.K.EventSink.takes;
      fails = g.K.EventSink.fails;
    }) c.args.config.now r x.after (state_of_replay c.loop.output)
    (state_of_replay c.put_in_next.new.output) c.put_in_next.new.venues.items
    c.put_in_next.new.kept answer) none (c.put_in_next.ensures.puts r x.after is x.follow x.knows))

pub loop-preserved : goal.loop-preserved
loop-preserved g c = record {
  kept = record {
    gaps = c.in_ok-put_in_next.ensures.kept.gaps ∙ c.loop.invariant.kept.gaps;
    count = c.in_ok-put_in_next.ensures.kept.count ∙ c.loop.invariant.kept.count;
  };
  journal = c.in_ok-put_in_next.ensures.journal ∙ c.loop.invariant.journal;
  taken = λ r at is f k.
      let x = c.loop.invariant.taken r at is f k in
      let some : c.put_in_next.result ≡ Ok true = search rules in
      one_so_far (laws_of g) c.args.config.now r at (state_of_replay c.args.output.now)
      (state_of_replay c.loop.output) (state_of_replay c.put_in_next.new.output)
      c.loop.venues.items c.put_in_next.new.venues.items c.loop.kept c.put_in_next.new.kept x
      (subst (λ (answer : Result Bool PublishStop). PutsOne (record {
        takes = g.K.EventSink.takes;
        fails = g.K.EventSink.fails;
      }) c.args.config.now r x.after (state_of_replay c.loop.output)
      (state_of_replay c.put_in_next.new.output) c.put_in_next.new.venues.items
      c.put_in_next.new.kept answer) some
      (c.put_in_next.ensures.puts r x.after is x.follow x.knows));
}
