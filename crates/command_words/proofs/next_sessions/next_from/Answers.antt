use Rattle.std.proofs.Common.{◌≡◌, ◌++◌, List, Ok, rules, ap, arith, drop, subst, sym, ◌∙◌}
use Rattle.std.proofs.lemmas.Result.{err_from_is_err_and}
use Rattle.run_settings.specs.NextSessions.{FollowVenues}
use Rattle.run_settings.specs.declared.next_session.NextSession.{NextSession}
use Rattle.command_words.specs.NextSessions.{next_session_of}
use Rattle.command_words.proofs.Following.{both_follow, named_follow, read_more, refused_at}
use Rattle.command_words.proofs.next_sessions.next_from.Goals as goal

pub returns-in_err-sessions-clause-reads : goal.returns-in_err-sessions-clause-reads
returns-in_err-sessions-clause-reads c =
    let residual = c.from_residual in
    let p = err_from_is_err_and residual.result residual.ensures.1 in
    rw (p.1, p.2) (refused_at c.args.texts.now c.loop-place.place c.args.venues _
    c.loop-place.next.items c.in_err-sessions.field-0.0 c.loop-place-test.true
    c.if-place-texts.true c.loop-place.invariant.read c.in_err-sessions.ensures)

pub loop-place-preserved : goal.loop-place-preserved
loop-place-preserved c =
    let pushed : c.push_next.new.next.items ≡ c.loop-place.next.items
    ++ next_session_of c.loop-place.place c.in_ok-sessions.sessions.items = search rules in
    record {
      within = omega (arith, c.if-place-texts.true);
      few = omega (arith, c.loop-place-test.true);
      read = read_more c.args.texts.now c.loop-place.place _ c.in_ok-sessions.sessions.items
          c.loop-place.next.items c.if-place-texts.true c.loop-place.invariant.read
          (sym c.in_ok-sessions.ensures)
          ∙ ap (λ (l : List NextSession). Ok l) (sym pushed);
      follow = subst (FollowVenues c.args.venues) (sym pushed)
          (both_follow c.args.venues c.loop-place.next.items
          (next_session_of c.loop-place.place c.in_ok-sessions.sessions.items)
          c.loop-place.invariant.follow
          (named_follow c.args.venues c.loop-place.place (drop 1 c.in_ok-sessions.sessions.items)
          c.loop-place-test.true));
    }
