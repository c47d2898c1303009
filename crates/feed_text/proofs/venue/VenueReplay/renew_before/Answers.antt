use Rattle.std.proofs.Common.{◌≡◌, ◌∙◌, ℕ, List, Some, Ok, Err, refl, sym, subst}
use Rattle.std.specs.Prelude.{Result}
use Rattle.std.proofs.lemmas.Result.{err_from_is_err_and}
use Rattle.line_arbiter.specs.declared.faults.RenewFault.{RenewFault}
use Rattle.line_arbiter.specs.Histories.{names_of}
use Rattle.line_arbiter.specs.LastSent.{last_sent}
use Rattle.line_arbiter.specs.Packets.{end_of}
use Rattle.line_arbiter.specs.Renewals.{IsRenewal}
use Rattle.line_arbiter.specs.laws.OneOutcome.{one_renewal}
use Rattle.feed_text.specs.ReplayEvents.{renewal_answered}
use Rattle.feed_text.specs.ReplayStates.{state_of_replay}
use Rattle.feed_text.proofs.Renewals.{other_session}
use Rattle.feed_text.proofs.VenueSteps.{renewal_told}
use Rattle.feed_text.proofs.venue.VenueReplay.renew_before.Goals as goal

pub returns-then-not-is_of_session : goal.returns-then-not-is_of_session
returns-then-not-is_of_session g c = λ width gaps h f. record {
  none = other_session c.args.next.now c.args.venue c.args.bytes.now h c.in-Ok.packet
      c.in-Ok.ensures.spelled.0 c.in-Some.name
      (λ x y more less a b. c.one_reading.ensures.packet c.args.bytes.now x y more less a b)
      c.in-Ok.ensures.spelled.1 (c.in-Some.ensures width c.args.venue h f)
      c.if-not-is_of_session.ensures;
  same = refl;
  follows = f;
}

pub returns-in_err-tell-in-Ok-next_session : goal.returns-in_err-tell-in-Ok-next_session
returns-in_err-tell-in-Ok-next_session g c = λ width gaps h f.
    let p = err_from_is_err_and c.from_residual.result c.from_residual.ensures.1 in
    let answer : Result ℕ RenewFault = Ok c.in-Ok-next_session.ordinal in
    let renews = c.in-Ok-next_session.ensures width c.args.venue h f in
    rw (p.1, p.2) (record {
      name = c.in-Some.name;
      packet = c.in-Ok.packet;
      rest = c.in-Ok.ensures.spelled.0;
      spells = c.in-Ok.ensures.spelled.1;
      renews = record {
        follows = (c.in-Some.ensures width c.args.venue h f).1;
        session = c.if-not-is_of_session.ensures;
        ordinal = c.in-Ok-next_session.ordinal;
        renews = renews.is;
      };
      emits = renewal_told width c.args.venue gaps h c.next_session.new.self c.in-Some.name answer
          (state_of_replay c.args.output.now) (state_of_replay c.tell.new.self)
          (Err c.in_err-tell-in-Ok-next_session.field-0.0) renews
          (c.in_err-tell-in-Ok-next_session.ensures (renewal_answered c.args.venue answer) refl
          refl);
    })

pub returns-in_ok-tell-in-Ok-next_session : goal.returns-in_ok-tell-in-Ok-next_session
returns-in_ok-tell-in-Ok-next_session g c = λ width gaps h f.
    let answer : Result ℕ RenewFault = Ok c.in-Ok-next_session.ordinal in
    let renews = c.in-Ok-next_session.ensures width c.args.venue h f in
    record {
      name = c.in-Some.name;
      packet = c.in-Ok.packet;
      rest = c.in-Ok.ensures.spelled.0;
      spells = c.in-Ok.ensures.spelled.1;
      renews = record {
        follows = (c.in-Some.ensures width c.args.venue h f).1;
        session = c.if-not-is_of_session.ensures;
        ordinal = c.in-Ok-next_session.ordinal;
        renews = renews.is;
      };
      emits = renewal_told width c.args.venue gaps h c.next_session.new.self c.in-Some.name answer
          (state_of_replay c.args.output.now) (state_of_replay c.tell.new.self) (Ok tt) renews
          (c.in_ok-tell-in-Ok-next_session.ensures (renewal_answered c.args.venue answer) refl
          refl);
    }

pub returns-in-Err : goal.returns-in-Err
returns-in-Err g c = λ width gaps h f.
    let stays = c.in-Err.ensures width c.args.venue h f in
    let found = c.in-Some.ensures width c.args.venue h f in
    record {
      none = λ p rest name sp x.
          let some : Some name ≡ Some c.in-Some.name = sym x.follows ∙ found.1 in
          let same : name ≡ c.in-Some.name = cc in
          let wrong = one_renewal (names_of h) (end_of h.present.packets) (last_sent h)
          c.in-Some.name (Ok x.ordinal) (Err c.in-Err.field-0)
          (subst (λ (n : List ℕ). IsRenewal (names_of h)
          (end_of h.present.packets) (last_sent h) n (Ok x.ordinal)) same x.renews) stays.is in
          absurd (cc);
      same = refl;
      follows = stays.follows;
    }
