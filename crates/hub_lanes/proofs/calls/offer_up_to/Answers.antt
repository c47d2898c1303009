use Rattle.std.proofs.Common.{ℕ, ◌<◌, Result, sym, subst, rules, arith}
use Rattle.feed_steps.specs.declared.unsent.Unsent.{Unsent}
use Rattle.hub_lanes.specs.Sections.{HubOffersOne}
use Rattle.hub_lanes.proofs.Offers.{count_stays, looked_on, no_notices, no_notice, offered, offered_up_to, one_notice}
use Rattle.hub_lanes.proofs.calls.offer_up_to.Goals as goal

pub loop-init : goal.loop-init
loop-init g c =
    let lanes = c.show_lock_invariant.ensures.subscribers in
    let known = c.requires in (
      tt,
      tt,
      search (rules, arith),
      no_notices c.args.id c.args.core.now (omega (arith, lanes, known)),
    )

pub loop-preserved-in-Ok-answer : goal.loop-preserved-in-Ok-answer
loop-preserved-in-Ok-answer g c =
    let i = c.loop.invariant in
    let e = c.in-Ok.ensures in
    let new = c.offer.new.self in
    let one = subst (λ (a : Result ℕ Unsent). HubOffersOne c.args.id a c.loop.core new)
    c.in-Ok-answer.is e.offer in (
      tt,
      tt,
      subst (λ (n : ℕ). c.args.id < n) (sym (count_stays c.loop.core new e.kept.kept)) i.2,
      one_notice c.args.id c.loop.pushed c.args.core.now c.loop.core new i.3 e.kept _ _ one
          c.saturating_add-pushed.ensures,
    )

pub loop-preserved : goal.loop-preserved
loop-preserved g c =
    let i = c.loop.invariant in
    let e = c.in-Ok.ensures in
    let new = c.offer.new.self in
    let one = subst (λ (a : Result ℕ Unsent). HubOffersOne c.args.id a c.loop.core new)
    c.in-Err-LaneFull.is e.offer in (
      tt,
      tt,
      subst (λ (n : ℕ). c.args.id < n) (sym (count_stays c.loop.core new e.kept.kept)) i.2,
      no_notice c.args.id c.loop.pushed c.args.core.now c.loop.core new i.3 e.kept _ one,
    )

pub returns-in-Err : goal.returns-in-Err
returns-in-Err g c =
    looked_on c.args.id c.args.to c.loop.pushed c.args.core.now c.loop.core c.offer.new.self
    c.loop.invariant.3 c.in-Err.ensures.kept c.in-Err.ensures.looks

pub returns-in-Err-answer : goal.returns-in-Err-answer
returns-in-Err-answer g c =
    let e = c.in-Ok.ensures in
    let new = c.offer.new.self in
    let one = subst (λ (a : Result ℕ Unsent). HubOffersOne c.args.id a c.loop.core new)
    c.in-Err-answer.is e.offer in
    offered_up_to c.args.id c.args.to c.loop.pushed c.args.core.now new
    (offered c.args.id c.loop.pushed _ c.args.core.now c.loop.core new
    c.loop.invariant.3 e.kept one)
