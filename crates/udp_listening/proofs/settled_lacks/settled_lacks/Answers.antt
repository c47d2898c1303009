use Rattle.std.proofs.Common.{◌≡◌, ℕ, suc, ◌+◌, ◌++◌, IfSome, length, min, take, ap, sym, subst, ◌∙◌, arith}
use Rattle.std.specs.Prelude.{slice_get}
use Rattle.std.proofs.lemmas.List.{take_min}
use Rattle.feed_types.specs.ListLaws.{get_within}
use Rattle.event_sinks.specs.VenueGaps.{venue_gap}
use Rattle.live_feed.specs.settle.Settlements.{VenueEndState}
use Rattle.udp_listening.specs.SettledLacks.{lacks_from}
use Rattle.udp_listening.proofs.Lacks.{lacks_more}
use Rattle.udp_listening.proofs.settled_lacks.settled_lacks.Goals as goal

pub loop-place-init : goal.loop-place-init
loop-place-init c = c.new-lacking.ensures.items

pub loop-place-preserved : goal.loop-place-preserved
loop-place-preserved c =
    let venues = c.args.settlement.now.venues in
    let place = c.loop-place.place in
    let count = c.min-place-end.ensures in
    let all = c.venue_count.ensures in
    let below = c.loop-place-test.true in
    let there = get_within venues place (omega arith) in
    let more = c.in_ok-append_lack.ensures {u = tt} in
    let one = rw (c.at.ensures, there.1) at more in
    let next : place + 1 ≡ suc place = omega arith in
    let here : 0 + place ≡ place = omega arith in
    one
    ∙ ap (λ l. l ++ venue_gap place there.0.gap) c.loop-place.invariant
    ∙ ap (λ (n : ℕ). lacks_from 0 (take place venues) ++ venue_gap n there.0.gap) (sym here)
    ∙ sym (lacks_more 0 place venues there.0 there.1)
    ∙ ap (λ (n : ℕ). lacks_from 0 (take n venues)) (sym next)

pub returns : goal.returns
returns c =
    let venues = c.args.settlement.now.venues in
    let count = c.min-place-end.ensures in
    let all = c.venue_count.ensures in
    let past = c.loop-place-test.false in
    let most = c.loop-place.auto.place-end in
    let last : c.loop-place.place ≡ min 16 (length venues) = omega arith in
    c.loop-place.invariant
    ∙ ap (λ (n : ℕ). lacks_from 0 (take n venues)) last
    ∙ ap (lacks_from 0) (take_min 16 venues)
