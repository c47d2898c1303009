use Rattle.std.proofs.Common.{◌≡◌, ◌<◌, ◌==◌, ℕ, arith, eq-eqb, length, refl, sym, ap, ◌∙◌, false}
use Rattle.std.specs.Option.{option_map_or}
use Rattle.std.proofs.lemmas.Bool.{ne_eqb}
use Rattle.std.proofs.lemmas.Option.{slice_get_read}
use Rattle.event_sinks.specs.SinkEvents.{timed_event, told_by}
use Rattle.replay_reports.specs.stats.Statistics.{is_at_venue}
use Rattle.replay_reports.proofs.Statistics.{all_elsewhere, one_touched}
use Rattle.replay_reports.proofs.stats.replay_stats.take_at.Goals as goal

pub returns-in_default-clause-stats : goal.returns-in_default-clause-stats
returns-in_default-clause-stats c = λ window events stats.
    all_elsewhere window (timed_event c.args.time (told_by c.args.event.now)) events
    c.args.venues.now.items
    (λ n within. c.venue_of.ensures n
    ∙ ap (λ o. option_map_or (λ venue. venue == n) o false) c.in_default.is) stats

pub returns-then-place-len-clause-stats : goal.returns-then-place-len-clause-stats
returns-then-place-len-clause-stats c = λ window events stats.
    let vs = c.args.venues.now.items in
    let place = c.index-place.result in
    let venue = c.in-Some.venue in
    let is = c.index-place.ensures.value in
    let within : place < length vs = omega (arith, c.if-place-len.true, c.len.ensures) in
    let at : (n : ℕ) → is_at_venue n (told_by c.args.event.now) ≡ (venue == n) =
    λ n. c.venue_of.ensures n ∙ ap (λ o. option_map_or (λ v. v == n) o false) c.in-Some.is in
    one_touched window place (timed_event c.args.time (told_by c.args.event.now)) events vs
    c.index_mut.result.now c.take.new.self
    (slice_get_read vs (length vs) place c.index_mut.result.now refl within
    c.index_mut.ensures.value)
    (at place ∙ eq-eqb venue place (sym is))
    (λ n apart. at n ∙ ne_eqb venue n (λ same. apart (sym same ∙ sym is)))
    (c.take.ensures window) stats

pub returns-else-place-len-clause-stats : goal.returns-else-place-len-clause-stats
returns-else-place-len-clause-stats c = λ window events stats.
    let vs = c.args.venues.now.items in
    let venue = c.in-Some.venue in
    let at : (n : ℕ) → is_at_venue n (told_by c.args.event.now) ≡ (venue == n) =
    λ n. c.venue_of.ensures n ∙ ap (λ o. option_map_or (λ v. v == n) o false) c.in-Some.is in
    all_elsewhere window (timed_event c.args.time (told_by c.args.event.now)) events vs
    (λ n within. at n ∙ ne_eqb venue n (λ same. absurd (omega (
      arith,
      same,
      within,
      c.if-place-len.false,
      c.len.ensures,
      c.index-place.ensures.value,
    )))) stats
