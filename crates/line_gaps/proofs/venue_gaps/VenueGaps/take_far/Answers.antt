use Rattle.std.proofs.Common.{None, Ok, Some, refl, sym, ◌∙◌, ◌≡◌}
use Rattle.line_arbiter.specs.declared.outcome.Outcome.TheVariants.{Ahead}
use Rattle.line_gaps.specs.Gaps.{far_on, far_that}
use Rattle.line_gaps.specs.VenueFits.{packet_event}
use Rattle.line_gaps.proofs.EndLemmas.{venue_keeps}
use Rattle.line_gaps.proofs.VenueLemmas.{far_alone, far_but, far_counts, far_first, no_skip, other_far, says_nothing, venue_idle}
use Rattle.line_gaps.proofs.venue_gaps.VenueGaps.take_far.Goals as goal

pub returns-then-goes_on-clause-takes : goal.returns-then-goes_on-clause-takes
returns-then-goes_on-clause-takes c = λ earlier venue bytes fits.
    let old = c.args.self.now in
    let packet = c.args.packet in
    let before = c.in-Some.before in
    let was : far_on packet.line earlier ≡ Some before =
    sym (fits.far packet.line) ∙ sym c.on-earlier.ensures ∙ c.in-Some.is in
    let counts : far_that packet.number (far_on packet.line earlier) ≡ Some before =
    far_counts packet.number before (far_on packet.line earlier) was
    (sym c.goes_on.ensures ∙ c.if-goes_on.true) in
    let last = packet_event packet venue bytes (Ok Ahead) in
    other_far earlier last old _ c.set.new.self _ _
    (c.take_numbers.ensures.takes earlier last
    (record {
      counts = counts;
      brings_none = λ n. refl;
      passes_none = λ n. refl;
      has_no_messages = refl;
    })
    (record {
      counts = counts;
      goes_on = refl;
      skips_none = λ begun highest. no_skip begun highest last.event refl;
    })
    (far_but earlier packet venue bytes old c.set.new.self fits c.set.ensures))

pub returns-else-goes_on-clause-ends : goal.returns-else-goes_on-clause-ends
returns-else-goes_on-clause-ends c = venue_keeps _ _ c.args.ended.now refl refl refl

pub returns-else-goes_on-clause-takes : goal.returns-else-goes_on-clause-takes
returns-else-goes_on-clause-takes c = λ earlier venue bytes fits.
    let old = c.args.self.now in
    let packet = c.args.packet in
    let before = c.in-Some.before in
    let was : far_on packet.line earlier ≡ Some before =
    sym (fits.far packet.line) ∙ sym c.on-earlier.ensures ∙ c.in-Some.is in
    let counts : far_that packet.number (far_on packet.line earlier) ≡ None =
    far_alone packet.number before (far_on packet.line earlier) was
    (sym c.goes_on.ensures ∙ c.if-goes_on.false) in
    let last = packet_event packet venue bytes (Ok Ahead) in
    other_far earlier last old _ c.set.new.self _ _
    (venue_idle earlier last (record old { far = c.set.new.self })
    (record old { far = c.set.new.self }) c.args.ended.now.gaps.items
    (says_nothing earlier last counts (λ n. refl) (λ n. refl) refl refl) refl
    (far_but earlier packet venue bytes old c.set.new.self fits c.set.ensures)
    refl refl refl refl refl refl)

pub returns-in-None-clause-ends : goal.returns-in-None-clause-ends
returns-in-None-clause-ends c = venue_keeps _ _ c.args.ended.now refl refl refl

pub returns-in-None-clause-takes : goal.returns-in-None-clause-takes
returns-in-None-clause-takes c = λ earlier venue bytes fits.
    let old = c.args.self.now in
    let packet = c.args.packet in
    let was : far_on packet.line earlier ≡ None =
    sym (fits.far packet.line) ∙ sym c.on-earlier.ensures ∙ c.in-None.is in
    let counts : far_that packet.number (far_on packet.line earlier) ≡ None =
    far_first packet.number (far_on packet.line earlier) was in
    let last = packet_event packet venue bytes (Ok Ahead) in
    other_far earlier last old _ c.set.new.self _ _
    (venue_idle earlier last (record old { far = c.set.new.self })
    (record old { far = c.set.new.self }) c.args.ended.now.gaps.items
    (says_nothing earlier last counts (λ n. refl) (λ n. refl) refl refl) refl
    (far_but earlier packet venue bytes old c.set.new.self fits c.set.ensures)
    refl refl refl refl refl refl)
