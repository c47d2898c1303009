use Rattle.std.proofs.Common.{refl}
use Rattle.line_gaps.specs.OpenGaps.{in_session}
use Rattle.line_gaps.proofs.EndLemmas.{venue_keeps}
use Rattle.line_gaps.proofs.VenueLemmas.{fits_but, nothing_timed, says_nothing, steps_timed, venue_closed}
use Rattle.line_gaps.proofs.venue_gaps.VenueGaps.take.Goals as goal

pub returns-in-Packet-clause-takes : goal.returns-in-Packet-clause-takes
returns-in-Packet-clause-takes c = λ earlier fits.
    rw c.in-Packet.is
    (steps_timed earlier _ c.args.self.now c.take_answered.new.self c.args.ended.now.gaps.items
    c.take_answered.new.ended.gaps.items refl c.requires
    (c.take_answered.ensures.takes (in_session earlier) _ _ fits))

pub returns-in-Skip-clause-takes : goal.returns-in-Skip-clause-takes
returns-in-Skip-clause-takes c = λ earlier fits.
    rw c.in-Skip.is
    (steps_timed earlier _ c.args.self.now c.take_skip.new.self c.args.ended.now.gaps.items
    c.take_skip.new.ended.gaps.items refl c.requires
    (c.take_skip.ensures.takes (in_session earlier) _ fits))

pub returns-in-Renewal-clause-takes : goal.returns-in-Renewal-clause-takes
returns-in-Renewal-clause-takes c = λ earlier fits.
    rw c.in-Renewal.is (c.take_renewal.ensures.takes earlier _ _ fits)

pub returns-in-Last-clause-takes : goal.returns-in-Last-clause-takes
returns-in-Last-clause-takes c = λ earlier fits.
    let said = c.close.ensures in
    rw c.in-Last.is
    (steps_timed earlier _ c.args.self.now c.close.new.self c.args.ended.now.gaps.items
    c.close.new.ended.gaps.items refl c.requires
    (venue_closed (in_session earlier) _ c.args.self.now c.close.new.self
    c.args.ended.now.gaps.items c.close.new.ended.gaps.items
    (says_nothing (in_session earlier) _ refl (λ n. refl) (λ n. refl) refl refl) refl
    (fits_but (in_session earlier) _ c.args.self.now fits (λ line. refl)) fits said.lost said.far
    said.come said.a said.b said.all said.ended))

pub returns-in-Refusal-clause-ends : goal.returns-in-Refusal-clause-ends
returns-in-Refusal-clause-ends c = venue_keeps _ _ c.args.ended.now refl refl refl

pub returns-in-Refusal-clause-takes : goal.returns-in-Refusal-clause-takes
returns-in-Refusal-clause-takes c = λ earlier fits.
    rw c.in-Refusal.is
    (nothing_timed earlier _ c.args.self.now c.args.ended.now.gaps.items
    (says_nothing (in_session earlier) _ refl (λ n. refl) (λ n. refl) refl refl) refl refl
    (λ line. refl) c.requires fits)

pub returns-in-Item-clause-ends : goal.returns-in-Item-clause-ends
returns-in-Item-clause-ends c = venue_keeps _ _ c.args.ended.now refl refl refl

pub returns-in-Item-clause-takes : goal.returns-in-Item-clause-takes
returns-in-Item-clause-takes c = λ earlier fits.
    rw c.in-Item.is
    (nothing_timed earlier _ c.args.self.now c.args.ended.now.gaps.items
    (says_nothing (in_session earlier) _ refl (λ n. refl) (λ n. refl) refl refl) refl refl
    (λ line. refl) c.requires fits)

pub returns-in-Best-clause-ends : goal.returns-in-Best-clause-ends
returns-in-Best-clause-ends c = venue_keeps _ _ c.args.ended.now refl refl refl

pub returns-in-Best-clause-takes : goal.returns-in-Best-clause-takes
returns-in-Best-clause-takes c = λ earlier fits.
    rw c.in-Best.is
    (nothing_timed earlier _ c.args.self.now c.args.ended.now.gaps.items
    (says_nothing (in_session earlier) _ refl (λ n. refl) (λ n. refl) refl refl) refl refl
    (λ line. refl) c.requires fits)

pub returns-in-Gap-clause-ends : goal.returns-in-Gap-clause-ends
returns-in-Gap-clause-ends c = venue_keeps _ _ c.args.ended.now refl refl refl

pub returns-in-Gap-clause-takes : goal.returns-in-Gap-clause-takes
returns-in-Gap-clause-takes c = λ earlier fits.
    rw c.in-Gap.is
    (nothing_timed earlier _ c.args.self.now c.args.ended.now.gaps.items
    (says_nothing (in_session earlier) _ refl (λ n. refl) (λ n. refl) refl refl) refl refl
    (λ line. refl) c.requires fits)

pub returns-in-Declaration-clause-ends : goal.returns-in-Declaration-clause-ends
returns-in-Declaration-clause-ends c = venue_keeps _ _ c.args.ended.now refl refl refl

pub returns-in-Declaration-clause-takes : goal.returns-in-Declaration-clause-takes
returns-in-Declaration-clause-takes c = λ earlier fits.
    rw c.in-Declaration.is
    (nothing_timed earlier _ c.args.self.now c.args.ended.now.gaps.items
    (says_nothing (in_session earlier) _ refl (λ n. refl) (λ n. refl) refl refl) refl refl
    (λ line. refl) c.requires fits)
