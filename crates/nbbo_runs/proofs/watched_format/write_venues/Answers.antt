use Rattle.std.proofs.Common.{ℕ, add-one, slice_index_or, subst, sym}
use Rattle.text_out.specs.Devices.{Writing}
use Rattle.text_out.specs.Members.{writing_of}
use Rattle.text_out.specs.StandardError.{SaysEach}
use Rattle.text_out.specs.laws.SaidTexts.{says_each}
use Rattle.message_forms.specs.declared.payload.Payload.{Payload}
use Rattle.nbbo_runs.specs.declared.venue_watch.VenueWatch.{VenueWatch}
use Rattle.nbbo_runs.specs.VenueLooks.{look_at}
use Rattle.nbbo_runs.specs.Watches.{first_venues_texts, unwatched, venue_texts}
use Rattle.nbbo_runs.proofs.watched_format.write_venues.Goals as goal

pub loop-venue-preserved : goal.loop-venue-preserved
loop-venue-preserved g c =
    let w : Writing g.row.E.Denot = writing_of g.E.TextOut in
    let ws = c.args.venues.now in
    let looks = c.args.looks.now in
    let input = c.args.input.now in
    let n = c.loop-venue.venue in
    let start = c.loop-venue.errors in
    let end = c.write_venue.new.errors in
    subst (λ (k : ℕ). SaysEach w (first_venues_texts input ws looks k) c.args.errors.now end)
    (sym (add-one n))
    (says_each w (first_venues_texts input ws looks n)
    (venue_texts input n (slice_index_or ws n unwatched) (look_at looks n)) c.args.errors.now start
    end
    c.loop-venue.invariant
    (subst (λ (v : VenueWatch). SaysEach w (venue_texts input n v (look_at looks n)) start end)
    c.watch_at.ensures
    (subst (λ (p : Payload). SaysEach w (venue_texts input n c.watch_at.result p) start end)
    c.look_at-look.ensures c.write_venue.ensures)))
