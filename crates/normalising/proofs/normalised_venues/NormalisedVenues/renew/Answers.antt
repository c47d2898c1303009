use Rattle.text_out.specs.Members.{writing_of}
use Rattle.std.proofs.Common.{refl, sym, ap, append-nil, length}
use Rattle.std.specs.Prelude.{slice_set}
use Rattle.std.proofs.lemmas.Option.{slice_get_read}
use Rattle.capture_records.specs.Capture.{renewal_record}
use Rattle.normalising.proofs.Venues.{gives_next}
use Rattle.normalising.proofs.normalised_venues.NormalisedVenues.renew.Goals as goal

pub returns-clause-takes : goal.returns-clause-takes
returns-clause-takes g c = gives_next
    (writing_of g.W.TextOut)
    g.met.W.TextOut.adds_none (renewal_record c.args.venue c.args.session) c.args.self.now _
    c.index_mut-it.result.now c.renew.new.self c.args.writer.now c.renew.new.writer
    c.renew.result
    (slice_get_read c.args.self.now.venues.items (length c.args.self.now.venues.items)
    c.args.venue _ refl c.requires
    (rw (← c.index.ensures.value) c.index_mut-it.ensures.value))
    (ap (λ i. slice_set c.args.self.now.venues.items i c.renew.new.self) c.index.ensures.value)
    refl refl c.renew.ensures.form
    (λ feed h f is. c.renew.ensures.renews feed c.args.self.now.latest c.args.venue h f is)
    (λ feed h after f g. sym (append-nil c.args.self.now.given_up.items))
