use Rattle.std.proofs.Common.{refl, ap, length}
use Rattle.std.specs.Prelude.{slice_set}
use Rattle.std.proofs.lemmas.Option.{slice_get_read}
use Rattle.normalising.proofs.Venues.{noted_at}
use Rattle.normalising.proofs.normalised_venues.NormalisedVenues.note_gap.Goals as goal

pub returns : goal.returns
returns c = noted_at c.args.self.now _ c.args.venue c.index_mut-it.result.now c.note_gap.new.self
    (slice_get_read c.args.self.now.venues.items (length c.args.self.now.venues.items)
    c.args.venue _ refl c.requires
    (rw (← c.index.ensures.value) c.index_mut-it.ensures.value))
    (ap (λ i. slice_set c.args.self.now.venues.items i c.note_gap.new.self) c.index.ensures.value)
    refl refl refl refl c.note_gap.ensures
