use Rattle.std.proofs.Common.{◌∙◌, refl}
use Rattle.normalising.proofs.normalised_venues.NormalisedVenues.write.Goals as goal

pub returns-clause-follows : goal.returns-clause-follows
returns-clause-follows g c = λ time at f.
    record {
      venues = f.venues;
      latest = f.latest;
      form = c.write.ensures.form ∙ f.form;
      given_up = f.given_up;
    }

pub returns-clause-same : goal.returns-clause-same
returns-clause-same g c = record { settings = refl; count = refl }
