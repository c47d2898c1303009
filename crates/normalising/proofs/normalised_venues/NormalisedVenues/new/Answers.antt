use Rattle.std.proofs.Common.{[], rules, ◌∙◌, refl, sym}
use Rattle.normalising.proofs.normalised_venues.NormalisedVenues.new.Goals as goal

pub returns-clause-begun : goal.returns-clause-begun
returns-clause-begun c =
    let made = c.in_ok-venues.ensures.made in
    record {
      settings = refl;
      at = record { venues = made.histories; latest = 0; given_up = [] };
      is_new = record {
        count = sym made.follow.count ∙ c.in_ok-venues.ensures.count;
        each = made.each;
        latest = refl;
        given_up = refl;
      };
      follows = record {
        venues = made.follow;
        latest = search rules;
        form = search rules;
        given_up = search rules;
      };
      waits = search rules;
    }
