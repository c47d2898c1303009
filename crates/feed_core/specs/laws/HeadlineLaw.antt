-- The headline, from its halves.
use Rattle.std.proofs.Common.{List}
use Rattle.feed_steps.specs.declared.event.Event.{Event}
use Rattle.feed_steps.specs.declared.event.Done.{Done}
use Rattle.feed_core.specs.Worlds.{World, Setting, new_world}
use Rattle.feed_core.specs.Runs.{IsRun}
use Rattle.feed_core.specs.Headline.{Headline, Shown, IsRunOf, ShowsHeadline}
use Rattle.feed_core.specs.laws.VenueHalfLaw.{venue_half}
use Rattle.feed_core.specs.laws.SubscriberHalfLaw.{subscriber_half}
use Rattle.feed_core.specs.laws.FirstNames.{first_through}
use Rattle.feed_core.specs.laws.JournaledItems.{journaled_through}
use Rattle.feed_core.specs.laws.KeptTerms.{terms_in_turn}

pub headline : (s : Setting) (events : List Event) (ds : List Done) (w : World)
    → IsRun s (new_world s) events ds w
    → Headline s events w
headline s events ds w run = record {
  venues = venue_half s events ds w run;
  first = first_through s events ds w run;
  journaled = journaled_through s events ds w run;
  subscribers = subscriber_half s events ds w run;
  terms = terms_in_turn s events ds w run;
}

pub shows_headline : (s : Setting) (events : List Event) (shown : Shown) → IsRunOf s events shown
    → ShowsHeadline s events shown
shows_headline s events shown r =
    record { of = r; headline = headline s events shown.outcomes r.world r.run }
