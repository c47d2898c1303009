use Rattle.std.proofs.Common.{◌++◌, ◌∙◌, ap, ap₂}
use Rattle.itch_book.specs.Books.{session_orders_of}
use Rattle.venue_normaliser.specs.Brought.{messages_brought}
use Rattle.venue_normaliser.specs.Outputs.{events_of}
use Rattle.normalising.specs.Normalised.{inputs_of}
use Rattle.normalising.specs.Reported.{standing_gap}
use Rattle.normalising.proofs.normalised_venue.NormalisedVenue.report.Goals as goal

pub returns : goal.returns
returns c = λ feed place h f. record {
  venue = c.venue.ensures ∙ f.venue;
  sent = c.args.self.now.normaliser.lines.sent;
  all_sent = f.fits.all_sent;
  missing = c.missing.ensures h.opening (inputs_of h) f.fits
      ∙ ap₂ (λ name width. standing_gap name width c.args.self.now.normaliser.lines.sent h.opening
      (inputs_of h)) f.session f.window;
  oddities = λ going. c.oddities.ensures h.opening (inputs_of h) f.fits (f.fits.given_up ∙ going)
      ∙ ap (λ keys. (session_orders_of keys (events_of
      (h.opening.messages ++ messages_brought h.opening.number (inputs_of h)))).oddities) f.keys;
}
