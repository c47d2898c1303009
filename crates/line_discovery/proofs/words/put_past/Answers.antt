use Rattle.std.proofs.Common.{[], None}
use Rattle.packet_capture.specs.declared.datagram.Address.TheVariants.{V4}
use Rattle.line_discovery.specs.declared.line_key.LineKey.{LineKey}
use Rattle.line_discovery.specs.declared.words.VenueLines.{VenueLines}
use Rattle.line_discovery.specs.LineWords.{past_row}
use Rattle.line_discovery.proofs.Putting.{row_put}
use Rattle.line_discovery.proofs.words.put_past.Goals as goal

pub loop-venue-preserved : goal.loop-venue-preserved
loop-venue-preserved c =
    let key : LineKey = record { address = V4 []; port = 0; session = None } in
    let none : VenueLines = record { a = key; b = key } in
    row_put past_row c.args.venues.now c.loop-venue.venue-index none c.args.text.now.items
    c.loop-venue.text.items c.put_past_row.new.text.items c.loop-venue-test.true
    c.loop-venue.invariant c.in_ok-put_past_row.ensures
