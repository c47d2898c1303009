use Rattle.std.proofs.Common.{◌++◌, ◌∙◌, ℕ, ap}
use Rattle.message_types.specs.TypeTexts.{venue_rows}
use Rattle.message_types.proofs.FirstRows.{one_more}
use Rattle.message_types.proofs.rows.put_venues.Goals as goal

pub loop-place-preserved : goal.loop-place-preserved
loop-place-preserved c =
    let rows = venue_rows c.args.format c.args.counts.now in
    let items = c.loop-place.text.items in
    one_more rows c.loop-place.place c.args.text.now.items items c.put_venue.new.text.items
    c.loop-place.invariant
    (c.in_ok-put_venue.ensures ∙ ap (λ (venue : ℕ). items ++ rows venue) c.at.ensures)
