use Rattle.std.proofs.Common.{◌∙◌, sym}
use Rattle.venue_normaliser.proofs.Making.{makes_item}
use Rattle.venue_normaliser.proofs.putting_out.put_message.Goals as goal

pub returns-clause-put : goal.returns-clause-put
returns-clause-put c =
    let before = sym c.symbol_count-rows_before.ensures.rows
    ∙ c.symbol_count-rows_before.ensures.keys in
    let after = sym c.symbol_count-rows_after.ensures.rows
    ∙ c.symbol_count-rows_after.ensures.keys in
    rw (← c.read_event-event.ensures) (record {
      item = c.in_ok-item.item;
      appended = c.in_ok-put_out.ensures;
      keys = c.in_ok-item.ensures.keys;
      fits = c.in_ok-item.ensures.fits;
      made = λ events fits. makes_item _ _ events c.read_event-event.result c.in_ok-item.item fits
          (c.in_ok-item.ensures.fits events fits) c.in_ok-item.ensures.keys before after
          c.in_ok-item.ensures.told;
    })
