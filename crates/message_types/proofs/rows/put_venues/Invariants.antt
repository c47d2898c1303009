use Rattle.std.proofs.Common.{◌≡◌, ◌++◌}
use Rattle.report_rows.specs.FirstTexts.{first_texts}
use Rattle.message_types.specs.TypeTexts.{venue_rows}
use Rattle.message_types.proofs.rows.put_venues.Given as goal

abbrev pub invariant-loop-place : goal.invariant-loop-place
invariant-loop-place l = l.text.items ≡ l.fn.text.items
    ++ first_texts (venue_rows l.format l.counts) l.place
