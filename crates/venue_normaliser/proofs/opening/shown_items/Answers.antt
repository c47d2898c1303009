use Rattle.std.proofs.Common.{◌≡◌, ◌<◌, length, arith}
use Rattle.venue_normaliser.proofs.Making.{all_shown, row_more}
use Rattle.venue_normaliser.proofs.opening.shown_items.Goals as goal

pub loop-place-preserved : goal.loop-place-preserved
loop-place-preserved c =
    let lt : c.loop-place.place < length c.args.book.now.rows =
    let rows = c.symbol_count-count.ensures.rows in
    let test = c.loop-place-test.true in omega arith in
    row_more c.args.book.now.rows c.loop-place.place c.row.result c.loop-place.items.items
    c.put_row.new.items.items lt c.row.ensures c.loop-place.invariant c.in_ok-put_row.ensures

pub returns : goal.returns
returns c =
    let low = c.loop-place-test.false in
    let most = c.loop-place.auto.place-end in
    let keys : c.loop-place.place ≡ length c.args.book.now.keys =
    let k = c.symbol_count-count.ensures.keys in omega arith in
    let rows : c.loop-place.place ≡ length c.args.book.now.rows =
    let r = c.symbol_count-count.ensures.rows in omega arith in
    all_shown c.args.book.now c.loop-place.place c.loop-place.items.items keys rows
    c.loop-place.invariant
