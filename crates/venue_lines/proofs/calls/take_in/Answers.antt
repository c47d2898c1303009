use Rattle.std.proofs.Common.{◌≡◌, Err, false, sym, ◌∙◌}
use Rattle.line_arbiter.specs.declared.outcome.LineFault.TheVariants.{OtherSession}
use Rattle.venue_lines.specs.Joins.{RenewsAndTakes}
use Rattle.venue_lines.specs.Sections.{TakesAndPushesReady}
use Rattle.venue_lines.proofs.CellMoves.{at_venue}
use Rattle.venue_lines.proofs.Joins.{early_joining}
use Rattle.venue_lines.proofs.NextNames.{early_renewing}
use Rattle.venue_lines.proofs.Statuses.{same_venue}
use Rattle.venue_lines.proofs.calls.take_in.Goals as goal

pub returns-clause-answer : goal.returns-clause-answer
returns-clause-answer g c =
    let seat = c.args.seat.now in
    let answer = c.take_one-answer.result in
    let first = c.join_if_asked-joined.new.cell in
    let same = same_venue c.venue.result c.venue-2.result c.ne.result c.ne.ensures c.if-ne.false in
    at_venue g.G.Genuine g.N.FeedName.lanes seat.venue
    (TakesAndPushesReady seat.line c.args.packet.now answer) (answer ≡ Err OtherSession)
    first c.push_ready-pushed.new.cell c.show_lock_invariant-3.ensures
    (c.join_if_asked-joined.ensures.venue ∙ c.renew_if_named-renewed.ensures.venue
    ∙ sym c.venue.ensures ∙ same ∙ c.venue-2.ensures)
    c.show_lock_invariant-4.ensures (record {
      between = c.take_one-answer.new.cell;
      takes = c.take_one-answer.ensures.takes;
      kept = c.take_one-answer.ensures.kept;
      pushed = c.push_ready-pushed.result.0;
      pushes = c.push_ready-pushed.ensures;
    })

pub returns-clause-joins : goal.returns-clause-joins
returns-clause-joins g c =
    let seat = c.args.seat.now in
    let answer = c.take_one-answer.result in
    let renewed = c.renew_if_named-renewed.result in
    let joined = c.join_if_asked-joined.result in
    let same = same_venue c.venue.result c.venue-2.result c.ne.result c.ne.ensures c.if-ne.false in
    at_venue g.G.Genuine g.N.FeedName.lanes seat.venue
    (RenewsAndTakes c.args.next.now c.args.join seat.line c.args.packet.now renewed joined answer)
    ((answer ≡ Err OtherSession) × (renewed ≡ false) × (joined ≡ false))
    c.args.cell.now c.push_ready-pushed.new.cell c.show_lock_invariant.ensures
    (sym c.venue.ensures ∙ same ∙ c.venue-2.ensures) c.show_lock_invariant-4.ensures (record {
      begun = c.renew_if_named-renewed.new.cell;
      renews = c.renew_if_named-renewed.ensures.renews;
      takes = record {
        first = c.join_if_asked-joined.new.cell;
        joins = c.join_if_asked-joined.ensures.joins;
        takes = record {
          between = c.take_one-answer.new.cell;
          takes = c.take_one-answer.ensures.takes;
          kept = c.take_one-answer.ensures.kept;
          pushed = c.push_ready-pushed.result.0;
          pushes = c.push_ready-pushed.ensures;
        };
      };
    })

pub returns-clause-early : goal.returns-clause-early
returns-clause-early g c =
    early_renewing g.G.Genuine c.args.next.now c.renew_if_named-renewed.result c.args.packet.now
    c.take_one-answer.result c.args.cell.now c.renew_if_named-renewed.new.cell
    c.renew_if_named-renewed.ensures.renews
    (early_joining g.G.Genuine c.args.join c.join_if_asked-joined.result c.args.seat.now.line
    c.args.packet.now c.take_one-answer.result c.renew_if_named-renewed.new.cell
    c.join_if_asked-joined.new.cell c.take_one-answer.new.cell
    c.join_if_asked-joined.ensures.joins c.take_one-answer.ensures.takes
    c.take_one-answer.ensures.early)
