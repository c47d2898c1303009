use Rattle.std.proofs.Common.{◌≡◌, ℕ, sym, ap, subst, ◌∙◌}
use Rattle.feed_types.specs.PerLines.{on_line}
use Rattle.line_arbiter.specs.Fits.{Fits, cursors_of}
use Rattle.line_arbiter.specs.States.{State}
use Rattle.line_arbiter.specs.Streams.{gap_of}
use Rattle.venue_lines.proofs.Statuses.{on_each}
use Rattle.venue_lines.specs.Statuses.{ShowsBrought, ShowsLine, status_on}
use Rattle.venue_lines.specs.declared.status.VenueStatus.{VenueStatus}
use Rattle.venue_lines.proofs.status.VenueStatus.of.Given.{Over}
use Rattle.venue_lines.proofs.status.VenueStatus.of.Goals as goal
use Rattle.venue_lines.proofs.status.VenueStatus.of.Goals.{After-line_counts-3}

module _ (g : Over) (c : After-line_counts-3 g) where
  abbrev shown_so : VenueStatus
  shown_so = record {
    ordinal = c.ordinal.result;
    session = c.session.result;
    cursors = c.status.result;
    gap = c.gap.result;
    requests = c.args.locked.now.requests;
    before_join = c.args.locked.now.before_join;
    a = c.line_counts.result;
    b = c.line_counts-2.result;
    recovery = c.line_counts-3.result;
  }

pub returns-clause-shows : goal.returns-clause-shows
returns-clause-shows g c = λ h fits.
    let packets = h.present.packets in
    let arbiter : c.arbiter-arbiter.result.now ≡ c.args.locked.now.cell.arbiter =
    c.arbiter-arbiter.ensures in
    let here = subst (λ (s : State). Fits s packets) (sym arbiter) fits.history.present in
    let sent = sym c.status.ensures.cursors.sent in
    let name = ap (λ (s : State). s.session) arbiter ∙ fits.history.session in
    record {
      ordinal = search;
      session = search;
      cursors = c.status.ensures.packets packets here ∙ ap (λ (n : ℕ). cursors_of n packets) sent;
      gap = c.gap.ensures packets here
          ∙ (λ i. gap_of (name i) ((arbiter i).window) (sent i) packets);
      lines = on_each
          (λ line. ShowsLine h line (on_line line c.args.locked.now.cell.brought)
          (status_on line (shown_so g c)))
          (c.line_counts.ensures.shows h fits) (c.line_counts-2.ensures.shows h fits)
          (c.line_counts-3.ensures.shows h fits);
    }

pub returns-clause-counts : goal.returns-clause-counts
returns-clause-counts g c =
    on_each (λ line. ShowsBrought (on_line line c.args.locked.now.cell.brought)
    (status_on line (shown_so g c)))
    c.line_counts.ensures.counts c.line_counts-2.ensures.counts c.line_counts-3.ensures.counts
