-- What is read under a venue's lock, in terms of plain states.
use Rattle.std.proofs.Common.{◌≡◌, ℕ, Bool, false, not, subst, arith}
use Rattle.std.specs.Prelude.{◌==◌}
use Rattle.std.proofs.lemmas.Bool.Decides.{nat_tests}
use Rattle.feed_types.specs.declared.line.LineId.{LineId}
use Rattle.feed_types.specs.declared.line.LineId.TheVariants.{A, B, Recovery}
use Rattle.line_arbiter.specs.Histories.{History}
use Rattle.feed_types.specs.declared.genuine.Genuine.{Ghosts as Genuine}
use Rattle.feed_steps.specs.Lanes.{FeedLanes}
use Rattle.venue_lines.specs.declared.status.VenueStatus.{VenueStatus}
use Rattle.venue_lines.specs.Cells.{CellState, CellFitsHistory, VenueLockInvariant}
use Rattle.venue_lines.specs.Statuses.{ShowsHistory, ShowsSomeCell}

-- what holds of each line holds of all
pub on_each : (R : LineId → Type 0) → R A → R B → R Recovery → (line : LineId) → R line
on_each R a b recovery A = a
on_each R a b recovery B = b
on_each R a b recovery Recovery = recovery

-- what was read of a cell that a venue's lock kept
pub shows_some_cell : {S : Type 0} (premise : Genuine S)
    (lanes : FeedLanes) (venue : ℕ) (cell : CellState) (status : VenueStatus)
    → VenueLockInvariant premise lanes cell → cell.arbiter.venue ≡ venue
    → status.cursors.sent ≡ cell.arbiter.sent
    → ((h : History) → CellFitsHistory cell h
    → ShowsHistory cell.arbiter.window h cell.brought status)
    → ShowsSomeCell premise lanes venue status
shows_some_cell premise lanes venue cell status kept is sent shows = record {
  cell = cell;
  kept = kept;
  venue_is = is;
  sent = sent;
  shows = subst (λ (w : ℕ). ShowsHistory w kept.history cell.brought status) kept.window
      (shows kept.history kept.fits);
}

-- venues whose numbers don't differ are the same
pub same_venue : (m n : ℕ) (differ : Bool) → differ ≡ not (m == n) → differ ≡ false → m ≡ n
same_venue m n differ test none = grind (arith, nat_tests)
