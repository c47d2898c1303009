use Rattle.std.proofs.Common.{◌≡◌, length}
use Rattle.std.specs.Prelude.{vec_capacity}
use Rattle.normalising.proofs.Reports.{AreOfVenues}
use Rattle.normalising.proofs.conversion.report_each.Given as goal

abbrev pub invariant-loop-venue : goal.invariant-loop-venue
invariant-loop-venue l = record {
  count : length l.reports.items ≡ l.venue-index;
  each : AreOfVenues l.venues l.reports.items;
  capacity : vec_capacity l.reports ≡ vec_capacity l.fn.reports;
}
