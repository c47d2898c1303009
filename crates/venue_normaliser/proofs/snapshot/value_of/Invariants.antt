use Rattle.std.proofs.Common.{◌≡◌, ◌≤◌, take}
use Rattle.venue_normaliser.specs.Snapshots.{digits_value}
use Rattle.venue_normaliser.proofs.snapshot.value_of.Given as goal

abbrev pub invariant-loop-digit : goal.invariant-loop-digit
invariant-loop-digit l = record {
  is : l.value ≡ digits_value (take l.digit-index l.digits);
  most : l.value ≤ 4294967295;
}
