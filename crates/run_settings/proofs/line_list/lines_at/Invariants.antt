use Rattle.std.proofs.Common.{◌≡◌, take}
use Rattle.run_settings.specs.Lists.{lines_from}
use Rattle.run_settings.proofs.line_list.lines_at.Given as goal

abbrev pub invariant-loop-address : goal.invariant-loop-address
invariant-loop-address l = record {
  place : l.place ≡ l.address-index;
  lines : l.lines.items ≡ lines_from 0 (take l.address-index l.addresses);
}
