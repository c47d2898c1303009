use Rattle.std.proofs.Common.{rules}
use Rattle.run_settings.proofs.Listed.{listed_more, listed_venues}
use Rattle.run_settings.proofs.line_list.lines_at.Goals as goal

pub loop-address-preserved : goal.loop-address-preserved
loop-address-preserved c = record {
  place = search rules;
  lines = listed_more c.args.addresses.now c.loop-address.place c.loop-address.address-index _
      c.loop-address.lines.items c.push_line.new.lines.items c.loop-address.invariant.place
      c.loop-address-test.true c.loop-address.invariant.lines c.in_ok-push_line.ensures;
}

pub returns-clause-venues : goal.returns-clause-venues
returns-clause-venues c = listed_venues c.args.addresses.now c.loop-address.address-index
    c.loop-address.lines.items c.loop-address-test.false c.loop-address.invariant.lines
