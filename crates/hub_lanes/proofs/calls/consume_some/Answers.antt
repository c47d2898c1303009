use Rattle.std.proofs.Common.{◌+◌, Ok, rules, arith, inr, subst, sym}
use Rattle.hub_lanes.specs.Hubs.{HubState}
use Rattle.hub_lanes.specs.Sections.{ConsumesOne}
use Rattle.hub_lanes.specs.Batches.{ConsumesCount}
use Rattle.hub_lanes.proofs.Batches.{start_count, one_more_item, none_more_item, had_room}
use Rattle.hub_lanes.proofs.calls.consume_some.Goals as goal

pub loop-count-init : goal.loop-count-init
loop-count-init g c = (
  search rules,
  search rules,
  start_count _ c.args.core.now _ (search rules) (search (rules, arith)),
)

pub loop-count-preserved : goal.loop-count-preserved
loop-count-preserved g c =
    let i = c.loop-count.invariant in
    let e = c.in-Ok-Some.ensures in
    let one = subst (λ (next : _). ConsumesOne c.args.venue (Ok next) c.loop-count.core
    c.consume.new.self) c.in-Ok-Some.field-0-is e.consume in (
      search rules,
      λ none. absurd (omega arith),
      subst
          (λ (s : HubState). ConsumesCount c.args.venue (c.loop-count.count + 1) c.args.core.now s)
          (sym c.note_item.ensures)
          (one_more_item c.args.venue c.args.core.now c.loop-count.count _ c.loop-count.core
          c.consume.new.self i.2 one e.kept),
    )

pub returns-in-Ok-None-clause-batch : goal.returns-in-Ok-None-clause-batch
returns-in-Ok-None-clause-batch g c =
    let i = c.loop-count.invariant in
    let e = c.in-Ok-None.ensures in
    let one = subst (λ (next : _). ConsumesOne c.args.venue (Ok next) c.loop-count.core
    c.consume.new.self) c.in-Ok-None.field-0-is e.consume in (
      search (rules, arith),
      none_more_item c.args.venue c.args.core.now c.loop-count.count c.loop-count.core
          c.consume.new.self i.2 one e.kept,
      λ none. inr (had_room c.args.venue c.args.core.now c.loop-count.core
          c.consume.new.self (i.1 none) one),
    )
