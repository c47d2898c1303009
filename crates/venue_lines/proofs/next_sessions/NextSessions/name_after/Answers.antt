use Rattle.std.proofs.Common.{◌≡◌, ℕ, ◌-◌, List, Option, sym, subst, ◌∙◌, arith}
use Rattle.std.specs.Prelude.{slice_get}
use Rattle.venue_lines.specs.NextSessions.{NextNames, name_after}
use Rattle.venue_lines.proofs.NextNames.{at_place, in_turn, named_in_turn}
use Rattle.venue_lines.proofs.Statuses.{same_venue}
use Rattle.venue_lines.proofs.next_sessions.NextSessions.name_after.Goals as goal

pub returns-clause-name : goal.returns-clause-name
returns-clause-name g c =
    let next : NextNames = record {
      venue = c.self.inside.of_venue;
      names = c.self.inside.in_order.items;
    } in
    let found : Option (List ℕ) = c.name_at.result in
    let is : found ≡ slice_get next.names (c.args.ordinal - 1) =
    at_place found c.as_slice.result.now next.names _ (c.args.ordinal - 1) c.name_at.ensures
    c.as_slice.ensures.value (omega arith) in
    subst (λ (v : NextNames). found ≡ name_after v c.args.venue c.args.ordinal) c.self.view_is
    (is ∙ sym (in_turn next c.args.venue c.args.ordinal c.ne.result c.ne.ensures c.if-ne.false))

pub returns-clause-named : goal.returns-clause-named
returns-clause-named g c =
    let next : NextNames = record {
      venue = c.self.inside.of_venue;
      names = c.self.inside.in_order.items;
    } in
    let is : c.name_at.result ≡ slice_get next.names (c.args.ordinal - 1) =
    at_place c.name_at.result c.as_slice.result.now next.names _ (c.args.ordinal - 1)
    c.name_at.ensures c.as_slice.ensures.value (omega arith) in
    named_in_turn g.G.Genuine.sessions next c.args.venue c.args.ordinal c.name_at.result
    c.self.invariant c.requires
    (same_venue next.venue c.args.venue c.ne.result c.ne.ensures c.if-ne.false) is
