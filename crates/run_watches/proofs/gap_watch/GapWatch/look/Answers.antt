use Rattle.std.proofs.Common.{Some, ℕ, rules}
use Rattle.text_out.specs.Devices.{Writing}
use Rattle.text_out.specs.Members.{writing_of}
use Rattle.run_watches.proofs.Looking.{looked}
use Rattle.run_watches.specs.contracts.gap_watch.GapWatch.look.K-Fn as skip_of
use Rattle.run_watches.proofs.gap_watch.GapWatch.look.Goals as goal

pub returns-clause-looks : goal.returns-clause-looks
returns-clause-looks g c =
    let w : Writing g.row.E.Denot = writing_of g.E.TextOut in
    let skipping = skip_of.words g.row.S g.row.K g.row.E g.K.Fn in
    record {
      status = Some c.in-Some.status;
      shown = search (rules, c.status.ensures, c.in-Some.is);
      says =
          looked w c.args.names.now (λ (venue : ℕ). skipping.post c.args.skip venue) c.args.rule.now
          c.args.self.now c.tell_session.new.self c.stand.new.self c.tell_joins.new.self
          c.tell.new.self c.args.now_ms c.in-Some.status c.args.errors.now
          c.tell_session.new.errors c.tell_joins.new.errors c.tell.new.errors c.give_up.new.errors
          c.tell_session.ensures.watch c.stand.ensures c.tell_joins.ensures.watch
          c.tell.ensures.watch c.tell_session.ensures.tells c.tell_joins.ensures.tells
          c.tell.ensures.tells c.give_up.ensures.gives;
    }
