use Rattle.std.proofs.Common.{rules, inl, inr}
use Rattle.std.specs.Prelude.{take}
use Rattle.udp_lines.proofs.Meeting.{exchanged, handed, held_back, kept_back}
use Rattle.udp_lines.specs.UdpLines.{held_in, kept_in, sorting_by}
use Rattle.udp_lines.proofs.intake.Intake.sort.Goals.{in-First, in-Unconfirmed, in-TooFar, in-Barred}
use Rattle.udp_lines.proofs.intake.Intake.sort.Goals as goal

pub returns-in-Plausible-clause-met : goal.returns-in-Plausible-clause-met
returns-in-Plausible-clause-met g c =
    λ before sender heard is.
    let d = g.S.DatagramIn in
    let old = c.args.self.now in
    let bytes = take c.args.count old.line_socket.buffer.items in
    handed d.brings d.waits g.met.S.DatagramIn.waits_not (sorting_by old) before
    old.line_socket.socket (kept_in old) sender bytes _ c.datagram_of.result.all.items
    c.judge.new.self.highest heard is c.judge.ensures.kept
    (c.judge.ensures.covers c.in-Plausible.is) (search (rules, c.deref.ensures.value))
    c.datagram_of.ensures

pub returns-in-Second-clause-met : goal.returns-in-Second-clause-met
returns-in-Second-clause-met g c =
    λ before sender heard is.
    let d = g.S.DatagramIn in
    let old = c.args.self.now in
    let why = c.judge.ensures.second c.in-Second.is in
    let bytes = take c.args.count old.line_socket.buffer.items in
    exchanged d.brings d.waits g.met.S.DatagramIn.waits_not (sorting_by old) before old
    c.exchange.new.self sender bytes _ (held_in c.exchange.result) heard is (inl why.1)
    (search (rules, c.deref.ensures.value)) (search (rules, c.exchange.ensures.first))
    (search (rules, c.exchange.ensures.rest))
    (search (rules, c.exchange.ensures.rest, c.datagram_of-second.ensures, why.0))

pub returns-clause-met : goal.returns-clause-met
returns-clause-met g c =
    λ before sender heard is.
    let d = g.S.DatagramIn in
    let old = c.args.self.now in
    let new = c.match-judge.self in
    let bytes = take c.args.count old.line_socket.buffer.items in
    elim c.match-judge.branch [
      | in-First w ↦
          let why = c.judge.ensures.first w.in-First.is in
          held_back d.brings d.waits g.met.S.DatagramIn.waits_not (sorting_by old) before old new
          sender bytes _ heard is (inl why.1) (search (rules, c.deref.ensures.value))
          (search (rules, w.self-is, w.hold.ensures))
          (search (rules, w.self-is, w.hold.ensures, w.datagram_of-first.ensures, why.0))
      | in-Unconfirmed w ↦
          let why = c.judge.ensures.held w.in-Unconfirmed.is in
          held_back d.brings d.waits g.met.S.DatagramIn.waits_not (sorting_by old) before old new
          sender bytes _ heard is (inr (why.1, why.2)) (search (rules, c.deref.ensures.value))
          (search (rules, w.self-is, w.hold-in-Unconfirmed.ensures))
          (search (
            rules,
            w.self-is,
            w.hold-in-Unconfirmed.ensures,
            w.datagram_of-end.ensures,
            why.0,
          ))
      | in-TooFar w ↦
          let why = c.judge.ensures.far w.in-TooFar.is in
          kept_back d.brings d.waits g.met.S.DatagramIn.waits_not (sorting_by old) before old new
          sender bytes _ heard is (inl why.1) (search (rules, c.deref.ensures.value))
          (search (rules, w.self-is, w.withhold.ensures))
          (search (rules, w.self-is, w.withhold.ensures, why.0))
      | in-Barred w ↦
          let why = c.judge.ensures.barred w.in-Barred.is in
          kept_back d.brings d.waits g.met.S.DatagramIn.waits_not (sorting_by old) before old new
          sender bytes _ heard is (inr (why.1, why.2)) (search (rules, c.deref.ensures.value))
          (search (rules, w.self-is, w.withhold-in-Barred.ensures))
          (search (rules, w.self-is, w.withhold-in-Barred.ensures, why.0))
    ]
