use Rattle.std.proofs.Common.{◌≡◌, ℕ, List, [], rules, subst, sym, take}
use Rattle.std.proofs.lemmas.List.{places, with_items_is}
use Rattle.udp_lines.proofs.Meeting.{passed_over}
use Rattle.udp_lines.specs.Brought.{HasMet, one_counted}
use Rattle.udp_lines.specs.Sockets.{HearsFrom}
use Rattle.udp_lines.specs.UdpLines.{kept_in, sorting_by}
use Rattle.udp_lines.proofs.intake.Intake.receive.Goals as goal

pub returns-in-Some-clause-met : goal.returns-in-Some-clause-met
returns-in-Some-clause-met g c =
    let d = g.S.DatagramIn in
    let line = c.args.self.now.line_socket in
    let heard = c.in-Taken.ensures.1 in
    let same = with_items_is line.buffer c.try_receive.new.buffer (search (rules, places)) in
    c.in-Some.ensures.met line.socket heard.sender
    (subst (λ (b : List ℕ). HearsFrom d.brings d.waits line.socket heard.sender
    (take c.in-Taken.count b) c.try_receive.new.socket) (sym same) heard.heard) heard.is

pub returns-in-None-clause-met : goal.returns-in-None-clause-met
returns-in-None-clause-met g c =
    let d = g.S.DatagramIn in
    let line = c.args.self.now.line_socket in
    let heard = c.in-Taken.ensures.1 in
    let same = with_items_is line.buffer c.try_receive.new.buffer (search (rules, places)) in
    c.in-None.ensures.met line.socket heard.sender
    (subst (λ (b : List ℕ). HearsFrom d.brings d.waits line.socket heard.sender
    (take c.in-Taken.count b) c.try_receive.new.socket) (sym same) heard.heard) heard.is

pub returns-in-Foreign-clause-met : goal.returns-in-Foreign-clause-met
returns-in-Foreign-clause-met g c =
    let d = g.S.DatagramIn in
    let old = c.args.self.now in
    let heard = c.in-Foreign.ensures in
    let e : c.saturating_add-self.result ≡ one_counted old.foreign =
    search (rules, c.saturating_add-self.ensures) in
    subst (λ (n : ℕ). HasMet d.brings d.waits (sorting_by old) old.line_socket.socket (kept_in old)
    [] c.try_receive.new.socket (record (kept_in old) { foreign = n })) (sym e)
    (passed_over d.brings d.waits g.met.S.DatagramIn.waits_not (sorting_by old)
    old.line_socket.socket c.try_receive.new.socket (kept_in old) heard.0 heard.1)
