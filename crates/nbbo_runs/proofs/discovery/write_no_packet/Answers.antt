use Rattle.std.proofs.Common.{codes}
use Rattle.text_out.specs.Devices.{Writing}
use Rattle.text_out.specs.Members.{writing_of}
use Rattle.text_out.specs.laws.SaidTexts.{says_one}
use Rattle.nbbo_runs.proofs.NoPacket.{no_packet_none, no_packet_some}
use Rattle.nbbo_runs.proofs.discovery.write_no_packet.Goals as goal

pub returns-then-packets-ne0 : goal.returns-then-packets-ne0
returns-then-packets-ne0 g c =
    let w : Writing g.row.E.Denot = writing_of g.E.TextOut in
    no_packet_some w c.args.packets c.args.errors.now c.if-packets-ne0.true

pub returns : goal.returns
returns g c =
    let w : Writing g.row.E.Denot = writing_of g.E.TextOut in
    no_packet_none w c.args.packets c.args.errors.now c.write_stderr.new.errors
    c.if-packets-ne0.false
    (says_one w (codes "nbbo: no datagram is a MoldUDP64 packet\n") c.args.errors.now
    c.write_stderr.new.errors c.write_stderr.ensures)
