use Rattle.udp_listening.proofs.Noting.{settled_noted}
use Rattle.udp_listening.proofs.unchanged.settled_unchanged.Goals as goal

pub returns : goal.returns
returns c =
    λ symbols h.
    settled_noted c.args.settlement.now symbols c.args.unchanged c.note_first_rest.new.unchanged h
    c.note_first_rest.ensures
