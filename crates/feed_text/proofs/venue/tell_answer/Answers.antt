use Rattle.std.proofs.Common.{length, refl}
use Rattle.feed_text.specs.ReplayEvents.{packet_answered}
use Rattle.feed_text.proofs.venue.tell_answer.Goals as goal

pub returns : goal.returns
returns g c =
    c.tell.ensures (packet_answered c.args.venue c.args.line c.args.packet.now.number
    (length c.args.packet.now.messages) c.args.bytes c.args.answer.now) refl
    (rw (c.number.ensures.value, c.count.ensures.value) refl)
