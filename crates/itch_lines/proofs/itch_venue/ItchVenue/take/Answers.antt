use Rattle.std.proofs.Common.{inr}
use Rattle.item_packets.specs.Packed.{bytes_of_each}
use Rattle.itch_lines.proofs.Bringing.{begun_and_made}
use Rattle.itch_lines.proofs.itch_venue.ItchVenue.take.Goals as goal

pub returns-then-renewed-clause-takes : goal.returns-then-renewed-clause-takes
returns-then-renewed-clause-takes c = λ packets put fits out. inr (record {
  packet = c.in-Ok.packet;
  rest = c.in-Ok.ensures.spelled.0;
  spells = c.in-Ok.ensures.spelled.1;
  renewed = c.in_ok-renewed.renewed;
  between = c.renew_at.new.self.normaliser;
  begins = c.in_ok-renewed.ensures.renews;
  answer = c.in_ok-_answer._answer;
  brings = begun_and_made c.args.self.now.names.items c.args.line c.in-Ok.packet
      c.in_ok-renewed.renewed c.in_ok-_answer._answer c.args.self.now.normaliser
      c.renew_at.new.self.normaliser c.take_packet.new.self.normaliser packets put
      (bytes_of_each c.take_packet.new.made.items) c.in_ok-renewed.ensures.renews
      c.in_ok-_answer.ensures.takes fits out;
})

pub returns-else-renewed-clause-takes : goal.returns-else-renewed-clause-takes
returns-else-renewed-clause-takes c = λ packets put fits out. inr (record {
  packet = c.in-Ok.packet;
  rest = c.in-Ok.ensures.spelled.0;
  spells = c.in-Ok.ensures.spelled.1;
  renewed = c.in_ok-renewed.renewed;
  between = c.renew_at.new.self.normaliser;
  begins = c.in_ok-renewed.ensures.renews;
  answer = c.in_ok-_answer._answer;
  brings = begun_and_made c.args.self.now.names.items c.args.line c.in-Ok.packet
      c.in_ok-renewed.renewed c.in_ok-_answer._answer c.args.self.now.normaliser
      c.renew_at.new.self.normaliser c.take_packet.new.self.normaliser packets put
      (bytes_of_each c.take_packet.new.made.items) c.in_ok-renewed.ensures.renews
      c.in_ok-_answer.ensures.takes fits out;
})
