use Rattle.std.proofs.Common.{◌∙◌, arith, sym, rules}
use Rattle.venue_normaliser.proofs.Moved.{end_read, end_sound, end_whole}
use Rattle.venue_normaliser.proofs.end_number.end_after.Goals as goal

pub returns-in-Ok-clause-moved : goal.returns-in-Ok-clause-moved
returns-in-Ok-clause-moved c =
    let v = c.number.ensures.value in
    let e = c.in_ok-number.ensures in
    end_read c.args.packet.now c.session.result c.in_ok-number.number
    c.write_packet-written.new.out c.in-Ok.end _ c.requires c.number.ensures.content
    c.session.ensures.value (omega arith) (omega arith)
    (end_whole c.session.result c.in_ok-number.number c.write_packet-written.result
    c.args.bytes.now c.write_packet-written.new.out (search rules) (search rules)
    (sym c.is_err.ensures.value ∙ c.if-is_err.false) c.write_packet-written.ensures.spelled
    c.write_packet-written.ensures.first)
    c.in-Ok.ensures.spelled.1

pub returns-in-Err-clause-greatest : goal.returns-in-Err-clause-greatest
returns-in-Err-clause-greatest c =
    absurd (end_sound _ c.write_packet-written.new.out c.in-Err.field-0
    (end_whole c.session.result c.in_ok-number.number c.write_packet-written.result
    c.args.bytes.now c.write_packet-written.new.out (search rules) (search rules)
    (sym c.is_err.ensures.value ∙ c.if-is_err.false) c.write_packet-written.ensures.spelled
    c.write_packet-written.ensures.first)
    c.in-Err.ensures.fault)
