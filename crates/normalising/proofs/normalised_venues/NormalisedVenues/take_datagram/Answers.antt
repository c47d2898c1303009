use Rattle.text_out.specs.Members.{writing_of}
use Rattle.std.proofs.Common.{sym, ap, subst, Ok, Err}
use Rattle.std.proofs.lemmas.Result.{err_from_is_err_and}
use Rattle.capture_records.specs.Capture.{record_venue}
use Rattle.normalising.specs.Keeping.{GivesNext}
use Rattle.normalising.proofs.Venues.{bad_taken, first_then, named_packet, same_then, stop_first, takes_itself, takes_then}
use Rattle.normalising.proofs.normalised_venues.NormalisedVenues.take_datagram.Goals as goal

pub returns-in_default-clause-takes : goal.returns-in_default-clause-takes
returns-in_default-clause-takes g c = λ r is. takes_itself
    (writing_of g.W.TextOut)
    r c.args.self.now c.count_bad.new.self c.args.writer.now c.args.writer.now (Ok (tt {0}))
    (subst (λ what. GivesNext
    (writing_of g.W.TextOut) what
    c.args.self.now c.count_bad.new.self c.args.writer.now c.args.writer.now (Ok (tt {0}))) (sym is)
    (bad_taken (writing_of g.W.TextOut)
    g.met.W.TextOut.adds_none c.args.self.now c.count_bad.new.self c.args.venue c.args.line
    c.args.bytes.now _ c.args.writer.now (tt {0}) c.requires c.in_default.ensures.fault
    c.count_bad.ensures))

pub returns-in_err-follow-clause-takes : goal.returns-in_err-follow-clause-takes
returns-in_err-follow-clause-takes g c = λ r is.
    let p = err_from_is_err_and c.from_residual.result c.from_residual.ensures.1 in
    rw (p.1, p.2) (stop_first (Unit {0}) (Unit {0})
    (writing_of g.W.TextOut)
    r c.args.self.now c.follow.new.self c.args.writer.now c.follow.new.writer _
    (c.in_err-follow.ensures.puts_in r
    (named_packet r c.args.venue c.args.line c.args.bytes.now _ _ is c.in-Ok.ensures.spelled.1)))

pub returns-in_err-make_room-clause-takes : goal.returns-in_err-make_room-clause-takes
returns-in_err-make_room-clause-takes g c = λ r is.
    let p = err_from_is_err_and c.from_residual-in_err-make_room.result
    c.from_residual-in_err-make_room.ensures.1 in
    rw (p.1, p.2) (stop_first (Unit {0}) (Unit {0})
    (writing_of g.W.TextOut)
    r c.args.self.now c.make_room.new.self c.args.writer.now c.make_room.new.writer _
    (first_then (writing_of g.W.TextOut)
    g.met.W.TextOut.adds_more r c.args.self.now c.follow.new.self c.make_room.new.self
    c.args.writer.now c.follow.new.writer c.make_room.new.writer c.in_ok-follow.ensures.same
    {B = Unit {0}} (tt {0}) (Err c.in_err-make_room.field-0.0)
    (c.in_ok-follow.ensures.puts_in r
    (named_packet r c.args.venue c.args.line c.args.bytes.now _ _ is c.in-Ok.ensures.spelled.1))
    (c.in_err-make_room.ensures.puts_in r (ap record_venue (sym is)))))

pub returns-clause-takes : goal.returns-clause-takes
returns-clause-takes g c = λ r is.
    let spelled = c.in-Ok.ensures.spelled in
    takes_then (writing_of g.W.TextOut)
    g.met.W.TextOut.adds_more r c.args.self.now c.make_room.new.self c.give_packet.new.self
    c.args.writer.now c.make_room.new.writer c.give_packet.new.writer
    (same_then c.args.self.now c.follow.new.self c.make_room.new.self
    c.in_ok-follow.ensures.same c.in_ok-make_room.ensures.same) (tt {0}) c.give_packet.result
    (first_then (writing_of g.W.TextOut)
    g.met.W.TextOut.adds_more r c.args.self.now c.follow.new.self c.make_room.new.self
    c.args.writer.now c.follow.new.writer c.make_room.new.writer
    c.in_ok-follow.ensures.same (tt {0})
    (Ok (tt {0})) (c.in_ok-follow.ensures.puts_in r
    (named_packet r c.args.venue c.args.line c.args.bytes.now _ _ is c.in-Ok.ensures.spelled.1))
    (c.in_ok-make_room.ensures.puts_in r (ap record_venue (sym is))))
    (takes_itself (writing_of g.W.TextOut)
    r c.make_room.new.self c.give_packet.new.self c.make_room.new.writer c.give_packet.new.writer
    c.give_packet.result
    (subst (λ what. GivesNext
    (writing_of g.W.TextOut) what
    c.make_room.new.self c.give_packet.new.self c.make_room.new.writer c.give_packet.new.writer
    c.give_packet.result) (sym is)
    (c.give_packet.ensures.takes c.args.bytes.now spelled.0 spelled.1)))
