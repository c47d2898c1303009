use Rattle.text_out.specs.Members.{writing_of}
use Rattle.std.proofs.Common.{refl}
use Rattle.std.proofs.lemmas.Result.{err_from_is_err_and, on_ok_weaker}
use Rattle.capture_records.specs.Capture.{datagram_record}
use Rattle.normalising.proofs.Packing.{if_err_weaker}
use Rattle.normalising.proofs.Venue.{given_one, given_row, given_takes, packet_at, packet_given}
use Rattle.normalising.proofs.normalised_venue.NormalisedVenue.take.Goals as goal

pub returns-in_err-answer-clause-takes : goal.returns-in_err-answer-clause-takes
returns-in_err-answer-clause-takes g c =
    let p = err_from_is_err_and c.from_residual.result c.from_residual.ensures.1 in
    rw (p.1, p.2) (λ feed place h bytes more follows spells form_is. (refl, refl))

pub returns-clause-takes : goal.returns-clause-takes
returns-clause-takes g c = λ feed place h bytes more follows spells form_is.
    let said = c.in_ok-answer.ensures in
    let w = packet_given feed place c.args.output.now.page.form h c.args.self.now
    c.take.new.self c.write_more.new.self c.args.line c.args.packet.now
    c.in_ok-answer.answer c.take.new.out.items follows form_is said.kept.0 said.kept.1
    c.write_more.ensures.same said.fits said.output in
    given_takes w c.args.time (writing_of g.W.TextOut)
    (datagram_record place c.args.line bytes) c.args.writer.now c.write_more.new.writer
    c.args.output.now.page.page c.write_more.new.output.page.page
    (packet_at feed c.args.time place h c.args.self.now c.args.line bytes more
    c.args.packet.now c.in_ok-answer.answer _ follows spells
    (said.outcome h.opening _ follows.fits))
    c.write_more.result
    (on_ok_weaker c.write_more.result
    (λ put. put _ _ _ w.fits (given_one w) (given_row w)) c.write_more.ensures.put)
    (if_err_weaker c.write_more.result
    (λ stop stopped. stopped _ _ _ w.fits (given_one w) (given_row w))
    c.write_more.ensures.stopped) c.write_more.ensures.written
