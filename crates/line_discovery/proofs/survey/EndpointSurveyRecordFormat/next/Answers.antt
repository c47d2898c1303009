use Rattle.std.proofs.Common.{ap}
use Rattle.packet_capture.specs.Captures.{Context, piece_of}
use Rattle.line_discovery.specs.declared.survey.EndpointSurvey.{EndpointSurvey}
use Rattle.line_discovery.proofs.Reading.{piece_read, stop_read}
use Rattle.line_discovery.proofs.survey.EndpointSurveyRecordFormat.next.Goals as goal

pub returns-in-Ok-clause-steps : goal.returns-in-Ok-clause-steps
returns-in-Ok-clause-steps c =
    let s = c.args.self.now in
    let t : EndpointSurvey = record {
      capture = c.next_piece.new.self;
      counts = c.count_piece.new.self;
    } in
    piece_read c.read_as_bytes_come.ensures.piece s t c.args.bytes.now (piece_of c.in-Ok.piece)
    c.in-Ok.ensures.piece c.count_piece.ensures

pub returns-in-Err-clause-steps : goal.returns-in-Err-clause-steps
returns-in-Err-clause-steps c =
    let s = c.args.self.now in
    let t : EndpointSurvey = record {
      capture = c.next_piece.new.self;
      counts = s.counts;
    } in
    stop_read s t c.args.bytes.now c.in-Err.stop c.step_at.result c.in-Err.ensures.stop
    (ap (λ (x : Context). record { capture = x; counts = s.counts }) c.in-Err.ensures.kept)
    c.step_at.ensures
