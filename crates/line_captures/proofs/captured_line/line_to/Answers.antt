use Rattle.std.proofs.Common.{length, refl, sym}
use Rattle.std.proofs.lemmas.Option.{slice_get_read}
use Rattle.packet_capture.specs.Datagrams.{datagram_content}
use Rattle.run_settings.specs.declared.captured_line.CapturedLine.{CapturedLine}
use Rattle.line_captures.specs.Lines.{Takes}
use Rattle.line_captures.proofs.Finding.{none_more}
use Rattle.line_captures.proofs.captured_line.line_to.Goals as goal

pub loop-line-preserved : goal.loop-line-preserved
loop-line-preserved c = none_more (λ (line : CapturedLine). Takes line
    (datagram_content c.args.datagram.now)) c.args.lines.now c.loop-line.line-index
    c.line-item.result c.loop-line-test.true c.line-item.is c.loop-line.invariant (λ t. let e =
    c.if-takes.ensures.1 t in absurd cc)

pub returns-then-takes-clause-some : goal.returns-then-takes-clause-some
returns-then-takes-clause-some c = record {
  place = c.loop-line.line-index;
  is = sym (slice_get_read c.args.lines.now (length c.args.lines.now) c.loop-line.line-index
      c.line-item.result refl c.loop-line-test.true c.line-item.is);
  takes = c.if-takes.ensures.0 refl;
  first = c.loop-line.invariant;
}
