use Rattle.std.proofs.Common.{◌≡◌, ℕ, ◌<◌, Some, slice_get}
use Rattle.packet_capture.specs.Datagrams.{datagram_content}
use Rattle.run_settings.specs.declared.captured_line.CapturedLine.{CapturedLine}
use Rattle.line_captures.specs.Lines.{Takes}
use Rattle.line_captures.proofs.captured_line.line_to.Given as goal

abbrev pub invariant-loop-line : goal.invariant-loop-line
invariant-loop-line l =
    (earlier : ℕ) (other : CapturedLine) → earlier < l.line-index
    → Some other ≡ slice_get l.lines earlier → Takes other (datagram_content l.datagram) → ⊥
