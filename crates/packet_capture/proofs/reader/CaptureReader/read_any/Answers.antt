use Rattle.std.proofs.Common.{◌∙◌, ap}
use Rattle.packet_capture.specs.Captures.{Context}
use Rattle.packet_capture.proofs.ReadBlocks.{stops_in_block}
use Rattle.packet_capture.proofs.reader.CaptureReader.read_any.Goals as goal

pub returns-in-Err-read_content-clause-stop : goal.returns-in-Err-read_content-clause-stop
returns-in-Err-read_content-clause-stop c =
    stops_in_block _ _ _ _ _ _ _ (c.as_slice.ensures.value ∙ ap (λ (x : Context). x.interfaces)
    c.self.view_is) c.in-Ok.ensures.block c.in-Err-read_content.ensures.fault
