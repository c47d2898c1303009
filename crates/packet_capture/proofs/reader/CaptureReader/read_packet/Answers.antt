use Rattle.std.proofs.Common.{List, length, Some, refl, sym, ap, ◌∙◌, arith}
use Rattle.packet_capture.specs.declared.drop_report.DropReport.TheVariants.{Silent}
use Rattle.packet_capture.specs.declared.interface.Interface.{Interface}
use Rattle.packet_capture.specs.Captures.{Context, piece_of}
use Rattle.packet_capture.specs.Frames.{frame_of}
use Rattle.packet_capture.proofs.ReadBlocks.{is_packet_piece}
use Rattle.packet_capture.proofs.reader.CaptureReader.read_packet.Goals as goal

pub returns-in-Some-read_enhanced : goal.returns-in-Some-read_enhanced
returns-in-Some-read_enhanced c =
    let block = c.in-Some.block.now in
    let value = c.as_slice.ensures.value in
    let long = ap (λ (xs : List Interface). length xs) value in
    let frame = c.in-Some-read_enhanced.frame in
    is_packet_piece c.args.section c.args.self.now c.args.bytes.now block c.as_slice.result.now
    (frame_of frame)
    (piece_of (record { len = length block; frame = Some frame; dropped = Silent }))
    (value ∙ ap (λ (x : Context). x.interfaces) c.self.view_is) c.requires
    c.in-Some.ensures.block c.in-Some-read_enhanced.ensures.frame
    (omega (arith, long, c.as_slice.ensures.fits)) refl refl
    (sym c.in-Some-read_enhanced.ensures.silent)
