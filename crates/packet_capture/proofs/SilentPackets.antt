-- A packet with no room for an option says nothing of frames that were dropped.
use Rattle.std.proofs.Common.{◌≡◌, ℕ, ◌+◌, ◌-◌, ◌*◌, ◌<◌, ◌≤◌, List, length, drop, ap, ◌∙◌, arith}
use Rattle.std.specs.Prelude.{◌/◌, slice_range}
use Rattle.std.proofs.lemmas.List.{length-take}
use Rattle.packet_capture.specs.declared.fields.ByteOrder.{ByteOrder}
use Rattle.packet_capture.specs.declared.content.BlockKind.{BlockKind}
use Rattle.packet_capture.specs.declared.content.BlockKind.TheVariants.{Enhanced}
use Rattle.packet_capture.specs.declared.drop_report.DropReport.TheVariants.{Silent}
use Rattle.packet_capture.specs.Fields.{u32_in}
use Rattle.packet_capture.specs.Contents.{HasNoOption, block_kind}
use Rattle.packet_capture.specs.DropReports.{before_frame, report_by, report_of}
use Rattle.packet_capture.proofs.OptionNumbers.{short_number}

range_few : (xs : List ℕ) (start end : ℕ) → length (slice_range xs start end) ≤ end - start
range_few xs start end = omega (arith, length-take (end - start) (drop start xs))

pub silent : (order : ByteOrder) (block : List ℕ) → block_kind order block ≡ Enhanced
    → HasNoOption order block → report_of order block ≡ Silent
silent order block enhanced room =
    let captured : ℕ = u32_in order block 20 in
    let start : ℕ = 28 + (captured + 3) / 4 * 4 in
    let options : List ℕ = slice_range block start (length block - 4) in
    let few : length options < 4 = omega (
      arith,
      range_few block start (length block - 4),
      room,
    ) in
    ap (λ (k : BlockKind). report_by k order block) enhanced
    ∙ ap before_frame (short_number order 4 options few)
