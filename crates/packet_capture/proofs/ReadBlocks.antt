-- What a block of a section is read as.
use Rattle.std.proofs.Common.{◌≡◌, ℕ, ◌≤◌, List, Some, length, refl, subst, inl, inr}
use Rattle.packet_capture.specs.declared.fields.ByteOrder.{ByteOrder}
use Rattle.packet_capture.specs.declared.fault.CaptureFault.{CaptureFault}
use Rattle.packet_capture.specs.declared.interface.Interface.{Interface}
use Rattle.packet_capture.specs.declared.reader.Format.TheVariants.{InSection}
use Rattle.packet_capture.specs.declared.stop.NoPiece.TheVariants.{Bad}
use Rattle.packet_capture.specs.Blocks.{IsBlock}
use Rattle.packet_capture.specs.Contents.{BlockEvent, BlockSays, HasBlockFault, frame_came}
use Rattle.packet_capture.specs.Frames.{FrameContent}
use Rattle.packet_capture.specs.DropReports.{report_of}
use Rattle.packet_capture.specs.Captures.{Context, PieceContent, IsBlockPiece, IsOneTooMany, StopsInSection}

pub stops_in_block : (section : ByteOrder) (before : Context) (bytes : List ℕ) (order : ByteOrder)
    (block : List ℕ) (is : List Interface) (fault : CaptureFault) → is ≡ before.interfaces
    → IsBlock section bytes order block → HasBlockFault is order block fault
    → StopsInSection section before bytes (Bad fault)
stops_in_block section before bytes order block is fault same whole has =
    let P : List Interface → Type 0 = λ x. HasBlockFault x order block fault in
    inr (record {
      order = order;
      block = block;
      is_block = whole;
      fault = fault;
      stop_is = refl;
      why = inl (subst P same has);
    })

pub stops_one_too_many : (section : ByteOrder) (before : Context) (bytes : List ℕ)
    (order : ByteOrder) (block : List ℕ) (is : List Interface) (event : BlockEvent)
    (fault : CaptureFault) → is ≡ before.interfaces → IsBlock section bytes order block
    → BlockSays is order block event → IsOneTooMany is event fault
    → StopsInSection section before bytes (Bad fault)
stops_one_too_many section before bytes order block is event fault same whole says many =
    let P : List Interface → Type 0 = λ x. BlockSays x order block event in
    let Q : List Interface → Type 0 = λ x. IsOneTooMany x event fault in
    inr (record {
      order = order;
      block = block;
      is_block = whole;
      fault = fault;
      stop_is = refl;
      why = inr (event, subst P same says, subst Q same many);
    })

-- a packet of a section says nothing of the next block
pub is_packet_piece : (section : ByteOrder) (before : Context) (bytes block : List ℕ)
    (is : List Interface) (frame : FrameContent) (piece : PieceContent)
    → is ≡ before.interfaces → before.format ≡ InSection section
    → IsBlock section bytes section block → BlockSays is section block (frame_came frame)
    → length is ≤ 256 → piece.len ≡ length block → piece.frame ≡ Some frame
    → piece.dropped ≡ report_of section block
    → IsBlockPiece section before bytes piece before
is_packet_piece section before bytes block is frame piece same format whole says few len framed
    dropped =
    let P : List Interface → Type 0 = λ x. BlockSays x section block (frame_came frame) in
    let Q : List Interface → Type 0 = λ x. length x ≤ 256 in
    record {
      order = section;
      block = block;
      is_block = whole;
      event = frame_came frame;
      says = subst P same says;
      few = subst Q same few;
      len = len;
      frame = framed;
      dropped = dropped;
      after_is = λ i. record { format = format i; interfaces = before.interfaces };
    }
