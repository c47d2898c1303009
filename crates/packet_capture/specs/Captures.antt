-- A packet capture: a savefile, or the sections of a pcapng file, piece by piece. A piece is a
-- header, a packet record or a block.
use Rattle.std.specs.Prelude.{◌≡◌, ℕ, ◌+◌, ◌≤◌, ◌<◌, ◌⊎◌, List, [], ◌∷◌, ◌++◌, length, drop, flat_map, Option, Some, None}
use Rattle.packet_capture.specs.declared.fields.ByteOrder.{ByteOrder}
use Rattle.packet_capture.specs.declared.fields.ByteOrder.TheVariants.{Big}
use Rattle.packet_capture.specs.declared.fault.CaptureFault.{CaptureFault}
use Rattle.packet_capture.specs.declared.fault.CaptureFault.TheVariants.{NotCapture, TooManyInterfaces}
use Rattle.packet_capture.specs.declared.drop_report.DropReport.{DropReport}
use Rattle.packet_capture.specs.declared.drop_report.DropReport.TheVariants.{Silent}
use Rattle.packet_capture.specs.declared.frame.Frame.{Frame}
use Rattle.packet_capture.specs.declared.interface.Interface.{Interface}
use Rattle.packet_capture.specs.declared.reader.Format.{Format}
use Rattle.packet_capture.specs.declared.reader.Format.TheVariants.{Start, InSavefile, InSection}
use Rattle.packet_capture.specs.declared.reader.Piece.{Piece}
use Rattle.packet_capture.specs.declared.savefile.Magic.{Magic}
use Rattle.packet_capture.specs.declared.savefile.Savefile.{Savefile}
use Rattle.packet_capture.specs.declared.stop.NoPiece.{NoPiece}
use Rattle.packet_capture.specs.declared.stop.NoPiece.TheVariants.{Bad, Wants}
use Rattle.packet_capture.specs.Frames.{FrameContent, frame_of}
use Rattle.packet_capture.specs.Savefiles.{magic_at, BeginsSavefile, IsPacketRecord, captured_at}
use Rattle.packet_capture.specs.Blocks.{BeginsSection, IsBlock}
use Rattle.packet_capture.specs.Contents.{BlockEvent, section_begins, interface_added, frame_came, passed_over, BlockSays, HasBlockFault}
use Rattle.packet_capture.specs.DropReports.{report_of}
use Rattle.packet_capture.specs.Stops.{StopsInHeader, StopsInRecord, StopsInBlock}

-- what the pieces before say of the next one: the format of the capture, and in a section its
-- interfaces
pub record Context : Type 0 where
  pub format : Format
  pub interfaces : List Interface

-- before the first piece
abbrev pub new_context : Context
new_context = record { format = Start; interfaces = [] }

-- how many bytes a piece has, its frame, if it has one, and what it says of frames that were
-- dropped
pub record PieceContent : Type 0 where
  pub len : ℕ
  pub frame : Option FrameContent
  pub dropped : DropReport

abbrev pub frame_in_piece : Option Frame → Option FrameContent
frame_in_piece None = None
frame_in_piece (Some f) = Some (frame_of f)

abbrev pub piece_of : Piece → PieceContent
piece_of p = record { len = p.len; frame = frame_in_piece p.frame; dropped = p.dropped }

abbrev pub list_of : Option FrameContent → List FrameContent
list_of None = []
list_of (Some frame) = frame ∷ []

-- the header of a savefile
pub record IsHeaderPiece (bytes : List ℕ) (piece : PieceContent) (after : Context) : Type 0 where
  pub there : 4 ≤ length bytes
  pub savefile : Savefile
  pub begins : BeginsSavefile bytes savefile
  pub len : piece.len ≡ 24
  pub frame : piece.frame ≡ None
  pub dropped : piece.dropped ≡ Silent
  pub after_is : after ≡ record { format = InSavefile savefile; interfaces = [] }

-- a packet record of a savefile
pub record IsRecordPiece (s : Savefile) (before : Context) (bytes : List ℕ) (piece : PieceContent)
    (after : Context) : Type 0 where
  pub frame : FrameContent
  pub is_record : IsPacketRecord s bytes frame
  pub len : piece.len ≡ 16 + captured_at s bytes
  pub frame_is : piece.frame ≡ Some frame
  pub dropped : piece.dropped ≡ Silent
  pub after_is : after ≡ before

-- the frame of a block, if it has one
abbrev pub frame_in_event : BlockEvent → Option FrameContent
frame_in_event section_begins = None
frame_in_event (interface_added i) = None
frame_in_event (frame_came f) = Some f
frame_in_event passed_over = None

-- the interfaces after a block: none at the start of a section, and one more after its description
abbrev pub interfaces_after : List Interface → BlockEvent → List Interface
interfaces_after interfaces section_begins = []
interfaces_after interfaces (interface_added i) = interfaces ++ i ∷ []
interfaces_after interfaces (frame_came f) = interfaces
interfaces_after interfaces passed_over = interfaces

-- a block of a section, which has 256 interfaces at most
pub record IsBlockPiece (section : ByteOrder) (before : Context) (bytes : List ℕ)
    (piece : PieceContent) (after : Context) : Type 0 where
  pub order : ByteOrder
  pub block : List ℕ
  pub is_block : IsBlock section bytes order block
  pub event : BlockEvent
  pub says : BlockSays before.interfaces order block event
  pub few : length (interfaces_after before.interfaces event) ≤ 256
  pub len : piece.len ≡ length block
  pub frame : piece.frame ≡ frame_in_event event
  pub dropped : piece.dropped ≡ report_of order block
  pub after_is : after ≡ record {
    format = InSection order;
    interfaces = interfaces_after before.interfaces event;
  }

-- a section's header at the start of a capture: the order that is asked of it plays no part
pub record IsFirstBlock (before : Context) (bytes : List ℕ) (piece : PieceContent)
    (after : Context) : Type 0 where
  pub there : 4 ≤ length bytes
  pub no_savefile : magic_at bytes ≡ None
  pub section : BeginsSection bytes
  pub block : IsBlockPiece Big before bytes piece after

-- the bytes begin with this piece, where the pieces before leave one context, and it leaves the
-- next
abbrev pub IsPieceIn : Format → Context → List ℕ → PieceContent → Context → Type 0
IsPieceIn Start before bytes piece after =
    IsHeaderPiece bytes piece after ⊎ IsFirstBlock before bytes piece after
IsPieceIn (InSavefile s) before bytes piece after = IsRecordPiece s before bytes piece after
IsPieceIn (InSection order) before bytes piece after = IsBlockPiece order before bytes piece after

abbrev pub IsPiece : Context → List ℕ → PieceContent → Context → Type 0
IsPiece before bytes piece after = IsPieceIn before.format before bytes piece after

-- a block that would be one interface too many
pub record IsOneTooMany (interfaces : List Interface) (event : BlockEvent) (fault : CaptureFault)
    : Type 0 where
  pub interface : Interface
  pub event_is : event ≡ interface_added interface
  pub full : 256 ≤ length interfaces
  pub fault_is : fault ≡ TooManyInterfaces

-- a whole block that can't be read, or that would be one interface too many
pub record StopsInContent (section : ByteOrder) (before : Context) (bytes : List ℕ) (stop : NoPiece)
    : Type 0 where
  pub order : ByteOrder
  pub block : List ℕ
  pub is_block : IsBlock section bytes order block
  pub fault : CaptureFault
  pub stop_is : stop ≡ Bad fault
  pub why : HasBlockFault before.interfaces order block fault
      ⊎ ((event : BlockEvent) × BlockSays before.interfaces order block event
      × IsOneTooMany before.interfaces event fault)

abbrev pub StopsInSection : ByteOrder → Context → List ℕ → NoPiece → Type 0
StopsInSection section before bytes stop =
    StopsInBlock section bytes stop ⊎ StopsInContent section before bytes stop

-- at the start: too little to see the format, no capture, or what stops in the first piece
abbrev pub StopsAtStart : Context → List ℕ → NoPiece → Type 0
StopsAtStart before bytes stop =
    ((length bytes < 4) × (stop ≡ Wants 4))
    ⊎ ((4 ≤ length bytes) × (magic_at bytes ≡ None) × (BeginsSection bytes → ⊥)
    × (stop ≡ Bad NotCapture))
    ⊎ ((4 ≤ length bytes) × ((magic : Magic) × (magic_at bytes ≡ Some magic))
    × StopsInHeader bytes stop)
    ⊎ ((4 ≤ length bytes) × (magic_at bytes ≡ None) × BeginsSection bytes
    × StopsInSection Big before bytes stop)

-- why no piece is read from the bytes in this context
abbrev pub StopsIn : Format → Context → List ℕ → NoPiece → Type 0
StopsIn Start before bytes stop = StopsAtStart before bytes stop
StopsIn (InSavefile s) before bytes stop = StopsInRecord s bytes stop
StopsIn (InSection order) before bytes stop = StopsInSection order before bytes stop

abbrev pub StopsReading : Context → List ℕ → NoPiece → Type 0
StopsReading before bytes stop = StopsIn before.format before bytes stop

-- the bytes are these pieces, one after the other, and then a rest
abbrev pub ArePieces : Context → List ℕ → List PieceContent → Context → List ℕ → Type 0
ArePieces before bytes [] after rest = (after ≡ before) × (rest ≡ bytes)
ArePieces before bytes (piece ∷ pieces) after rest =
    (mid : Context) × IsPiece before bytes piece mid
    × ArePieces mid (drop piece.len bytes) pieces after rest

-- the frames of pieces, in order
abbrev pub frames_in : PieceContent → List FrameContent
frames_in piece = list_of piece.frame

abbrev pub frames_of : List PieceContent → List FrameContent
frames_of pieces = flat_map frames_in pieces

-- the bytes are a whole capture with these frames
pub record IsCapture (bytes : List ℕ) (frames : List FrameContent) : Type 0 where
  pub first : PieceContent
  pub others : List PieceContent
  pub after : Context
  pub are : ArePieces new_context bytes (first ∷ others) after []
  pub frames_are : frames ≡ frames_of (first ∷ others)
