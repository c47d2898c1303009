-- Why no savefile header, packet record or block could be read.
use Rattle.std.specs.Prelude.{◌≡◌, ℕ, ◌+◌, ◌-◌, ◌<◌, ◌≤◌, ◌⊎◌, List, length, Some, None}
use Rattle.packet_capture.specs.declared.fields.ByteOrder.{ByteOrder}
use Rattle.packet_capture.specs.declared.fault.CaptureFault.TheVariants.{UnknownVersion, TooLong, BadByteOrder, BadBlockLength, LengthsDiffer}
use Rattle.packet_capture.specs.declared.savefile.Savefile.{Savefile}
use Rattle.packet_capture.specs.declared.stop.NoPiece.{NoPiece}
use Rattle.packet_capture.specs.declared.stop.NoPiece.TheVariants.{Bad, Wants}
use Rattle.packet_capture.specs.Fields.{u32_in}
use Rattle.packet_capture.specs.Savefiles.{HasOtherVersion, captured_at}
use Rattle.packet_capture.specs.Blocks.{order_at, IsBlockLen}

-- of a savefile's header: it is cut, or of another version
abbrev pub StopsInHeader : List ℕ → NoPiece → Type 0
StopsInHeader bytes stop =
    ((length bytes < 24) × (stop ≡ Wants 24))
    ⊎ (HasOtherVersion bytes × (stop ≡ Bad UnknownVersion))

-- of a packet record: its fields are cut, its frame is too long, or is cut
abbrev pub StopsInRecord : Savefile → List ℕ → NoPiece → Type 0
StopsInRecord s bytes stop =
    ((length bytes < 16) × (stop ≡ Wants 16))
    ⊎ ((16 ≤ length bytes) × (1048576 < captured_at s bytes) × (stop ≡ Bad TooLong))
    ⊎ ((16 ≤ length bytes) × (captured_at s bytes ≤ 1048576)
    × (length bytes < 16 + captured_at s bytes) × (stop ≡ Wants (16 + captured_at s bytes)))

-- of a block whose byte order is known: its length is bad, or is longer than is read; it is cut; or
-- its two lengths differ
abbrev pub StopsInLen : ByteOrder → List ℕ → NoPiece → Type 0
StopsInLen order bytes stop =
    let len = u32_in order bytes 4 in
    ((IsBlockLen len → ⊥) × (stop ≡ Bad BadBlockLength))
    ⊎ (IsBlockLen len × (1048576 < len) × (stop ≡ Bad TooLong))
    ⊎ (IsBlockLen len × (len ≤ 1048576) × (length bytes < len) × (stop ≡ Wants len))
    ⊎ (IsBlockLen len × (len ≤ 1048576) × (len ≤ length bytes)
    × (u32_in order bytes (len - 4) ≡ len → ⊥) × (stop ≡ Bad LengthsDiffer))

-- of a block: its first fields are cut, its byte order isn't given, or its length stops
abbrev pub StopsInBlock : ByteOrder → List ℕ → NoPiece → Type 0
StopsInBlock section bytes stop =
    ((length bytes < 12) × (stop ≡ Wants 12))
    ⊎ ((12 ≤ length bytes) × (order_at section bytes ≡ None) × (stop ≡ Bad BadByteOrder))
    ⊎ ((12 ≤ length bytes)
    × ((order : ByteOrder) × (order_at section bytes ≡ Some order) × StopsInLen order bytes stop))
