-- What the blocks of a section say of frames that were dropped: draft-ietf-opsawg-pcapng, sections
-- 3.5, 4.3 and 4.6, and appendix A.
use Rattle.std.specs.Prelude.{ℕ, zero, suc, ◌+◌, ◌-◌, ◌*◌, ◌/◌, ◌==◌, ◌&&◌, nat_le, Bool, List, length, slice_range, if◌then◌else◌}
use Rattle.packet_capture.specs.declared.fields.ByteOrder.{ByteOrder}
use Rattle.packet_capture.specs.declared.content.BlockKind.{BlockKind}
use Rattle.packet_capture.specs.declared.content.BlockKind.TheVariants.{SectionHeader, Description, Enhanced, Old, Simple, Unread}
use Rattle.packet_capture.specs.declared.drop_report.DropReport.{DropReport}
use Rattle.packet_capture.specs.declared.drop_report.DropReport.TheVariants.{Silent, NewSection, Before, Since}
use Rattle.packet_capture.specs.Fields.{u16_in, u32_in, u64_in, bytes_at}
use Rattle.packet_capture.specs.Interfaces.{OptionField, after_option}
use Rattle.packet_capture.specs.Contents.{block_kind}

-- whether a whole option of any code but 0, which ends the list, is at the front of the bytes
abbrev pub begins_option : ByteOrder → List ℕ → Bool
begins_option order bytes =
    nat_le 4 (length bytes)
    && (nat_le 1 (u16_in order bytes 0) && nat_le (4 + u16_in order bytes 2) (length bytes))

abbrev pub first_option : ByteOrder → List ℕ → OptionField
first_option order bytes =
    record { code = u16_in order bytes 0; value = bytes_at bytes 4 (u16_in order bytes 2) }

-- The number of the first option of a code that has eight bytes, of the whole options at the front,
-- the first `most` of them; 0 where none has.
abbrev pub option_number : ℕ → ByteOrder → ℕ → List ℕ → ℕ
option_number zero order code bytes = 0
option_number (suc most) order code bytes =
    let o = first_option order bytes in
    if begins_option order bytes
    then (if (o.code == code) && (length o.value == 8) then u64_in order o.value 0
    else option_number most order code (after_option order bytes))
    else 0

-- the number of an option of a block whose options begin at an offset, of which it has fewer than
-- bytes
abbrev pub number_from : ByteOrder → List ℕ → ℕ → ℕ → ℕ
number_from order block start code =
    let options = slice_range block start (length block - 4) in
    option_number (length options) order code options

-- of an enhanced packet: option 4, after the frame and what fills it to a multiple of four bytes
abbrev pub dropped_before : ByteOrder → List ℕ → ℕ
dropped_before order block =
    number_from order block (28 + (u32_in order block 20 + 3) / 4 * 4) 4

-- of an old packet: a field, where 65535 says nothing
abbrev pub dropped_by_old : ByteOrder → List ℕ → ℕ
dropped_by_old order block =
    let dropped = u16_in order block 10 in if dropped == 65535 then 0 else dropped

-- none dropped is not told
abbrev pub before_frame : ℕ → DropReport
before_frame dropped = if dropped == 0 then Silent else Before dropped

-- of an interface's statistics, of type 5: the interface, and options 5 and 7. A block without its
-- fixed fields says nothing
abbrev pub statistics_or_none : ByteOrder → List ℕ → DropReport
statistics_or_none order block =
    if (u32_in order block 0 == 5) && nat_le 24 (length block)
    then Since (u32_in order block 8) (number_from order block 20 5) (number_from order block 20 7)
    else Silent

abbrev pub report_by : BlockKind → ByteOrder → List ℕ → DropReport
report_by SectionHeader order block = NewSection
report_by Description order block = Silent
report_by Enhanced order block = before_frame (dropped_before order block)
report_by Old order block = before_frame (dropped_by_old order block)
report_by Simple order block = Silent
report_by Unread order block = statistics_or_none order block

abbrev pub report_of : ByteOrder → List ℕ → DropReport
report_of order block = report_by (block_kind order block) order block
