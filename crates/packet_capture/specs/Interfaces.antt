-- Interfaces of a section, and the times of their packets: PCAP Next Generation (pcapng) Capture
-- File Format, draft-ietf-opsawg-pcapng, sections 3.5 and 4.2.
use Rattle.std.specs.Prelude.{◌≡◌, ℕ, ◌+◌, ◌-◌, ◌*◌, ◌/◌, ◌^◌, ◌<◌, ◌≤◌, ◌==◌, ◌&&◌, nat_lt, nat_le, List, [], ◌∷◌, length, drop, slice_index, slice_range, Option, Some, None, if◌then◌else◌}
use Rattle.packet_capture.specs.declared.fields.ByteOrder.{ByteOrder}
use Rattle.packet_capture.specs.declared.interface.Interface.{Interface}
use Rattle.packet_capture.specs.Fields.{u16_in, u32_in, u64_in, bytes_at}

-- an option: its code, and its value without what fills it to a multiple of four bytes
pub record OptionField : Type 0 where
  pub code : ℕ
  pub value : List ℕ

-- an option at the front of the bytes, of any code but 0, which ends the list
pub record IsAtFront (order : ByteOrder) (bytes : List ℕ) (setting : OptionField) : Type 0 where
  pub there : 4 ≤ length bytes
  pub code : setting.code ≡ u16_in order bytes 0
  pub goes_on : 1 ≤ setting.code
  pub within : 4 + u16_in order bytes 2 ≤ length bytes
  pub value : setting.value ≡ bytes_at bytes 4 (u16_in order bytes 2)

-- what follows the option at the front
abbrev pub after_option : ByteOrder → List ℕ → List ℕ
after_option order bytes = drop (4 + (u16_in order bytes 2 + 3) / 4 * 4) bytes

-- the bytes are these options, one after the other, up to one of code 0 or to the end
abbrev pub AreOptions : ByteOrder → List ℕ → List OptionField → Type 0
AreOptions order bytes [] = (4 ≤ length bytes) → u16_in order bytes 0 ≡ 0
AreOptions order bytes (o ∷ os) =
    IsAtFront order bytes o × AreOptions order (after_option order bytes) os

-- the bytes are these options, and then one that runs past the end
abbrev pub CutAfter : ByteOrder → List ℕ → List OptionField → Type 0
CutAfter order bytes [] =
    (4 ≤ length bytes) × (1 ≤ u16_in order bytes 0)
    × (length bytes < 4 + u16_in order bytes 2)
CutAfter order bytes (o ∷ os) =
    IsAtFront order bytes o × CutAfter order (after_option order bytes) os

-- What an option says of an interface: 9 is the resolution of its times, in one byte, and 14 the
-- seconds to add to them, in eight. Others, and these with another length, say nothing here.
abbrev pub with_option : ByteOrder → Interface → OptionField → Interface
with_option order i o =
    if (o.code == 9) && (length o.value == 1)
    then record i { resolution = slice_index o.value 0 }
    else (if (o.code == 14) && (length o.value == 8)
    then record i { offset = u64_in order o.value 0 }
    else i)

abbrev pub with_options : ByteOrder → Interface → List OptionField → Interface
with_options order i [] = i
with_options order i (o ∷ os) = with_options order (with_option order i o) os

-- the interface of a block before its options: times are in microseconds, from 1970 on
abbrev pub bare_interface : ByteOrder → List ℕ → Interface
bare_interface order block = record {
  link = u16_in order block 8;
  snap_len = u32_in order block 12;
  resolution = 6;
  offset = 0;
}

-- the bytes are options, which make this interface of a bare one
pub record HaveOptions (order : ByteOrder) (bytes : List ℕ) (bare i : Interface) : Type 0 where
  pub options : List OptionField
  pub are : AreOptions order bytes options
  pub is : i ≡ with_options order bare options

-- an option in the bytes runs past their end
pub record HaveCutOption (order : ByteOrder) (bytes : List ℕ) : Type 0 where
  pub options : List OptionField
  pub cut : CutAfter order bytes options

-- the options follow the fixed fields of an interface's block, up to its second length
abbrev pub options_in : List ℕ → List ℕ
options_in block = slice_range block 16 (length block - 4)

-- the block describes this interface
abbrev pub Describes : ByteOrder → List ℕ → Interface → Type 0
Describes order block i =
    (20 ≤ length block) × HaveOptions order (options_in block) (bare_interface order block) i

-- an option of the block runs past its end
abbrev pub HasCutOption : ByteOrder → List ℕ → Type 0
HasCutOption order block = (20 ≤ length block) × HaveCutOption order (options_in block)

-- the number of units of time in a second: a power of 10, or from 128 on one of 2
abbrev pub units_of : ℕ → ℕ
units_of resolution =
    if nat_lt resolution 128 then 10 ^ resolution else 2 ^ (resolution - 128)

-- the whole nanoseconds of a number of units
abbrev pub nanoseconds_of : ℕ → ℕ → ℕ
nanoseconds_of ticks resolution = ticks * 1000000000 / units_of resolution

-- the seconds of an offset that are to be added, and those to be taken away: it is a number of 64
-- bits with a sign
abbrev pub seconds_ahead : ℕ → ℕ
seconds_ahead offset = if nat_lt offset (2 ^ 63) then offset else 0

abbrev pub seconds_behind : ℕ → ℕ
seconds_behind offset = if nat_lt offset (2 ^ 63) then 0 else 2 ^ 64 - offset

-- a difference of 0 to 2^64 - 1
abbrev pub difference : ℕ → ℕ → Option ℕ
difference a b = if nat_le b a && nat_lt (a - b) (2 ^ 64) then Some (a - b) else None

-- the nanoseconds from 1970 on, where they are 0 to 2^64 - 1
abbrev pub time_of : Interface → ℕ → Option ℕ
time_of i ticks =
    difference
    (nanoseconds_of ticks i.resolution + seconds_ahead i.offset * 1000000000)
    (seconds_behind i.offset * 1000000000)
