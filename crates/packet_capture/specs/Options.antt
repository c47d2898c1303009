-- The results of reading an option. Cited by private clauses alone.
use Rattle.std.specs.Prelude.{◌≡◌, ℕ, ◌+◌, ◌<◌, ◌≤◌, List, length}
use Rattle.packet_capture.specs.declared.fields.ByteOrder.{ByteOrder}
use Rattle.packet_capture.specs.declared.interface.FrontOption.{FrontOption}
use Rattle.packet_capture.specs.declared.interface.FrontOption.TheVariants.{End, Cut, Found}
use Rattle.packet_capture.specs.Fields.{u16_in}
use Rattle.packet_capture.specs.Interfaces.{OptionField, IsAtFront, after_option}

abbrev pub option_field_of : ℕ → List ℕ → OptionField
option_field_of code value = record { code = code; value = value }

abbrev pub StandsThere : ByteOrder → List ℕ → FrontOption → Type 0
StandsThere order bytes End = (4 ≤ length bytes) → u16_in order bytes 0 ≡ 0
StandsThere order bytes Cut =
    (4 ≤ length bytes) × (1 ≤ u16_in order bytes 0)
    × (length bytes < 4 + u16_in order bytes 2)
StandsThere order bytes (Found code value after) =
    IsAtFront order bytes (option_field_of code value.now)
    × (after.now ≡ after_option order bytes) × (length after.now < length bytes)
