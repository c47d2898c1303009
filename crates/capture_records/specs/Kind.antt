-- The kinds of records, by their second byte and their length.
use Rattle.std.specs.Prelude.{◌≡◌, ℕ, true, false}
use Rattle.capture_records.specs.declared.capture.RecordType.{RecordType}
use Rattle.capture_records.specs.declared.capture.RecordType.TheVariants.{Line, Renewal, SelfHelp, Skip}
use Rattle.feed_types.specs.Text.{line_letter}

-- the byte that stands for it
abbrev pub byte_of : RecordType → ℕ
byte_of (Line line) = line_letter line
byte_of Renewal = 78
byte_of Skip = 75
byte_of (SelfHelp true) = 72
byte_of (SelfHelp false) = 87

-- its records may have this length
abbrev pub MayHave : RecordType → ℕ → Type 0
MayHave (Line line) len = Unit {0}
MayHave Renewal len = len ≡ 10
MayHave Skip len = len ≡ 8
MayHave (SelfHelp on) len = len ≡ 0

-- a byte and a length have this kind
abbrev pub IsKindOf : ℕ → ℕ → RecordType → Type 0
IsKindOf byte len kind = (byte_of kind ≡ byte) × MayHave kind len
