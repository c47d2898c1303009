-- The capture, this project's own format for what comes on the lines.
--
-- A capture is a list of records, one after the other. A record is the venue (1 byte), a kind
-- (1 byte), a length (2 bytes, big-endian) and that many bytes. Kinds 41 (A), 42 (B) and 52 (R) are
-- a datagram of line A, line B or Recovery. Kind 4e (N) is a renewal: its 10 bytes are the name of
-- the venue's next session. Kind 4b (K) is a skip: its 8 bytes are a number, big-endian, and what
-- is
-- missing at the venue below it is given up. Kinds 48 (H) and 57 (W), of length 0, declare
-- self-help
-- on the venue and withdraw it.
use Rattle.std.specs.Int.{w64, to_be_bytes}
use Rattle.std.specs.Prelude.{◌≡◌, ℕ, ◌+◌, ◌*◌, ◌/◌, ◌%◌, ◌^◌, ◌<◌, ◌≤◌, ◌⊎◌, Bool, true, false, List, [], ◌∷◌, ◌++◌, length, drop, flat_map, slice_index}
use Rattle.feed_types.specs.declared.line.LineId.{LineId}
use Rattle.feed_types.specs.Text.{line_letter}
use Rattle.mold_packet.specs.Bytes.{AreBytes}
use Rattle.capture_records.specs.declared.capture.Record.{Record}
use Rattle.capture_records.specs.declared.capture.Record.TheVariants.{Datagram, Renewal, SelfHelp, Skip}
use Rattle.capture_records.specs.declared.capture.Parse.{Parse}
use Rattle.capture_records.specs.declared.capture.Parse.TheVariants.{Whole, Bad, Wants}

-- a record of a capture, wherever its bytes are in memory
pub data CaptureRecord : Type 0 where
  datagram_record : (venue : ℕ) (line : LineId) (bytes : List ℕ) → CaptureRecord
  renewal_record : (venue : ℕ) (session : List ℕ) → CaptureRecord
  skip_record : (venue number : ℕ) → CaptureRecord
  self_help_record : (venue : ℕ) (on : Bool) → CaptureRecord

abbrev pub record_venue : CaptureRecord → ℕ
record_venue (datagram_record venue line bytes) = venue
record_venue (renewal_record venue session) = venue
record_venue (skip_record venue number) = venue
record_venue (self_help_record venue on) = venue

-- the byte that says what a record holds
abbrev pub kind_byte : CaptureRecord → ℕ
kind_byte (datagram_record venue line bytes) = line_letter line
kind_byte (renewal_record venue session) = 78
kind_byte (skip_record venue number) = 75
kind_byte (self_help_record venue true) = 72
kind_byte (self_help_record venue false) = 87

-- the eight bytes of a number, big-endian
unfoldable pub number_bytes : ℕ → List ℕ
number_bytes n = to_be_bytes w64 n

-- the bytes that the length counts
abbrev pub payload_of : CaptureRecord → List ℕ
payload_of (datagram_record venue line bytes) = bytes
payload_of (renewal_record venue session) = session
payload_of (skip_record venue number) = number_bytes number
payload_of (self_help_record venue on) = []

-- A record's numbers are bytes. The type `u8` says so of code; a law, which speaks of all lists,
-- asks for it.
abbrev pub HoldsBytes : CaptureRecord → Type 0
HoldsBytes r = AreBytes (payload_of r)

-- the bytes of a record
abbrev pub bytes_of_record : CaptureRecord → List ℕ
bytes_of_record r =
    let len = length (payload_of r) in
    record_venue r ∷ kind_byte r ∷ len / 256 ∷ len % 256 ∷ payload_of r

-- the bytes of these records, and then this rest
abbrev pub capture_of : List CaptureRecord → List ℕ → List ℕ
capture_of records rest = flat_map bytes_of_record records ++ rest

-- a kind with a length that it may have: any for A, B and R, that of a session name for N, that of
-- a number for K, 0 for H and W
abbrev pub IsKind : ℕ → ℕ → Type 0
IsKind kind len =
    (kind ≡ 65) ⊎ (kind ≡ 66) ⊎ (kind ≡ 82) ⊎ ((kind ≡ 78) × (len ≡ 10))
    ⊎ ((kind ≡ 75) × (len ≡ 8)) ⊎ (((kind ≡ 72) ⊎ (kind ≡ 87)) × (len ≡ 0))

-- a skip's number has eight bytes
abbrev pub HasNumber : CaptureRecord → Type 0
HasNumber (datagram_record venue line bytes) = Unit {0}
HasNumber (renewal_record venue session) = Unit {0}
HasNumber (skip_record venue number) = number < 2 ^ 64
HasNumber (self_help_record venue on) = Unit {0}

-- a record that a capture of this number of venues may hold
pub record IsRecord (venues : ℕ) (r : CaptureRecord) : Type 0 where
  pub venue : record_venue r < venues
  pub kind : IsKind (kind_byte r) (length (payload_of r))
  pub len : length (payload_of r) < 65536
  pub number : HasNumber r

-- the length that a record's first four bytes give
abbrev pub len_at : List ℕ → ℕ
len_at rest = slice_index rest 2 * 256 + slice_index rest 3

-- the first four bytes may begin a record
pub record IsHeader (venues : ℕ) (rest : List ℕ) : Type 0 where
  pub whole : 4 ≤ length rest
  pub venue : slice_index rest 0 < venues
  pub kind : IsKind (slice_index rest 1) (len_at rest)

-- four bytes that begin no record, however the bytes go on
pub record IsBadRecord (venues : ℕ) (rest : List ℕ) : Type 0 where
  pub four : 4 ≤ length rest
  pub wrong : IsHeader venues rest → ⊥

-- some bytes, but less than a record: fewer than four, or a header and a part of the bytes that it
-- counts
pub record IsShort (venues : ℕ) (rest : List ℕ) : Type 0 where
  pub some : 0 < length rest
  pub cut : (length rest < 4) ⊎ (IsHeader venues rest × (length rest < 4 + len_at rest))

-- no record, and no wrong one: nothing, or less than a record
abbrev pub WantsMore : ℕ → List ℕ → Type 0
WantsMore venues rest = (rest ≡ []) ⊎ IsShort venues rest

-- no whole record begins the bytes: there are none, or they begin no record, or less than one
abbrev pub NoRecord : ℕ → List ℕ → Type 0
NoRecord venues rest = (rest ≡ []) ⊎ (IsBadRecord venues rest ⊎ IsShort venues rest)

-- how many bytes are needed to read the first record: four, and once they are there all that they
-- count
abbrev pub IsWanted : ℕ → List ℕ → ℕ → Type 0
IsWanted venues bytes n =
    ((length bytes < 4) × (n ≡ 4))
    ⊎ (IsHeader venues bytes × (n ≡ 4 + len_at bytes) × (length bytes < n))

-- the record that a borrowed one is
abbrev pub record_of : Record → CaptureRecord
record_of (Datagram venue line bytes) = datagram_record venue line bytes.now
record_of (Renewal venue session) = renewal_record venue session
record_of (Skip venue number) = skip_record venue number
record_of (SelfHelp venue on) = self_help_record venue on

-- what some bytes begin with: a record before the bytes that are left, no record, or less than one
abbrev pub StandsAtFront : ℕ → List ℕ → Parse → Type 0
StandsAtFront venues bytes (Whole r len) =
    IsRecord venues (record_of r)
    × (len ≡ length (bytes_of_record (record_of r)))
    × (bytes ≡ bytes_of_record (record_of r) ++ drop len bytes)
StandsAtFront venues bytes Bad = IsBadRecord venues bytes
StandsAtFront venues bytes (Wants n) = IsWanted venues bytes n × (n < 65540)
