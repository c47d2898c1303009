-- The 20 bytes that a downstream packet begins with and that a request packet is: MoldUDP64 1.00,
-- "Downstream Packet" and "Request Packet".
use Rattle.std.specs.Prelude.{ℕ, List, ◌++◌, take, drop}
use Rattle.std.specs.Int.{w16, w64, to_be_bytes, from_be_bytes}

-- the session's ten bytes, the sequence number in eight and the count in two, high byte first
abbrev pub header : List ℕ → ℕ → ℕ → List ℕ
header session number count = session ++ (to_be_bytes w64 number ++ to_be_bytes w16 count)

-- the fields by their offsets
abbrev pub session_at : List ℕ → List ℕ
session_at bytes = take 10 bytes

abbrev pub number_at : List ℕ → ℕ
number_at bytes = from_be_bytes w64 (take 8 (drop 10 bytes))

abbrev pub count_at : List ℕ → ℕ
count_at bytes = from_be_bytes w16 (take 2 (drop 18 bytes))
