-- The address and port of a line, their order, and the session, as texts.
use Rattle.std.specs.Prelude.{ℕ, Bool, true, false, ◌&&◌, ◌||◌, not, nat_lt, List, [], ◌++◌, codes, decimal, Option, None, Some}
use Rattle.std.specs.Int.{w32, w128, from_be_bytes}
use Rattle.std.specs.Net.Addr.{segments_of}
use Rattle.std.specs.Net.Text.{ipv4_text, ipv6_text, scope_text}
use Rattle.packet_capture.specs.declared.datagram.Address.{Address}
use Rattle.packet_capture.specs.declared.datagram.Address.TheVariants.{V4, V6}
use Rattle.line_discovery.specs.declared.line_key.LineKey.{LineKey}

-- an address and port, as `--lines` takes them
abbrev pub place_text : Address → ℕ → List ℕ
place_text (V4 octets) port = ipv4_text octets ++ (codes ":" ++ decimal port)
place_text (V6 octets) port =
    codes "[" ++ (ipv6_text (segments_of octets) ++ (scope_text 0 ++ (codes "]:" ++ decimal port)))

-- the key of the other datagrams to the same address and port
abbrev pub other_key : LineKey → LineKey
other_key key = record { address = key.address; port = key.port; session = None }

abbrev pub session_name : Option (List ℕ) → List ℕ
session_name None = []
session_name (Some name) = name

-- an address comes before another by its bytes, and all of IPv4 before those of IPv6
abbrev pub is_lower_address : Address → Address → Bool
is_lower_address (V4 a) (V4 b) = nat_lt (from_be_bytes w32 a) (from_be_bytes w32 b)
is_lower_address (V4 a) (V6 b) = true
is_lower_address (V6 a) (V4 b) = false
is_lower_address (V6 a) (V6 b) = nat_lt (from_be_bytes w128 a) (from_be_bytes w128 b)

-- a line comes before another by its address, and at the same one by its port
abbrev pub is_lower_place : LineKey → LineKey → Bool
is_lower_place a b =
    is_lower_address a.address b.address
    || (not (is_lower_address b.address a.address) && nat_lt a.port b.port)
