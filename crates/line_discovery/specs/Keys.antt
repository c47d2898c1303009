-- When two keys of lines are the same.
use Rattle.std.specs.Prelude.{ℕ, Bool, true, false, ◌&&◌, ◌==◌, List, Option, None, Some}
use Rattle.std.specs.Str.{bytes_eq}
use Rattle.packet_capture.specs.declared.datagram.Address.{Address}
use Rattle.packet_capture.specs.declared.datagram.Address.TheVariants.{V4, V6}
use Rattle.line_discovery.specs.declared.line_key.LineKey.{LineKey}

abbrev pub same_address : Address → Address → Bool
same_address (V4 a) (V4 b) = bytes_eq a b
same_address (V4 a) (V6 b) = false
same_address (V6 a) (V4 b) = false
same_address (V6 a) (V6 b) = bytes_eq a b

abbrev pub same_session : Option (List ℕ) → Option (List ℕ) → Bool
same_session None None = true
same_session None (Some b) = false
same_session (Some a) None = false
same_session (Some a) (Some b) = bytes_eq a b

-- the same address, port and session
abbrev pub same_key : LineKey → LineKey → Bool
same_key a b =
    same_address a.address b.address && ((a.port == b.port) && same_session a.session b.session)
