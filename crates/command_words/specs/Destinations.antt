-- Where the frames of a packet capture that is written go: to line A of each venue, by IPv4.
use Rattle.std.specs.Prelude.{◌≡◌, ℕ, ◌<◌, Bool, ◌&&◌, ◌==◌, true, false, List}
use Rattle.std.specs.List.{list_any}
use Rattle.feed_types.specs.declared.line.LineId.{LineId}
use Rattle.feed_types.specs.declared.line.LineId.TheVariants.{A}
use Rattle.packet_capture.specs.declared.datagram.Address.{Address}
use Rattle.packet_capture.specs.declared.datagram.Address.TheVariants.{V4}
use Rattle.run_settings.specs.declared.captured_line.CapturedLine.{CapturedLine}
use Rattle.run_settings.specs.declared.run_input.RunInput.{RunInput}
use Rattle.run_settings.specs.declared.run_input.RunInput.TheVariants.{Own, Packets}

abbrev pub is_line_a : LineId → Bool
is_line_a A = true
is_line_a _ = false

abbrev pub is_of_ipv4 : Address → Bool
is_of_ipv4 (V4 octets) = true
is_of_ipv4 _ = false

-- the line is line A of the venue, and its address one of IPv4
abbrev pub is_destination : (venue : ℕ) → CapturedLine → Bool
is_destination venue line =
    line.venue == venue && (is_line_a line.line && is_of_ipv4 line.address)

-- each of the first `venues` venues has such a line
abbrev pub HaveDestinations : (venues : ℕ) → List CapturedLine → Type 0
HaveDestinations venues lines =
    (venue : ℕ) → venue < venues → list_any (is_destination venue) lines ≡ true

-- the frames of what is made of this input have somewhere to go; records need no address
abbrev pub IsAddressed : (venues : ℕ) → RunInput → Type 0
IsAddressed venues Own = Unit {0}
IsAddressed venues (Packets lines) = HaveDestinations venues lines.items
