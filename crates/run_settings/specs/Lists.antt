-- The lines of a list of addresses: two for each venue, line A's and then line B's, venue 0's
-- first. A place without an address is that of a line that isn't there.
use Rattle.std.specs.Prelude.{◌≡◌, ℕ, ◌+◌, ◌/◌, ◌%◌, ◌==◌, ◌<◌, List, [], ◌∷◌, ◌++◌, Option, None, Some, slice_get, if◌then◌else◌}
use Rattle.std.specs.declared.net.ip_addr.IpAddr.{IpAddr}
use Rattle.std.specs.declared.net.ip_addr.IpAddr.TheVariants as ips
use Rattle.std.specs.declared.net.socket_addr.SocketAddr.{SocketAddr}
use Rattle.std.specs.Net.Addr.{ipv4_octets, ipv6_octets}
use Rattle.std.specs.Net.Socket.{socket_ip, socket_port}
use Rattle.feed_types.specs.declared.line.LineId.TheVariants.{A, B}
use Rattle.packet_capture.specs.declared.datagram.Address.{Address}
use Rattle.packet_capture.specs.declared.datagram.Address.TheVariants.{V4, V6}
use Rattle.run_settings.specs.declared.captured_line.CapturedLine.{CapturedLine}

abbrev pub address_of : IpAddr → Address
address_of (ips.V4 ip) = V4 (ipv4_octets ip)
address_of (ips.V6 ip) = V6 (ipv6_octets ip)

-- the line at a place of the list
abbrev pub captured_line_at : ℕ → SocketAddr → CapturedLine
captured_line_at place address = record {
  address = address_of (socket_ip address);
  port = socket_port address;
  venue = place / 2;
  line = if place % 2 == 0 then A else B;
}

-- the line at a place, if it is there
abbrev pub line_of_place : ℕ → Option SocketAddr → List CapturedLine
line_of_place place None = []
line_of_place place (Some address) = captured_line_at place address ∷ []

-- the lines from a place on
abbrev pub lines_from : ℕ → List (Option SocketAddr) → List CapturedLine
lines_from place [] = []
lines_from place (address ∷ addresses) =
    line_of_place place address ++ lines_from (place + 1) addresses

-- two lines of one address and port
abbrev pub AreSame : CapturedLine → CapturedLine → Type 0
AreSame one other = (one.address ≡ other.address) × (one.port ≡ other.port)

-- a line of the list is of the same address and port
pub record HasSame (lines : List CapturedLine) (line : CapturedLine) : Type 0 where
  pub place : ℕ
  pub other : CapturedLine
  pub is : Some other ≡ slice_get lines place
  pub same : AreSame other line

-- no two lines are
abbrev pub AreApart : List CapturedLine → Type 0
AreApart lines =
    (place earlier : ℕ) (line other : CapturedLine) → earlier < place
    → Some other ≡ slice_get lines earlier → Some line ≡ slice_get lines place
    → AreSame other line → ⊥

-- each line is of one of the first `venues` venues
abbrev pub AreOfVenues : ℕ → List CapturedLine → Type 0
AreOfVenues venues lines =
    (place : ℕ) (line : CapturedLine) → Some line ≡ slice_get lines place → line.venue < venues
