-- The addresses on the command line, this project's own format: an address is an IP address and a
-- port, as std reads it (1.2.3.4:5, or [::1]:5). The list of lines has two for each venue,
-- separated by commas: line A's and then line B's. A minus stands in place of a line that isn't
-- there, and each venue has a line.
use Rattle.std.specs.Prelude.{◌≡◌, ◌≢◌, ℕ, ◌+◌, ◌*◌, Bool, true, false, not, IsTrue, List, [], ◌∷◌, Option, None, Some, Result, codes, length, slice_get}
use Rattle.std.specs.List.{All}
use Rattle.std.specs.Net.Addr.{IsUnspecifiedV4, IsUnspecifiedV6, MatchIp, is_ipv4}
use Rattle.std.specs.Net.Grammar.{IsSocketText}
use Rattle.std.specs.Net.Socket.{socket_ip, socket_port}
use Rattle.std.specs.declared.net.socket_addr.SocketAddr.{SocketAddr}
use Rattle.command_words.specs.Readings.{Finds, IfGiven, Only, OrNoMemory, Then}
use Rattle.command_words.specs.Sessions.{names_in}
use Rattle.command_words.specs.declared.refusal.Refusal.{Refusal}
use Rattle.command_words.specs.declared.refusal.Refusal.TheVariants.{BadLines, BadMetrics, BadRequest}

-- the texts spell these things, one by one
abbrev pub AreSpelled : {X : Type 0} → (List ℕ → X → Type 0) → List (List ℕ) → List X → Type 0
AreSpelled Spells [] [] = Unit {0}
AreSpelled Spells [] (x ∷ xs) = ⊥
AreSpelled Spells (text ∷ texts) [] = ⊥
AreSpelled Spells (text ∷ texts) (x ∷ xs) = Spells text x × AreSpelled Spells texts xs

-- the text spells the address of a line, or a line that isn't there
abbrev pub SpellsLine : List ℕ → Option SocketAddr → Type 0
SpellsLine text None = text ≡ codes "-"
SpellsLine text (Some address) = IsSocketText text address

-- The list names these lines, two for each of `venues` venues.
pub record NameLines (list : List ℕ) (venues : ℕ) (lines : List (Option SocketAddr))
    : Type 0 where
  pub spelled : AreSpelled SpellsLine (names_in list) lines
  pub two_each : length lines ≡ 2 * venues

-- the line at a place isn't there
abbrev pub IsAbsentAt : List (Option SocketAddr) → ℕ → Type 0
IsAbsentAt lines place = Some None ≡ slice_get lines place

-- a venue has no line
pub record HasBareVenue (lines : List (Option SocketAddr)) : Type 0 where
  pub venue : ℕ
  pub no_a : IsAbsentAt lines (2 * venue)
  pub no_b : IsAbsentAt lines (2 * venue + 1)

-- the lines of a list, of which each venue has one at least
abbrev pub ReadsLines : List ℕ → (venues : ℕ) → Result (List (Option SocketAddr)) Refusal → Type 0
ReadsLines list venues =
    Then (OrNoMemory (Finds (NameLines list venues) BadLines))
    (λ lines. Only (HasBareVenue lines → ⊥) BadLines lines)

-- `0.0.0.0` or `::`, which is the address of no machine
abbrev pub IsUnspecified : SocketAddr → Type 0
IsUnspecified address = MatchIp (socket_ip address) IsUnspecifiedV4 IsUnspecifiedV6

-- the line is of this version of IP, 4 or else 6, if it is there
abbrev pub is_of_version : (four : Bool) → Option SocketAddr → Bool
is_of_version four None = true
is_of_version true (Some line) = is_ipv4 (socket_ip line)
is_of_version false (Some line) = not (is_ipv4 (socket_ip line))

-- A request can be sent to the address from each of the lines: it has a port and is one machine's,
-- and it is of each line's version of IP.
abbrev pub IsAskable : List (Option SocketAddr) → SocketAddr → Type 0
IsAskable lines address =
    (socket_port address ≢ 0) × (IsUnspecified address → ⊥)
    × All (λ line. IsTrue (is_of_version (is_ipv4 (socket_ip address)) line)) lines

-- the address at which metrics are served, if there is one
abbrev pub ReadsMetrics : Option (List ℕ) → Result (Option SocketAddr) Refusal → Type 0
ReadsMetrics = IfGiven (λ text. Finds (IsSocketText text) BadMetrics)

-- an address to which the lines' requests can be sent
abbrev pub ReadsAskable : List (Option SocketAddr) → List ℕ → Result SocketAddr Refusal → Type 0
ReadsAskable lines text =
    Then (Finds (IsSocketText text) BadRequest)
    (λ address. Only (IsAskable lines address) BadRequest address)

-- the address to which these lines' requests go, if there is one
abbrev pub ReadsRequest : List (Option SocketAddr) → Option (List ℕ)
    → Result (Option SocketAddr) Refusal → Type 0
ReadsRequest lines = IfGiven (ReadsAskable lines)
