-- Which lines have sockets.
use Rattle.std.specs.Prelude.{◌≡◌, ℕ, ◌+◌, ◌≤◌, ◌/◌, Bool, true, false, List, [], ◌∷◌, ◌++◌, length, map, IsTrue, Option, None, Some, is_some, vec_len}
use Rattle.std.specs.declared.net.socket_addr.SocketAddr.{SocketAddr}
use Rattle.feed_types.specs.declared.line.LineId.{LineId}
use Rattle.feed_types.specs.declared.line.LineId.TheVariants.{Recovery}
use Rattle.run_settings.specs.declared.listen_settings.ListenSettings.{ListenSettings}
use Rattle.udp_listening.specs.Lines.{line_at}
use Rattle.udp_listening.specs.declared.listen_sockets.BoundLine.{BoundLine}

-- the line that the socket receives
abbrev pub bound_line : BoundLine → ℕ × LineId
bound_line bound = (bound.venue, bound.line)

-- the line hands over what its venue took, for a recording
abbrev pub HasRecorder : BoundLine → Type 0
HasRecorder bound = IsTrue (is_some bound.records)

-- the line at a place of the settings, where it has an address
abbrev pub asked_line : ℕ → Option SocketAddr → List (ℕ × LineId)
asked_line place None = []
asked_line place (Some address) = (place / 2, line_at place) ∷ []

-- the lines that have addresses, from this place on
abbrev pub asked_lines : ℕ → List (Option SocketAddr) → List (ℕ × LineId)
asked_lines place [] = []
asked_lines place (address ∷ more) = asked_line place address ++ asked_lines (place + 1) more

-- the venue's line R, where it has one
abbrev pub reply_line : Bool → ℕ → List (ℕ × LineId)
reply_line true venue = (venue, Recovery) ∷ []
reply_line false venue = []

-- the lines R of the venues from this one on, each of which has one or none
abbrev pub reply_lines : ℕ → List Bool → List (ℕ × LineId)
reply_lines venue [] = []
reply_lines venue (has ∷ more) = reply_line has venue ++ reply_lines (venue + 1) more

-- After these lines come lines R, each of one of `venues` venues, in order.
pub record AddsReplies (venues : ℕ) (before after : List BoundLine) : Type 0 where
  pub have : List Bool
  pub few : length have ≤ venues
  pub all : map bound_line after ≡ map bound_line before ++ reply_lines 0 have

-- The sockets are those of the lines A and B that the settings have, in their order, and then of
-- lines R of some venues, in order: of none where the settings have no server that replies.
pub record AreBoundFor (settings : ListenSettings) (sockets : List BoundLine) : Type 0 where
  pub have : List Bool
  pub few : length have ≤ vec_len settings.feed.sessions
  pub all : map bound_line sockets
      ≡ asked_lines 0 settings.lines.items ++ reply_lines 0 have
  pub none : settings.request ≡ None → have ≡ []
