-- The lines of a run, by the sockets that receive them.
use Rattle.std.specs.Prelude.{ℕ, ◌%◌, ◌==◌, List, [], ◌∷◌, flat_map, ltb, vec_len, if◌then◌else◌}
use Rattle.feed_types.specs.declared.line.LineId.{LineId}
use Rattle.feed_types.specs.declared.line.LineId.TheVariants.{A, B}
use Rattle.run_settings.specs.declared.listen_settings.ListenSettings.{ListenSettings}
use Rattle.std.specs.declared.net.udp.UdpSocket.{UdpSocket}
use Rattle.itch_lines.specs.FeedLines.{FeedLineState, venue_with}
use Rattle.udp_lines.specs.UdpLines.{UdpLineState}
use Rattle.udp_listening.specs.declared.listen_sockets.BoundLine.{BoundLine}

-- the source of a line of a run
abbrev pub UdpState : Type 0
UdpState = UdpLineState UdpSocket

-- a line of a run: its source, or a line in ITCH over that
abbrev pub LineState : Type 0
LineState = FeedLineState UdpState

-- the venue whose line it is
abbrev pub venue_of_line : LineState → ℕ
venue_of_line line = venue_with (λ source. source.venue) line

-- the line at a place of the settings: line A's and then line B's, those of venue 0 first
abbrev pub line_at : ℕ → LineId
line_at place = if place % 2 == 0 then A else B

-- the line, where it is of one of the first `venues` venues
abbrev pub line_below : ℕ → BoundLine → List (ℕ × LineId)
line_below venues bound =
    if ltb bound.venue venues then (bound.venue, bound.line) ∷ [] else []

-- the lines that are run over these sockets, in their order: those of the settings' venues
abbrev pub run_lines : ListenSettings → List BoundLine → List (ℕ × LineId)
run_lines settings sockets = flat_map (line_below (vec_len settings.feed.sessions)) sockets
