-- The figures of a venue and its lines that are told of a run.
use Rattle.std.specs.Prelude.{ℕ, ◌+◌, ◌-◌, [], ◌∷◌, Option, Some, None, sum}
use Rattle.line_arbiter.specs.Counts.{shown}
use Rattle.mold_packet.specs.declared.request.Request.{Request}
use Rattle.venue_lines.specs.declared.line_counts.LineCounts.{LineCounts}
use Rattle.venue_lines.specs.declared.status.VenueStatus.{VenueStatus}

-- the datagrams of a line that were refused
abbrev pub refused_count : LineCounts → ℕ
refused_count line = shown (sum line.refused)

-- all datagrams that it brought
abbrev pub datagram_count : LineCounts → ℕ
datagram_count line =
    shown
    (sum (line.taken ∷ line.heartbeats ∷ line.ends ∷ line.ahead ∷ refused_count line ∷ []))

-- the messages of the packets that were taken
abbrev pub message_count : LineCounts → ℕ
message_count line = shown (line.wins + line.repeated)

-- the messages of a venue that are known of and not sent on yet
abbrev pub lag : VenueStatus → ℕ
lag venue = venue.cursors.known - venue.cursors.sent

abbrev pub gap_count : Option Request → ℕ
gap_count None = 0
gap_count (Some gap) = gap.count

-- the messages that are missing of its first gap
abbrev pub lacking : VenueStatus → ℕ
lacking venue = gap_count venue.gap
