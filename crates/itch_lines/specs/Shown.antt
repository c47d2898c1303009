-- What a venue in ITCH shows, and whether a reply is awaited.
use Rattle.std.specs.Prelude.{◌≡◌, ℕ, ◌==◌, ◌&&◌, Bool, IfSome, List, Option, None, is_some, not, if◌then◌else◌}
use Rattle.line_arbiter.specs.Fits.{cursors_of}
use Rattle.line_arbiter.specs.Packets.{Input}
use Rattle.line_arbiter.specs.Pacing.{IsPaced, Pace}
use Rattle.line_arbiter.specs.States.{ordinal_of}
use Rattle.mold_packet.specs.declared.request.Request.{Request}
use Rattle.venue_lines.specs.declared.status.VenueStatus.{VenueStatus}
use Rattle.venue_normaliser.specs.States.{NormaliserState}
use Rattle.itch_lines.specs.Cells.{HasBeenGiven, ItchState}
use Rattle.itch_lines.specs.Sections.{gap_asked}
use Rattle.itch_lines.specs.declared.itch_status.ItchStatus.{ItchStatus}

-- The present session, to which these packets and skips were given: its cursors, and the run of
-- messages that is asked for.
pub record ShowsNormaliser (n : NormaliserState) (packets : List Input) (status : ItchStatus)
    : Type 0 where
  pub venue : status.venue ≡ n.lines.venue
  pub ordinal : status.ordinal ≡ ordinal_of n.lines
  pub session : status.session ≡ n.lines.session
  pub cursors : status.cursors ≡ cursors_of n.lines.sent packets
  pub gap : status.gap ≡ gap_asked n packets

-- there is a state that the venue's lock may keep, and the status is that of it
pub record ShowsItchVenue (venue : ℕ) (status : ItchStatus) : Type 0 where
  pub state : ItchState
  pub was : HasBeenGiven state.normaliser
  pub venue_is : state.normaliser.lines.venue ≡ venue
  pub shows : ShowsNormaliser state.normaliser was.packets status
  pub given_up : status.given_up ≡ state.given_up

-- the venue may show this: such a status, or nothing, as one whose normaliser has failed
abbrev pub MayShow : (venue : ℕ) → Option ItchStatus → Type 0
MayShow venue status = IfSome status (ShowsItchVenue venue)

-- ---- beside the feed

-- how far the feed has sent the present session on: it is at another one until something of this
-- session was put out
abbrev pub sent_over : ItchStatus → VenueStatus → ℕ
sent_over itch feed = if itch.ordinal == feed.ordinal then feed.cursors.sent else 0

-- what the feed shows of the venue, with the session, the cursors and the gap of the exchange's own
-- packets
abbrev pub shown_over : ItchStatus → VenueStatus → VenueStatus
shown_over itch feed = record feed {
  ordinal = itch.ordinal;
  session = itch.session;
  cursors = record itch.cursors { sent = sent_over itch feed };
  gap = itch.gap;
}

-- ---- replies after the end

-- the run of messages that is asked for once the session's end is known
abbrev pub gap_at_end : NormaliserState → List Input → Option Request
gap_at_end n packets =
    if is_some (cursors_of n.lines.sent packets).end then gap_asked n packets else None

-- A reply is awaited: there is such a gap, and it hasn't stood for so long since the end came, or
-- since something came of it.
pub record AwaitsReply (old : Pace) (gap : Option Request) (now wait : ℕ) (awaits : Bool)
    (new : Pace) : Type 0 where
  pub over : Option Request
  pub paced : IsPaced old gap now wait over new
  pub is : awaits ≡ (is_some gap && not (is_some over))
