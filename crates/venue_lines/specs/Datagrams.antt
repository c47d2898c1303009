-- A datagram, and the answer to it.
use Rattle.std.specs.Prelude.{◌≡◌, ◌⊎◌, ℕ, List, Result, Ok, Err, IsOk}
use Rattle.feed_types.specs.Sessions.{Session, IsSessionAt}
use Rattle.mold_packet.specs.Content.{Content, Spells}
use Rattle.mold_packet.specs.Faults.{HasFault}
use Rattle.mold_packet.specs.declared.packet.Kind.TheVariants as kinds
use Rattle.line_arbiter.specs.declared.outcome.Outcome.{Outcome}
use Rattle.line_arbiter.specs.declared.outcome.LineFault.{LineFault}
use Rattle.line_arbiter.specs.declared.outcome.LineFault.TheVariants.{OtherSession, EndTooEarly}
use Rattle.line_arbiter.specs.OfSession.{IsOfSession}
use Rattle.feed_types.specs.declared.genuine.Genuine.{Ghosts as Genuine}
use Rattle.feed_steps.specs.Premises.{BringExactly, IsGenuinePacket}
use Rattle.venue_lines.specs.declared.datagram.Datagram.{Datagram}
use Rattle.venue_lines.specs.declared.faults.TakeFault.{TakeFault}
use Rattle.venue_lines.specs.declared.faults.TakeFault.TheVariants as faults
use Rattle.feed_steps.specs.Lanes.{FeedLanes}
use Rattle.venue_lines.specs.Cells.{IsPossibleCall}
use Rattle.venue_lines.specs.Seats.{SeatState, seat_after, seat_refusing}
use Rattle.venue_lines.specs.Sections.{PushesReady, TakesAndPushesReady}

abbrev pub bytes_of : Datagram → List ℕ
bytes_of datagram = datagram.all.items

-- whatever packet the bytes are is genuine at the venue
abbrev pub AreGenuineBytes : {S : Type 0} → Genuine S → ℕ → List ℕ → Type 0
AreGenuineBytes premise venue bytes =
    (p : Content) (rest : List ℕ) → Spells bytes p rest → IsGenuinePacket premise venue p

-- A packet's answer: one that a cell of the seat's venue gives, which then pushes what is ready; or
-- OtherSession, where the call met no lock of that venue.
abbrev pub IsAnsweredAt : {S : Type 0} → Genuine S → FeedLanes → SeatState → Content
    → Result Outcome LineFault → Type 0
IsAnsweredAt premise lanes seat p answer =
    IsPossibleCall premise lanes seat.venue
    (TakesAndPushesReady seat.line p answer) (answer ≡ Err OtherSession)

-- The bytes are a packet, to which this is the venue's answer; the seat counts it where it is
-- accepted.
pub record IsPacketTaken {S : Type 0} (premise : Genuine S) (lanes : FeedLanes) (bytes : List ℕ)
    (old : SeatState) (answer : Result Outcome LineFault) (new : SeatState) : Type 0 where
  pub packet : Content
  pub rest : List ℕ
  pub spells : Spells bytes packet rest
  pub answered : IsAnsweredAt premise lanes old packet answer
  pub seat : new ≡ seat_after old packet answer

-- The answer to a datagram, and the seat then: the packet's fault exactly; or it is a packet, and
-- the answer is the venue's. What is ready then is pushed in each case. What is refused is counted
-- as such, and changes nothing else.
abbrev pub TakesDatagram : {S : Type 0} → Genuine S → FeedLanes → List ℕ → SeatState
    → Result Outcome TakeFault → SeatState → Type 0
TakesDatagram premise lanes bytes old (Err (faults.Packet fault)) new =
    HasFault bytes fault × (new ≡ seat_refusing (faults.Packet fault) old)
    × PushesReady premise lanes old.venue
TakesDatagram premise lanes bytes old (Err (faults.Line fault)) new =
    IsPacketTaken premise lanes bytes old (Err fault) old
    × (new ≡ seat_refusing (faults.Line fault) old)
TakesDatagram premise lanes bytes old (Ok outcome) new =
    IsPacketTaken premise lanes bytes old (Ok outcome) new

-- Whatever packet the bytes are: where the lines bring exactly these sessions, a packet of one of
-- them is accepted, or is of another session than the present one, or is an end that is answered as
-- too early.
abbrev pub AcceptsTheirs : {S : Type 0} → Genuine S → ℕ → List ℕ → Result Outcome TakeFault
    → Type 0
AcceptsTheirs premise venue bytes answer =
    (all : List Session) (ordinal : ℕ) (session : Session) (p : Content) (rest : List ℕ)
    → BringExactly premise venue all → IsSessionAt all ordinal session
    → Spells bytes p rest → IsOfSession session p
    → IsOk answer
    ⊎ ((answer ≡ Err (faults.Line OtherSession))
    ⊎ ((p.kind ≡ kinds.End) × (answer ≡ Err (faults.Line EndTooEarly))))
