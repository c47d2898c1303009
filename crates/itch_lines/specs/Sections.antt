-- The sections under a venue's lock: what a datagram, or a gap that is given up, brings.
use Rattle.std.specs.Prelude.{◌≡◌, ◌⊎◌, ℕ, ◌-◌, Bool, true, false, List, [], ◌∷◌, ◌++◌, Option, Some, None, Result, Ok, slice_get, if◌then◌else◌}
use Rattle.feed_types.specs.declared.item.Numbered.{Numbered}
use Rattle.feed_types.specs.declared.line.LineId.{LineId}
use Rattle.feed_types.specs.Sessions.{end_item}
use Rattle.mold_packet.specs.Content.{Content, Spells}
use Rattle.mold_packet.specs.Faults.{HasFault}
use Rattle.mold_packet.specs.declared.fault.PacketFault.{PacketFault}
use Rattle.mold_packet.specs.declared.request.Request.{Request}
use Rattle.line_arbiter.specs.declared.outcome.Outcome.{Outcome}
use Rattle.line_arbiter.specs.declared.outcome.LineFault.{LineFault}
use Rattle.line_arbiter.specs.Outcomes.{IsOutcome}
use Rattle.line_arbiter.specs.Packets.{Input, Skip, arrival_of}
use Rattle.line_arbiter.specs.Renewals.{IsRenewal}
use Rattle.line_arbiter.specs.Skips.{MaySkip}
use Rattle.line_arbiter.specs.States.{IsRenewed, ordinal_of}
use Rattle.line_arbiter.specs.Streams.{gap_of}
use Rattle.venue_normaliser.specs.Brought.{has_skip}
use Rattle.venue_normaliser.specs.Ends.{read_as}
use Rattle.venue_normaliser.specs.Outputs.{IsPutOut}
use Rattle.venue_normaliser.specs.States.{FitsPackets, KeepsItsBook, NormaliserState}
use Rattle.item_packets.specs.Packed.{ArePacked}

-- Of a venue's session, of which `put` was put out before, and these packets and skips have come
-- since: the datagrams carry just what is put out more.
pub record BringsMore (name keys : List ℕ) (after : List Input) (put : List Numbered)
    (made : List (List ℕ)) : Type 0 where
  pub more : List Numbered
  pub put_out : IsPutOut keys after (put ++ more)
  pub packed : ArePacked name more made

-- A packet came on a line of a venue, to which these packets and skips were given, and of which
-- `put` was put out: it is answered as it is to be, and the datagrams carry just what is put out
-- more.
pub record MakesOfPacket (line : LineId) (p : Content) (answer : Result Outcome LineFault)
    (before after : NormaliserState) (packets : List Input) (put : List Numbered)
    (made : List (List ℕ)) : Type 0 where
  pub outcome : IsOutcome before.lines.session before.lines.window before.lines.sent packets
      (read_as before.end_number p) answer
  pub fits : FitsPackets after
      (packets ++ arrival_of line (read_as before.end_number p) answer ∷ [])
  pub brings : BringsMore before.lines.session before.book.keys
      (packets ++ arrival_of line (read_as before.end_number p) answer ∷ []) put made

-- What is missing below a number was given up: the datagrams carry just what is put out more, which
-- is the end.
pub record BringsSkip (number : ℕ) (before after : NormaliserState) (packets : List Input)
    (put : List Numbered) (made : List (List ℕ)) : Type 0 where
  pub may : MaySkip packets number
  pub fits : FitsPackets after (packets ++ Skip number ∷ [])
  pub brings : BringsMore before.lines.session before.book.keys (packets ++ Skip number ∷ []) put
      made

-- ---- the sessions that follow one another

-- the name of the session that follows the present one, if one does
abbrev pub name_following : List (List ℕ) → NormaliserState → Option (List ℕ)
name_following names n = slice_get names (ordinal_of n.lines - 1)

-- The packet is of the session that follows the present one, which is over, and all of it was sent:
-- a renewal under this name would begin the one of this ordinal.
pub record IsDueToRenew (names : List (List ℕ)) (p : Content) (n : NormaliserState) : Type 0 where
  pub follows : name_following names n ≡ Some p.session
  pub ordinal : ℕ
  pub renews : IsRenewal n.lines.sessions n.lines.end n.lines.sent p.session (Ok ordinal)

-- it has begun, with nothing given
pub record BeginsAnew (names : List (List ℕ)) (p : Content) (before after : NormaliserState)
    : Type 0 where
  pub before_it : IsDueToRenew names p before
  pub fits : FitsPackets after []
  pub renewed : IsRenewed before.lines after.lines p.session
  pub kept : KeepsItsBook before after

-- Where the packet is of the next session and the present one is over, that begins; else nothing
-- changes.
abbrev pub BeginsOrKeeps : List (List ℕ) → Content → (renewed : Bool) → NormaliserState
    → NormaliserState → Type 0
BeginsOrKeeps names p true before after = BeginsAnew names p before after
BeginsOrKeeps names p false before after = (IsDueToRenew names p before → ⊥) × (after ≡ before)

-- what was given and put out of the present session, once another one has begun, or none has
abbrev pub since_begun : {A : Type 0} → (renewed : Bool) → List A → List A
since_begun true xs = []
since_begun false xs = xs

-- ---- datagrams

-- bytes that are no packet change nothing and bring nothing
pub record PassesBytesOver (bytes : List ℕ) (before after : NormaliserState) (made : List (List ℕ))
    : Type 0 where
  pub fault : PacketFault
  pub has : HasFault bytes fault
  pub same : after ≡ before
  pub none : made ≡ []

-- The bytes are a packet: the venue's next session begins where it is due, and then the packet is
-- taken.
pub record BeginsAndNormalises (names : List (List ℕ)) (line : LineId) (bytes : List ℕ)
    (before after : NormaliserState) (packets : List Input) (put : List Numbered)
    (made : List (List ℕ)) : Type 0 where
  pub packet : Content
  pub rest : List ℕ
  pub spells : Spells bytes packet rest
  pub renewed : Bool
  pub between : NormaliserState
  pub begins : BeginsOrKeeps names packet renewed before between
  pub answer : Result Outcome LineFault
  pub brings : MakesOfPacket line packet answer between after (since_begun renewed packets)
      (since_begun renewed put) made

-- What a datagram brings of a venue, to which these packets and skips were given in the present
-- session, and of which `put` was put out.
abbrev pub MakesOfDatagram : List (List ℕ) → LineId → List ℕ → NormaliserState → NormaliserState
    → List Input → List Numbered → List (List ℕ) → Type 0
MakesOfDatagram names line bytes before after packets put made =
    PassesBytesOver bytes before after made
    ⊎ BeginsAndNormalises names line bytes before after packets put made

-- where a normaliser fails, an end of session at most
abbrev pub BringsEnd : List (List ℕ) → Type 0
BringsEnd made =
    (made ≡ [])
    ⊎ ((name : List ℕ) × (number : ℕ) × ArePacked name (end_item number ∷ []) made)

-- ---- gaps

-- the run of messages that is missing of a session, unless a gap of it was given up
abbrev pub gap_asked : NormaliserState → List Input → Option Request
gap_asked n packets =
    if has_skip packets then None
    else gap_of n.lines.session n.lines.window n.lines.sent packets
