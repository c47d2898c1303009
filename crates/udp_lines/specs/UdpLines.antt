-- A line that is received by UDP, as contracts see it.
use Rattle.std.specs.Prelude.{◌≡◌, ◌⊎◌, ℕ, ◌==◌, ◌&&◌, not, Bool, true, false, IsTrue, MatchBool, List, [], ◌∷◌, ◌++◌, Option, Some, None, Result, Ok, is_some, if◌then◌else◌}
use Rattle.std.specs.declared.alloc.Global.{Global}
use Rattle.std.specs.declared.net.socket_addr.SocketAddr.{SocketAddr}
use Rattle.std.specs.declared.sync.Arc.{Arc}
use Rattle.std.specs.declared.sync.atomic.AtomicBool.{AtomicBool}
use Rattle.feed_types.specs.declared.line.LineId.{LineId}
use Rattle.feed_types.specs.declared.line.LineId.TheVariants as lines
use Rattle.udp_lines.specs.declared.line_use.LineUse.{LineUse}
use Rattle.udp_lines.specs.declared.line_use.LineUse.TheVariants as uses
use Rattle.udp_lines.specs.declared.intake.Intake.{Intake}
use Rattle.run_settings.specs.Senders.{senders_of}
use Rattle.line_recordings.specs.declared.record_sender.RecordSender.{RecordSender}
use Rattle.venue_lines.specs.declared.datagram.Datagram.{Datagram}
use Rattle.venue_lines.specs.declared.source.SourceFault.{SourceFault}
use Rattle.venue_lines.specs.Datagrams.{bytes_of}
use Rattle.run_settings.specs.declared.end_rule.EndRule.{EndRule}
use Rattle.run_settings.specs.declared.sender.AllowedSender.{AllowedSender}
use Rattle.run_settings.specs.declared.end_rule.EndRule.TheVariants.{AnySession, OwnSession, NoSession}
use Rattle.udp_lines.specs.EndsOfSessions.{SpellsEndOf}
use Rattle.udp_lines.specs.Brought.{HasMet, Kept, SortingRule}

-- the venue, which of its lines it is, the session, which ends of session end the line, the senders
-- whose datagrams it brings, where any are named, how many it may still read, if there is a limit,
-- and after which moment it reads none, if after any; whether its socket has failed, whether an end
-- that was its last datagram has ended it, or its time, the session of such an end, and the mark
-- that shows whether a reply is awaited, if there is one; the most that a number may be ahead, if
-- that is asked; the socket, what the line keeps of what that has brought, the datagram that is
-- there for the next call, and whether what that call answers is there; and where the line hands
-- over what its venue took, if that is recorded
pub record UdpLineState (S : Type 0) : Type 0 where
  pub venue : ℕ
  pub line : LineId
  pub session : List ℕ
  pub rule : EndRule
  pub senders : Option (List AllowedSender)
  pub left : Option ℕ
  pub deadline : Option ℕ
  pub failed : Bool
  pub ended : Bool
  pub ender : Option (List ℕ)
  pub awaited : Option (Arc AtomicBool Global)
  pub most_ahead : Option ℕ
  pub socket : S
  pub kept : Kept
  pub waiting : List (List ℕ)
  pub answered : Bool
  pub records : Option RecordSender

-- which of its venue's lines it is, by its use
abbrev pub line_of : LineUse → LineId
line_of uses.A = lines.A
line_of uses.B = lines.B
line_of (uses.Recovery others) = lines.Recovery

-- by what the line sorts datagrams
abbrev pub sorting_of : {S : Type 0} → UdpLineState S → SortingRule
sorting_of line = record {
  session = line.session;
  end = line.rule;
  most_ahead = line.most_ahead;
  senders = line.senders;
}

-- the end that waits until another line has brought it
abbrev pub held_in : Option Datagram → Option (List ℕ)
held_in None = None
held_in (Some datagram) = Some (bytes_of datagram)

-- what a line keeps, by what it has
abbrev pub kept_in : {S : Type 0} → Intake S → Kept
kept_in intake = record {
  held = held_in intake.held;
  highest = intake.check.highest;
  foreign = intake.foreign;
  withheld = intake.withheld;
}

-- by what it sorts datagrams
abbrev pub sorting_by : {S : Type 0} → Intake S → SortingRule
sorting_by intake = record {
  session = intake.check.session;
  end = intake.check.end_rule;
  most_ahead = intake.check.most_ahead;
  senders = senders_of intake.line_socket.senders;
}

-- The datagrams of these bytes are what the line has brought from one state to the other: what its
-- socket has brought meanwhile, and what was there before, but for what is there still, and what by
-- its rule it has passed over, withheld or holds.
pub record HasBrought {S : Type 0} (brings : S → SocketAddr → List ℕ → S → Type 0)
    (waits : S → S → Type 0) (old : UdpLineState S) (bytes : List (List ℕ)) (new : UdpLineState S)
    : Type 0 where
  pub venue : new.venue ≡ old.venue
  pub sorting : sorting_of new ≡ sorting_of old
  pub handed_on : List (List ℕ)
  pub met : HasMet brings waits (sorting_of old) old.socket old.kept handed_on new.socket new.kept
  pub all : old.waiting ++ handed_on ≡ bytes ++ new.waiting

-- the datagram that is there for the next call
abbrev pub waiting_in : Option (Result Datagram SourceFault) → List (List ℕ)
waiting_in (Some (Ok datagram)) = bytes_of datagram ∷ []
waiting_in _ = []

-- A line asks its socket for nothing once that has failed, so there is one failure at most.
abbrev pub failures_of : Bool → ℕ
failures_of true = 1
failures_of false = 0

-- no datagram may be read any more, of as many as are left
abbrev pub is_none_left : Option ℕ → Bool
is_none_left None = false
is_none_left (Some count) = count == 0

-- the line has ended
abbrev pub IsOver : {S : Type 0} → UdpLineState S → Type 0
IsOver line = (line.failed ≡ true) ⊎ (is_none_left line.left ≡ true)

-- the line has ended since it has read as many datagrams as it may
abbrev pub is_read_out : {S : Type 0} → UdpLineState S → Bool
is_read_out line = not line.failed && (not line.ended && is_none_left line.left)

-- the bytes are an end of session that by this rule ends a line of a venue's session
abbrev pub EndsLine : EndRule → List ℕ → List ℕ → Type 0
EndsLine AnySession session bytes = (ended : List ℕ) × SpellsEndOf ended bytes
EndsLine OwnSession session bytes = SpellsEndOf session bytes
EndsLine NoSession session bytes = ⊥

-- Such an end, by these bytes, has ended the line: it reads nothing more, and which session's end
-- that was is known.
pub record IsEndedBy {S : Type 0} (bytes : List ℕ) (line : UdpLineState S) : Type 0 where
  pub none_left : line.left ≡ Some 0
  pub ended : line.ended ≡ true
  pub ender : (session : List ℕ) → SpellsEndOf session bytes → line.ender ≡ Some session

-- an end of session has ended the line, and a mark shows whether it reads on for a reply
abbrev pub may_read_on : {S : Type 0} → UdpLineState S → Bool
may_read_on line = is_some line.awaited && is_some line.ender

-- it looks at that mark: unless its socket has failed, or the next call's answer is there
abbrev pub looks_for_reply : {S : Type 0} → UdpLineState S → Bool
looks_for_reply line = may_read_on line && (not line.failed && not line.answered)

-- the line once the mark has shown whether a reply is awaited: it reads on, or has ended
abbrev pub read_on_by : {S : Type 0} → (awaits : Bool) → UdpLineState S → UdpLineState S
read_on_by awaits line =
    record line { left = if awaits then None else Some 0; ended = not awaits }

-- the line has looked whether it reads on, where it does
abbrev pub HasReadOn : {S : Type 0} → (old new : UdpLineState S) → Type 0
HasReadOn old new =
    MatchBool (looks_for_reply old) ((awaits : Bool) × (new ≡ read_on_by awaits old)) (new ≡ old)

-- What may end a line without a datagram: its time, if it has one, or the end of its venue's other
-- lines, if it is line R.
abbrev pub MayEndInTime : {S : Type 0} → UdpLineState S → Type 0
MayEndInTime line = IsTrue (is_some line.deadline) ⊎ (line.line ≡ lines.Recovery)

-- the line hasn't ended in time, or it has: then it might, hadn't ended before, and had no answer
-- for the next call
abbrev pub HasEndedInTime : {S : Type 0} → (old new : UdpLineState S) → Type 0
HasEndedInTime old new =
    (new ≡ old)
    ⊎ (MayEndInTime old × (old.failed ≡ false) × (is_none_left old.left ≡ false)
    × (old.answered ≡ false) × (new ≡ record old { left = Some 0; ended = true }))

-- What a wait changes of whether the line has ended. One that looks for a reply reads on, without a
-- limit, or has ended; any other stays as it was, or has ended in time.
abbrev pub HasAwaited : {S : Type 0} → (old new : UdpLineState S) → Type 0
HasAwaited old new =
    MatchBool (looks_for_reply old) (new.left ≡ (if new.ended then Some 0 else None))
    (((new.left ≡ old.left) × (new.ended ≡ old.ended))
    ⊎ (MayEndInTime old × (new.left ≡ Some 0) × (new.ended ≡ true)))

-- an end that ends a line, by a datagram that is an end of the session `ended`, or of none
abbrev pub IsLast : EndRule → List ℕ → Option (List ℕ) → Type 0
IsLast AnySession session ended = IsTrue (is_some ended)
IsLast OwnSession session ended = ended ≡ Some session
IsLast NoSession session ended = ⊥
