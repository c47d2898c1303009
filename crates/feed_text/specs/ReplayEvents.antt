-- The events of a replay, apart from how they are printed, and the journal that they make.
use Rattle.std.specs.Prelude.{ℕ, Bool, List, [], ◌∷◌, ◌++◌, ◌≡◌, Result, if◌then◌else◌}
use Rattle.feed_types.specs.declared.item.Numbered.{Numbered}
use Rattle.feed_types.specs.declared.journal.Entry.{Entry}
use Rattle.feed_types.specs.declared.journal.Entry.TheVariants.{Consumed, SelfHelp}
use Rattle.feed_types.specs.declared.line.LineId.{LineId}
use Rattle.mold_packet.specs.declared.fault.PacketFault.{PacketFault}
use Rattle.mold_packet.specs.declared.request.Request.{Request}
use Rattle.line_arbiter.specs.declared.outcome.Outcome.{Outcome}
use Rattle.line_arbiter.specs.declared.outcome.LineFault.{LineFault}
use Rattle.line_arbiter.specs.declared.faults.RenewFault.{RenewFault}
use Rattle.line_arbiter.specs.declared.faults.SkipFault.{SkipFault}
use Rattle.nbbo_book.specs.Eligible.{is_so}

-- A packet of this many messages, with this number first, was answered, and its datagram had this
-- many bytes; a datagram was no packet, an item was ready and taken, a run of messages is to be
-- asked for, a renewal was answered, a skip to a number was answered, or self-help was declared or
-- withdrawn: each at a venue.
pub data ReplayEvent : Type 0 where
  packet_answered : (venue : ℕ) (line : LineId) (number count bytes : ℕ)
      (answer : Result Outcome LineFault) → ReplayEvent
  packet_refused : (venue : ℕ) (line : LineId) (fault : PacketFault) → ReplayEvent
  item_taken : (venue : ℕ) (numbered : Numbered) → ReplayEvent
  gap_left : (venue : ℕ) (request : Request) → ReplayEvent
  renewal_answered : (venue : ℕ) (answer : Result ℕ RenewFault) → ReplayEvent
  skip_answered : (venue number : ℕ) (answer : Result (Unit {0}) SkipFault) → ReplayEvent
  self_help_declared : (venue : ℕ) (on : Bool) → ReplayEvent

-- the event of an entry: its item was taken, or self-help was declared or withdrawn
abbrev pub entry_event : Entry → ReplayEvent
entry_event (Consumed venue numbered) = item_taken venue numbered
entry_event (SelfHelp venue on) = self_help_declared venue on

-- the entry is an item of a venue
abbrev pub IsItemEntry : Entry → Type 0
IsItemEntry entry = (venue : ℕ) × (numbered : Numbered) × (entry ≡ Consumed venue numbered)

-- The journal after one more event: an item adds its entry, a declaration adds one unless that is
-- declared already, and other events add none.
abbrev pub entries_after : List Entry → ReplayEvent → List Entry
entries_after entries (packet_answered venue line number count bytes answer) = entries
entries_after entries (packet_refused venue line fault) = entries
entries_after entries (item_taken venue numbered) = entries ++ Consumed venue numbered ∷ []
entries_after entries (gap_left venue request) = entries
entries_after entries (renewal_answered venue answer) = entries
entries_after entries (skip_answered venue number answer) = entries
entries_after entries (self_help_declared venue on) =
    if is_so entries venue on then entries else entries ++ SelfHelp venue on ∷ []

-- the journal after these events, one after another
abbrev pub entries_of : List Entry → List ReplayEvent → List Entry
entries_of entries [] = entries
entries_of entries (h ∷ hs) = entries_of (entries_after entries h) hs
