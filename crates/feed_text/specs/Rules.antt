-- The records that a replay puts in before those of a capture (this project's choice), as though
-- the capture had them there, each at the time of the record before which it stands:
--  * a skip of a gap that has stood for as long as rule After has, of any venue, the lowest first;
--    to the same number as a run that listens (run_watches/specs/Gaps.antt, `gap_next`): to the
--    first message past the front that is held, or past all that is known of;
--  * a skip to a session's first packet, by rules Join and After;
--  * a skip of a gap before a packet that would be answered Ahead, by rule Gaps;
--  * a renewal, where a session is over and a packet comes of the one that was named to follow it.
use Rattle.std.specs.Prelude.{◌≡◌, ℕ, ◌+◌, ◌-◌, ◌*◌, ◌^◌, ◌<◌, ◌≤◌, ◌⊎◌, ◌==◌, List, [], ◌∷◌, length, min, Option, Some, None, Ok, slice_get, if◌then◌else◌}
use Rattle.mold_packet.specs.declared.request.Request.{Request}
use Rattle.mold_packet.specs.Content.{Content, Spells}
use Rattle.line_arbiter.specs.declared.outcome.Outcome.{Outcome}
use Rattle.line_arbiter.specs.declared.outcome.Outcome.TheVariants.{Ahead}
use Rattle.line_arbiter.specs.Fits.{FitsHistory}
use Rattle.line_arbiter.specs.Histories.{History, after_renewal, names_of, skip_after}
use Rattle.line_arbiter.specs.LastSent.{last_gap, last_sent}
use Rattle.line_arbiter.specs.Outcomes.{IsOutcome}
use Rattle.line_arbiter.specs.Packets.{end_of, known_of}
use Rattle.line_arbiter.specs.Renewals.{IsRenewal}
use Rattle.line_arbiter.specs.States.{State}
use Rattle.line_arbiter.specs.Streams.{front_of, held_count, missing_count}
use Rattle.run_settings.specs.declared.next_session.NextSession.{NextSession}
use Rattle.run_settings.specs.NextSessions.{names_after}
use Rattle.run_settings.specs.declared.skip_rule.SkipRule.{SkipRule}
use Rattle.run_settings.specs.declared.skip_rule.SkipRule.TheVariants.{Never, Join, Gaps, After}
use Rattle.feed_text.specs.declared.replay.ReplayConfig.{ReplayConfig}
use Rattle.feed_text.specs.declared.standing_gap.StandingGap.{StandingGap}
use Rattle.capture_records.specs.Capture.{CaptureRecord, datagram_record, renewal_record, skip_record, record_venue}
use Rattle.capture_records.specs.Formats.{TimedRecord, timed_record}
use Rattle.feed_text.specs.ReplayEvents.{ReplayEvent}
use Rattle.feed_text.specs.Emitted.{EmitsRecord}
use Rattle.feed_text.specs.Texts.{new_histories}

-- An arbiter with a window of this width has this history, and has sent all that is ready.
pub record HasSentAll (window : ℕ) (s : State) (h : History) : Type 0 where
  pub history : FitsHistory s h
  pub width : s.window ≡ window
  pub sent : s.sent ≡ last_sent h

-- how many messages are held once all that is ready was taken
abbrev pub held_at_last : History → ℕ
held_at_last h = held_count (last_sent h) h.present.packets

-- ---- gaps that stand

-- The history of each venue, and its gap that stands, if one does.
pub record ReplayPoint : Type 0 where
  pub histories : List History
  pub standing : ℕ → Option StandingGap

-- nothing came yet
abbrev pub new_point : ReplayConfig → ReplayPoint
new_point config = record { histories = new_histories config; standing = λ place. None }

-- The gap that stands at this time, where this one stood before: where they begin with the same
-- number, the one that stood.
abbrev pub stands_then : Option StandingGap → ℕ → Option Request → Option StandingGap
stands_then before time None = None
stands_then None time (Some gap) = Some (record { number = gap.number; since = time })
stands_then (Some old) time (Some gap) =
    if old.number == gap.number then Some old
    else Some (record { number = gap.number; since = time })

-- the gap of a venue among these, if it has one
abbrev pub gap_of_some : ℕ → Option History → Option Request
gap_of_some window None = None
gap_of_some window (Some h) = last_gap window h

abbrev pub gap_at : ℕ → List History → ℕ → Option Request
gap_at window histories place = gap_of_some window (slice_get histories place)

-- The gaps that stand after a record of a venue, which leads to these histories: those of the
-- others stay, and a record without a time begins none and ends none.
abbrev pub gap_standing_after : ℕ → ℕ → Option ℕ → List History → (ℕ → Option StandingGap) → ℕ
    → Option StandingGap
gap_standing_after window venue None histories before place = before place
gap_standing_after window venue (Some time) histories before place =
    if venue == place then stands_then (before place) time (gap_at window histories place)
    else before place

abbrev pub point_after : ReplayConfig → ReplayPoint → TimedRecord → List History → ReplayPoint
point_after config old r histories = record {
  histories = histories;
  standing = gap_standing_after config.window (record_venue r.what) r.time histories old.standing;
}

-- a gap that begins with this number has stood for this span of nanoseconds
abbrev pub HasStood : ℕ → ℕ → ℕ → Option StandingGap → Type 0
HasStood span time number None = ⊥
HasStood span time number (Some g) = (g.number ≡ number) × (g.since + span ≤ time)

-- the first number past a gap that has come, or, where none has, that isn't known to exist; as far
-- as there are numbers
abbrev pub next_come : History → Request → ℕ
next_come h gap =
    min (2 ^ 64 - 1)
    (if held_at_last h == 0 then known_of h.present.packets + 1 else gap.number + gap.count)

-- The gap of a venue with this history has stood for the span, and is given up to this number.
pub record IsOverdue (window span time : ℕ) (h : History) (standing : Option StandingGap)
    (number : ℕ) : Type 0 where
  pub gap : Request
  pub lacks : last_gap window h ≡ Some gap
  pub stood : HasStood span time gap.number standing
  pub first : number ≡ next_come h gap
  pub missing : gap.number < number

-- the same of the venue at a place
pub record IsOverdueAt (window span time : ℕ) (at : ReplayPoint) (place number : ℕ) : Type 0 where
  pub history : History
  pub is : slice_get at.histories place ≡ Some history
  pub overdue : IsOverdue window span time history (at.standing place) number

-- the skip of the lowest venue's gap that has stood for the span
pub record IsLowestOverdue (window span time : ℕ) (at : ReplayPoint)
    (put_in : CaptureRecord) : Type 0
  where
    pub place : ℕ
    pub number : ℕ
    pub overdue : IsOverdueAt window span time at place number
    pub lowest : (lower other : ℕ) → lower < place → IsOverdueAt window span time at lower other
        → ⊥
    pub skip : put_in ≡ skip_record place number

-- before a record with this time: by rule After alone, and where the time is known
abbrev pub GivesUpOverdue : SkipRule → ℕ → Option ℕ → ReplayPoint → CaptureRecord → Type 0
GivesUpOverdue (After ms) window (Some time) at put_in =
    IsLowestOverdue window (ms * 1000000) time at put_in
GivesUpOverdue rule window time at put_in = ⊥

-- ---- before a packet

-- no message of the session was taken or given up
pub record IsFresh (h : History) : Type 0 where
  pub front : front_of h.present.packets ≡ 0
  pub held : held_at_last h ≡ 0

-- The session is joined at a packet's number, which is past the first: the packet is the session's
-- first, and some window is wide enough that it isn't refused.
pub record IsJoinedAt (h : History) (p : Content) (number : ℕ) : Type 0 where
  pub fresh : IsFresh h
  pub window : ℕ
  pub outcome : Outcome
  pub accepted : IsOutcome h.present.name window (last_sent h) h.present.packets p (Ok outcome)
  pub first : number ≡ p.number
  pub missing : 1 < number

-- the first number past the front that has come: that of a held message, or the packet's own
abbrev pub first_come : ℕ → History → Content → ℕ
first_come window h p =
    if held_at_last h == 0 then p.number
    else min p.number
    (front_of h.present.packets + 1 + missing_count window (last_sent h) h.present.packets)

-- the packet would be answered Ahead
abbrev pub IsAhead : ℕ → History → Content → Type 0
IsAhead window h p =
    IsOutcome h.present.name window (last_sent h) h.present.packets p (Ok Ahead)

-- A packet that would be answered Ahead is past a gap, up to the first number that has come.
pub record IsPastGap (window : ℕ) (h : History) (p : Content) (number : ℕ) : Type 0 where
  pub ahead : IsAhead window h p
  pub first : number ≡ first_come window h p
  pub missing : front_of h.present.packets + 1 < number

-- before this packet the rule gives up what is missing below this number
abbrev pub SkipsBefore : SkipRule → ℕ → History → Content → ℕ → Type 0
SkipsBefore Never window h p number = ⊥
SkipsBefore Join window h p number = IsJoinedAt h p number
SkipsBefore Gaps window h p number = IsJoinedAt h p number ⊎ IsPastGap window h p number
SkipsBefore (After ms) window h p number = IsJoinedAt h p number

-- The packet is of the session that follows the venue's present one, and a renewal would begin it.
pub record RenewsBefore (next : List NextSession) (venue : ℕ) (h : History) (p : Content)
    (name : List ℕ) : Type 0 where
  pub follows : slice_get (names_after venue next) (length h.earlier) ≡ Some name
  pub session : p.session ≡ name
  pub ordinal : ℕ
  pub renews : IsRenewal (names_of h) (end_of h.present.packets) (last_sent h) name (Ok ordinal)

-- this record is put in before a packet of a venue with this history
abbrev pub PutsBefore : ReplayConfig → ℕ → History → Content → CaptureRecord → Type 0
PutsBefore config venue h p (skip_record place number) =
    (place ≡ venue) × SkipsBefore config.skips config.window h p number
PutsBefore config venue h p (renewal_record place name) =
    (place ≡ venue) × RenewsBefore config.next_sessions.now venue h p name
PutsBefore config venue h p _ = ⊥

-- the bytes of a datagram; of another record none, which are no packet
abbrev pub datagram_bytes : CaptureRecord → List ℕ
datagram_bytes (datagram_record venue line bytes) = bytes
datagram_bytes _ = []

-- before a record that is a packet of one of the venues with these histories
pub record PutsAt (config : ReplayConfig) (histories : List History) (r put_in : CaptureRecord)
    : Type 0 where
  pub before : History
  pub at : slice_get histories (record_venue r) ≡ Some before
  pub packet : Content
  pub rest : List ℕ
  pub spells : Spells (datagram_bytes r) packet rest
  pub puts : PutsBefore config (record_venue r) before packet put_in

-- ---- before any record

-- This record is put in before another one: first of all the skips of gaps that have stood long
-- enough.
abbrev pub PutsIn : ReplayConfig → ReplayPoint → TimedRecord → CaptureRecord → Type 0
PutsIn config at r put_in =
    GivesUpOverdue config.skips config.window r.time at put_in
    ⊎ (((other : CaptureRecord) → GivesUpOverdue config.skips config.window r.time at other → ⊥)
    × PutsAt config at.histories r.what put_in)

-- a skip was made, and a session has begun
abbrev pub IsMade : CaptureRecord → History → History → Type 0
IsMade (skip_record venue number) h after = after ≡ skip_after h number (Ok tt)
IsMade (renewal_record venue name) h after = after ≡ after_renewal h name
IsMade _ h after = ⊥

-- at the same time
abbrev pub PutsInRecord : ReplayConfig → ReplayPoint → TimedRecord → TimedRecord → Type 0
PutsInRecord config at r taken =
    (put_in : CaptureRecord) × PutsIn config at r put_in × (taken ≡ timed_record put_in r.time)

-- the record that a replay takes next of these, and those that are left then: one that is put in
-- before the first of them, or that one
abbrev pub IsTakenNext : ReplayConfig → ReplayPoint → List TimedRecord → TimedRecord
    → List TimedRecord → Type 0
IsTakenNext config at [] taken left = ⊥
IsTakenNext config at (r ∷ rs) taken left =
    (PutsInRecord config at r taken × (left ≡ r ∷ rs))
    ⊎ (((put_in : CaptureRecord) → PutsIn config at r put_in → ⊥) × (taken ≡ r) × (left ≡ rs))

-- Of these records a replay takes these, one after another, from a point on, and is left with
-- others and another point. Where nothing is put in they are the records.
abbrev pub AreTakenOf : ReplayConfig → List TimedRecord → ReplayPoint → List TimedRecord
    → List TimedRecord → ReplayPoint → Type 0
AreTakenOf config records old [] left new = (left ≡ records) × (new ≡ old)
AreTakenOf config records old (t ∷ ts) left new =
    (others : List TimedRecord) × (emitted : List ReplayEvent) × (mid : List History)
    × IsTakenNext config old records t others
    × EmitsRecord config.window config.gaps t.what old.histories emitted mid
    × AreTakenOf config others (point_after config old t mid) ts left new
