-- A run over records: what each venue's normaliser is given of them, what is put out of it, and the
-- text of the packets that carry that.
use Rattle.std.specs.Prelude.{◌≡◌, ◌⊎◌, ℕ, ◌+◌, ◌-◌, ◌<◌, ◌&&◌, not, Bool, nat_lt, List, [], ◌∷◌, ◌++◌, length, map, flat_map, Contains, Option, Some, None, IsSome, Result, Ok, Err, slice_get, slice_index_or, slice_set, if◌then◌else◌}
use Rattle.feed_types.specs.declared.item.Item.{Item}
use Rattle.feed_types.specs.declared.item.Numbered.{Numbered}
use Rattle.feed_types.specs.declared.line.LineId.{LineId}
use Rattle.feed_types.specs.Symbols.{key_of}
use Rattle.event_sinks.specs.declared.venue_gap.VenueGap.{VenueGap}
use Rattle.mold_packet.specs.declared.fault.PacketFault.{PacketFault}
use Rattle.mold_packet.specs.Content.{Content, Spells}
use Rattle.mold_packet.specs.Faults.{HasFault}
use Rattle.line_arbiter.specs.declared.faults.RenewFault.{RenewFault}
use Rattle.line_arbiter.specs.declared.faults.SkipFault.{SkipFault}
use Rattle.line_arbiter.specs.declared.outcome.LineFault.{LineFault}
use Rattle.line_arbiter.specs.declared.outcome.Outcome.{Outcome}
use Rattle.line_arbiter.specs.Histories.{History, after_input, after_renewal, names_of}
use Rattle.line_arbiter.specs.Outcomes.{IsOutcome}
use Rattle.line_arbiter.specs.Packets.{Input, Skip, arrival_of, end_of}
use Rattle.line_arbiter.specs.Renewals.{IsRenewal}
use Rattle.line_arbiter.specs.Skips.{AllSent, IsSkip}
use Rattle.line_arbiter.specs.Streams.{front_of}
use Rattle.run_settings.specs.declared.next_session.NextSession.{NextSession}
use Rattle.run_settings.specs.declared.skip_rule.SkipRule.{SkipRule}
use Rattle.run_settings.specs.declared.skip_rule.SkipRule.TheVariants.{After, Gaps}
use Rattle.capture_records.specs.Capture.{CaptureRecord, datagram_record, record_venue, renewal_record, self_help_record, skip_record}
use Rattle.capture_records.specs.Formats.{TimedRecord, timed_record}
use Rattle.venue_normaliser.specs.Brought.{has_skip_past}
use Rattle.venue_normaliser.specs.Ends.{read_as}
use Rattle.venue_normaliser.specs.Outputs.{AreShown, IsPutOutFrom, Opening, from_start, opened_at}
use Rattle.venue_normaliser.specs.Snapshots.{SnapshotContent}
use Rattle.venue_normaliser.specs.States.{opening_of}
use Rattle.normalising.specs.Carried.{AreWritten, last_put}
use Rattle.normalising.specs.Texts.{datagram_text, record_text}
use Rattle.normalising.specs.declared.normalised_feed.NormalisedFeed.{NormalisedFeed}

-- ---- a venue

-- A venue of a run: its sessions, each with the packets and skips that the venue's normaliser was
-- given, how the present one began, and what was put out of that with what was given.
pub record NormalisedHistory : Type 0 where
  pub history : History
  pub opening : Opening
  pub output : List Numbered

-- the packets and skips that were given of the present session
abbrev pub inputs_of : NormalisedHistory → List Input
inputs_of h = h.history.present.packets

-- A venue to which nothing was given, with the name of its first session, which begins so. What a
-- snapshot shows is put out with the first packet or skip.
abbrev pub new_normalised : List ℕ → Opening → NormalisedHistory
new_normalised name opening = record {
  history = record {
    earlier = [];
    present = record { name = name; packets = opened_at opening.number };
  };
  opening = opening;
  output = [];
}

-- the symbols whose quotations are made, as a book has them
abbrev pub quoted_keys : NormalisedFeed → List ℕ
quoted_keys feed = map key_of feed.symbols.now

-- how a session begins: with its first message, or with a snapshot, whose orders show these items,
-- fewer than the numbers before it
abbrev pub BeginsWith : (keys : List ℕ) → Option SnapshotContent → Opening → Type 0
BeginsWith keys None opening = opening ≡ from_start
BeginsWith keys (Some snapshot) opening =
    (shown : List Item) × AreShown keys snapshot.messages shown × (length shown < snapshot.number)
    × (opening ≡ opening_of snapshot shown)

-- A venue's normaliser was given this, and what is put out of the session grew by what is carried
-- by these packets, and then this rest, which isn't written. No heartbeat among them goes past a
-- gap.
pub record PutsOutMore (feed : NormalisedFeed) (time venue : ℕ) (given : Input)
    (old : NormalisedHistory) (rest : List Numbered) (text : List ℕ) (new : NormalisedHistory)
    : Type 0 where
  pub carried : List Numbered
  pub datagrams : List (List ℕ)
  pub history : new.history ≡ after_input old.history given
  pub opening : new.opening ≡ old.opening
  pub output : new.output ≡ old.output ++ (carried ++ rest)
  pub put_out : IsPutOutFrom (quoted_keys feed) new.opening (inputs_of new) new.output
  pub written : AreWritten old.history.present.name (last_put new.opening (inputs_of new)) carried
      datagrams
  pub text_is : text ≡ flat_map (datagram_text feed.form venue time) datagrams

-- nothing is given, and nothing written
pub record LeavesVenue (old : NormalisedHistory) (text : List ℕ) (new : NormalisedHistory)
    : Type 0 where
  pub same : new ≡ old
  pub none : text ≡ []

-- a datagram that is no packet
pub record IsNotPacket (bytes : List ℕ) (old : NormalisedHistory) (text : List ℕ)
    (new : NormalisedHistory) : Type 0 where
  pub fault : PacketFault
  pub has : HasFault bytes fault
  pub leaves : LeavesVenue old text new

-- A datagram that is a packet is given to the venue's normaliser, with the end's number as the
-- standard has it, and is answered as it is to be.
pub record NormalisesPacket (feed : NormalisedFeed) (time venue : ℕ) (line : LineId)
    (bytes : List ℕ) (old : NormalisedHistory) (rest : List Numbered) (text : List ℕ)
    (new : NormalisedHistory) : Type 0 where
  pub packet : Content
  pub more : List ℕ
  pub spells : Spells bytes packet more
  pub sent : ℕ
  pub all_sent : AllSent (inputs_of old) sent
  pub answer : Result Outcome LineFault
  pub outcome : IsOutcome old.history.present.name feed.normaliser.window sent (inputs_of old)
      (read_as feed.normaliser.end_number packet) answer
  pub puts : PutsOutMore feed time venue
      (arrival_of line (read_as feed.normaliser.end_number packet) answer) old rest text new

-- by the answer to a skip: what is missing is given up, which ends what is put out; else nothing is
-- done
abbrev pub SkipsBy : NormalisedFeed → (time venue number : ℕ) → NormalisedHistory → List Numbered
    → List ℕ → NormalisedHistory → Result (Unit {0}) SkipFault → Type 0
SkipsBy feed time venue number old rest text new (Ok done) =
    PutsOutMore feed time venue (Skip number) old rest text new
SkipsBy feed time venue number old rest text new (Err fault) = LeavesVenue old text new

pub record NormalisesSkip (feed : NormalisedFeed) (time venue number : ℕ)
    (old : NormalisedHistory) (rest : List Numbered) (text : List ℕ) (new : NormalisedHistory)
    : Type 0 where
  pub sent : ℕ
  pub all_sent : AllSent (inputs_of old) sent
  pub answer : Result (Unit {0}) SkipFault
  pub is : IsSkip (inputs_of old) sent number answer
  pub does : SkipsBy feed time venue number old rest text new answer

-- the venue's next session begins, with an empty book, and says so
pub record BeginsSession (feed : NormalisedFeed) (venue : ℕ) (name : List ℕ)
    (old : NormalisedHistory) (text : List ℕ) (new : NormalisedHistory) : Type 0 where
  pub history : new.history ≡ after_renewal old.history name
  pub opening : new.opening ≡ from_start
  pub output : new.output ≡ []
  pub text_is : text ≡ record_text feed.form (renewal_record venue name)

abbrev pub RenewsBy : NormalisedFeed → (venue : ℕ) → List ℕ → NormalisedHistory → List ℕ
    → NormalisedHistory → Result ℕ RenewFault → Type 0
RenewsBy feed venue name old text new (Ok ordinal) = BeginsSession feed venue name old text new
RenewsBy feed venue name old text new (Err fault) = LeavesVenue old text new

pub record NormalisesRenewal (feed : NormalisedFeed) (venue : ℕ) (name : List ℕ)
    (old : NormalisedHistory) (text : List ℕ) (new : NormalisedHistory) : Type 0 where
  pub sent : ℕ
  pub all_sent : AllSent (inputs_of old) sent
  pub answer : Result ℕ RenewFault
  pub is : IsRenewal (names_of old.history) (end_of (inputs_of old)) sent name answer
  pub does : RenewsBy feed venue name old text new answer

-- a declaration of self-help is passed on
pub record PassesOn (feed : NormalisedFeed) (r : CaptureRecord) (old : NormalisedHistory)
    (text : List ℕ) (new : NormalisedHistory) : Type 0 where
  pub same : new ≡ old
  pub text_is : text ≡ record_text feed.form r

-- A record of a venue, at a time: this text is of it, and this rest of what is put out isn't
-- written.
abbrev pub NormalisesAt : NormalisedFeed → ℕ → CaptureRecord → NormalisedHistory
    → List Numbered → List ℕ → NormalisedHistory → Type 0
NormalisesAt feed time (datagram_record venue line bytes) old rest text new =
    IsNotPacket bytes old text new
    ⊎ NormalisesPacket feed time venue line bytes old rest text new
NormalisesAt feed time (skip_record venue number) old rest text new =
    NormalisesSkip feed time venue number old rest text new
NormalisesAt feed time (renewal_record venue name) old rest text new =
    NormalisesRenewal feed venue name old text new
NormalisesAt feed time (self_help_record venue on) old rest text new =
    PassesOn feed (self_help_record venue on) old text new

-- ---- gaps that are given up

-- a gap of the present session was given up, so that nothing past it is put out
abbrev pub has_ended_early : NormalisedHistory → Bool
has_ended_early h = has_skip_past h.opening.number (inputs_of h)

-- the gap after this front that a skip to a number gives up, where a gap was given up after it and
-- none before it
abbrev pub gap_skipped : (venue number front : ℕ) → (before after : Bool) → List VenueGap
gap_skipped venue number front before after =
    if not before && after
    then record {
      venue = venue;
      messages = record { first = front + 1; count = number - (front + 1) };
    } ∷ []
    else []

-- the gap that a record gives up: of each session the first one that a skip does
abbrev pub gap_given_up : CaptureRecord → (old new : NormalisedHistory) → List VenueGap
gap_given_up (skip_record venue number) old new =
    gap_skipped venue number (front_of (inputs_of old)) (has_ended_early old)
    (has_ended_early new)
gap_given_up (datagram_record venue line bytes) old new = []
gap_given_up (renewal_record venue name) old new = []
gap_given_up (self_help_record venue on) old new = []

-- ---- all venues

-- each venue, the time of the latest record that has one, and the gaps that were given up
pub record NormalisedPoint : Type 0 where
  pub venues : List NormalisedHistory
  pub latest : ℕ
  pub given_up : List VenueGap

-- the snapshot of a venue, if it has one
abbrev pub snapshot_at : List (Option SnapshotContent) → ℕ → Option SnapshotContent
snapshot_at snapshots place = slice_index_or snapshots place None

-- nothing was given to the venue at this place
pub record IsNewVenue (feed : NormalisedFeed) (place : ℕ) (h : NormalisedHistory) : Type 0 where
  pub opening : Opening
  pub begins : BeginsWith (quoted_keys feed) (snapshot_at feed.snapshots.now place) opening
  pub is : h ≡ new_normalised (slice_index_or feed.sessions.now place []) opening

-- nothing was read
pub record IsNewPoint (feed : NormalisedFeed) (at : NormalisedPoint) : Type 0 where
  pub count : length at.venues ≡ length feed.sessions.now
  pub each : (place : ℕ) (h : NormalisedHistory) → slice_get at.venues place ≡ Some h
      → IsNewVenue feed place h
  pub latest : at.latest ≡ 0
  pub given_up : at.given_up ≡ []

-- The time of what is written of a record: that of the latest record, up to it, which has one that
-- a savefile can say.
abbrev pub time_after : ℕ → Option ℕ → ℕ
time_after latest None = latest
time_after latest (Some time) = if nat_lt time 4294967296000000000 then time else latest

-- a record is given to its own venue, and the others stay
pub record NormalisesRecord (feed : NormalisedFeed) (r : TimedRecord) (old : NormalisedPoint)
    (rest : List Numbered) (text : List ℕ) (new : NormalisedPoint) : Type 0 where
  pub before : NormalisedHistory
  pub after : NormalisedHistory
  pub at : slice_get old.venues (record_venue r.what) ≡ Some before
  pub normalises : NormalisesAt feed (time_after old.latest r.time) r.what before rest text after
  pub venues : new.venues ≡ slice_set old.venues (record_venue r.what) after
  pub latest : new.latest ≡ time_after old.latest r.time
  pub given_up : new.given_up ≡ old.given_up ++ gap_given_up r.what before after

-- ---- what is put in

-- the venue is given a packet of this session
pub record IsPacketOfName (r : CaptureRecord) (venue : ℕ) (name : List ℕ) : Type 0 where
  pub line : LineId
  pub bytes : List ℕ
  pub is : r ≡ datagram_record venue line bytes
  pub packet : Content
  pub more : List ℕ
  pub spells : Spells bytes packet more
  pub session : packet.session ≡ name

-- A rule may give up gaps of a record's venue before it, or, by time, those of any.
abbrev pub MaySkipBefore : SkipRule → TimedRecord → ℕ → Type 0
MaySkipBefore Gaps r venue = venue ≡ record_venue r.what
MaySkipBefore (After ms) r venue = IsSome r.time
MaySkipBefore rule r venue = ⊥

-- A session is named to follow others of the venue.
pub record IsNamedNext (next : List NextSession) (venue : ℕ) (name : List ℕ) : Type 0 where
  pub session : NextSession
  pub among : Contains next session
  pub venue_is : session.venue ≡ venue
  pub name_is : session.name ≡ name

-- This record may be put in before another: a skip, by the rule; or a session that is named to
-- follow, before a packet of it.
abbrev pub MayPutIn : NormalisedFeed → TimedRecord → CaptureRecord → Type 0
MayPutIn feed r (skip_record venue number) = MaySkipBefore feed.skips r venue
MayPutIn feed r (renewal_record venue name) =
    IsNamedNext feed.next_sessions.now venue name × IsPacketOfName r.what venue name
MayPutIn feed r _ = ⊥

-- at the same time
abbrev pub IsPutInBefore : NormalisedFeed → TimedRecord → TimedRecord → Type 0
IsPutInBefore feed r taken =
    (put_in : CaptureRecord) × MayPutIn feed r put_in × (taken ≡ timed_record put_in r.time)

-- the record that a run takes next of these, and those that are left then: one that is put in
-- before the first of them, or that one
abbrev pub IsNormalisedNext : NormalisedFeed → List TimedRecord → TimedRecord
    → List TimedRecord → Type 0
IsNormalisedNext feed [] taken left = ⊥
IsNormalisedNext feed (r ∷ rs) taken left =
    (IsPutInBefore feed r taken × (left ≡ r ∷ rs)) ⊎ ((taken ≡ r) × (left ≡ rs))

-- Of these records a run takes these, one after another, which lead from a point to another one and
-- make this text; and others are left.
abbrev pub NormalisesAll : NormalisedFeed → List TimedRecord → NormalisedPoint → List TimedRecord
    → List ℕ → List TimedRecord → NormalisedPoint → Type 0
NormalisesAll feed records old [] text left new = (left ≡ records) × (text ≡ []) × (new ≡ old)
NormalisesAll feed records old (t ∷ ts) text left new =
    (others : List TimedRecord) × (mid : NormalisedPoint) × (first : List ℕ) × (more : List ℕ)
    × IsNormalisedNext feed records t others × NormalisesRecord feed t old [] first mid
    × NormalisesAll feed others mid ts more left new × (text ≡ first ++ more)

-- The text goes on within the record that a run takes next, or there is no more of it.
abbrev pub GoesOnWithin : NormalisedFeed → NormalisedPoint → List TimedRecord → List ℕ → Type 0
GoesOnWithin feed at left text =
    (text ≡ [])
    ⊎ ((taken : TimedRecord) × (others : List TimedRecord) × (rest : List Numbered)
    × (after : NormalisedPoint) × IsNormalisedNext feed left taken others
    × NormalisesRecord feed taken at rest text after)
