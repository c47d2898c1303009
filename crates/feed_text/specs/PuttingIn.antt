-- What is put in before one record. Cited by private clauses alone.
use Rattle.std.specs.Prelude.{◌≡◌, ℕ, ◌+◌, ◌-◌, ◌*◌, ◌^◌, Bool, true, false, List, [], length, sum_by, Option, Some, None, Result, Ok, Err}
use Rattle.run_settings.specs.declared.skip_rule.SkipRule.{SkipRule}
use Rattle.run_settings.specs.declared.skip_rule.SkipRule.TheVariants.{Never, After}
use Rattle.feed_text.specs.declared.overdue.GapClock.{GapClock}
use Rattle.feed_text.specs.declared.put_in.Coming.{Coming}
use Rattle.feed_text.specs.declared.replay.ReplayConfig.{ReplayConfig}
use Rattle.feed_text.specs.declared.replay_sink.PublishStop.{PublishStop}
use Rattle.feed_text.specs.declared.standing_gaps.StandingGaps.{StandingGaps}
use Rattle.capture_records.specs.Capture.{CaptureRecord, record_venue}
use Rattle.feed_text.specs.Following.{ReplayVenue, EmitsNext, FollowAll}
use Rattle.capture_records.specs.Formats.{TimedRecord, timed_record}
use Rattle.feed_text.specs.ReplayStates.{SinkTaking, ReplayState}
use Rattle.feed_text.specs.Rules.{GivesUpOverdue, PutsIn, ReplayPoint, datagram_bytes, point_after}
use Rattle.feed_text.specs.Skipping.{SkipsAtVenue}
use Rattle.feed_text.specs.Standings.{Awaits, IsStandingKept, Knows}

-- what is looked at of a record
pub record StandsFor (coming : Coming) (r : TimedRecord) : Type 0 where
  pub venue : coming.venue ≡ record_venue r.what
  pub time : coming.time ≡ r.time
  pub bytes : coming.bytes.now ≡ datagram_bytes r.what

-- nothing is put in before any record
pub record IsPlain (config : ReplayConfig) : Type 0 where
  pub rule : config.skips ≡ Never
  pub next : config.next_sessions.now ≡ []

-- the clock by which gaps are given up before a record with this time
abbrev pub clock_of : SkipRule → Option ℕ → Option GapClock
clock_of (After ms) (Some time) = Some (record { span = ms * 1000000; time = time })
clock_of rule time = None

-- the gaps that stand at a point are kept, where the rule asks for it
abbrev pub KeepsFor : ReplayConfig → StandingGaps → ReplayPoint → Type 0
KeepsFor config s at = (ms : ℕ) → config.skips ≡ After ms → IsStandingKept s at.standing

-- no gap is given up before a record with this time
abbrev pub GivesUpNone : ReplayConfig → Option ℕ → ReplayPoint → Type 0
GivesUpNone config time at =
    (put_in : CaptureRecord) → GivesUpOverdue config.skips config.window time at put_in → ⊥

-- no skip is put in before a record
pub record PutsNoSkip (config : ReplayConfig) (r : TimedRecord) (at : ReplayPoint) : Type 0 where
  pub none_due : GivesUpNone config r.time at
  pub none_missing : (number : ℕ)
      → SkipsAtVenue config at.histories (record_venue r.what) (datagram_bytes r.what) number → ⊥

-- how much can be given up and renewed yet: more than the records that are put in
abbrev pub left_to_take : ReplayVenue → ℕ
left_to_take v = (64 - length v.arbiter.sessions) * 2 ^ 65 + (2 ^ 64 - v.arbiter.front)

abbrev pub left_in : List ReplayVenue → ℕ
left_in vs = sum_by left_to_take vs

-- A record was put in, and the gaps that stand after it are known.
pub record PutOne {K : Type 0} (taking : SinkTaking K) (config : ReplayConfig) (r : TimedRecord)
    (at : ReplayPoint) (old new : ReplayState K) (vs : List ReplayVenue) (kept : StandingGaps)
    : Type 0 where
  pub put_in : CaptureRecord
  pub is : PutsIn config at r put_in
  pub emits : EmitsNext taking config.window config.gaps put_in at.histories old new vs (Ok tt)
  pub knows : Knows config kept (point_after config at (timed_record put_in r.time) emits.after)

-- None is, nothing changes, and the record is waited for.
pub record PutNone {K : Type 0} (config : ReplayConfig) (r : TimedRecord) (at : ReplayPoint)
    (old new : ReplayState K) (vs : List ReplayVenue) (kept : StandingGaps) : Type 0 where
  pub none : (put_in : CaptureRecord) → PutsIn config at r put_in → ⊥
  pub same : new ≡ old
  pub follow : FollowAll config.window vs at.histories
  pub awaits : Awaits config kept r at

-- One was, and came to a stop.
pub record PutToStop {K : Type 0} (taking : SinkTaking K) (config : ReplayConfig)
    (r : TimedRecord) (at : ReplayPoint) (old new : ReplayState K) (vs : List ReplayVenue)
    (stop : PublishStop) : Type 0 where
  pub put_in : CaptureRecord
  pub is : PutsIn config at r put_in
  pub emits : EmitsNext taking config.window config.gaps put_in at.histories old new vs (Err stop)

abbrev pub PutsOne : {K : Type 0} → SinkTaking K → ReplayConfig → TimedRecord → ReplayPoint
    → ReplayState K → ReplayState K → List ReplayVenue → StandingGaps → Result Bool PublishStop
    → Type 0
PutsOne taking config r at old new vs kept (Ok true) = PutOne taking config r at old new vs kept
PutsOne taking config r at old new vs kept (Ok false) = PutNone config r at old new vs kept
PutsOne taking config r at old new vs kept (Err stop) =
    PutToStop taking config r at old new vs stop
