-- Gaps of venues while a run goes on: what is told of them, and which are given up.
use Rattle.std.specs.Prelude.{◌≡◌, ℕ, ◌+◌, ◌-◌, ◌/◌, ◌^◌, ◌==◌, min, nat_le, nat_lt, Bool, true, false, not, ◌&&◌, ◌||◌, [], Option, Some, None, MatchOption, is_some, if◌then◌else◌}
use Rattle.run_settings.specs.declared.listen_settings.ListenSettings.{ListenSettings}
use Rattle.run_settings.specs.declared.venue_names.VenueNames.{VenueNames}
use Rattle.text_out.specs.Devices.{Writing}
use Rattle.text_out.specs.StandardError.{SaysEach}
use Rattle.line_arbiter.specs.Counts.{shown}
use Rattle.line_arbiter.specs.declared.arbiter.ArbiterStatus.{ArbiterStatus}
use Rattle.mold_packet.specs.declared.request.Request.{Request}
use Rattle.run_watches.specs.GapNews.{gap_news_texts, gap_texts_if}
use Rattle.run_watches.specs.SessionNews.{session_news_texts}
use Rattle.run_watches.specs.declared.session_news.SessionNews.{SessionNews}
use Rattle.run_watches.specs.declared.gap_news.GapChange.TheVariants.{Lacking, Closed, Unanswered, GivenUp}
use Rattle.run_watches.specs.declared.gap_news.GapNews.{GapNews}
use Rattle.feed_types.specs.declared.missing_range.MissingRange.{MissingRange}
use Rattle.run_watches.specs.declared.gap_rule.GapRule.{GapRule}
use Rattle.venue_lines.specs.declared.status.VenueStatus.{VenueStatus}
use Rattle.run_watches.specs.declared.gap_watch.GapWatch.{GapWatch}
use Rattle.run_watches.specs.declared.gap_watch.StandingGap.{StandingGap}

-- ---- which gap stands

-- The gap that stands, at a look at this time that finds one: since the look that found it first,
-- where the same message was the first missing one at each look since then. At the look before the
-- venue's lines had sent `asked` requests.
abbrev pub standing_at : Option StandingGap → (now asked : ℕ) → Request → StandingGap
standing_at None now asked gap = record { first = gap.number; since_ms = now; asked = asked }
standing_at (Some before) now asked gap =
    if before.first == gap.number
    then before else record { first = gap.number; since_ms = now; asked = asked }

-- the same at a look that may find none
abbrev pub standing_after : Option StandingGap → (now asked : ℕ) → Option Request
    → Option StandingGap
standing_after before now asked None = None
standing_after before now asked (Some gap) = Some (standing_at before now asked gap)

-- the watch once it has seen this status of its venue at this time
abbrev pub stands : GapWatch → ℕ → VenueStatus → GapWatch
stands watch now status = record watch {
  standing = standing_after watch.standing now watch.requests status.gap;
  requests = status.requests;
}

-- for how many milliseconds it has stood, 0 where none stands
abbrev pub stood_of : Option StandingGap → ℕ → ℕ
stood_of None now = 0
stood_of (Some standing) now = now - standing.since_ms

-- ---- what is told of it

-- the messages that a request asks for
abbrev pub asked_range : Request → MissingRange
asked_range gap = record { first = gap.number; count = gap.count }

-- they have come, where all up to `front` were taken in sequence or given up
abbrev pub has_come : MissingRange → (front : ℕ) → Bool
has_come missing front = nat_le missing.count (front - (missing.first - 1))

-- of what was told to be lacking, what has come
abbrev pub closed_range : Option MissingRange → (front : ℕ) → Option MissingRange
closed_range None front = None
closed_range (Some missing) front = if has_come missing front then Some missing else None

-- and what hasn't
abbrev pub told_still : Option MissingRange → (front : ℕ) → Option MissingRange
told_still None front = None
told_still (Some missing) front = if has_come missing front then None else Some missing

-- what is to be told to be lacking: the gap that stands, once it has stood for a second, where
-- nothing that was told is still lacking
abbrev pub lacking_of : (told : Option MissingRange) → (stood : ℕ) → Option Request
    → Option MissingRange
lacking_of told stood None = None
lacking_of (Some missing) stood (Some gap) = None
lacking_of None stood (Some gap) = if nat_le 1000 stood then Some (asked_range gap) else None

-- what was told then
abbrev pub told_then : Option MissingRange → Option MissingRange → Option MissingRange
told_then told None = told
told_then told (Some missing) = Some missing

-- The messages were asked for since the look before the gap was found, and for two seconds it has
-- stood.
abbrev pub is_unanswered : StandingGap → (now requests : ℕ) → Bool
is_unanswered standing now requests =
    nat_lt standing.asked requests && nat_le 2000 (now - standing.since_ms)

-- what is to be told to be asked for in vain, where nothing was before
abbrev pub unanswered_of : (told : Bool) → Option StandingGap → (now requests : ℕ) → Option Request
    → Option MissingRange
unanswered_of told None now requests gap = None
unanswered_of told (Some standing) now requests None = None
unanswered_of told (Some standing) now requests (Some gap) =
    if not told && is_unanswered standing now requests then Some (asked_range gap) else None

-- whether any was told then
abbrev pub said_then : Bool → Option MissingRange → Bool
said_then told None = told
said_then told (Some missing) = true

-- A venue was looked at at this time, by a watch that has seen this status of it: it is said that
-- what was told to be lacking has come, then that what is to be told is lacking, and then that it
-- was asked for in vain; and nothing else.
pub record TellsStanding {E : Type 0} (writing : Writing E) (names : VenueNames)
    (watch : GapWatch) (now : ℕ)
    (status : VenueStatus) (before after : E) : Type 0 where
  pub closed : E
  pub lacking : E
  pub says_closed : SaysEach writing
      (gap_texts_if names (now / 1000) watch.venue Closed
      (closed_range watch.told status.cursors.front)) before closed
  pub says_lacking : SaysEach writing
      (gap_texts_if names (now / 1000) watch.venue Lacking
      (lacking_of (told_still watch.told status.cursors.front) (stood_of watch.standing now)
      status.gap)) closed lacking
  pub says_unanswered : SaysEach writing
      (gap_texts_if names (now / 1000) watch.venue Unanswered
      (unanswered_of watch.has_told_unanswered watch.standing now status.requests status.gap))
      lacking after

-- ---- which gaps are given up

abbrev pub rule_of : ListenSettings → GapRule
rule_of settings = record { join = settings.join; after_ms = settings.skip_after }

-- whether any is
abbrev pub gives_up : GapRule → Bool
gives_up rule = rule.join || is_some rule.after_ms

-- A gap that has stood for this long is to be given up: where that is asked for, one that has stood
-- for as long as is asked for.
abbrev pub has_stood : Option ℕ → ℕ → Bool
has_stood None stood = false
has_stood (Some ms) stood = nat_le ms stood

-- how many messages of a gap: where none is held all that is known of, and else those before the
-- first one that is held; no number is past the greatest one
abbrev pub due_count : ArbiterStatus → Request → ℕ
due_count cursors gap =
    if cursors.held == 0 then min (cursors.known + 1) (2 ^ 64 - 1) - gap.number else gap.count

-- what is to be given up of a gap that has stood for this long, of a venue with these cursors
abbrev pub due_of : GapRule → (stood : ℕ) → ArbiterStatus → Option Request → Option MissingRange
due_of rule stood cursors None = None
due_of rule stood cursors (Some gap) =
    if has_stood rule.after_ms stood
    then Some (record { first = gap.number; count = due_count cursors gap }) else None

-- the message to go on from, where these are given up
abbrev pub next_after : MissingRange → ℕ
next_after missing = min (missing.first + missing.count) (2 ^ 64 - 1)

-- the watch once its venue has given up these messages, of which nothing more is told then
abbrev pub given_up_in : GapWatch → MissingRange → GapWatch
given_up_in watch missing = record watch {
  told = None;
  given_up = shown (watch.given_up + missing.count);
}

-- the news of that
abbrev pub news_of : (second venue : ℕ) → MissingRange → GapNews
news_of second venue missing = record {
  second = second;
  venue = venue;
  change = GivenUp;
  missing = missing;
}

-- Where it was answered that the messages are given up, the texts of these news, and nothing else;
-- where not, nothing.
pub record TellsIfDone {E : Type 0} (writing : Writing E) (names : VenueNames)
    (answers : Bool → Type 0) (news : GapNews)
    (before after : E) : Type 0 where
  pub done : Bool
  pub answered : answers done
  pub tells : SaysEach writing (if done then gap_news_texts names news else []) before after

-- A venue was looked at at this time, by a watch that has seen this status of it: what is due is
-- said where it was answered that it is given up; and nothing else.
abbrev pub GivesUpDue : {E : Type 0} → Writing E → VenueNames → (answers : ℕ → Bool → Type 0)
    → GapRule → GapWatch → (now : ℕ) → VenueStatus → (before after : E) → Type 0
GivesUpDue writing names answers rule watch now status before after =
    MatchOption (due_of rule (stood_of watch.standing now) status.cursors status.gap)
    (after ≡ before)
    (λ due. TellsIfDone writing names (answers (next_after due))
    (news_of (now / 1000) watch.venue due) before after)

-- ---- which messages were given up where a session was joined

-- Since the last look as many were given up at joins, each time from the first message on: they are
-- told where sessions are joined.
abbrev pub joined_range : GapRule → GapWatch → VenueStatus → Option MissingRange
joined_range rule watch status =
    if rule.join && nat_lt watch.before_join status.before_join
    then Some (record { first = 1; count = status.before_join - watch.before_join }) else None

-- how many were given up of the messages that are told
abbrev pub range_count : Option MissingRange → ℕ
range_count None = 0
range_count (Some missing) = missing.count

-- the watch once that was told
abbrev pub after_joins : GapRule → GapWatch → VenueStatus → GapWatch
after_joins rule watch status = record watch {
  before_join = status.before_join;
  given_up = shown (watch.given_up + range_count (joined_range rule watch status));
}

-- ---- which session has begun

-- the watch once its venue has come to this session: where that has begun since the last look, the
-- one before is over, and nothing of it is lacking any more
abbrev pub watch_begun : GapWatch → VenueStatus → GapWatch
watch_begun watch status =
    if nat_lt watch.ordinal status.ordinal
    then record watch { standing = None; told = None; ordinal = status.ordinal } else watch

-- the news of that
abbrev pub begun_news : (second : ℕ) → GapWatch → VenueStatus → SessionNews
begun_news second watch status =
    record {
      second = second;
      venue = watch.venue;
      session = status.session;
      missed = status.ordinal - watch.ordinal - 1;
    }

-- A session has begun since the last look: it is said that what was told to be lacking has come,
-- and then that it has begun.
pub record SaysBegun {E : Type 0} (writing : Writing E) (names : VenueNames)
    (watch : GapWatch) (now : ℕ)
    (status : VenueStatus) (before after : E) : Type 0 where
  pub closed : E
  pub says_closed : SaysEach writing (gap_texts_if names (now / 1000) watch.venue Closed watch.told)
      before closed
  pub says_begun : SaysEach writing
      (session_news_texts names (begun_news (now / 1000) watch status)) closed after

abbrev pub SaysBegunIf : {E : Type 0} → (has_begun : Bool) → Writing E → VenueNames → GapWatch
    → (now : ℕ) → VenueStatus → (before after : E) → Type 0
SaysBegunIf true writing names watch now status before after =
    SaysBegun writing names watch now status before after
SaysBegunIf false writing names watch now status before after = after ≡ before

abbrev pub SaysOfSession : {E : Type 0} → Writing E → VenueNames → GapWatch → (now : ℕ)
    → VenueStatus → (before after : E) → Type 0
SaysOfSession writing names watch now status before after =
    SaysBegunIf (nat_lt watch.ordinal status.ordinal) writing names watch now status before after

-- ---- a look

-- where sessions were joined, what is new of the gap, and then what was given up of it
pub record SaysOfGap {E : Type 0} (writing : Writing E) (names : VenueNames)
    (answers : ℕ → Bool → Type 0)
    (rule : GapRule) (watch : GapWatch) (now : ℕ) (status : VenueStatus) (before after : E)
    : Type 0 where
  pub joined : E
  pub tells_joins : SaysEach writing
      (gap_texts_if names (now / 1000) watch.venue GivenUp (joined_range rule watch status)) before
      joined
  pub told : E
  pub tells : TellsStanding writing names (after_joins rule watch status) now status joined told
  pub gives_up : GivesUpDue writing names answers rule (after_joins rule watch status) now status
      told after

-- which session has begun, and then that of the gap
pub record SaysOfVenue {E : Type 0} (writing : Writing E) (names : VenueNames)
    (answers : ℕ → Bool → Type 0)
    (rule : GapRule) (watch : GapWatch) (now : ℕ) (status : VenueStatus) (before after : E)
    : Type 0 where
  pub begun : E
  pub tells_session : SaysOfSession writing names watch now status before begun
  pub gap : SaysOfGap writing names answers rule (stands (watch_begun watch status) now status)
      now status begun after

-- A venue is looked at at this time: that is said of its session and its gap by what is shown of
-- the venue, and nothing where nothing is shown.
pub record LooksAt {E : Type 0} (writing : Writing E) (names : VenueNames)
    (shows : Option VenueStatus → Type 0)
    (answers : ℕ → Bool → Type 0) (rule : GapRule) (watch : GapWatch) (now : ℕ) (before after : E)
    : Type 0 where
  pub status : Option VenueStatus
  pub shown : shows status
  pub says : MatchOption status (after ≡ before)
      (λ seen. SaysOfVenue writing names answers rule watch now seen before after)
