-- What standard error has of a run: of its lines, of gaps of its venues, of what is printed, and
-- counts.
use Rattle.std.specs.Prelude.{◌≡◌, ℕ, Bool, true, false, List, [], ◌∷◌, All, Contains, flat_map}
use Rattle.feed_types.specs.declared.line.LineId.{LineId}
use Rattle.text_out.specs.Devices.{Writing}
use Rattle.text_out.specs.StandardError.{SaysEach}
use Rattle.run_settings.specs.declared.venue_names.VenueNames.{VenueNames}
use Rattle.run_watches.specs.GapNews.{gap_news_texts}
use Rattle.run_watches.specs.Gaps.{gives_up}
use Rattle.run_watches.specs.News.{SaysTotals, news_texts}
use Rattle.run_watches.specs.OutputNews.{output_news_texts}
use Rattle.run_watches.specs.SessionNews.{session_news_texts}
use Rattle.run_watches.specs.declared.session_news.SessionNews.{SessionNews}
use Rattle.run_watches.specs.RunLines.{WatchedGaps, WatchedLines, WatchedRun}
use Rattle.run_watches.specs.declared.gap_news.GapChange.{GapChange}
use Rattle.run_watches.specs.declared.gap_news.GapChange.TheVariants.{Lacking, Closed, Unanswered, GivenUp}
use Rattle.run_watches.specs.declared.gap_news.GapNews.{GapNews}
use Rattle.run_watches.specs.declared.gap_rule.GapRule.{GapRule}
use Rattle.run_watches.specs.declared.line_news.LineChange.{LineChange}
use Rattle.run_watches.specs.declared.line_news.LineChange.TheVariants.{Ended, EndedWith, ReadOut, Failed, Unsent, Passed, Foreign, Withheld, HeldBack, Stranger, Silent, Unjoined, Heard, Unheard}
use Rattle.run_watches.specs.declared.line_news.LineNews.{LineNews}
use Rattle.run_watches.specs.declared.output_news.OutputChange.{OutputChange}
use Rattle.run_watches.specs.declared.output_news.OutputChange.TheVariants.{Read, Unread, Untaken}
use Rattle.run_watches.specs.declared.output_news.OutputNews.{OutputNews}

-- ---- news

-- what is news of a run: what happened to a line, to a gap or to what is printed, a session that
-- has begun, or a text of counts
pub data RunNews : Type 0 where
  of_line : LineNews → RunNews
  of_gap : GapNews → RunNews
  of_session : SessionNews → RunNews
  of_output : OutputNews → RunNews
  of_counts : List ℕ → RunNews

abbrev pub run_news_texts : VenueNames → RunNews → List (List ℕ)
run_news_texts names (of_line news) = news_texts names news
run_news_texts names (of_gap news) = gap_news_texts names news
run_news_texts names (of_session news) = session_news_texts names news
run_news_texts names (of_output news) = output_news_texts news
run_news_texts names (of_counts text) = text ∷ []

-- the texts of some news of this kind, one after the other, and nothing else
pub record SaysNews {E : Type 0} (writing : Writing E) (names : VenueNames)
    (IsNews : RunNews → Type 0) (before after : E) : Type 0 where
  pub news : List RunNews
  pub named : All IsNews news
  pub says : SaysEach writing (flat_map (run_news_texts names) news) before after

-- ---- of what they are

-- that is told of a line: only where more is told with which session it ended, which other sessions
-- it brought, what it held back, and whether it brings anything
abbrev pub IsTold : (tells_more : Bool) → LineChange → Type 0
IsTold tells_more (EndedWith session) = tells_more ≡ true
IsTold tells_more Ended = Unit {0}
IsTold tells_more ReadOut = Unit {0}
IsTold tells_more Failed = Unit {0}
IsTold tells_more Unsent = Unit {0}
IsTold tells_more Passed = Unit {0}
IsTold tells_more Foreign = Unit {0}
IsTold tells_more Withheld = tells_more ≡ true
IsTold tells_more HeldBack = tells_more ≡ true
IsTold tells_more (Stranger session) = tells_more ≡ true
IsTold tells_more (Silent ms) = tells_more ≡ true
IsTold tells_more (Unjoined ms) = tells_more ≡ true
IsTold tells_more Heard = tells_more ≡ true
IsTold tells_more Unheard = tells_more ≡ true

abbrev pub IsNewsOfLine : (tells_more : Bool) → ℕ × LineId → RunNews → Type 0
IsNewsOfLine tells_more line (of_line news) =
    ((news.venue, news.line) ≡ line) × IsTold tells_more news.change
IsNewsOfLine tells_more line (of_gap news) = ⊥
IsNewsOfLine tells_more line (of_session news) = ⊥
IsNewsOfLine tells_more line (of_output news) = ⊥
IsNewsOfLine tells_more line (of_counts text) = ⊥

abbrev pub IsNewsOfLines : WatchedLines → RunNews → Type 0
IsNewsOfLines w (of_line news) =
    Contains w.lines (news.venue, news.line) × IsTold w.tells_more news.change
IsNewsOfLines w (of_gap news) = ⊥
IsNewsOfLines w (of_session news) = ⊥
IsNewsOfLines w (of_output news) = ⊥
IsNewsOfLines w (of_counts text) = ⊥

-- by this rule that can happen to a gap: only where gaps are given up one is
abbrev pub MayHappen : GapRule → GapChange → Type 0
MayHappen rule GivenUp = gives_up rule ≡ true
MayHappen rule Lacking = Unit {0}
MayHappen rule Closed = Unit {0}
MayHappen rule Unanswered = Unit {0}

abbrev pub IsNewsOfGap : GapRule → (venue : ℕ) → RunNews → Type 0
IsNewsOfGap rule venue (of_line news) = ⊥
IsNewsOfGap rule venue (of_gap news) = (news.venue ≡ venue) × MayHappen rule news.change
IsNewsOfGap rule venue (of_session news) = news.venue ≡ venue
IsNewsOfGap rule venue (of_output news) = ⊥
IsNewsOfGap rule venue (of_counts text) = ⊥

abbrev pub IsNewsOfGaps : WatchedGaps → RunNews → Type 0
IsNewsOfGaps gaps (of_line news) = ⊥
IsNewsOfGaps gaps (of_gap news) = Contains gaps.venues news.venue × MayHappen gaps.rule news.change
IsNewsOfGaps gaps (of_session news) = Contains gaps.venues news.venue
IsNewsOfGaps gaps (of_output news) = ⊥
IsNewsOfGaps gaps (of_counts text) = ⊥

-- that is told of what is printed: only where rows are printed as they come whether they are read
abbrev pub IsToldOfOutput : (follows : Bool) → OutputChange → Type 0
IsToldOfOutput follows (Unread waiting) = follows ≡ true
IsToldOfOutput follows Read = follows ≡ true
IsToldOfOutput follows (Untaken texts) = Unit {0}

abbrev pub IsNewsOfOutput : (follows : Bool) → RunNews → Type 0
IsNewsOfOutput follows (of_line news) = ⊥
IsNewsOfOutput follows (of_gap news) = ⊥
IsNewsOfOutput follows (of_session news) = ⊥
IsNewsOfOutput follows (of_output news) = IsToldOfOutput follows news.change
IsNewsOfOutput follows (of_counts text) = ⊥

-- the line is one of the run, or the venue one of those whose gaps are watched; or rows are printed
-- as they come; or counts are asked for
abbrev pub IsNewsOf : WatchedRun → RunNews → Type 0
IsNewsOf run (of_line news) = IsNewsOfLines run.lines (of_line news)
IsNewsOf run (of_gap news) = IsNewsOfGaps run.gaps (of_gap news)
IsNewsOf run (of_session news) = IsNewsOfGaps run.gaps (of_session news)
IsNewsOf run (of_output news) = IsToldOfOutput run.follows news.change
IsNewsOf run (of_counts text) = run.counted ≡ true

-- ---- what is said

abbrev pub SaysRunNews : {E : Type 0} → Writing E → WatchedRun → (before after : E) → Type 0
SaysRunNews writing run before after = SaysNews writing run.names (IsNewsOf run) before after

-- some texts of counts, one after the other, and nothing else
pub record SaysCounts {E : Type 0} (writing : Writing E) (before after : E) : Type 0 where
  pub texts : List (List ℕ)
  pub says : SaysEach writing texts before after

-- the same where counts are asked for, else nothing
abbrev pub SaysTable : {E : Type 0} → Writing E → Bool → (before after : E) → Type 0
SaysTable writing true before after = SaysCounts writing before after
SaysTable writing false before after = after ≡ before

-- the totals of each of the run's lines, and then the table of all counts
pub record SaysRunEnd {E : Type 0} (writing : Writing E) (run : WatchedRun) (before after : E)
    : Type 0 where
  pub mid : E
  pub totals : SaysTotals writing run.names run.lines.tells_more run.lines.lines before mid
  pub table : SaysTable writing run.counted mid after

-- all that is said of a run: news of it, and then its end
pub record SaysOfRun {E : Type 0} (writing : Writing E) (run : WatchedRun) (before after : E)
    : Type 0 where
  pub last : E
  pub news : SaysRunNews writing run before last
  pub ended : SaysRunEnd writing run last after
