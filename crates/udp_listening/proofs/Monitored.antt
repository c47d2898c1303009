-- What a run came to that was followed and monitored.
use Rattle.std.proofs.Common.{◌≡◌, inl, inr, ◌∙◌, ℕ, List, [], ◌∷◌, Option, Some, None, length, map, refl, subst, sym, arith}
use Rattle.std.specs.Prelude.{true, All, IfOk, Result, Ok, Err, vec_len}
use Rattle.std.specs.declared.marker.Brand.{Brand}
use Rattle.feed_types.specs.declared.genuine.Anything.{Anything}
use Rattle.text_out.specs.Devices.{Writing}
use Rattle.best_rows.specs.declared.style.RowStyle.{RowStyle}
use Rattle.live_feed.specs.Lanes.{FeedLanes}
use Rattle.live_feed.specs.declared.run.whole.FeedReport.{FeedReport}
use Rattle.live_feed.specs.declared.run.whole.LineTask.{LineTask}
use Rattle.live_feed.specs.declared.subscriber.logged.Logged.{Logged}
use Rattle.live_feed.specs.run.Wholes.{HasAttended, HasWatched, IsBegun, IsWholeRun, logs_with}
use Rattle.live_feed.specs.settle.Settlements.{IsSettlement, SettlementState}
use Rattle.live_feed.specs.subscriber.Logs.{SubscriberLogState}
use Rattle.udp_listening.specs.ItchEnds.{itch_venues}
use Rattle.udp_listening.specs.Listening.{HasListenedOn, IsFollowing, IsUnprinted}
use Rattle.udp_listening.specs.SettledNotices.{HasNoted, settled_forgotten, settled_log}
use Rattle.udp_listening.specs.Monitors.{FollowsRows, HasMonitored}
use Rattle.run_settings.specs.declared.listen_settings.ListenSettings.{ListenSettings}
use Rattle.udp_listening.specs.Reports.{IsLineOf, IsListened, IsReportOfFeed, IsReportOfRun, any_lines, line_brings, line_failures, task_line}
use Rattle.run_watches.specs.RunLines.{watched_run}
use Rattle.udp_listening.specs.Lines.{LineState, run_lines, venue_of_line}
use Rattle.udp_listening.specs.NamedNext.{AreNextOf}
use Rattle.run_watches.specs.RunNews.{SaysOfRun}
use Rattle.udp_listening.specs.Settings.{feed_setting}
use Rattle.udp_listening.specs.declared.console.Console.{Console}
use Rattle.udp_listening.specs.declared.listen_report.ListenReport.{ListenReport}
use Rattle.udp_listening.specs.declared.listen_sockets.BoundLine.{BoundLine}
use Rattle.udp_listening.specs.declared.listening.ListenFault.{ListenFault}
use Rattle.udp_listening.specs.declared.row_follower.RowFollower.{RowFollower}
use Rattle.udp_listening.specs.declared.run_monitor.RunMonitor.{RunMonitor}
use Rattle.run_watches.specs.RunNewsLaws.{nothing_of_run}
use Rattle.udp_listening.proofs.Noting.{noted_new}
use Rattle.udp_listening.proofs.Wholes.{settled_forgotten_of, settled_log_of}

-- What is printed of a log by the end: from whichever output on there was only the header.
abbrev pub Shows : {C W : Type 0} → Writing W → RowFollower C W → RowFollower C W
    → List Logged → ℕ → Type 0
Shows {C} {W} writing before after log printed =
    (style : RowStyle) (first : W) → IsUnprinted writing style first before.console
    → IsFollowing writing style first log printed after.console

-- the one log of a run that was followed, what was printed of it, and which symbols are left
-- unchanged of those that the console had at first
pub record Followed {C W : Type 0} (writing : Writing W) (before after : RowFollower C W)
    (logs : List SubscriberLogState) : Type 0 where
  pub log : SubscriberLogState
  pub one : logs ≡ log ∷ []
  pub shows : Shows writing before after log.lines log.forgotten
  pub notes : (symbols : List (List ℕ)) → before.console.unchanged ≡ symbols
      → HasNoted symbols log.lines log.forgotten after.console.unchanged

-- there are no other logs
alone : (log : SubscriberLogState) (others : List SubscriberLogState) → length others ≡ 0
    → logs_with (Some log) others ≡ log ∷ []
alone log [] none = refl
alone log (other ∷ others) none = absurd (omega (arith, none))

pub followed : {C W : Type 0} (writing : Writing W) (before after : RowFollower C W)
    (log later : Option SubscriberLogState) (others : List SubscriberLogState)
    → IsBegun true log → FollowsRows writing before log after later → length others ≡ 0
    → Followed writing before after (logs_with later others)
followed writing before after None later others begun follows none = absurd cc
followed writing before after (Some log) None others begun follows none = absurd follows
followed writing before after (Some log) (Some later) others begun follows none = record {
  log = later;
  one = alone later others none;
  shows =
      λ style first unprinted.
      follows.0 style first
      (subst (λ n. IsFollowing writing style first log.lines n before.console) (sym begun.2)
      (unprinted log.lines));
  notes =
      λ symbols same.
      follows.1 symbols (noted_new symbols log before.console.unchanged begun.2 same);
}

-- What was printed by who followed a run, or none.
pub record FollowedIfRun {C W : Type 0} (writing : Writing W) (before after : RowFollower C W)
    : Type 0 where
  pub lines : List Logged
  pub printed : ℕ
  pub shows : Shows writing before after lines printed

pub followed_if_run : {C W : Type 0} (writing : Writing W) (before after : RowFollower C W)
    → HasAttended (FollowsRows writing) true before after
    → FollowedIfRun writing before after
followed_if_run writing before after (inl same) =
    subst (λ m. FollowedIfRun writing before m) (sym same) (record {
      lines = [];
      printed = 0;
      shows = λ style first unprinted. unprinted [];
    })
followed_if_run writing before after (inr ran) =
    let f = followed writing before after ran.0 ran.1 [] ran.2 ran.3 refl
    in record { lines = f.log.lines; printed = f.log.forgotten; shows = f.shows }

-- what a monitor has said that watched a run, or none
pub said_if_run : {C E : Type 0} (telling : Writing E) (before after : RunMonitor C E)
    → HasWatched (HasMonitored telling) before after
    → SaysOfRun telling (watched_run before.watches) before.errors after.errors
said_if_run telling before after (inl same) =
    subst (λ m. SaysOfRun telling (watched_run before.watches) before.errors m.errors) (sym same)
    (nothing_of_run telling (watched_run before.watches) before.errors)
said_if_run telling before after (inr said) = said

module _ {N C W : Type 0} (settings : ListenSettings) (writing : Writing W) (lanes : FeedLanes)
    (tasks : List (LineTask LineState)) (count : ℕ) (none : count ≡ 0)
    (before after : RowFollower C W) (whole : FeedReport LineState)
    (w : IsWholeRun Anything N any_lines lanes (λ l. venue_of_line l) line_brings line_failures
    (FollowsRows writing) tasks true count before after whole) where
  ended : Followed writing before after (logs_with w.later w.others)
  ended = followed writing before after w.log w.later w.others w.begun w.attended (w.all ∙ none)

  -- the forgotten notices of the settled log were noted
  pub noted_of : (symbols : List (List ℕ)) → before.console.unchanged ≡ symbols
      → HasNoted symbols (settled_log whole.settlement) (settled_forgotten whole.settlement)
      after.console.unchanged
  noted_of symbols same =
      let log = settled_log_of ended.log ended.one w.settled in
      let forgotten = settled_forgotten_of ended.log ended.one w.settled in
      subst (λ (x : List Logged × ℕ). HasNoted symbols x.0 x.1 after.console.unchanged)
      (λ i. (sym log i, sym forgotten i)) (ended.notes symbols same)

  -- the report is that of the run
  pub run_of : (shares : List ℕ) (report : ListenReport)
      → IsReportOfFeed settings shares whole report
      → IsReportOfRun N settings lanes tasks shares report
  run_of shares report tells = record {
    ends = w.ends;
    lines = w.lines;
    log = ended.log;
    whole = whole;
    reported = w.reported;
    settled =
        subst (λ logs. IsSettlement any_lines lanes (map (λ e. e.seat) w.ends) logs
        whole.settlement) ended.one w.settled;
    tells = tells;
  }

  -- and of its settled log the forgotten rows were printed
  pub printed_of : (shares : List ℕ) (report : ListenReport)
      → IsReportOfFeed settings shares whole report
      → HasListenedOn writing before.console (Ok report) after.console
  printed_of shares report tells =
      λ style first unprinted.
      let log = settled_log_of ended.log ended.one w.settled in
      let forgotten = settled_forgotten_of ended.log ended.one w.settled in
      subst (λ (s : SettlementState). IsFollowing writing style first (settled_log s)
      (settled_forgotten s) after.console) (sym tells.settlement)
      (subst (λ (x : List Logged × ℕ). IsFollowing writing style first x.0 x.1 after.console)
      (λ i. (sym log i, sym forgotten i)) (ended.shows style first unprinted))

-- a report of a run is one of the settings' feed, where the run's lanes and lines are theirs
pub listened_if_run : (settings : ListenSettings) (sockets : List BoundLine) (lanes : FeedLanes)
    (tasks : List (LineTask LineState)) (shares : List ℕ)
    (outcome : Result ListenReport ListenFault)
    → lanes.setting ≡ feed_setting settings
    → length lanes.venues ≡ vec_len settings.feed.sessions → AreNextOf settings lanes.next
    → map task_line tasks ≡ run_lines settings sockets → All (IsLineOf settings) tasks
    → shares ≡ itch_venues settings
    → IfOk outcome (IsReportOfRun Brand settings lanes tasks shares)
    → IfOk outcome (IsListened settings sockets)
listened_if_run settings sockets lanes tasks shares (Ok report) setting venues next are made itch
    run = record {
      lanes = lanes;
      setting = setting;
      venues = venues;
      next = next;
      tasks = tasks;
      lines = are;
      made = made;
      run = subst (λ (l : List ℕ). IsReportOfRun Brand settings lanes tasks l report) itch run;
    }
listened_if_run settings sockets lanes tasks shares (Err fault) setting venues next are made itch
    run = tt

-- what was printed, by cases on whether there is a report
pub listened_by : {C W : Type 0} (writing : Writing W) (before after : Console C W)
    (P : ListenReport → Type 0) (outcome : Result ListenReport ListenFault)
    → ((report : ListenReport) → P report → HasListenedOn writing before (Ok report) after)
    → ((fault : ListenFault) → HasListenedOn writing before (Err fault) after)
    → IfOk outcome P → HasListenedOn writing before outcome after
listened_by writing before after P (Ok report) told failed is = told report is
listened_by writing before after P (Err fault) told failed is = failed fault

-- what is so of each report that this is so of
pub told_by : {P Q : ListenReport → Type 0} (outcome : Result ListenReport ListenFault)
    → ((report : ListenReport) → P report → Q report) → IfOk outcome P → IfOk outcome Q
told_by (Ok report) so is = so report is
told_by (Err fault) so is = tt
