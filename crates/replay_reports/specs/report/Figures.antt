-- The figures of a report, part by part: the name and the value of each.
use Rattle.std.specs.Prelude.{ℕ, Bool, true, false, List, [], ◌∷◌, codes, map, nat_lt, slice_index, Option, None, Some}
use Rattle.feed_types.specs.declared.line.LineId.{LineId}
use Rattle.feed_types.specs.declared.line.LineId.TheVariants.{A, B, Recovery}
use Rattle.feed_types.specs.declared.per_line.PerLine.{PerLine}
use Rattle.replay_reports.specs.declared.counts.best_counts.StateCounts.{StateCounts}
use Rattle.replay_reports.specs.declared.counts.item_counts.ItemCounts.{ItemCounts}
use Rattle.replay_reports.specs.declared.counts.line_counts.LineCounts.{LineCounts}
use Rattle.replay_reports.specs.declared.counts.venue_counts.VenueCounts.{VenueCounts}
use Rattle.replay_reports.specs.declared.report.figure.Figure.{Figure}
use Rattle.replay_reports.specs.declared.report.figure.FigureValue.{FigureValue}
use Rattle.replay_reports.specs.declared.report.figure.FigureValue.TheVariants.{Nothing, Count, Time}
use Rattle.line_gaps.specs.declared.gap_sums.GapSums.{GapSums}
use Rattle.line_gaps.specs.Sums.{lost_of}
use Rattle.replay_reports.specs.declared.report.venue_report.GapReport.{GapReport}
use Rattle.replay_reports.specs.declared.report.venue_report.VenueReport.{VenueReport}
use Rattle.replay_reports.specs.declared.times.busiest_period.Peak.{Peak}
use Rattle.replay_reports.specs.declared.times.duration_stats.DurationStats.{DurationStats}

pub record ShownFigure : Type 0 where
  pub name : List ℕ
  pub value : FigureValue

abbrev pub figure_named : List ℕ → FigureValue → ShownFigure
figure_named name value = record { name = name; value = value }

abbrev pub shown_figure : Figure → ShownFigure
shown_figure f = figure_named f.name.now f.value

abbrev pub figures_shown : List Figure → List ShownFigure
figures_shown figures = map shown_figure figures

-- values under these names
abbrev pub named : List (List ℕ) → List FigureValue → List ShownFigure
named (name ∷ names) (value ∷ values) = figure_named name value ∷ named names values
named _ _ = []

abbrev pub figure_counts_of : List ℕ → List FigureValue
figure_counts_of counts = map (λ n. Count n) counts

-- a number, where there is one
abbrev pub count_if : Bool → ℕ → FigureValue
count_if true n = Count n
count_if false n = Nothing

abbrev pub time_if : Option ℕ → FigureValue
time_if (Some time) = Time time
time_if None = Nothing

-- of a line's datagrams
abbrev pub line_figures : LineCounts → List ShownFigure
line_figures s = named
    (codes "packets" ∷ codes "bytes" ∷ codes "taken" ∷ codes "first" ∷ codes "repeated"
    ∷ codes "heartbeats" ∷ codes "ends" ∷ codes "ahead" ∷ [])
    (figure_counts_of (s.packets ∷ s.bytes ∷ s.taken ∷ s.first ∷ s.repeated ∷ s.heartbeats ∷ s.ends
    ∷ s.ahead ∷ []))

-- of a line's refusals: at 1 to 4 a packet's faults, at 7 to 11 a line's
abbrev pub refusal_figures : LineCounts → List ShownFigure
refusal_figures s = named
    (codes "short_header" ∷ codes "truncated_block" ∷ codes "zero_sequence"
    ∷ codes "sequence_overflow" ∷ codes "other_session" ∷ codes "past_end" ∷ codes "end_moved"
    ∷ codes "end_too_early" ∷ codes "conflict" ∷ [])
    (map (λ code. Count (slice_index s.refused code))
    (1 ∷ 2 ∷ 3 ∷ 4 ∷ 7 ∷ 8 ∷ 9 ∷ 10 ∷ 11 ∷ []))

abbrev pub item_figures : ItemCounts → List ShownFigure
item_figures s = named
    (codes "quotes" ∷ codes "halts" ∷ codes "resumptions" ∷ codes "others" ∷ codes "ends"
    ∷ codes "last" ∷ [])
    (figure_counts_of (s.quotes ∷ s.halts ∷ s.resumptions ∷ s.others ∷ s.ends ∷ s.last ∷ []))

abbrev pub venue_figures : VenueCounts → List ShownFigure
venue_figures s = named
    (codes "renewals" ∷ codes "renewals_refused" ∷ codes "skips" ∷ codes "skips_refused"
    ∷ codes "self_help_declared" ∷ codes "self_help_withdrawn" ∷ codes "self_help_already" ∷ [])
    (figure_counts_of (s.renewals ∷ s.renewals_refused ∷ s.skips ∷ s.skips_refused ∷ s.declared
    ∷ s.withdrawn ∷ s.already ∷ []))

-- of no duration there is no mean
abbrev pub duration_figures : DurationStats → List ShownFigure
duration_figures s = named
    (codes "messages" ∷ codes "mean_ns" ∷ codes "p50_ns" ∷ codes "p90_ns" ∷ codes "p99_ns"
    ∷ codes "p999_ns" ∷ codes "longest_ns" ∷ [])
    (Count s.count ∷ map (λ n. count_if (nat_lt 0 s.count) n)
    (s.mean ∷ s.p50 ∷ s.p90 ∷ s.p99 ∷ s.p999 ∷ s.max ∷ []))

abbrev pub state_figures : StateCounts → List ShownFigure
state_figures s = named
    (codes "empty" ∷ codes "one_sided" ∷ codes "normal" ∷ codes "locked" ∷ codes "crossed" ∷ [])
    (figure_counts_of (s.empty ∷ s.one_sided ∷ s.normal ∷ s.locked ∷ s.crossed ∷ []))

abbrev pub gap_figures : GapSums → List ShownFigure
gap_figures s = named
    (codes "found" ∷ codes "left_out" ∷ codes "late" ∷ codes "given_up" ∷ codes "again"
    ∷ codes "longest_ns" ∷ codes "ended_by_a" ∷ codes "ended_by_b" ∷ codes "ended_by_recovery"
    ∷ codes "ended_by_skip" ∷ codes "before" ∷ codes "open" ∷ codes "merged" ∷ [])
    (figure_counts_of (s.found ∷ s.left_out ∷ s.late ∷ s.given_up ∷ s.again ∷ s.longest
    ∷ s.ended_by.a ∷ s.ended_by.b ∷ s.ended_by.recovery ∷ s.ended_by.skip ∷ s.ended_by.before
    ∷ s.ended_by.open ∷ s.merged ∷ []))

-- lost is what was left out and didn't come late, and what came on other lines past its highest
abbrev pub line_loss_figures : GapSums → List ShownFigure
line_loss_figures s = named (codes "lost" ∷ codes "late" ∷ [])
    (figure_counts_of (lost_of s ∷ s.late ∷ []))

abbrev pub loss_figures : GapReport → List ShownFigure
loss_figures s = named
    (codes "known" ∷ codes "missing" ∷ codes "lost_by_both" ∷ codes "given_up"
    ∷ codes "before_join" ∷ [])
    (figure_counts_of (s.known ∷ s.missing ∷ s.lost_by_both ∷ s.given_up ∷ s.before_join ∷ []))

-- of the changes of national bests whose side is a venue's
abbrev pub leading_figures : ℕ → ℕ → List ShownFigure
leading_figures bids offers = named (codes "best_bids" ∷ codes "best_offers" ∷ [])
    (figure_counts_of (bids ∷ offers ∷ []))

-- when the last packets came
abbrev pub packet_figures : PerLine (Option ℕ) → List ShownFigure
packet_figures s = named (codes "A" ∷ codes "B" ∷ codes "recovery" ∷ [])
    (time_if s.a ∷ time_if s.b ∷ time_if s.recovery ∷ [])

abbrev pub busiest_figures : Peak → Peak → List ShownFigure
busiest_figures second millisecond = named
    (codes "busiest_second" ∷ codes "busiest_millisecond" ∷ codes "busiest_second_began"
    ∷ codes "busiest_millisecond_began" ∷ codes "late_for_second" ∷ codes "late_for_millisecond"
    ∷ [])
    (Count second.messages ∷ Count millisecond.messages ∷ time_if second.began
    ∷ time_if millisecond.began ∷ Count second.late ∷ Count millisecond.late ∷ [])

-- ---- of a line those that tell most: what lines A and B lost and brought late, half of the times
-- by which a line is first, its longest gap

abbrev pub summary_names : List (List ℕ)
summary_names =
    codes "packets" ∷ codes "lost" ∷ codes "late" ∷ codes "first" ∷ codes "lead_p50_ns"
    ∷ codes "longest_gap_ns" ∷ []

abbrev pub line_summary : LineCounts → GapSums → DurationStats → List ShownFigure
line_summary counts gaps lead = named summary_names
    (Count counts.packets ∷ Count (lost_of gaps) ∷ Count gaps.late ∷ Count counts.first
    ∷ count_if (nat_lt 0 lead.count) lead.p50 ∷ Count gaps.longest ∷ [])

abbrev pub recovery_summary : LineCounts → List ShownFigure
recovery_summary counts = named summary_names
    (Count counts.packets ∷ Nothing ∷ Nothing ∷ Count counts.first ∷ Nothing ∷ Nothing ∷ [])

abbrev pub summary_figures : VenueReport → LineId → List ShownFigure
summary_figures r A = line_summary r.counts.lines.a r.gaps.a r.a_first
summary_figures r B = line_summary r.counts.lines.b r.gaps.b r.b_first
summary_figures r Recovery = recovery_summary r.counts.lines.recovery
