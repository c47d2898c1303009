use Rattle.std.proofs.Common.{◌∙◌, List, ap, map, subst, sym}
use Rattle.std.specs.Prelude.{All}
use Rattle.itch_lines.specs.declared.venue_share.VenueShare.{VenueShare}
use Rattle.udp_listening.proofs.Sourced.{one_more}
use Rattle.std.proofs.lemmas.List.Elements.{All-nil}
use Rattle.live_feed.specs.declared.run.whole.LineTask.{LineTask}
use Rattle.udp_listening.specs.Lines.{LineState}
use Rattle.run_watches.specs.RunLines.{watched}
use Rattle.udp_listening.specs.Reports.{IsLineOf, task_line}
use Rattle.udp_listening.proofs.sources.LinesMade.over.Goals as goal

pub loop-bound-preserved : goal.loop-bound-preserved
loop-bound-preserved g c =
    let settings = c.args.settings.now in (
      tt,
      tt,
      one_more settings c.loop-bound.yielded c.in-Some.bound _ _ c.loop-bound.invariant.2
          c.in_ok-push.ensures.tasks,
      one_more settings c.loop-bound.yielded c.in-Some.bound _ _ c.loop-bound.invariant.3
          c.in_ok-push.ensures.watches,
      c.push.ensures.venues ∙ c.loop-bound.invariant.4,
      c.in_ok-push.ensures.made c.loop-bound.invariant.5,
      ap (map (λ (share : VenueShare). share.venue)) c.push.ensures.itch
          ∙ c.loop-bound.invariant.6,
    )

pub loop-bound-init : goal.loop-bound-init
loop-bound-init g c =
    let made = c.in_ok-made.ensures in (
      tt,
      tt,
      ap (map task_line) made.tasks,
      ap (map watched) made.watches,
      made.venues,
      subst (λ (l : List (LineTask LineState)). All (IsLineOf c.args.settings.now) l)
          (sym made.tasks) (All-nil (IsLineOf c.args.settings.now)),
      made.itch,
    )
