use Rattle.std.proofs.Common.{◌≡◌, List, map, subst, sym}
use Rattle.std.specs.Prelude.{Err, IfOk}
use Rattle.std.proofs.lemmas.Result.{IfOk-at_ok}
use Rattle.itch_lines.specs.declared.venue_share.VenueShare.{VenueShare}
use Rattle.text_out.specs.Devices.{Writing}
use Rattle.text_out.specs.Members.{writing_of}
use Rattle.udp_listening.specs.Listening.{HasListenedOn}
use Rattle.udp_listening.specs.Reports.{IsReportOfFeed, IsReportOfRun, noted_symbols}
use Rattle.udp_listening.specs.SettledNotices.{HasNoted, settled_forgotten, settled_log}
use Rattle.udp_listening.specs.declared.listening.ListenFault.{ListenFault}
use Rattle.udp_listening.proofs.Monitored.{followed_if_run, listened_by, noted_of, printed_of, run_of, said_if_run, told_by}
use Rattle.udp_listening.proofs.listening.run_feed.Goals.{in-Ok, in-Err}
use Rattle.udp_listening.proofs.listening.run_feed.Goals as goal

pub report_of-outcome-requires : goal.report_of-outcome-requires
report_of-outcome-requires g c =
    let out : Writing g.row.W.Denot = writing_of g.W.TextOut in
    let ran = c.run_whole-outcome in
    let symbols = noted_symbols c.args.settings.now in
    let s = c.in-Ok.whole.settlement in
    subst (λ left. HasNoted symbols (settled_log s) (settled_forgotten s) left)
    (sym c.replace-unchanged.ensures.value)
    (noted_of c.args.settings.now out _ _ _ c.new.ensures.len c.args.follower
    ran.result.attendant c.in-Ok.whole (IfOk-at_ok _ c.in-Ok.is ran.ensures.whole) symbols
    c.requires.unchanged)

pub returns-clause-says : goal.returns-clause-says
returns-clause-says g c =
    let w : Writing g.row.E.Denot = writing_of g.E.TextOut in
    let ran = c.run_whole-outcome in
    said_if_run w c.args.monitor ran.result.watcher ran.ensures.watcher

pub returns-clause-listened : goal.returns-clause-listened
returns-clause-listened g c =
    let out : Writing g.row.W.Denot = writing_of g.W.TextOut in
    let ran = c.run_whole-outcome in
    let before = c.args.follower in
    let after = ran.result.attendant in
    let told = followed_if_run out before after ran.ensures.attendant in
    let shown = record (after.console) { unchanged = c.replace-unchanged.new.dest } in
    let failed : (fault : ListenFault) → HasListenedOn out before.console (Err fault) shown
    = λ fault style first unprinted.
    (told.lines, told.printed, told.shows style first unprinted) in
    elim c.match-outcome.branch [
      | in-Ok w' ↦
          subst (λ o. HasListenedOn out before.console o shown) (sym w'.outcome-is)
          (listened_by out before.console shown
          (IsReportOfFeed c.args.settings.now (map (λ s. s.venue) c.args.lines.itch.items)
          w'.in-Ok.whole)
          w'.report_of-outcome.result
          (λ report tells.
          printed_of c.args.settings.now out _ _ _ c.new.ensures.len before after
          w'.in-Ok.whole (IfOk-at_ok _ w'.in-Ok.is ran.ensures.whole) _ report tells)
          failed
          (subst (λ (l : List VenueShare). IfOk w'.report_of-outcome.result
          (IsReportOfFeed c.args.settings.now (map (λ s. s.venue) l) w'.in-Ok.whole))
          w'.as_slice.ensures.value w'.report_of-outcome.ensures))
      | in-Err w' ↦
          subst (λ o. HasListenedOn out before.console o shown) (sym w'.outcome-is)
          (failed w'.fault_of.result)
    ]

pub returns-clause-run : goal.returns-clause-run
returns-clause-run g c =
    let out : Writing g.row.W.Denot = writing_of g.W.TextOut in
    let ran = c.run_whole-outcome in
    let run = IsReportOfRun g.row.N.Denot c.args.settings.now g.N.FeedName.lanes
    c.args.lines.tasks.items (map (λ share. share.venue) c.args.lines.itch.items) in
    elim c.match-outcome.branch [
      | in-Ok w' ↦
          subst (λ o. IfOk o run) (sym w'.outcome-is)
          (told_by w'.report_of-outcome.result
          (λ report tells.
          run_of c.args.settings.now out _ _ _ c.new.ensures.len c.args.follower
          ran.result.attendant
          w'.in-Ok.whole (IfOk-at_ok _ w'.in-Ok.is ran.ensures.whole) _ report tells)
          (subst (λ (l : List VenueShare). IfOk w'.report_of-outcome.result
          (IsReportOfFeed c.args.settings.now (map (λ s. s.venue) l) w'.in-Ok.whole))
          w'.as_slice.ensures.value w'.report_of-outcome.ensures))
      | in-Err w' ↦ subst (λ o. IfOk o run) (sym w'.outcome-is) tt
    ]
