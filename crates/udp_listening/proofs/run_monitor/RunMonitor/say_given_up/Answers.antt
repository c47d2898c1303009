use Rattle.std.proofs.Common.{◌∙◌, refl, rules, subst}
use Rattle.text_out.specs.Devices.{Writing}
use Rattle.text_out.specs.Members.{writing_of}
use Rattle.run_watches.specs.RunLines.{watched_run}
use Rattle.run_watches.specs.RunNews.{SaysRunNews}
use Rattle.run_watches.specs.RunNewsLaws.{more_run_news, no_run_news}
use Rattle.udp_listening.proofs.Looked.{looked_first, looked_more, said_first, said_more}
use Rattle.udp_listening.proofs.run_monitor.RunMonitor.say_given_up.Goals as goal

pub loop-place-init : goal.loop-place-init
loop-place-init g c =
    let w : Writing g.row.E.Denot = writing_of g.E.TextOut in
    let s = c.args.self.now in
    let seen = c.look.ensures.seen in
    let kept = c.look.ensures.kept in (
      refl,
      no_run_news w (watched_run s.watches) s.errors,
      looked_first s.itch c.look.new.self seen kept,
      search rules,
      said_first w c.args.elapsed_ms s c.look.new.self seen kept,
    )

pub loop-place-preserved : goal.loop-place-preserved
loop-place-preserved g c =
    let w : Writing g.row.E.Denot = writing_of g.E.TextOut in
    let same = c.loop-place.invariant.0 in
    let old = c.loop-place.self in
    let new = c.say_given_up_at.new.self in
    let said = new.errors in
    let at = c.at.ensures in
    let looked = looked_more c.loop-place.place c.at.result c.args.self.now.itch old.itch new.itch
    at c.loop-place-test.true c.loop-place.invariant.2 c.loop-place.invariant.3
    c.say_given_up_at.ensures.itch in (
      c.say_given_up_at.ensures.run ∙ same,
      more_run_news w (watched_run c.args.self.now.watches) c.args.self.now.errors
          c.loop-place.self.errors said c.loop-place.invariant.1
          (subst (λ r. SaysRunNews w r c.loop-place.self.errors said) same
          c.say_given_up_at.ensures.news),
      looked.0,
      looked.1,
      said_more w c.args.elapsed_ms c.loop-place.place c.at.result c.args.self.now old new at
          c.loop-place.invariant.4 c.say_given_up_at.ensures.says,
    )
