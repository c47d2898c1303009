use Rattle.std.proofs.Common.{[], ◌≡◌, ◌∙◌, Err, ap, map, refl, subst, sym}
use Rattle.std.specs.Prelude.{is_some}
use Rattle.text_out.specs.Devices.{Writing}
use Rattle.text_out.specs.Members.{writing_of}
use Rattle.best_rows.specs.declared.style.RowStyle.{RowStyle}
use Rattle.udp_listening.specs.Lines.{run_lines}
use Rattle.udp_listening.specs.Listening.{IsUnprinted, ListensToEnd}
use Rattle.run_watches.specs.RunLines.{heard_lines, listened_run, told_gaps, watched_gaps, watched_run}
use Rattle.run_watches.specs.RunNews.{SaysOfRun}
use Rattle.udp_listening.specs.declared.console.Console.{Console}
use Rattle.udp_listening.specs.declared.listening.ListenFault.TheVariants.{NoMemory}
use Rattle.udp_listening.proofs.Monitored.{listened_if_run}
use Rattle.run_watches.specs.RunNewsLaws.{nothing_of_run}
use Rattle.udp_listening.proofs.Wholes.{listened}
use Rattle.udp_listening.proofs.listen.listen_with.Goals as goal

pub returns-in_default : goal.returns-in_default
returns-in_default g c =
    let writing : Writing g.row.W.Denot = writing_of g.W.TextOut in
    let telling : Writing g.row.E.Denot = writing_of g.E.TextOut in
    let console = c.new-console.result in
    let printed = c.print_end-status in
    let style = c.style_of.result in
    let first = c.args.streams.output in
    let errors = c.args.streams.errors in
    let run =
    listened_run c.args.settings.now (run_lines c.args.settings.now c.args.sockets.lines.items) in
    let ended : ListensToEnd writing telling style (Err NoMemory) first
    printed.new.console.output errors printed.new.errors printed.result
    = listened writing telling g.met.W.TextOut.adds_more style (Err NoMemory) first console
    printed.new.console.output errors printed.new.errors printed.result
    ([], 0, c.new-console.ensures.unprinted []) printed.ensures in
    record {
      outcome = Err NoMemory;
      listened = tt;
      said = errors;
      says = nothing_of_run telling run errors;
      ended = printed.result;
      ends =
          subst (λ (s : RowStyle). ListensToEnd writing telling s (Err NoMemory) first
          printed.new.console.output errors printed.new.errors printed.result)
          c.style_of.ensures ended;
      status_is = refl;
    }

pub returns : goal.returns
returns g c =
    let writing : Writing g.row.W.Denot = writing_of g.W.TextOut in
    let telling : Writing g.row.E.Denot = writing_of g.E.TextOut in
    let settings = c.args.settings.now in
    let sockets = c.args.sockets.lines.items in
    let of_run = run_lines settings sockets in
    let lines = heard_lines settings of_run in
    let first = c.args.streams.output in
    let silent = c.args.streams.errors in
    let made = c.in-Ok-Ok-Ok-Ok-Ok in
    let follower = c.new-follower.result in
    let monitor = c.new-monitor.result in
    let ran = c.run_feed-outcome in
    let outcome = ran.result.outcome in
    let console = ran.result.console in
    let told = ran.result.errors in
    let printed = c.print_end-ended in
    let style = c.style_of.result in
    let unprinted : IsUnprinted writing style first follower.console =
    subst (λ (k : Console g.row.C.Denot g.row.W.Denot). IsUnprinted writing style first k)
    (sym c.new-follower.ensures) c.new-console.ensures.unprinted in
    let follows = settings.follow in
    let run : watched_run monitor.watches ≡ listened_run settings of_run =
    ap (λ w. watched_run w) c.new-monitor.ensures.watches ∙ c.new-watches.ensures
    ∙ ap (λ heard. record {
      lines = heard;
      gaps = watched_gaps made.gaps;
      follows = c.new-of_output.result.follows;
      counted = is_some c.of-counts.result;
      names = settings.venues;
    }) made.ensures'.watches
    ∙ ap (λ gaps. record {
      lines = lines;
      gaps = gaps;
      follows = c.new-of_output.result.follows;
      counted = is_some c.of-counts.result;
      names = settings.venues;
    }) made.ensures''
    ∙ ap (λ follows. record {
      lines = lines;
      gaps = told_gaps settings;
      follows = follows;
      counted = is_some c.of-counts.result;
      names = settings.venues;
    }) c.new-of_output.ensures
    ∙ ap (λ counted. record {
      lines = lines;
      gaps = told_gaps settings;
      follows = follows;
      counted = counted;
      names = settings.venues;
    }) c.of-counts.ensures in
    record {
      outcome = outcome;
      listened =
          listened_if_run settings sockets made.feed made.lines.run.tasks.items
          (map (λ share. share.venue) made.lines.run.itch.items) outcome made.ensures.setting
          made.ensures.venues made.ensures.next made.ensures'.tasks made.ensures'.made
          made.ensures'.itch ran.ensures.run;
      said = told;
      says =
          subst (λ (s : g.row.E.Denot). SaysOfRun telling (listened_run settings of_run) s told)
          c.new-monitor.ensures.errors
          (subst (λ watched. SaysOfRun telling watched monitor.errors told) run
          ran.ensures.says);
      ended = printed.result;
      ends =
          subst (λ (s : RowStyle). ListensToEnd writing telling s outcome first
          printed.new.console.output told printed.new.errors printed.result)
          c.style_of.ensures
          (listened writing telling g.met.W.TextOut.adds_more style outcome first console
          printed.new.console.output told printed.new.errors printed.result
          (ran.ensures.listened style first unprinted) printed.ensures);
      status_is = c.complete_status-status.ensures;
    }
