use Rattle.std.proofs.Common.{◌≡◌, ◌+◌, ◌∙◌, List, refl, rules, subst, sym, ℕ}
use Rattle.text_out.specs.Devices.{Writing, Wrote}
use Rattle.text_out.specs.Members.{writing_of}
use Rattle.best_rows.specs.RowTexts.{header_of}
use Rattle.udp_listening.specs.Listening.{HasFollowed}
use Rattle.udp_listening.specs.declared.console.LiveOutput.{LiveOutput}
use Rattle.udp_listening.proofs.Wholes.{header_failed, header_printed}
use Rattle.udp_listening.proofs.console.Console.new.Goals.{in-Ok, in-Err}
use Rattle.udp_listening.proofs.console.Console.new.Goals as goal

pub returns : goal.returns
returns g c =
    let w : Writing g.row.W.Denot = writing_of g.W.TextOut in
    let style = c.args.style in
    let first = c.args.output in
    let now = c.write_all.new.writer in
    let text = c.as_bytes.result.now in
    let header : text ≡ header_of style.format style.timed =
    c.as_bytes.ensures.value ∙ c.header_line.ensures in
    record {
      unprinted =
          λ log. (
            refl,
            elim c.match-write_all.branch [
              | in-Ok w' ↦
                  let wrote : g.W.TextOut.adds first text now = search rules in
                  let sound : g.W.TextOut.failures now ≡ g.W.TextOut.failures first =
                  search rules in
                  subst (λ (f : LiveOutput). HasFollowed w style first log f 0 now)
                  (sym w'.live_output-is)
                  (header_printed w style first now
                  (subst (λ (t : List ℕ). g.W.TextOut.adds first t now) header wrote) sound log
                  c.args.live_output c.requires)
              | in-Err w' ↦
                  let part : Wrote g.W.TextOut.adds first text now = search rules in
                  let failed : g.W.TextOut.failures now ≡ g.W.TextOut.failures first + 1 =
                  search rules in
                  subst (λ (f : LiveOutput). HasFollowed w style first log f 0 now)
                  (sym w'.live_output-is)
                  (header_failed w style first now
                  (subst (λ (t : List ℕ). Wrote g.W.TextOut.adds first t now) header part) failed
                  log)
            ],
          );
    }
