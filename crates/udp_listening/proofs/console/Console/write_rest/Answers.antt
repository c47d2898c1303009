use Rattle.std.proofs.Common.{◌≡◌, ◌+◌, ◌∙◌, ap, drop, length, rules, subst, sym, List, ℕ}
use Rattle.text_out.specs.Devices.{Writing, Wrote}
use Rattle.text_out.specs.Members.{writing_of}
use Rattle.best_rows.specs.declared.style.RowStyle.{RowStyle}
use Rattle.best_rows.specs.NoticeRows.{AreRowsOf}
use Rattle.udp_listening.specs.Listening.{HasFollowed}
use Rattle.udp_listening.specs.declared.console.LiveOutput.{LiveOutput}
use Rattle.udp_listening.proofs.Following.{all_forgotten, printed_all, printed_part, printed_where_on}
use Rattle.udp_listening.specs.SettledNotices.{notices_of}
use Rattle.run_notes.specs.AbsentSymbols.{unchanged_among}
use Rattle.udp_listening.proofs.Noting.{noted_all}
use Rattle.udp_listening.proofs.console.Console.write_rest.Goals as goal

pub returns-in-Ok-clause-shows : goal.returns-in-Ok-clause-shows
returns-in-Ok-clause-shows g c =
    λ style first h.
    let w : Writing g.row.W.Denot = writing_of g.W.TextOut in
    let old = c.args.log.now in
    let new = c.forget.new.self in
    let out = c.args.self.now.output in
    let now = c.write_all.new.writer in
    let before = printed_where_on w style first old.lines c.args.self.now.live_output old.forgotten
    out c.requires.on h.1 in
    let rest = drop old.forgotten old.lines in
    let written : g.W.TextOut.adds out c.args.text.now now = search rules in
    let rows = subst (λ (s : RowStyle). AreRowsOf s (notices_of rest) c.args.text.now) h.0
    c.requires.text in
    let sound : g.W.TextOut.failures now ≡ g.W.TextOut.failures out = search rules in
    let all = printed_all w style first g.met.W.TextOut.adds_more out now old.lines
    old.forgotten c.args.text.now before rows written sound in
    let count : ℕ = length c.log-count.result.now in
    let counted : count ≡ length rest = ap length c.log-count.ensures in (
      h.0,
      subst (λ (f : LiveOutput). HasFollowed w style first new.lines f new.forgotten now)
          (sym c.requires.on)
          (all_forgotten w style first out now old new count before counted c.forget.ensures all),
    )

pub returns-in-Err-clause-shows : goal.returns-in-Err-clause-shows
returns-in-Err-clause-shows g c =
    λ style first h.
    let w : Writing g.row.W.Denot = writing_of g.W.TextOut in
    let old = c.args.log.now in
    let out = c.args.self.now.output in
    let now = c.write_all.new.writer in
    let before = printed_where_on w style first old.lines c.args.self.now.live_output old.forgotten
    out c.requires.on h.1 in
    let rest = drop old.forgotten old.lines in
    let part : Wrote g.W.TextOut.adds out c.args.text.now now = search rules in
    let failed : g.W.TextOut.failures now ≡ g.W.TextOut.failures out + 1 = search rules in
    let rows = subst (λ (s : RowStyle). AreRowsOf s (notices_of rest) c.args.text.now) h.0
    c.requires.text in (
      h.0,
      printed_part w style first g.met.W.TextOut.adds_more out now old.lines old.forgotten
          c.args.text.now before rows part failed,
    )

pub returns-in-Ok-clause-notes : goal.returns-in-Ok-clause-notes
returns-in-Ok-clause-notes g c =
    let before = c.args.self.now.unchanged in
    λ symbols h.
    noted_all symbols c.args.log.now c.forget.new.self (length c.log-count.result.now) before
    c.note_log.new.unchanged h
    (c.note_log.ensures ∙ ap (λ l. unchanged_among (notices_of l) before) c.log.ensures)
    (ap length c.log-count.ensures) c.forget.ensures
