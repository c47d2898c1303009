use Rattle.std.proofs.Common.{◌∷◌, [], ◌∙◌, flat_map, subst, sym}
use Rattle.text_out.specs.Devices.{Writing}
use Rattle.text_out.specs.Members.{writing_of}
use Rattle.text_out.specs.StandardError.{SaysEach}
use Rattle.run_watches.specs.News.{SaysTotals, total_if, total_texts}
use Rattle.run_watches.specs.RunLines.{watched}
use Rattle.run_watches.specs.declared.line_news.LineCounted.TheVariants.{HeldBack, Withheld}
use Rattle.run_watches.proofs.Telling.{dropped_total, totals_of_line}
use Rattle.run_watches.proofs.line_watch.LineWatch.write_totals.Goals as goal

pub returns : goal.returns
returns g c =
    let w : Writing g.row.E.Denot = writing_of g.E.TextOut in
    let line = watched c.args.self.now in
    let more = c.is_some-tells_more.result in
    let same = c.is_some-tells_more.ensures in
    let first = c.args.errors.now in
    let last = c.write_notes.new.errors in
    subst (λ told. SaysTotals w c.args.names.now told (line ∷ []) first last) same
    (totals_of_line w c.args.names.now line more first c.write_total-6.new.errors last
    (record {
      unsent = c.unsent.result;
      passed = c.passed.result;
      foreign = c.foreign.result;
      withheld = c.withheld.result;
      held_back = c.held_back.result;
      dropped = c.dropped_count.result;
      a = c.write_total.new.errors;
      b = c.write_total-2.new.errors;
      c = c.write_total-3.new.errors;
      d = c.write_total-4.new.errors;
      e = c.write_total-5.new.errors;
      says_unsent = c.write_total.ensures;
      says_passed = c.write_total-2.ensures;
      says_foreign = c.write_total-3.ensures;
      says_withheld =
          subst (λ n. SaysEach w
          (flat_map (total_texts c.args.names.now) (total_if line Withheld n))
          c.write_total-3.new.errors c.write_total-4.new.errors)
          c.told_count-withheld.ensures c.write_total-4.ensures;
      says_held_back =
          subst (λ n. SaysEach w
          (flat_map (total_texts c.args.names.now) (total_if line HeldBack n))
          c.write_total-4.new.errors c.write_total-5.new.errors)
          c.told_count-held_back.ensures c.write_total-5.ensures;
      says_dropped =
          dropped_total w c.args.names.now line more c.dropped_count.result
          c.write_total-5.new.errors
          c.write_total-6.new.errors c.write_total-6.ensures
          (λ none. c.dropped_count.ensures (sym same ∙ none));
    }) c.write_notes.ensures)
