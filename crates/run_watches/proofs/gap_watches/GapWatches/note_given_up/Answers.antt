use Rattle.std.proofs.Common.{◌∙◌, ℕ, ap, subst, sym, refl}
use Rattle.std.specs.Prelude.{Option, slice_set, ◌/◌}
use Rattle.std.proofs.Math.Seq.{map-set_same}
use Rattle.text_out.specs.Devices.{Writing}
use Rattle.text_out.specs.Members.{writing_of}
use Rattle.text_out.specs.StandardError.{SaysEach}
use Rattle.run_watches.specs.Gaps.{given_up_in}
use Rattle.run_watches.specs.GivenUps.{giving_up_at, noted_texts}
use Rattle.run_watches.specs.RunLines.{watched_venue}
use Rattle.run_watches.specs.declared.gap_watch.GapWatch.{GapWatch}
use Rattle.run_watches.proofs.RunTelling.{some_there, watch_there}
use Rattle.run_watches.proofs.gap_watches.GapWatches.note_given_up.Goals as goal

pub returns-in-Some-clause-gaps : goal.returns-in-Some-clause-gaps
returns-in-Some-clause-gaps g c =
    let old = c.in-Some.gap.now in
    let rule = c.args.self.now.rule in
    ap (λ venues. record { rule = rule; venues = venues })
    (map-set_same watched_venue c.args.self.now.gaps.items _ c.note_given_up.new.self old
    (ap (λ gap. watched_venue gap) c.note_given_up.ensures.watch
    ∙ ap (λ gap. watched_venue gap) c.in-Some.ensures.item.1))

pub returns-in-Some-clause-notes : goal.returns-in-Some-clause-notes
returns-in-Some-clause-notes g c =
    let old = c.args.self.now in
    let items = old.gaps.items in
    let place = c.args.venue in
    let there = watch_there old c.index.result place c.in-Some.gap.now c.index.ensures.value
    (sym c.gives_up.ensures ∙ c.if-not-gives_up.false) c.in-Some.ensures.item.3.0
    c.in-Some.ensures.item.1 in
    record {
      rest = refl;
      noted =
          some_there _ _ (giving_up_at old place) c.in-Some.gap.now there
          (ap (λ (x : GapWatch). slice_set items c.index.result x) c.note_given_up.ensures.watch
          ∙ ap (λ (i : ℕ). slice_set items i (given_up_in c.in-Some.gap.now c.args.missing))
          c.index.ensures.value);
    }

pub returns-in-Some-clause-says : goal.returns-in-Some-clause-says
returns-in-Some-clause-says g c =
    let w : Writing g.row.E.Denot = writing_of g.E.TextOut in
    let there = watch_there c.args.self.now c.index.result c.args.venue c.in-Some.gap.now
    c.index.ensures.value
    (sym c.gives_up.ensures ∙ c.if-not-gives_up.false) c.in-Some.ensures.item.3.0
    c.in-Some.ensures.item.1 in
    subst (λ (o : Option GapWatch). SaysEach w
    (noted_texts c.args.names.now (c.args.elapsed_ms / 1000) o c.args.missing)
    c.args.errors.now c.note_given_up.new.errors) (sym there) c.note_given_up.ensures.tells
