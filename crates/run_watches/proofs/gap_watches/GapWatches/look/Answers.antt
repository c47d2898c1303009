use Rattle.std.proofs.Common.{◌∙◌, Contains, List, ap, map, refl, subst, sym, ℕ}
use Rattle.std.proofs.Math.Seq.{map-set_same}
use Rattle.text_out.specs.Devices.{Writing}
use Rattle.text_out.specs.Members.{writing_of}
use Rattle.run_watches.specs.RunLines.{watched_gaps, watched_venue}
use Rattle.run_watches.specs.RunNews.{IsNewsOfGap, IsNewsOfGaps, SaysNews}
use Rattle.run_watches.specs.RunNewsLaws.{more_news, no_news}
use Rattle.run_watches.proofs.RunTelling.{news_of_look}
use Rattle.run_watches.proofs.Telling.{gap_within, made_within, news_within}
use Rattle.run_watches.proofs.gap_watches.GapWatches.look.Goals.{in-Some, in-None}
use Rattle.run_watches.proofs.gap_watches.GapWatches.look.Goals as goal

pub loop-place-init : goal.loop-place-init
loop-place-init g c = (
  refl,
  no_news (writing_of g.E.TextOut) c.args.names.now (IsNewsOfGaps (watched_gaps c.args.self.now))
      c.args.errors.now,
)

pub loop-place-preserved : goal.loop-place-preserved
loop-place-preserved g c =
    let w : Writing g.row.E.Denot = writing_of g.E.TextOut in
    let names = c.args.names.now in
    let gaps = watched_gaps c.args.self.now in
    let items = c.loop-place.gaps.items in
    let before = c.loop-place.errors in
    let same = c.loop-place.invariant.0 in
    let told = c.loop-place.invariant.1 in
    elim c.match-get_mut.branch [
      | in-Some b ↦
          let old = b.in-Some.gap.now in
          let at = b.in-Some.ensures.item in
          let there = subst (λ gap. Contains (map watched_venue items) (watched_venue gap))
          (sym at.1) (made_within watched_venue items c.loop-place.place old at.3.0) in
          let within =
          subst (λ (venues : List ℕ). Contains venues (watched_venue old)) same there in
          let said =
          news_within w names (IsNewsOfGap gaps.rule (watched_venue old)) (IsNewsOfGaps gaps) before
          b.look.new.errors (gap_within gaps (watched_venue old) within)
          (news_of_look w names _ _ gaps.rule old _ _ _ b.look.ensures.looks) in (
            ap (λ seen. map watched_venue seen.items) b.gaps-is
                ∙ map-set_same watched_venue items c.loop-place.place b.look.new.self old
                (b.look.ensures.venue ∙ ap (λ gap. watched_venue gap) at.1)
                ∙ same,
            more_news w names (IsNewsOfGaps gaps) c.args.errors.now before c.match-get_mut.errors
                told
                (subst (λ last. SaysNews w names (IsNewsOfGaps gaps) before last)
                (sym b.errors-is) said),
          )
      | in-None b ↦ (
        ap (λ seen. map watched_venue seen.items) b.gaps-is ∙ same,
        subst (λ last. SaysNews w names (IsNewsOfGaps gaps) c.args.errors.now last)
            (sym b.errors-is) told,
      )
    ]

pub returns-clause-gaps : goal.returns-clause-gaps
returns-clause-gaps g c =
    let rule = c.args.self.now.rule in
    ap (λ venues. record { rule = rule; venues = venues }) c.loop-place.invariant.0

pub returns-clause-says : goal.returns-clause-says
returns-clause-says g c = c.loop-place.invariant.1
