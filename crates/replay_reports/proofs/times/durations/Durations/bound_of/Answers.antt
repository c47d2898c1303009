use Rattle.std.proofs.Common.{◌≡◌, ℕ, ◌<◌, subst, ◌∙◌, arith}
use Rattle.std.proofs.lemmas.List.{get_or_default}
use Rattle.replay_reports.specs.times.Places.{first_at}
use Rattle.replay_reports.proofs.Sharing.{bound_at, bound_past, count_before, count_none, seen_next}
use Rattle.replay_reports.proofs.times.durations.Durations.bound_of.Goals as goal

pub loop-place-init : goal.loop-place-init
loop-place-init c = λ durations held fits. (
  count_none durations,
  λ bad. absurd (omega (arith, bad)),
)

pub returns-then-seen-wanted : goal.returns-then-seen-wanted
returns-then-seen-wanted c = λ durations held fits share.
    let self = c.args.self.now in
    let place = c.loop-place.place in
    let before = c.loop-place.invariant durations held fits in
    let size : c.len-place-end.result ≡ 976 = omega (
      arith,
      c.len-place-end.ensures,
      self.counts.ok.0,
      held.size,
    ) in
    let small : place < 976 = omega (arith, c.loop-place-test.true, size) in
    bound_at c.args.share c.from.result c.from-2.result c.div_ceil-wanted.result
    self durations held fits
    c.from.ensures c.from-2.ensures c.div_ceil-wanted.ensures place c.saturating_add-seen.result
    c.longest_at.result c.min.result
    small (λ some. omega (arith, before.0, before.1 some))
    (seen_next place c.loop-place.seen c.from-in-loop-place.result c.saturating_add-seen.result self
    durations held fits small
    before.0 (c.from-in-loop-place.ensures ∙ c.index.ensures
    ∙ get_or_default self.counts.items place c.index.result.now 0 (omega (arith, small, held.size)))
    c.saturating_add-seen.ensures)
    c.if-seen-wanted.true c.longest_at.ensures c.min.ensures

pub loop-place-preserved : goal.loop-place-preserved
loop-place-preserved c = λ durations held fits.
    let self = c.args.self.now in
    let place = c.loop-place.place in
    let before = c.loop-place.invariant durations held fits in
    let size : c.len-place-end.result ≡ 976 = omega (
      arith,
      c.len-place-end.ensures,
      self.counts.ok.0,
      held.size,
    ) in
    let small : place < 976 = omega (arith, c.loop-place-test.true, size) in (
      seen_next place c.loop-place.seen c.from-in-loop-place.result c.saturating_add-seen.result
          self durations held fits small
          before.0 (c.from-in-loop-place.ensures ∙ c.index.ensures
          ∙ get_or_default self.counts.items place c.index.result.now 0
          (omega (arith, small, held.size)))
          c.saturating_add-seen.ensures,
      λ some. c.if-seen-wanted.false,
    )

pub returns : goal.returns
returns c = λ durations held fits share.
    let self = c.args.self.now in
    let before = c.loop-place.invariant durations held fits in
    let end : c.loop-place.place ≡ 976 =
    omega (
      arith,
      c.loop-place-test.false,
      c.loop-place.auto.place-end,
      c.len-place-end.ensures,
      self.counts.ok.0,
      held.size,
    ) in
    let some : 0 < c.loop-place.place = omega (arith, end) in
    bound_past c.args.share c.from.result c.from-2.result c.div_ceil-wanted.result
    self durations held fits
    c.from.ensures c.from-2.ensures c.div_ceil-wanted.ensures share c.longest.result
    (c.longest.ensures durations held) c.longest.type_inv
    (subst (λ (place : ℕ). count_before (first_at place) durations < c.div_ceil-wanted.result) end
    (let few = before.1 some in omega (arith, before.0, few)))
