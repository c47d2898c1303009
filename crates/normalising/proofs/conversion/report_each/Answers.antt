use Rattle.std.proofs.Common.{◌≡◌, ◌+◌, ◌∷◌, [], ◌∙◌, Some, length, length-append, refl, ap, sym, subst, arith}
use Rattle.std.specs.Prelude.{slice_get}
use Rattle.std.proofs.lemmas.Option.{slice_get-get_or}
use Rattle.normalising.proofs.Reports.{AreOfVenues, report_next}
use Rattle.normalising.proofs.conversion.report_each.Goals as goal

pub loop-venue-init : goal.loop-venue-init
loop-venue-init c = record {
  count = ap length c.requires.empty;
  each = rw c.requires.empty (λ place v report a b. absurd cc);
  capacity = refl;
}

pub push_reserved-requires : goal.push_reserved-requires
push_reserved-requires c =
    let room = c.requires.room in
    let count = c.loop-venue.invariant.count in
    let same = c.loop-venue.invariant.capacity in
    let test = c.loop-venue-test.true in
    omega (arith, room, count, same, test)

pub loop-venue-preserved : goal.loop-venue-preserved
loop-venue-preserved c =
    let vs = c.args.venues.now in
    let reports = c.loop-venue.reports.items in
    let i = c.loop-venue.venue-index in
    let x = c.venue-item.result in
    let count = c.loop-venue.invariant.count in
    let pushed = c.push_reserved.ensures.items in
    record {
      count = ap length pushed ∙ length-append reports (c.report.result ∷ [])
          ∙ ap (λ n. n + 1) count;
      each = subst (λ l. AreOfVenues vs l) (sym pushed)
          (report_next vs reports x c.report.result c.loop-venue.invariant.each
          (subst (λ n. slice_get vs n ≡ Some x) (sym count)
          (slice_get-get_or vs i x c.loop-venue-test.true
          ∙ ap (λ y. Some y) (sym c.venue-item.is))) c.report.ensures);
      capacity = c.push_reserved.ensures.capacity ∙ c.loop-venue.invariant.capacity;
    }
