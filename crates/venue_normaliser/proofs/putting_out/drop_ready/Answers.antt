use Rattle.std.proofs.Common.{◌∙◌, sym}
use Rattle.line_arbiter.specs.laws.FitsHistory.{keeping_all_but_sent_is_reflexive, keeping_all_but_sent_is_transitive}
use Rattle.venue_normaliser.proofs.Sent.{all_sent_where_none}
use Rattle.venue_normaliser.proofs.putting_out.drop_ready.Goals as goal

pub loop-ready-init : goal.loop-ready-init
loop-ready-init c = record { kept = keeping_all_but_sent_is_reflexive; fits = λ P fits. fits }

pub loop-ready-preserved : goal.loop-ready-preserved
loop-ready-preserved c = record {
  kept = keeping_all_but_sent_is_transitive c.loop-ready.invariant.kept
      c.in-Some.ensures.after.kept;
  fits = λ P fits. c.in-Some.ensures.fits P (c.loop-ready.invariant.fits P fits);
}

pub returns-clause-fits : goal.returns-clause-fits
returns-clause-fits c =
    let left = rw c.in_default.is at c.take_ready.ensures.left in
    rw left (λ P fits.
    let so = c.loop-ready.invariant.fits P fits in
    (so, all_sent_where_none _ P so (sym c.in_default.is ∙ c.take_ready.ensures.stream P so)))
