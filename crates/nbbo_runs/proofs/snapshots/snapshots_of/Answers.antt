use Rattle.std.proofs.Common.{◌+◌, ◌∙◌, [], ◌∷◌, arith, codes, inl, inr, map, refl, subst, sym}
use Rattle.std.proofs.lemmas.List.{length-map}
use Rattle.text_out.specs.Devices.{Writing}
use Rattle.text_out.specs.Members.{writing_of}
use Rattle.text_out.specs.StandardError.{SaysEach}
use Rattle.text_out.specs.laws.SaidTexts.{says_one}
use Rattle.nbbo_runs.specs.Snapshots.{IsSnapshotOf, given_bytes}
use Rattle.nbbo_runs.proofs.SnapshotPlaces.{snapshots_more}
use Rattle.nbbo_runs.proofs.snapshots.snapshots_of.Goals as goal

pub loop-place-init : goal.loop-place-init
loop-place-init g c =
    rw c.new-given.ensures.items
    (record { count = refl; each = λ place less. absurd (omega (arith, less)); quiet = refl })

pub loop-place-preserved : goal.loop-place-preserved
loop-place-preserved g c =
    let before = c.loop-place.invariant in
    let now = subst (λ n. IsSnapshotOf
    (given_bytes c.args.files.now (map (λ of. of.items) c.args.bytes.now) n)
    c.in_ok-snapshot.snapshot) c.at.ensures c.in_ok-snapshot.ensures.read in
    record {
      count = omega (
        arith,
        c.in-Ok.ensures.len,
        before.count,
        c.push.new.self.ok.0,
        c.loop-place.given.ok.0,
      );
      each = rw c.in-Ok.ensures.items (snapshots_more c.args.files.now
          (map (λ of. of.items) c.args.bytes.now) c.loop-place.place (c.loop-place.place + 1)
          c.loop-place.given.items c.in_ok-snapshot.snapshot refl before.count before.each now);
      quiet = c.in_ok-snapshot.ensures.quiet ∙ before.quiet;
    }

pub returns-then-files-bytes-clause-refused : goal.returns-then-files-bytes-clause-refused
returns-then-files-bytes-clause-refused g c =
    let w : Writing g.row.E.Denot = writing_of g.E.TextOut in
    let text = codes "nbbo: snapshots not read\n" in (
      text ∷ [],
      inl (
        λ same. c.if-files-bytes.true
            (sym same ∙ length-map c.args.bytes.now (λ of. of.items)),
        refl,
      ),
      says_one w text c.args.errors.now c.write_stderr.new.errors c.write_stderr.ensures,
    )

pub returns-in_err-snapshot-clause-refused : goal.returns-in_err-snapshot-clause-refused
returns-in_err-snapshot-clause-refused g c =
    let w : Writing g.row.E.Denot = writing_of g.E.TextOut in
    let refused = c.in_err-snapshot.ensures.refused in
    rw c.from_residual.ensures (
      refused.0,
      inr (inr (
        c.at.result,
        omega (arith, c.at.ensures, c.loop-place-test.true),
        refused.1,
      )),
      subst (λ (s : g.row.E.Denot). SaysEach w refused.0 s c.read_venue.new.errors)
          c.loop-place.invariant.quiet refused.2,
    )

pub returns-in-Err-clause-refused : goal.returns-in-Err-clause-refused
returns-in-Err-clause-refused g c =
    let w : Writing g.row.E.Denot = writing_of g.E.TextOut in
    let text = codes "nbbo: no memory\n" in (
      text ∷ [],
      inr (inl refl),
      subst (λ (s : g.row.E.Denot). SaysEach w (text ∷ []) s c.write_stderr-in-Err.new.errors)
          (c.in_ok-snapshot.ensures.quiet ∙ c.loop-place.invariant.quiet)
          (says_one w text c.read_venue.new.errors c.write_stderr-in-Err.new.errors
          c.write_stderr-in-Err.ensures),
    )

pub returns-clause-read : goal.returns-clause-read
returns-clause-read g c =
    let before = c.loop-place.invariant in
    record {
      all = length-map c.args.bytes.now (λ of. of.items) ∙ sym c.if-files-bytes.false;
      count = omega (
        arith,
        before.count,
        c.loop-place-test.false,
        c.loop-place.auto.place-end,
      );
      each = λ place less. before.each place (omega (arith, less, c.loop-place-test.false));
    }

pub returns-clause-quiet : goal.returns-clause-quiet
returns-clause-quiet g c = c.loop-place.invariant.quiet
