use Rattle.std.proofs.Common.{◌≡◌, ℕ, suc, List, ◌+◌, ◌∙◌, Some, ap, arith, length, refl, sym}
use Rattle.std.proofs.lemmas.Bool.{ltb-false, ltb-true}
use Rattle.std.specs.Prelude.{string_bytes}
use Rattle.command_words.specs.declared.snapshot_file.SnapshotFile.{SnapshotFile}
use Rattle.nbbo_runs.proofs.SnapshotPlaces.{all_passed, found_at, lost_at, passed_at}
use Rattle.nbbo_runs.proofs.snapshots.file_of.Goals as goal

abbrev name_of : SnapshotFile → List ℕ
name_of f = string_bytes f.name

pub loop-place-init : goal.loop-place-init
loop-place-init c = record { given = refl; named = refl }

pub returns-in-Some-clause-given : goal.returns-in-Some-clause-given
returns-in-Some-clause-given c =
    let there = ltb-true c.loop-place.place (length c.args.bytes.now)
    (sym c.in-Some.ensures.lookup.0) in
    ap Some c.as_slice.ensures.value
    ∙ sym (found_at (λ of. of.items) c.args.venue c.args.files.now c.args.bytes.now
    c.loop-place.place c.index-files-place.result _ c.in-Some.found.now _ c.loop-place-test.true
    there c.index-files-place.is (sym c.eq.ensures ∙ c.if-eq.true) c.in-Some.ensures.lookup.1)
    ∙ c.loop-place.invariant.given

pub returns-in-Some-clause-named : goal.returns-in-Some-clause-named
returns-in-Some-clause-named c =
    sym c.loop-place.invariant.named
    ∙ found_at name_of c.args.venue c.args.files.now c.args.files.now c.loop-place.place
    c.index-files-place.result _ c.index-files-place.result _ c.loop-place-test.true
    c.loop-place-test.true c.index-files-place.is (sym c.eq.ensures ∙ c.if-eq.true)
    c.index-files-place.is
    ∙ ap Some (sym c.as_str.ensures.value)

pub returns-in-None-clause-given : goal.returns-in-None-clause-given
returns-in-None-clause-given c =
    sym (lost_at (λ of. of.items) c.args.venue c.args.files.now c.args.bytes.now
    c.loop-place.place (ltb-false c.loop-place.place (length c.args.bytes.now)
    (sym c.in-None.ensures.lookup.0)))
    ∙ c.loop-place.invariant.given

pub loop-place-preserved : goal.loop-place-preserved
loop-place-preserved c =
    let place = c.loop-place.place in
    let next : place + 1 ≡ suc place = omega arith in
    let other = sym c.eq.ensures ∙ c.if-eq.false in
    record {
      given = passed_at (λ of. of.items) c.args.venue c.args.files.now c.args.bytes.now place
          (place + 1) c.index-files-place.result _ next c.loop-place-test.true
          c.index-files-place.is other
          ∙ c.loop-place.invariant.given;
      named = passed_at name_of c.args.venue c.args.files.now c.args.files.now place (place + 1)
          c.index-files-place.result _ next c.loop-place-test.true c.index-files-place.is other
          ∙ c.loop-place.invariant.named;
    }

pub returns-clause-given : goal.returns-clause-given
returns-clause-given c =
    sym (all_passed c.args.files.now _ c.args.venue c.loop-place.place
    (omega (arith, c.loop-place-test.false)))
    ∙ c.loop-place.invariant.given
