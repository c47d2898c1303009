use Rattle.std.proofs.Common.{◌≡◌, ◌+◌, ◌/◌, ◌^◌, w64}
use Rattle.std.specs.Prelude.{if◌then◌else◌}
use Rattle.std.specs.Int.{bit_not, trailing_zeros}
use Rattle.line_arbiter.proofs.Marking.{IsFirst, none_left, first_left}
use Rattle.line_arbiter.proofs.marks.first_in_word.Goals as goal
use Rattle.line_arbiter.proofs.marks.first_in_word.Goals.{Else-left-eq0, then-set, else-set}

first : (c : Else-left-eq0) → IsFirst c.args.word c.args.from c.args.set
    (c.args.from + trailing_zeros w64 (c.if-set.asked / 2 ^ c.args.from))
first c =
    let is : c.if-set.asked ≡ (if c.args.set then c.args.word else bit_not w64 c.args.word) =
    elim c.if-set.branch [
      | then-set w ↦ rw w.if-set.true w.asked-is
      | else-set w ↦ rw w.if-set.false w.asked-is
    ] in
    first_left c.args.word c.args.from c.args.set c.if-set.asked c.ranges.word.fits
    c.requires is c.if-left-eq0.false

pub returns-then-left-eq0-clause-others : goal.returns-then-left-eq0-clause-others
returns-then-left-eq0-clause-others c =
    let is : c.if-set.asked ≡ (if c.args.set then c.args.word else bit_not w64 c.args.word) =
    elim c.if-set.branch [
      | then-set w ↦ rw w.if-set.true w.asked-is
      | else-set w ↦ rw w.if-set.false w.asked-is
    ] in
    none_left c.args.word c.args.from c.args.set c.if-set.asked
    c.ranges.word.fits is c.if-left-eq0.true

pub returns-clause-to : goal.returns-clause-to
returns-clause-to c = (first c).to

pub returns-clause-others : goal.returns-clause-others
returns-clause-others c = (first c).others

pub returns-clause-found : goal.returns-clause-found
returns-clause-found c = (first c).is
