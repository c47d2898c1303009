use Rattle.std.proofs.Common.{refl}
use Rattle.line_gaps.proofs.MissingLemmas.{fits_first}
use Rattle.line_gaps.proofs.lost_numbers.LostNumbers.new.Goals as goal

pub returns : goal.returns
returns c =
    fits_first _ c.new.ensures.none c.new-2.ensures.none c.new.ensures.empty c.new-2.ensures.empty
    refl refl
