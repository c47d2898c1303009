-- The texts of a line, a price, a side and a state (this project's printed lines).
use Rattle.std.specs.Prelude.{ℕ, ◌/◌, ◌%◌, List, ◌++◌, codes, decimal, Option, Some, None}
use Rattle.feed_types.specs.declared.line.LineId.{LineId}
use Rattle.feed_types.specs.declared.line.LineId.TheVariants.{A, B, Recovery}
use Rattle.feed_types.specs.declared.national.Best.{Best}
use Rattle.feed_types.specs.declared.national.NationalState.{NationalState}
use Rattle.feed_types.specs.declared.national.NationalState.TheVariants.{Empty, OneSided, Normal, Locked, Crossed}

abbrev pub line_letter : LineId → ℕ
line_letter A = 65
line_letter B = 66
line_letter Recovery = 82

-- a price in ten-thousandths of a dollar: the whole dollars, a point and four digits
abbrev pub price_text : ℕ → List ℕ
price_text price =
    decimal (price / 10000) ++ codes "."
    ++ decimal (price / 1000 % 10) ++ decimal (price / 100 % 10)
    ++ decimal (price / 10 % 10) ++ decimal (price % 10)

-- a side of a national best: the venue, the price and the size
abbrev pub best_text : Best → List ℕ
best_text best =
    decimal best.venue ++ codes ":" ++ price_text best.price ++ codes "x" ++ decimal best.size

abbrev pub side_text : Option Best → List ℕ
side_text None = codes "none"
side_text (Some best) = best_text best

abbrev pub state_text : NationalState → List ℕ
state_text Empty = codes "empty"
state_text OneSided = codes "one-sided"
state_text Normal = codes "normal"
state_text Locked = codes "locked"
state_text Crossed = codes "crossed"
