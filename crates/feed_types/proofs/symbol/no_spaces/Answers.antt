use Rattle.std.proofs.Common.{ℕ, ◌+◌, ◌*◌, ◌%◌, ◌^◌, bit_and, refl, ap, ◌∙◌}
use Rattle.feed_types.proofs.Lanes.{reaching}
use Rattle.feed_types.proofs.symbol.no_spaces.Goals as goal

pub returns : goal.returns
returns c = λ bytes are e. ap (λ (w : ℕ). bit_and ((w + 127 * 0x0101_0101_0101_0101) % 2 ^ 64)
    0x8080_8080_8080_8080) e ∙ reaching 127 1 refl bytes are
