-- Powers of ten.
use Rattle.std.proofs.Common.{ℕ, ◌≡◌, ◌*◌, ◌^◌, ◌<◌, ◌≤◌, arith}
use Rattle.std.specs.Prelude.{◌/◌}
use Rattle.std.proofs.Math.Nat.{pow-le-pow_right}
use Rattle.std.proofs.lemmas.Nat.{div_below}

pub tens_small : (n : ℕ) → n ≤ 38 → 10 ^ n < 2 ^ 128
tens_small n h =
    let ten : 0 < 10 = omega arith in
    let below : 10 ^ n ≤ 10 ^ 38 = pow-le-pow_right ten h in
    omega arith

pub tens_positive : (n : ℕ) → 0 < 10 ^ n
tens_positive n =
    let ten : 0 < 10 = omega arith in
    let none : 0 ≤ n = omega arith in
    let least : 10 ^ 0 ≤ 10 ^ n = pow-le-pow_right ten none in
    omega arith

-- less than a unit
pub less_than_one : (ticks n : ℕ) → ticks < 2 ^ 64 → 39 ≤ n → ticks * 1000000000 / 10 ^ n ≡ 0
less_than_one ticks n small large =
    let ten : 0 < 10 = omega arith in
    let above : 10 ^ 39 ≤ 10 ^ n = pow-le-pow_right ten large in
    let below : ticks * 1000000000 < 1 * 10 ^ n = omega arith in
    let quotient : ticks * 1000000000 / 10 ^ n < 1 = div_below (ticks * 1000000000) (10 ^ n) 1
    (tens_positive n) below in
    omega arith
