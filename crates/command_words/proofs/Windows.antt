-- The window that a number gives.
use Rattle.std.proofs.Common.{◌≡◌, ◌<◌, ◌≤◌, ℕ, refl, arith}
use Rattle.std.proofs.lemmas.Bool.{le-leb, lt-leb}
use Rattle.command_words.specs.OptionValues.{in_window}

pub window_kept : (w : ℕ) → 1 ≤ w → w ≤ 65535 → w ≡ in_window w
window_kept w some few = rw (le-leb 1 w some) (rw (le-leb w 65535 few) refl)

pub window_below : (w : ℕ) → w < 1 → 4096 ≡ in_window w
window_below w low = rw (lt-leb 1 w low) refl

pub window_above : (w : ℕ) → 65535 < w → 4096 ≡ in_window w
window_above w high =
    let some : 1 ≤ w = omega arith in rw (le-leb 1 w some) (rw (lt-leb w 65535 high) refl)
