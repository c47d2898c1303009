use Rattle.std.proofs.Common.{◌≡◌, ◌≤◌, ◌+◌, ◌*◌, length}
use Rattle.capture_writing.specs.Checksums.{words_sum}
use Rattle.capture_writing.proofs.checksum.add_words.Given as goal

abbrev pub invariant-loop-left : goal.invariant-loop-left
invariant-loop-left l = (l.sum + words_sum l.left ≡ l.before + words_sum l.bytes)
    × (l.sum + 65535 * length l.left ≤ l.before + 65535 * length l.bytes)

abbrev pub decreases-loop-left : goal.decreases-loop-left
decreases-loop-left l = length l.left
