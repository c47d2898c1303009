use Rattle.std.proofs.Common.{◌≡◌, ◌+◌, ◌≤◌, length, take}
use Rattle.std.specs.List.{suffix_len}
use Rattle.feed_types.specs.Symbols.{is_space}
use Rattle.line_discovery.proofs.session_word.trimmed_len.Given as goal

abbrev pub invariant-loop-len : goal.invariant-loop-len
invariant-loop-len l = (l.len ≤ length l.name)
    × (l.len + suffix_len is_space l.name ≡ length l.name + suffix_len is_space (take l.len l.name))

abbrev pub decreases-loop-len : goal.decreases-loop-len
decreases-loop-len l = l.len
