use Rattle.std.proofs.Common.{◌≡◌, ℕ, ◌-◌, ap, arith, length, take}
use Rattle.std.specs.List.{suffix_len}
use Rattle.feed_types.specs.Symbols.{is_space}
use Rattle.line_discovery.proofs.session_word.trimmed_name.Goals as goal

pub returns : goal.returns
returns c =
    let name = c.args.name.now in
    let sum = c.trimmed_len.ensures in
    let len : c.trimmed_len.result ≡ length name - suffix_len is_space name = omega (arith, sum) in
    ap (λ (n : ℕ). take n name) len
