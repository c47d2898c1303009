use Rattle.std.proofs.Common.{◌≡◌, ◌+◌, ◌-◌, ◌∙◌, ℕ, length, get_or, ap, arith}
use Rattle.feed_types.specs.Sessions.{end_item}
use Rattle.item_packets.specs.laws.Rows.{before_end, without_end}
use Rattle.item_packets.proofs.item_row.messages_before_end.Goals.{else-len-gt0-via-then-len-gt0+else-is_end, else-len-gt0-via-else-len-gt0}
use Rattle.item_packets.proofs.item_row.messages_before_end.Goals as goal

pub returns-then-is_end-clause-count : goal.returns-then-is_end-clause-count
returns-then-is_end-clause-count c = λ first run.
    before_end first c.args.items.now (length c.args.items.now - 1) c.index-items-len.result
    (omega (arith, c.if-len-gt0.true)) c.if-is_end.ensures run

pub returns-clause-count : goal.returns-clause-count
returns-clause-count c = λ first run. elim c.else-len-gt0.branch [
  | else-len-gt0-via-then-len-gt0+else-is_end w ↦
      without_end first c.args.items.now w.index-items-len.result
      (λ k len is. w.if-is_end.ensures
      (ap (λ (j : ℕ). (get_or c.args.items.now j w.index-items-len.result).item)
      (last k len) ∙ is)) run
  | else-len-gt0-via-else-len-gt0 w ↦
      without_end first c.args.items.now (end_item 0)
      (λ k len is. omega (arith, len, w.if-len-gt0.false)) run
]
  where
    last : (k : ℕ) → k + 1 ≡ length c.args.items.now → length c.args.items.now - 1 ≡ k
    last k e = omega (arith, e)
