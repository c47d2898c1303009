use Rattle.std.proofs.Common.{Option, rules, inl, arith, subst}
use Rattle.std.proofs.lemmas.Bool.{false≢true}
use Rattle.std.specs.Prelude.{IsSome}
use Rattle.feed_types.specs.declared.item.Item.{Item}
use Rattle.line_arbiter.proofs.LineCounts.{none_shown}
use Rattle.line_arbiter.proofs.arbiter.Arbiter.new.Goals as goal

pub invariant_of-result : goal.invariant_of-result
invariant_of-result g c = record {
  sound = record {
    end_small = λ e is. absurd cc;
    known_at_end = λ e is. absurd cc;
    front_known = omega arith;
    held_known = λ m some. absurd
        (false≢true (subst (λ (o : Option Item). IsSome o) (c.in-Ok.ensures.empty m) some));
    ready = λ m past low. let base = c.in-Ok.ensures.base in absurd (omega arith);
    stop = c.in-Ok.ensures.empty 1;
    sent_or_end = inl (let base = c.in-Ok.ensures.base in omega arith);
    few = search rules;
    wins_shown = λ line. rw c.all.ensures (none_shown line);
  };
  next = λ m past. c.in-Ok.ensures.empty m;
}
