use Rattle.std.proofs.Common.{◌≡◌, ℕ, ◌+◌, ◌^◌, ◌<◌, sym, ap, arith, below_more, inl, length}
use Rattle.std.proofs.lemmas.Bool.{false≢true}
use Rattle.quote_payload.specs.Payload.{item_of}
use Rattle.line_arbiter.specs.Packets.{message_item}
use Rattle.line_arbiter.specs.Filling.{HoldsNoOther}
use Rattle.line_arbiter.specs.Comparing.{IsThere}
use Rattle.line_arbiter.proofs.Turns.{IsAt, at_turn, go_on, numbers_fit}
use Rattle.line_arbiter.proofs.intake.compare_many.Goals as goal
use Rattle.line_arbiter.proofs.intake.compare_many.Goals.{After-compare_one}

module _ (c : After-compare_one) where
  abbrev n : ℕ
  n = c.loop-i.i-iterator.count

  abbrev Agrees : ℕ → Type 0
  Agrees k = HoldsNoOther c.args.window.now (c.number-first.result + k)
      (message_item c.args.packet.now k)

  abbrev There : ℕ → Type 0
  There k = IsThere c.args.window.now (c.number-first.result + k)

  place : c.in-Some.i ≡ n
  place = omega (arith, c.in-Some.ensures.steps.1, c.in-Some.ensures.steps.2)

  count : c.next.new.self.count ≡ n + 1
  count = omega (arith, c.in-Some.ensures.steps.1, c.in-Some.ensures.steps.2)

  next : IsAt c.args.packet.now (n + 1) c.next.new.self.iter
  next = go_on c.in-Some.message.now c.next.new.self.iter c.loop-i.invariant.at
      c.in-Some.ensures.steps.0

  item : item_of c.in-Some.message.now ≡ message_item c.args.packet.now n
  item = ap item_of (sym (at_turn c.in-Some.message.now c.next.new.self.iter c.loop-i.invariant.at
      c.in-Some.ensures.steps.0).here)

  fits : n + 1 + length c.next.new.self.iter < 2 ^ 64
  fits = let k = next.len in let f = numbers_fit c.args.packet.now c.number-first.ensures.content
      in let o = c.number-first.ensures.content.from_one in omega arith

  all_agree : HoldsNoOther c.args.window.now (c.number-first.result + c.in-Some.i)
      (item_of c.in-Some.message.now) → (k : ℕ) → k < n + 1 → Agrees k
  all_agree here = below_more Agrees n c.loop-i.invariant.agrees (rw (← item, ← place) here)

pub loop-i-preserved-in-Repeats : goal.loop-i-preserved-in-Repeats
loop-i-preserved-in-Repeats c =
    let at = (goal.at.loop-i-preserved-in-Repeats c).After-compare_one in
    record {
      can = (tt, tt, inl (let f = fits at in let k = count at in omega arith));
      finite = tt;
      at = rw (count at) (next at);
      there = λ all. rw (count at) (below_more (There at) (n at) (c.loop-i.invariant.there all)
          (rw (← place at) c.in-Repeats.ensures.0));
      agrees = rw (count at) (all_agree at c.in-Repeats.ensures.1);
    }

pub loop-i-preserved : goal.loop-i-preserved
loop-i-preserved c =
    let at = (goal.at.loop-i-preserved c).After-compare_one in
    record {
      can = (tt, tt, inl (let f = fits at in let k = count at in omega arith));
      finite = tt;
      at = rw (count at) (next at);
      there = λ all. absurd (false≢true all);
      agrees = rw (count at) (all_agree at c.in-Agrees.ensures);
    }
