use Rattle.std.proofs.Common.{ℕ, ◌≡◌, ◌+◌, ◌∙◌, sym, ap, arith, inl}
use Rattle.quote_payload.specs.Payload.{item_of}
use Rattle.line_arbiter.specs.Packets.{message_item}
use Rattle.line_arbiter.specs.Holding.{held_at}
use Rattle.line_arbiter.specs.Filling.{put_one}
use Rattle.line_arbiter.proofs.Counting.{byte_is}
use Rattle.line_arbiter.proofs.Filling.{IsFilled, filled_more, fresh_most}
use Rattle.line_arbiter.proofs.Turns.{at_turn, go_on, numbers_fit, few}
use Rattle.line_arbiter.proofs.intake.fill_many.Goals as goal
use Rattle.line_arbiter.proofs.intake.fill_many.Goals.{After-from-count}

step : (c : After-from-count) → IsFilled (c.loop-i.i-iterator.count + 1) c.args.window.now.base
    c.args.window.now c.put-is_new.new.window c.args.packet.now
    (c.loop-i.count + c.from-count.result)
step c =
    let p = c.args.packet.now in
    let n = c.loop-i.i-iterator.count in
    let t = at_turn c.in-Some.message.now c.next.new.self.iter c.loop-i.invariant.at
    c.in-Some.ensures.steps.0 in
    let place : c.in-Some.i ≡ n = omega (
      arith,
      c.in-Some.ensures.steps.1,
      c.in-Some.ensures.steps.2,
    ) in
    let item : item_of c.in-Some.message.now ≡ message_item p n = ap item_of (sym t.here) in
    let after = rw (item, place, c.number-first.ensures.value) at c.put-is_new.ensures.after in
    let told = rw (place, c.number-first.ensures.value) at c.put-is_new.ensures.told in
    let base = c.loop-i.invariant.base in
    rw (c.from-count.ensures, byte_is c.put-is_new.result) (filled_more c.put-is_new.result
    c.put-is_new.new.window c.loop-i.invariant.filled
    (λ m. after m ∙ ap (λ (k : ℕ). put_one k (p.number + n) (message_item p n)
    (held_at c.loop-i.window m) m) base) (
      λ t. let both = told.0 t in let past = both.0 in (omega arith, both.1),
      λ both. let past =
          both.0 in told.1 (omega arith, both.1),
    ))

pub overflow_add-count : goal.overflow_add-count
overflow_add-count c =
    let p = c.args.packet.now in
    let s = step (goal.at.overflow_add-count c).After-from-count in
    let k = s.count_is in
    let t = at_turn c.in-Some.message.now c.next.new.self.iter c.loop-i.invariant.at
    c.in-Some.ensures.steps.0 in
    let within = t.within in
    let most = few p c.number-first.ensures.content in
    omega (
      arith,
      fresh_most (c.loop-i.i-iterator.count + 1)
          c.args.window.now.base c.args.window.now p,
    )

pub loop-i-preserved : goal.loop-i-preserved
loop-i-preserved c =
    let p = c.args.packet.now in
    let n = c.loop-i.i-iterator.count in
    let next = go_on c.in-Some.message.now c.next.new.self.iter c.loop-i.invariant.at
    c.in-Some.ensures.steps.0 in
    let count : c.next.new.self.count ≡ n + 1 = omega (
      arith,
      c.in-Some.ensures.steps.1,
      c.in-Some.ensures.steps.2,
    ) in
    record {
      can = (
        tt,
        tt,
        inl (let k = next.len in let f = numbers_fit p c.number-first.ensures.content
            in let o = c.number-first.ensures.content.from_one in omega arith),
      );
      finite = tt;
      at = rw count next;
      base = c.put-is_new.ensures.base ∙ c.loop-i.invariant.base;
      width = c.put-is_new.ensures.width ∙ c.loop-i.invariant.width;
      filled = rw count (step (goal.at.loop-i-preserved c).After-from-count);
    }

pub put-is_new-requires : goal.put-is_new-requires
put-is_new-requires c =
    let t = at_turn c.in-Some.message.now c.next.new.self.iter c.loop-i.invariant.at
    c.in-Some.ensures.steps.0 in
    let within = t.within in
    let place : c.in-Some.i ≡ c.loop-i.i-iterator.count = omega (
      arith,
      c.in-Some.ensures.steps.1,
      c.in-Some.ensures.steps.2,
    ) in
    let base = c.loop-i.invariant.base in
    let width = c.loop-i.invariant.width in
    let first = c.number-first.ensures.value in
    let room = c.requires in
    omega arith
