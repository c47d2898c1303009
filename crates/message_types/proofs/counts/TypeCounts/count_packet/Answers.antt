use Rattle.std.proofs.Common.{List, ℕ, [], ◌∷◌, ◌++◌, ◌∙◌, ap, append-nil, append_assoc, subst, sym}
use Rattle.message_types.specs.LineMessageLaws.{line_messages}
use Rattle.message_types.specs.TypeCounts.{AddsCounts}
use Rattle.message_types.proofs.Counting.{counted_next, counted_none}
use Rattle.message_types.proofs.counts.TypeCounts.count_packet.Goals as goal

pub loop-message-init : goal.loop-message-init
loop-message-init c = (
  [],
  c.into_iter-message-iterator.ensures.into_iter_gives ∙ c.messages-message-items.ensures.value,
  counted_none c.args.self.now c.args.venue c.args.line,
)

pub loop-message-preserved : goal.loop-message-preserved
loop-message-preserved c =
    let before = c.loop-message.invariant in
    let taken = before.0 in
    let message = c.in-Some.message.now in (
      taken ++ message ∷ [],
      append_assoc taken (message ∷ []) c.next.new.self
          ∙ ap (λ (l : List (List ℕ)). taken ++ l) (sym c.in-Some.ensures.steps) ∙ before.1,
      counted_next c.args.self.now c.loop-message.self c.count_message.new.self c.args.venue
          c.args.line taken (message ∷ []) before.2 c.count_message.ensures,
    )

pub returns : goal.returns
returns c =
    let before = c.loop-message.invariant in
    let none = c.in-None.ensures.steps in
    let all = sym (append-nil before.0)
    ∙ ap (λ (l : List (List ℕ)). before.0 ++ l) (sym none.0) ∙ before.1 in
    subst (λ (ms : List (List ℕ)). AddsCounts c.args.self.now
    (line_messages c.args.venue c.args.line ms ∷ []) c.loop-message.self) all before.2
