use Rattle.std.proofs.Common.{ℕ, ◌<◌, ◌≡◌, ◌∙◌, ap, arith, get_or, length, set, subst}
use Rattle.feed_types.specs.FullCounts.{count_after}
use Rattle.message_types.specs.TypeCounts.{count_place}
use Rattle.message_forms.specs.Payloads.{itch_place}
use Rattle.message_types.proofs.Counting.{message_counted}
use Rattle.message_types.proofs.counts.TypeCounts.count_message.Goals as goal

pub returns : goal.returns
returns c =
    let each = c.args.self.now.each in
    let type = c.itch_place.ensures.place in
    let few = c.itch_place.ensures.within in
    let at : c.count_place-place.result
    ≡ count_place c.args.venue c.args.line (itch_place c.args.message.now) =
    c.count_place-place.ensures.place
    ∙ ap (λ (n : ℕ). count_place c.args.venue c.args.line n) type in
    message_counted c.args.self.now _ c.args.venue c.args.line c.args.message.now
    (omega (arith, type, few))
    (subst (λ (p : ℕ). p < length each) at c.add_one.ensures.within)
    (c.add_one.ensures.added
    ∙ ap (λ (p : ℕ). set each p (count_after (get_or each p 0) 1)) at)
