use Rattle.std.proofs.Common.{◌≡◌, ◌∙◌, [], inl, inr, refl, sym}
use Rattle.feed_types.specs.declared.item.Item.TheVariants as items
use Rattle.quote_payload.specs.Payload.{item_of}
use Rattle.venue_normaliser.proofs.message_form.MessageForm.new.Goals as goal

-- an empty message reads as Other
empty_reads : item_of [] ≡ items.Other
unfolding item_of
empty_reads = refl

pub returns-in-Other-clause-reads : goal.returns-in-Other-clause-reads
returns-in-Other-clause-reads c = elim c.in-Other.is [
  | inl is ↦ inl (empty_reads ∙ sym is)
  | inr no_message ↦ inr no_message
]
