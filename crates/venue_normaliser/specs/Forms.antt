-- The bytes of an item as a message of this project's own payload.
use Rattle.std.specs.Prelude.{ℕ, ◌&&◌, nat_le, List, [], if◌then◌else◌}
use Rattle.feed_types.specs.declared.item.Item.{Item}
use Rattle.feed_types.specs.declared.item.Item.TheVariants.{Quote, Halt, Other, End, Skipped}
use Rattle.quote_payload.specs.Written.{version1_bytes, version2_bytes, halt_bytes}
use Rattle.venue_normaliser.specs.declared.message_form.MessageForm.{MessageForm}
use Rattle.venue_normaliser.specs.declared.message_form.MessageForm.TheVariants as forms

-- A quotation in version 1, or in version 2 where a size has more than 32 bits; a halt, or the end
-- of one; else an empty message. End and Skipped are no messages.
abbrev pub item_bytes : Item → List ℕ
item_bytes (Quote quote) =
    if nat_le quote.bid_size 4294967295 && nat_le quote.offer_size 4294967295
    then version1_bytes quote else version2_bytes quote
item_bytes (Halt symbol halted) = halt_bytes symbol halted
item_bytes Other = []
item_bytes End = []
item_bytes Skipped = []

-- the bytes of a form
abbrev pub form_bytes : MessageForm → List ℕ
form_bytes (forms.Quote bytes) = bytes
form_bytes (forms.WideQuote bytes) = bytes
form_bytes (forms.Halt bytes) = bytes
form_bytes forms.Empty = []
