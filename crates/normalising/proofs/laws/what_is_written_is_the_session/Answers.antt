use Rattle.std.proofs.Common.{◌≡◌, ℕ, List, ◌++◌, ◌+◌, ◌-◌, ◌∙◌, ap, sym, subst, length, drop, replicate, arith, append_assoc, length-append, length-drop, length-take}
use Rattle.std.specs.List.{AllByRecursion}
use Rattle.feed_types.specs.declared.item.Item.{Item}
use Rattle.feed_types.specs.declared.item.Item.TheVariants as items
use Rattle.feed_types.specs.declared.item.Numbered.{Numbered}
use Rattle.feed_types.specs.Sessions.{numbered_from}
use Rattle.item_packets.specs.Openings.{first_put}
use Rattle.item_packets.specs.laws.Opened.{begins_front, ended_from, made_after}
use Rattle.item_packets.specs.laws.Parts.{all_append, numbered_append}
use Rattle.item_packets.specs.Carried.{IsMessageItem}
use Rattle.std.proofs.lemmas.List.{length-replicate}
use Rattle.normalising.specs.Carried.{BeatsWithin, last_put}
use Rattle.normalising.proofs.Sent.{row_sent}
use Rattle.normalising.proofs.laws.what_is_written_is_the_session.Goals as goal
use Rattle.venue_normaliser.specs.Outputs.{end_put_out_from, put_first}

pub returns : goal.returns
returns c keys opening name messages window packets output written opens begins answered inputs put
    carry beats =
    let gives = c.what_is_put_out_is_the_session.ensures keys opening name messages window packets
    output answered inputs put in
    let n = opening.number in
    let last = last_put opening packets in
    let bound = begins_front n packets begins in
    let places = opens.places in
    let one = length-drop (n - 1) messages in
    let len = length-take (last + 1 - n) (drop (n - 1) messages) in
    let count : length gives.items ≡ last + 1 - n =
    gives.made.count ∙ omega (arith, len, one, gives.within, bound) in
    let others : List Item = replicate (n - length opening.shown - 1) items.Other in
    let both = length-append opening.shown gives.items in
    let all = length-append others (opening.shown ++ gives.items) in
    let pad = length-replicate (n - length opening.shown - 1) items.Other in
    let whole : last ≡ length (others ++ (opening.shown ++ gives.items)) =
    omega (arith, all, both, pad, count, bound, places) in
    let carried = carry.carried ∙ gives.is in
    let row = carried
    ∙ sym (append_assoc (put_first opening) (numbered_from n gives.items)
    (end_put_out_from n packets))
    ∙ ap (λ (xs : List Numbered). xs ++ end_put_out_from n packets)
    (sym (numbered_append (first_put opening) opening.shown gives.items
    ∙ ap (λ (k : ℕ). put_first opening ++ numbered_from k gives.items)
    (let k : n - length opening.shown + length opening.shown ≡ n = omega (arith, places) in k))) in
    record {
      items = gives.items;
      are = record { within = gives.within; made = gives.made };
      each = row_sent (first_put opening) name others
          (opening.shown ++ gives.items) (end_put_out_from n packets) written
          (omega (arith, pad, places))
          (all_append IsMessageItem opening.shown gives.items opens.messages
          (made_after keys opening.messages _ gives.items gives.made))
          (ended_from n packets (first_put opening + length (opening.shown ++ gives.items))
          (omega (arith, both, count, bound, places)))
          carry.session row
          (subst (λ (k : ℕ). AllByRecursion (BeatsWithin k) written) whole beats);
      carried = carried;
    }
