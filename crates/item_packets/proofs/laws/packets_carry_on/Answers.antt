use Rattle.std.proofs.Common.{◌≡◌, ◌∙◌, ap₂, ◌++◌, List, refl}
use Rattle.std.proofs.lemmas.List.Concat.{flat_map-append}
use Rattle.feed_types.specs.declared.item.Numbered.{Numbered}
use Rattle.mold_packet.specs.Content.{IsContent}
use Rattle.item_packets.specs.Carried.{items_carried}
use Rattle.item_packets.specs.laws.Parts.{all_append}
use Rattle.item_packets.proofs.laws.packets_carry_on.Goals as goal

pub returns-clause-more : goal.returns-clause-more
returns-clause-more c = λ name before more packets written a b. record {
  each = all_append IsContent packets written a.each b.each;
  session = all_append (λ p. p.session ≡ name) packets written a.session b.session;
  carried = flat_map-append items_carried packets written
      ∙ ap₂ (λ (u v : List Numbered). u ++ v) a.carried b.carried;
}

pub returns-clause-none : goal.returns-clause-none
returns-clause-none c = λ name. record { each = tt; session = tt; carried = refl }
