use Rattle.std.proofs.Common.{◌∙◌, ap, sym, subst, ℕ, List}
use Rattle.feed_types.specs.declared.item.Numbered.{Numbered}
use Rattle.item_packets.specs.Carried.{RunsFrom}
use Rattle.item_packets.specs.Packed.{ArePacked, bytes_of_each}
use Rattle.item_packets.specs.laws.Adding.{packed_alone}
use Rattle.itch_lines.proofs.itch_venue.ItchVenue.pack_ready.Goals as goal

pub returns-clause-packed : goal.returns-clause-packed
returns-clause-packed c = λ first one run.
    let made = bytes_of_each c.pack.new.out.items in
    let same = c.as_slice.ensures.value ∙ ap (λ v. v.items) c.note_last.ensures.ready in
    subst (λ (name : List ℕ). ArePacked name c.args.self.now.ready.items made)
    (c.session-session.ensures ∙ ap (λ n. n.lines.session) c.note_last.ensures.normaliser)
    (subst (λ (xs : List Numbered). ArePacked c.session-session.result xs made) same
    (packed_alone c.session-session.result c.as_slice.result.now c.args.made.now.items
    c.pack.new.out.items c.requires.none
    (c.in_ok-pack.ensures first one
    (subst (λ (xs : List Numbered). RunsFrom first xs) (sym same) run))))
