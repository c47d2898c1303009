use Rattle.std.proofs.Common.{rules, ◌≡◌, ◌∙◌, ◌++◌, sym, true, false, [], ◌∷◌}
use Rattle.command_words.proofs.ItchNaming.{venue_passed, venue_taken}
use Rattle.command_words.proofs.itch_words.venues_named.Goals.{then-is_among+in_ok-push, else-is_among}
use Rattle.command_words.proofs.itch_words.venues_named.Goals as goal

pub loop-place-preserved : goal.loop-place-preserved
loop-place-preserved c = elim c.if-is_among.branch [
  | then-is_among+in_ok-push w ↦
      let pushed : c.if-is_among.venues.items
      ≡ c.loop-place.venues.items ++ c.loop-place.place ∷ [] =
      search rules in
      let yes : c.is_among.result ≡ true = search rules in
      pushed ∙ venue_taken c.args.names.now c.args.sessions.now c.loop-place.place _
      c.loop-place.venues.items (search rules) c.loop-place.invariant (sym c.is_among.ensures ∙ yes)
  | else-is_among w ↦
      let same : c.if-is_among.venues.items ≡ c.loop-place.venues.items = search rules in
      let no : c.is_among.result ≡ false = search rules in
      same ∙ venue_passed c.args.names.now c.args.sessions.now c.loop-place.place _
      c.loop-place.venues.items (search rules) c.loop-place.invariant (sym c.is_among.ensures ∙ no)
]
