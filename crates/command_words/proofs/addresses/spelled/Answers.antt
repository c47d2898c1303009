use Rattle.std.proofs.Common.{rules, inr, refl, ◌+◌, List, Option, map, take, subst}
use Rattle.command_words.specs.Addresses.{AreSpelled, SpellsLine}
use Rattle.std.specs.declared.net.socket_addr.SocketAddr.{SocketAddr}
use Rattle.command_words.proofs.Spelling.{AreSpelled-at, AreSpelled-more}
use Rattle.command_words.proofs.addresses.spelled.Goals as goal

pub returns-in_default-clause-reads : goal.returns-in_default-clause-reads
returns-in_default-clause-reads c = inr (
  refl,
  λ lines all.
      let at = AreSpelled-at SpellsLine c.args.texts.now c.loop-text.text-index _ lines
      c.loop-text-test.true all in
      c.in_default.ensures.1 at.0 at.1,
)

pub loop-text-preserved : goal.loop-text-preserved
loop-text-preserved c = (
  subst (λ (ls : List (Option SocketAddr)). AreSpelled SpellsLine
      (map (λ text. text.now) (take (c.loop-text.text-index + 1) c.args.texts.now)) ls)
      (search rules)
      (AreSpelled-more SpellsLine c.args.texts.now c.loop-text.text-index _
      c.loop-text.lines.items c.in-Ok.line c.loop-text-test.true c.loop-text.invariant.0
      c.in-Ok.ensures),
  search rules,
)
