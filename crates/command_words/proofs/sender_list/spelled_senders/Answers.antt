use Rattle.std.proofs.Common.{rules, inr, refl, ◌+◌, List, map, take, subst}
use Rattle.run_settings.specs.declared.sender.AllowedSender.{AllowedSender}
use Rattle.command_words.specs.Addresses.{AreSpelled}
use Rattle.command_words.specs.SenderLists.{IsSenderText}
use Rattle.command_words.proofs.Spelling.{AreSpelled-at, AreSpelled-more}
use Rattle.command_words.proofs.sender_list.spelled_senders.Goals as goal

pub returns-in_default : goal.returns-in_default
returns-in_default c = inr (
  refl,
  λ senders all.
      let at = AreSpelled-at IsSenderText c.args.texts.now c.loop-text.text-index _ senders
      c.loop-text-test.true all in
      c.in_default.ensures at.0 at.1,
)

pub loop-text-preserved : goal.loop-text-preserved
loop-text-preserved c =
    subst (λ (senders : List AllowedSender). AreSpelled IsSenderText
    (map (λ text. text.now) (take (c.loop-text.text-index + 1) c.args.texts.now)) senders)
    (search rules)
    (AreSpelled-more IsSenderText c.args.texts.now c.loop-text.text-index _
    c.loop-text.senders.items c.in-Some.sender c.loop-text-test.true c.loop-text.invariant
    c.in-Some.ensures)
