use Rattle.std.proofs.Common.{map, take}
use Rattle.command_words.specs.Addresses.{AreSpelled}
use Rattle.command_words.specs.SenderLists.{IsSenderText}
use Rattle.command_words.proofs.sender_list.spelled_senders.Given as goal

abbrev pub invariant-loop-text : goal.invariant-loop-text
invariant-loop-text l =
    AreSpelled IsSenderText (map (λ text. text.now) (take l.text-index l.texts)) l.senders.items
