use Rattle.std.proofs.Common.{◌≡◌, ◌∙◌, ap, inl, inr, lit<, map, subst, sym, List, ℕ, Err, Ok, Some}
use Rattle.std.specs.declared.alloc.AllocError.{AllocError}
use Rattle.std.proofs.lemmas.Iterator.Consumers.{map_from_collect}
use Rattle.std.proofs.lemmas.Iterator.Splits.{YieldsList-from_str_split}
use Rattle.command_words.specs.Addresses.{AreSpelled}
use Rattle.command_words.specs.SenderLists.{IsSenderText, ReadsSenders}
use Rattle.command_words.specs.Sessions.{names_in}
use Rattle.command_words.specs.Readings.{Finds, OrNoMemory}
use Rattle.command_words.specs.declared.refusal.Refusal.{Refusal}
use Rattle.command_words.specs.declared.refusal.Refusal.TheVariants.{BadSender}
use Rattle.command_words.proofs.sender_list.read_senders.Goals as goal

-- the refusal of the texts is that of the list that is cut into them
refusal_of_list : (texts : List (List ℕ)) (list : List ℕ) (refusal : Refusal)
    → texts ≡ names_in list
    → OrNoMemory (Finds (AreSpelled IsSenderText texts) BadSender) (Err refusal)
    → ReadsSenders (Some list) (Err refusal)
refusal_of_list texts list refusal cut (inl memory) = inl memory
refusal_of_list texts list refusal cut (inr (is, none)) = inr (
  is,
  λ senders all. none senders
      (subst (λ (ts : List (List ℕ)). AreSpelled IsSenderText ts senders) (sym cut) all),
)

pub returns-in-Ok : goal.returns-in-Ok
returns-in-Ok c =
    let cut = ap (map (λ text. text.now)) c.as_slice.ensures.value
    ∙ map_from_collect {E = AllocError} (Ok c.in_ok-texts.texts) c.in_ok-texts.ensures.ran
    (YieldsList-from_str_split 44 c.in-Some.list.now (lit< tt) c.split.ensures.text
    c.split.ensures.has_more c.split.ensures.pattern) in
    rw c.in-Some.is (subst (λ (ts : List (List ℕ)).
    AreSpelled IsSenderText ts c.in-Ok.senders.items) cut c.in-Ok.ensures)

pub returns : goal.returns
returns c =
    let cut = ap (map (λ text. text.now)) c.as_slice.ensures.value
    ∙ map_from_collect {E = AllocError} (Ok c.in_ok-texts.texts) c.in_ok-texts.ensures.ran
    (YieldsList-from_str_split 44 c.in-Some.list.now (lit< tt) c.split.ensures.text
    c.split.ensures.has_more c.split.ensures.pattern) in
    rw c.in-Some.is (refusal_of_list (map (λ text. text.now) c.as_slice.result.now)
    c.in-Some.list.now c.in-Err.refusal cut c.in-Err.ensures)
