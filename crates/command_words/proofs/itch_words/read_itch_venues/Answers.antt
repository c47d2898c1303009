use Rattle.std.proofs.Common.{rules, ◌≡◌, ◌∙◌, ap, lit<, map, subst, ℕ, List, Option, Some, Ok}
use Rattle.std.specs.Prelude.{option_map}
use Rattle.std.specs.Borrow.{Bor}
use Rattle.std.specs.declared.alloc.AllocError.{AllocError}
use Rattle.std.proofs.lemmas.Iterator.Consumers.{map_from_collect}
use Rattle.std.proofs.lemmas.Iterator.Splits.{YieldsList-from_str_split}
use Rattle.command_words.specs.ItchRequests.{ReadsItchVenues, itch_by}
use Rattle.command_words.specs.Readings.{Gives, OrNoMemory, mapped}
use Rattle.command_words.proofs.itch_words.read_itch_venues.Goals as goal

pub returns : goal.returns
returns c =
    let cut = ap (map (λ name. name.now)) c.as_slice.ensures.value
    ∙ map_from_collect {E = AllocError} (Ok c.in_ok-names.names) c.in_ok-names.ensures.ran
    (YieldsList-from_str_split 44 c.in-Some.list.now (lit< tt) c.split.ensures.text
    c.split.ensures.has_more c.split.ensures.pattern) in
    let is : Some c.in-Some.list ≡ c.args.list = search rules in
    let read = subst (λ (names : List (List ℕ)). OrNoMemory (Gives (itch_by names
    c.args.sessions.now))
    (mapped (λ venues. venues.items) c.venues_by.result)) cut c.venues_by.ensures in
    subst (λ (given : Option (Bor (List ℕ))).
    ReadsItchVenues (option_map (λ list. list.now) given) c.args.sessions.now
    (mapped (λ venues. venues.items) c.venues_by.result)) is read
