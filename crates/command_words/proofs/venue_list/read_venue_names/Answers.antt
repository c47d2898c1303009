use Rattle.std.proofs.Common.{◌∙◌, ap, lit<, map, subst, ℕ, List, Ok}
use Rattle.std.specs.declared.alloc.AllocError.{AllocError}
use Rattle.std.proofs.lemmas.Iterator.Consumers.{map_from_collect}
use Rattle.std.proofs.lemmas.Iterator.Splits.{YieldsList-from_str_split}
use Rattle.command_words.specs.Readings.{Gives, OrNoMemory}
use Rattle.command_words.specs.VenueLists.{venue_names_by}
use Rattle.command_words.proofs.venue_list.read_venue_names.Goals as goal

pub returns : goal.returns
returns c =
    let cut = ap (map (λ name. name.now)) c.as_slice.ensures.value
    ∙ map_from_collect {E = AllocError} (Ok c.in_ok-names.names) c.in_ok-names.ensures.ran
    (YieldsList-from_str_split 44 c.args.list.now (lit< tt) c.split.ensures.text
    c.split.ensures.has_more c.split.ensures.pattern) in
    subst (λ (names : List (List ℕ)). OrNoMemory (Gives (venue_names_by c.args.venues names))
    c.venue_names_of.result) cut c.venue_names_of.ensures
