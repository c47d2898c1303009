use Rattle.std.proofs.Common.{◌≡◌, ◌++◌, ◌∙◌, ap, map, subst, List, Ok, ℕ}
use Rattle.std.specs.Prelude.{OnOk, string_bytes}
use Rattle.std.specs.declared.alloc.AllocError.{AllocError}
use Rattle.std.proofs.lemmas.Iterator.Consumers.{map_from_collect}
use Rattle.std.proofs.lemmas.Iterator.Splits.{YieldsList-from_lines}
use Rattle.command_words.proofs.word_sources.push_lines.Goals as goal

pub returns : goal.returns
returns c =
    let cut = ap (map (λ line. line.now)) c.as_slice.ensures.value
    ∙ map_from_collect {E = AllocError} (Ok c.in_ok-lines.lines) c.in_ok-lines.ensures.ran
    (YieldsList-from_lines c.args.text.now c.lines.ensures.rest) in
    subst (λ (lines : List (List ℕ)). OnOk c.push_words.result
    (map (λ word. string_bytes word) c.push_words.new.words.items
    ≡ map (λ word. string_bytes word) c.args.words.now.items ++ lines)) cut c.push_words.ensures
