use Rattle.std.proofs.Common.{rules, ◌∙◌, ap, lit<, map, Ok}
use Rattle.std.specs.declared.alloc.AllocError.{AllocError}
use Rattle.std.proofs.lemmas.Iterator.Consumers.{map_from_collect}
use Rattle.std.proofs.lemmas.Iterator.Splits.{YieldsList-from_str_split}
use Rattle.command_words.proofs.Spelling.{NameLines-all, none_spelled, other_length}
use Rattle.command_words.proofs.addresses.named_lines.Goals as goal

pub returns-then-len-venues-clause-reads : goal.returns-then-len-venues-clause-reads
returns-then-len-venues-clause-reads c =
    let cut = map_from_collect {E = AllocError} (Ok c.in_ok-texts.texts) c.in_ok-texts.ensures.ran
    (YieldsList-from_str_split 44 c.args.list.now (lit< tt) c.split.ensures.text
    c.split.ensures.has_more c.split.ensures.pattern) in
    other_length c.in_ok-texts.texts.items c.args.list.now c.args.venues cut (search rules)

pub returns-in-Ok-clause-reads : goal.returns-in-Ok-clause-reads
returns-in-Ok-clause-reads c =
    let cut = ap (map (λ text. text.now)) c.as_slice.ensures.value
    ∙ map_from_collect {E = AllocError} (Ok c.in_ok-texts.texts) c.in_ok-texts.ensures.ran
    (YieldsList-from_str_split 44 c.args.list.now (lit< tt) c.split.ensures.text
    c.split.ensures.has_more c.split.ensures.pattern) in
    NameLines-all c.as_slice.result.now c.args.list.now c.args.venues c.in-Ok.lines.items cut
    (search rules) c.in-Ok.ensures.reads

pub returns-clause-reads : goal.returns-clause-reads
returns-clause-reads c =
    let cut = ap (map (λ text. text.now)) c.as_slice.ensures.value
    ∙ map_from_collect {E = AllocError} (Ok c.in_ok-texts.texts) c.in_ok-texts.ensures.ran
    (YieldsList-from_str_split 44 c.args.list.now (lit< tt) c.split.ensures.text
    c.split.ensures.has_more c.split.ensures.pattern) in
    none_spelled c.as_slice.result.now c.args.list.now c.args.venues c.in-Err.refusal
    cut c.in-Err.ensures.reads
