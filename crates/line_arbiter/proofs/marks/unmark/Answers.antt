use Rattle.line_arbiter.proofs.Marking.{unmark_here, unmark_others}
use Rattle.line_arbiter.proofs.marks.unmark.Goals as goal

pub returns-clause-here : goal.returns-clause-here
returns-clause-here c =
    let read = rw c.word_of.ensures.value at c.index_mut.ensures.value in
    rw c.word_of.ensures.value (unmark_here c.args.marks.now.items c.args.number
    c.index_mut.result.now c.requires read)

pub returns-clause-others : goal.returns-clause-others
returns-clause-others c =
    let read = rw c.word_of.ensures.value at c.index_mut.ensures.value in
    rw c.word_of.ensures.value (unmark_others c.args.marks.now.items c.args.number
    c.index_mut.result.now c.requires read)
