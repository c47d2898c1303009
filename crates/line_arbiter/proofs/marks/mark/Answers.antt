use Rattle.line_arbiter.proofs.Marking.{mark_here, mark_others}
use Rattle.line_arbiter.proofs.marks.mark.Goals as goal

pub returns-clause-here : goal.returns-clause-here
returns-clause-here c =
    let read = rw c.word_of.ensures.value at c.index_mut.ensures.value in
    rw c.word_of.ensures.value (mark_here c.args.marks.now.items c.args.number
    c.index_mut.result.now c.requires read)

pub returns-clause-others : goal.returns-clause-others
returns-clause-others c =
    let read = rw c.word_of.ensures.value at c.index_mut.ensures.value in
    rw c.word_of.ensures.value (mark_others c.args.marks.now.items c.args.number
    c.index_mut.result.now c.requires read)
