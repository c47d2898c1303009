use Rattle.std.proofs.Common.{rules, inl}
use Rattle.std.proofs.lemmas.Result.{err_from_is_err_and}
use Rattle.command_words.proofs.command_line.types_task.Goals as goal

pub returns-in_err-types_of-clause-reads : goal.returns-in_err-types_of-clause-reads
returns-in_err-types_of-clause-reads c =
    let residual = c.from_residual in
    let p = err_from_is_err_and residual.result residual.ensures.1 in
    rw (p.1, p.2) (inl (search rules))
