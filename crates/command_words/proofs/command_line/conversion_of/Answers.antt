use Rattle.std.proofs.Common.{Err, List, subst, ℕ}
use Rattle.std.proofs.lemmas.Result.{err_from_is_err_and}
use Rattle.command_words.specs.CapturedLines.{ReadsAllLines}
use Rattle.command_words.proofs.command_line.conversion_of.Goals as goal

pub returns-in_err-read_all_lines-clause-reads : goal.returns-in_err-read_all_lines-clause-reads
returns-in_err-read_all_lines-clause-reads c =
    let residual = c.from_residual in
    let p = err_from_is_err_and residual.result residual.ensures.1 in
    rw (p.1, p.2) (subst
    (λ (t : List ℕ). ReadsAllLines t (Err c.in_err-read_all_lines.field-0.0))
    c.text_of.ensures c.in_err-read_all_lines.ensures.reads)
