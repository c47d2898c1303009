use Rattle.std.proofs.Common.{rules, inl, inr}
use Rattle.std.proofs.lemmas.Result.{err_from_is_err_and}
use Rattle.command_words.proofs.run_words.run_of.Goals as goal

pub returns-in_err-span : goal.returns-in_err-span
returns-in_err-span c =
    let residual = c.from_residual-in_err-span in
    let p = err_from_is_err_and residual.result residual.ensures.1 in
    rw (p.1, p.2) (inr (
      c.in_ok-output.output,
      search rules,
      inr (c.in_ok-input.input, search rules, inl (search rules)),
    ))

pub returns-in_err-skips : goal.returns-in_err-skips
returns-in_err-skips c =
    let residual = c.from_residual-in_err-skips in
    let p = err_from_is_err_and residual.result residual.ensures.1 in
    rw (p.1, p.2) (inr (
      c.in_ok-output.output,
      search rules,
      inr (
        c.in_ok-input.input,
        search rules,
        inr (c.in_ok-span.span, c.in_ok-span.ensures, inl (search rules)),
      ),
    ))

pub returns-in_err-next_sessions : goal.returns-in_err-next_sessions
returns-in_err-next_sessions c =
    let residual = c.from_residual-in_err-next_sessions in
    let p = err_from_is_err_and residual.result residual.ensures.1 in
    rw (p.1, p.2) (inr (
      c.in_ok-output.output,
      search rules,
      inr (
        c.in_ok-input.input,
        search rules,
        inr (
          c.in_ok-span.span,
          c.in_ok-span.ensures,
          inr (c.in_ok-skips.skips, c.in_ok-skips.ensures, inl (search rules)),
        ),
      ),
    ))
