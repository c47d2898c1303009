use Rattle.std.proofs.Common.{rules, inl, inr}
use Rattle.std.proofs.lemmas.Result.{err_from_is_err_and}
use Rattle.command_words.proofs.listen_outputs.listen_outputs_of.Goals as goal

pub returns-in_err-names : goal.returns-in_err-names
returns-in_err-names c =
    let residual = c.from_residual-in_err-names in
    let p = err_from_is_err_and residual.result residual.ensures.1 in
    rw (p.1, p.2) (inr (
      c.in_ok-metrics.metrics,
      search rules,
      inr (
        c.in_ok-stats.stats,
        search rules,
        inr (c.in_ok-plain.plain, search rules, inl (search rules)),
      ),
    ))

pub returns-in_err-record : goal.returns-in_err-record
returns-in_err-record c =
    let residual = c.from_residual-in_err-record in
    let p = err_from_is_err_and residual.result residual.ensures.1 in
    rw (p.1, p.2) (inr (
      c.in_ok-metrics.metrics,
      search rules,
      inr (
        c.in_ok-stats.stats,
        search rules,
        inr (
          c.in_ok-plain.plain,
          search rules,
          inr (c.in_ok-names.names, search rules, inl (search rules)),
        ),
      ),
    ))
