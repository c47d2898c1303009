use Rattle.std.proofs.Common.{rules, inl, inr, refl}
use Rattle.std.proofs.lemmas.Result.{err_from_is_err_and}
use Rattle.command_words.proofs.reception.reception_of.Goals as goal

pub returns-in_err-request : goal.returns-in_err-request
returns-in_err-request c =
    let residual = c.from_residual-in_err-request in
    let p = err_from_is_err_and residual.result residual.ensures.1 in
    rw (p.1, p.2) (inr (
      c.in_ok-sessions.sessions.items,
      c.in_ok-sessions.ensures.reads,
      inr (c.in_ok-lines.lines.items, search rules, inl (search rules)),
    ))

pub returns-in_err-next : goal.returns-in_err-next
returns-in_err-next c =
    let residual = c.from_residual-in_err-next in
    let p = err_from_is_err_and residual.result residual.ensures.1 in
    rw (p.1, p.2) (inr (
      c.in_ok-sessions.sessions.items,
      c.in_ok-sessions.ensures.reads,
      inr (
        c.in_ok-lines.lines.items,
        search rules,
        inr (c.in_ok-request.request, search rules, inl (search rules)),
      ),
    ))

pub returns-in_err-symbols : goal.returns-in_err-symbols
returns-in_err-symbols c =
    let residual = c.from_residual-in_err-symbols in
    let p = err_from_is_err_and residual.result residual.ensures.1 in
    rw (p.1, p.2) (inr (
      c.in_ok-sessions.sessions.items,
      c.in_ok-sessions.ensures.reads,
      inr (
        c.in_ok-lines.lines.items,
        search rules,
        inr (
          c.in_ok-request.request,
          search rules,
          inr (c.in_ok-next.next.items, search rules, inl (search rules)),
        ),
      ),
    ))

pub returns : goal.returns
returns c = (
  c.in_ok-sessions.sessions.items,
  c.in_ok-sessions.ensures.reads,
  (
    c.in_ok-lines.lines.items,
    search rules,
    (
      c.in_ok-request.request,
      search rules,
      (
        c.in_ok-next.next.items,
        search rules,
        (
          c.in_ok-symbols.symbols.items,
          c.in_ok-symbols.ensures,
          (
            record {
              sessions_are = refl;
              symbols_are = refl;
              window_is = search rules;
              journal_is = search rules;
            },
            refl,
            refl,
            refl,
          ),
        ),
      ),
    ),
  ),
)
