use Rattle.std.proofs.Common.{rules, ◌≡◌, inl, inr, length, refl, subst, ℕ, List, Ok, Err}
use Rattle.std.proofs.lemmas.Result.{err_from_is_err_and}
use Rattle.clap.specs.Matches.{found_of}
use Rattle.clap.specs.Walk.{rows_of}
use Rattle.command_words.specs.ItchRequests.{ReadsItch}
use Rattle.command_words.specs.ListenRequests.{ReadsListenOutputs}
use Rattle.command_words.proofs.listen_words.listening_of.Goals as goal

pub returns-in_err-reception : goal.returns-in_err-reception
returns-in_err-reception c =
    let residual = c.from_residual in
    let p = err_from_is_err_and residual.result residual.ensures.1 in
    rw (p.1, p.2) (inl (search rules))

pub returns-in_err-itch : goal.returns-in_err-itch
returns-in_err-itch c =
    let residual = c.from_residual-in_err-itch in
    let p = err_from_is_err_and residual.result residual.ensures.1 in
    let rows = rows_of (found_of c.args.listen.now) in
    let itch = subst (λ (s : List (List ℕ)). ReadsItch rows s (Err c.in_err-itch.field-0.0))
    c.as_slice.ensures.value c.in_err-itch.ensures in
    rw (p.1, p.2) (inr (
      c.in_ok-reception.reception,
      c.in_ok-reception.ensures,
      inl itch,
    ))

pub returns-in_err-rules : goal.returns-in_err-rules
returns-in_err-rules c =
    let residual = c.from_residual-in_err-rules in
    let p = err_from_is_err_and residual.result residual.ensures.1 in
    let rows = rows_of (found_of c.args.listen.now) in
    let itch = subst (λ (s : List (List ℕ)). ReadsItch rows s (Ok c.in_ok-itch.itch))
    c.as_slice.ensures.value c.in_ok-itch.ensures in
    rw (p.1, p.2) (inr (
      c.in_ok-reception.reception,
      c.in_ok-reception.ensures,
      inr (c.in_ok-itch.itch, itch, inl (search rules)),
    ))

pub returns-in_err-outputs : goal.returns-in_err-outputs
returns-in_err-outputs c =
    let residual = c.from_residual-in_err-outputs in
    let p = err_from_is_err_and residual.result residual.ensures.1 in
    let rows = rows_of (found_of c.args.listen.now) in
    let itch = subst (λ (s : List (List ℕ)). ReadsItch rows s (Ok c.in_ok-itch.itch))
    c.as_slice.ensures.value c.in_ok-itch.ensures in
    let few : c.len-venues.result ≡ length c.in_ok-reception.reception.feed.sessions.items =
    search rules in
    let outputs = subst (λ (n : ℕ). ReadsListenOutputs rows n (Err c.in_err-outputs.field-0.0))
    few c.in_err-outputs.ensures in
    rw (p.1, p.2) (inr (
      c.in_ok-reception.reception,
      c.in_ok-reception.ensures,
      inr (
        c.in_ok-itch.itch,
        itch,
        inr (c.in_ok-rules.rules, c.in_ok-rules.ensures, inl outputs),
      ),
    ))

pub returns : goal.returns
returns c =
    let rows = rows_of (found_of c.args.listen.now) in
    let itch = subst (λ (s : List (List ℕ)). ReadsItch rows s (Ok c.in_ok-itch.itch))
    c.as_slice.ensures.value c.in_ok-itch.ensures in
    let few : c.len-venues.result ≡ length c.in_ok-reception.reception.feed.sessions.items =
    search rules in
    let outputs = subst (λ (n : ℕ). ReadsListenOutputs rows n (Ok c.in_ok-outputs.outputs))
    few c.in_ok-outputs.ensures in (
      c.in_ok-reception.reception,
      c.in_ok-reception.ensures,
      (
        c.in_ok-itch.itch,
        itch,
        (
          c.in_ok-rules.rules,
          c.in_ok-rules.ensures,
          (
            c.in_ok-outputs.outputs,
            outputs,
            (
              record {
                request_after_is = search rules;
                most_ahead_is = search rules;
                join_is = search rules;
                skip_after_is = search rules;
                silent_after_is = search rules;
                datagrams_are = search rules;
                buffer_is = search rules;
                seconds_are = search rules;
                until_is = search rules;
                complete_is = search rules;
                follow_is = search rules;
              },
              record {
                feed_is = refl;
                next_are = refl;
                itch_is = refl;
                lines_are = refl;
                request_is = refl;
                end_is = refl;
                kept_is = refl;
                senders_are = refl;
                metrics_are = refl;
                stats_are = refl;
                format_is = refl;
                record_is = refl;
                venues_are = refl;
              },
            ),
          ),
        ),
      ),
    )
