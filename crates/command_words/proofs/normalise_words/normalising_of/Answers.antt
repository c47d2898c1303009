use Rattle.std.proofs.Common.{rules, inl, inr, map, refl, subst, ℕ, List, Ok, Err}
use Rattle.std.proofs.lemmas.Result.{err_from_is_err_and}
use Rattle.clap.specs.Matches.{found_of}
use Rattle.clap.specs.Walk.{rows_of}
use Rattle.command_words.specs.OptionValues.{snapshot_texts_in}
use Rattle.command_words.specs.SnapshotFiles.{ReadsSnapshots, named_by}
use Rattle.command_words.proofs.normalise_words.normalising_of.Goals as goal

pub returns-in_err-input : goal.returns-in_err-input
returns-in_err-input c =
    let residual = c.from_residual-in_err-input in
    let p = err_from_is_err_and residual.result residual.ensures.1 in
    rw (p.1, p.2) (inr (c.in_ok-feed.feed, search rules, inl (search rules)))

pub returns-in_err-skips : goal.returns-in_err-skips
returns-in_err-skips c =
    let residual = c.from_residual-in_err-skips in
    let p = err_from_is_err_and residual.result residual.ensures.1 in
    rw (p.1, p.2) (inr (
      c.in_ok-feed.feed,
      search rules,
      inr (c.in_ok-input.input, search rules, inl (search rules)),
    ))

pub returns-in_err-end_number : goal.returns-in_err-end_number
returns-in_err-end_number c =
    let residual = c.from_residual-in_err-end_number in
    let p = err_from_is_err_and residual.result residual.ensures.1 in
    rw (p.1, p.2) (inr (
      c.in_ok-feed.feed,
      search rules,
      inr (
        c.in_ok-input.input,
        search rules,
        inr (c.in_ok-skips.skips, search rules, inl (search rules)),
      ),
    ))

pub returns-in_err-next_sessions : goal.returns-in_err-next_sessions
returns-in_err-next_sessions c =
    let residual = c.from_residual-in_err-next_sessions in
    let p = err_from_is_err_and residual.result residual.ensures.1 in
    rw (p.1, p.2) (inr (
      c.in_ok-feed.feed,
      search rules,
      inr (
        c.in_ok-input.input,
        search rules,
        inr (
          c.in_ok-skips.skips,
          search rules,
          inr (c.in_ok-end_number.end_number, search rules, inl (search rules)),
        ),
      ),
    ))

pub returns-in_err-snapshots : goal.returns-in_err-snapshots
returns-in_err-snapshots c =
    let residual = c.from_residual-in_err-snapshots in
    let p = err_from_is_err_and residual.result residual.ensures.1 in
    let texts = snapshot_texts_in (rows_of (found_of c.args.options.now)) in
    let snapshots = subst
    (λ (s : List (List ℕ)). ReadsSnapshots texts s (Err c.in_err-snapshots.field-0.0))
    c.as_slice.ensures.value c.in_err-snapshots.ensures.reads in
    rw (p.1, p.2) (inr (
      c.in_ok-feed.feed,
      search rules,
      inr (
        c.in_ok-input.input,
        search rules,
        inr (
          c.in_ok-skips.skips,
          search rules,
          inr (
            c.in_ok-end_number.end_number,
            search rules,
            inr (c.in_ok-next_sessions.next_sessions.items, search rules, inl snapshots),
          ),
        ),
      ),
    ))

pub returns : goal.returns
returns c =
    let texts = snapshot_texts_in (rows_of (found_of c.args.options.now)) in
    let files = map named_by c.in_ok-snapshots.snapshots.items in
    let snapshots = subst (λ (s : List (List ℕ)). ReadsSnapshots texts s (Ok files))
    c.as_slice.ensures.value c.in_ok-snapshots.ensures.reads in (
      c.in_ok-feed.feed,
      search rules,
      (
        c.in_ok-input.input,
        search rules,
        (
          c.in_ok-skips.skips,
          search rules,
          (
            c.in_ok-end_number.end_number,
            search rules,
            (
              c.in_ok-next_sessions.next_sessions.items,
              search rules,
              (
                files,
                snapshots,
                record {
                  feed_is = refl;
                  input_is = refl;
                  skips_are = refl;
                  end_number_is = refl;
                  next_are = refl;
                  orders_are = search rules;
                  snapshots_are = refl;
                },
              ),
            ),
          ),
        ),
      ),
    )
