use Rattle.std.proofs.Common.{rules, ◌≡◌, codes, length, inl, inr, refl, subst, ℕ, Ok, Err}
use Rattle.std.proofs.lemmas.Result.{err_from_is_err_and}
use Rattle.clap.specs.Matches.{found_of}
use Rattle.clap.specs.Walk.{first_of, rows_of}
use Rattle.command_words.specs.CapturedLines.{ReadsInput}
use Rattle.command_words.specs.TypeRequests.{ReadsRowFormat}
use Rattle.command_words.proofs.type_words.types_alone.Goals as goal

pub returns-in_err-format : goal.returns-in_err-format
returns-in_err-format c =
    let residual = c.from_residual-in_err-format in
    let p = err_from_is_err_and residual.result residual.ensures.1 in
    let rows = rows_of (found_of c.args.stats.now) in
    let few : c.len-venues.result ≡ length c.in_ok-feed.feed.sessions.items = search rules in
    let format = subst (λ (n : ℕ). ReadsRowFormat rows n (Err c.in_err-format.field-0.0))
    few c.in_err-format.ensures in
    rw (p.1, p.2) (inr (c.in_ok-feed.feed, search rules, inl format))

pub returns-in_err-input : goal.returns-in_err-input
returns-in_err-input c =
    let residual = c.from_residual-in_err-input in
    let p = err_from_is_err_and residual.result residual.ensures.1 in
    let rows = rows_of (found_of c.args.stats.now) in
    let few : c.len-venues.result ≡ length c.in_ok-feed.feed.sessions.items = search rules in
    let format = subst (λ (n : ℕ). ReadsRowFormat rows n (Ok c.in_ok-format.format))
    few c.in_ok-format.ensures in
    let input = subst
    (λ (n : ℕ). ReadsInput (first_of (codes "lines") rows) n (Err c.in_err-input.field-0.0))
    few c.in_err-input.ensures.reads in
    rw (p.1, p.2) (inr (
      c.in_ok-feed.feed,
      search rules,
      inr (c.in_ok-format.format, format, inl input),
    ))

pub returns-in_err-span : goal.returns-in_err-span
returns-in_err-span c =
    let residual = c.from_residual-in_err-span in
    let p = err_from_is_err_and residual.result residual.ensures.1 in
    let rows = rows_of (found_of c.args.stats.now) in
    let few : c.len-venues.result ≡ length c.in_ok-feed.feed.sessions.items = search rules in
    let format = subst (λ (n : ℕ). ReadsRowFormat rows n (Ok c.in_ok-format.format))
    few c.in_ok-format.ensures in
    let input = subst
    (λ (n : ℕ). ReadsInput (first_of (codes "lines") rows) n (Ok c.in_ok-input.input))
    few c.in_ok-input.ensures.reads in
    rw (p.1, p.2) (inr (
      c.in_ok-feed.feed,
      search rules,
      inr (
        c.in_ok-format.format,
        format,
        inr (c.in_ok-input.input, input, inl (search rules)),
      ),
    ))

pub returns : goal.returns
returns c =
    let rows = rows_of (found_of c.args.stats.now) in
    let few : c.len-venues.result ≡ length c.in_ok-feed.feed.sessions.items = search rules in
    let format = subst (λ (n : ℕ). ReadsRowFormat rows n (Ok c.in_ok-format.format))
    few c.in_ok-format.ensures in
    let input = subst
    (λ (n : ℕ). ReadsInput (first_of (codes "lines") rows) n (Ok c.in_ok-input.input))
    few c.in_ok-input.ensures.reads in (
      c.in_ok-feed.feed,
      search rules,
      (
        c.in_ok-format.format,
        format,
        (
          c.in_ok-input.input,
          input,
          (
            c.in_ok-span.span,
            search rules,
            record {
              venues_are = few;
              format_is = refl;
              input_is = refl;
              span_is = refl;
            },
          ),
        ),
      ),
    )
