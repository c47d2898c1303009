use Rattle.std.proofs.Common.{ℕ, List, ap, arith, length}
use Rattle.nbbo_runs.proofs.normalisation.run_over.Goals as goal

pub normalise-run-requires-clause-few : goal.normalise-run-requires-clause-few
normalise-run-requires-clause-few g c =
    let of = ap (λ (xs : List (List ℕ)). length xs) c.feed_of-feed.ensures.is.sessions in
    let many = c.args.settings.now.feed.sessions.ok.0 in
    omega (arith, of, many, c.args.settings.now.feed.few_venues)

pub normalise-run-requires-clause-of_venues : goal.normalise-run-requires-clause-of_venues
normalise-run-requires-clause-of_venues g c =
    let of = ap (λ (xs : List (List ℕ)). length xs) c.feed_of-feed.ensures.is.sessions in
    let many = c.args.settings.now.feed.sessions.ok.0 in
    omega (arith, of, many, c.requires)

pub returns : goal.returns
returns g c = record {
  feed = c.feed_of-feed.result;
  is = c.feed_of-feed.ensures.is;
  form_is = c.feed_of-feed.ensures.form;
  finish = c.normalise-run.new.format;
  gaps = c.normalise-run.result.given_up.items;
  reports = c.normalise-run.result.reports.items;
  outcome = c.normalise-run.result.outcome;
  answers = c.normalise-run.ensures;
  says = c.write_run.ensures;
  ends = c.status_of.ensures;
}
