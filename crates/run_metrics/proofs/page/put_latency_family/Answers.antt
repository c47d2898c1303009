use Rattle.std.proofs.Common.{◌∙◌, ◌++◌, List, ℕ, ap, append_assoc, codes}
use Rattle.std.proofs.lemmas.Result.{on_ok_weaker}
use Rattle.run_metrics.specs.Metrics.{head_text, run_row, run_time_row}
use Rattle.run_metrics.proofs.page.put_latency_family.Goals as goal

pub returns : goal.returns
returns c =
    let old = c.args.text.now.items in
    let head =
    head_text (codes "nbbo_row_latency_seconds")
    (codes "Time from the datagrams of printed rows to their printing.") (codes "summary") in
    let sum = run_time_row (codes "nbbo_row_latency_seconds_sum") c.args.figures.now.latency in
    let count = run_row (codes "nbbo_row_latency_seconds_count") c.args.figures.now.timed in
    on_ok_weaker c.put_run_row.result
    (λ more. more
    ∙ ap (λ (text : List ℕ). text ++ count)
    (c.in_ok-put_run_time_row.ensures
    ∙ ap (λ (text : List ℕ). text ++ sum) c.in_ok-put_head.ensures)
    ∙ append_assoc (old ++ head) sum count
    ∙ append_assoc old head (sum ++ count))
    c.put_run_row.ensures
