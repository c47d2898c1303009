use Rattle.std.proofs.Common.{◌∙◌, List, [], ◌∷◌, ◌++◌, ℕ, ap, append_assoc, codes, decimal}
use Rattle.std.specs.List.{concat}
use Rattle.std.proofs.lemmas.Result.{on_ok_weaker}
use Rattle.run_metrics.specs.Replies.{status_text}
use Rattle.run_metrics.proofs.response.put_response_head.Goals as goal

pub returns : goal.returns
returns c =
    let old = c.args.text.now.items in
    let first : List ℕ → List ℕ = λ status. concat (codes "HTTP/1.1 " ∷ status
    ∷ codes "Content-Type: text/plain; version=0.0.4; charset=utf-8\r\n" ∷ []) in
    let rest = concat (codes "Content-Length: " ∷ decimal c.args.length
    ∷ codes "\r\nConnection: close\r\n\r\n" ∷ []) in
    on_ok_weaker c.put_parts-2.result
    (λ more. more
    ∙ ap (λ (text : List ℕ). text ++ rest) (c.in_ok-put_parts.ensures.ok
    ∙ ap (λ (status : List ℕ). old ++ first status) c.status.ensures)
    ∙ append_assoc old (first (status_text c.args.reply)) rest)
    c.put_parts-2.ensures.ok
