use Rattle.std.proofs.Common.{◌∙◌, List, Some, ap, rules, ℕ}
use Rattle.udp_lines.proofs.Seeing.{end_count, end_of_one}
use Rattle.udp_lines.proofs.line_ends.ended_session.Goals.{then-bytes-lt-HEADER_LEN-via-then-bytes-lt-HEADER_LEN, then-bytes-lt-HEADER_LEN-via-else-bytes-lt-HEADER_LEN+then-count_of-ne-END_COUNT}
use Rattle.udp_lines.proofs.line_ends.ended_session.Goals as goal

pub returns-then-eq-clause-only : goal.returns-then-eq-clause-only
returns-then-eq-clause-only c =
    λ session e.
    let p = c.in-Ok.packet in
    let spelled = c.in-Ok.ensures.spelled in
    let one = end_of_one c.args.bytes.now session p
    (λ q more other. c.one_reading.ensures.packet c.args.bytes.now p q spelled.0
    more spelled.1 other) e in
    ap (λ (name : List ℕ). Some name) (c.session.ensures.value ∙ one.1)

pub returns-else-eq-clause-only : goal.returns-else-eq-clause-only
returns-else-eq-clause-only c =
    λ session e.
    let p = c.in-Ok.packet in
    let spelled = c.in-Ok.ensures.spelled in
    let one = end_of_one c.args.bytes.now session p
    (λ q more other. c.one_reading.ensures.packet c.args.bytes.now p q spelled.0
    more spelled.1 other) e in
    let is = one.0 in
    search (rules, is)

pub returns-then-bytes-lt-HEADER_LEN-clause-only : goal.returns-then-bytes-lt-HEADER_LEN-clause-only
returns-then-bytes-lt-HEADER_LEN-clause-only c =
    λ session e.
    let is = end_count session c.args.bytes.now e in
    let long = is.0 in
    let count = is.1 in
    elim c.then-bytes-lt-HEADER_LEN.branch [
      | then-bytes-lt-HEADER_LEN-via-then-bytes-lt-HEADER_LEN w ↦
          absurd (search (rules, w.if-bytes-lt-HEADER_LEN, long))
      | then-bytes-lt-HEADER_LEN-via-else-bytes-lt-HEADER_LEN+then-count_of-ne-END_COUNT w ↦
          absurd (search (rules, w.if-count_of-ne-END_COUNT, w.count_of.ensures, count))
    ]
