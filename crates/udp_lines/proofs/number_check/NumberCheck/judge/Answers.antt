use Rattle.std.proofs.Common.{rules}
use Rattle.udp_lines.proofs.Judging.{judged_of}
use Rattle.udp_lines.proofs.number_check.NumberCheck.judge.Goals as goal

pub returns-clause-judged : goal.returns-clause-judged
returns-clause-judged c =
    judged_of c.in-Some.most c.args.self.now c.args.bytes.now c.args.ended c.args.seen
    c.in-Some-header_of.header c.eq-2.result c.judge_header.result c.judge_header.new.self
    c.in-Some.is c.in-Some-header_of.ensures.only (search (rules, c.eq-2.ensures))
    c.judge_header.ensures.verdict
    c.judge_header.ensures.rest

pub returns-clause-far : goal.returns-clause-far
returns-clause-far c =
    λ is.
    let past =
    c.judge_header.ensures.past (search (rules, is)) (search (rules, is)) in (
      c.judge_header.ensures.unmoved (search (rules, is)),
      record {
        most = c.in-Some.most;
        asked = c.in-Some.is;
        header = c.in-Some-header_of.header;
        has = c.in-Some-header_of.ensures.has;
        of = search rules;
        past = past;
      },
    )

pub returns-clause-first : goal.returns-clause-first
returns-clause-first c =
    λ is.
    let past =
    c.judge_header.ensures.past (search (rules, is)) (search (rules, is)) in (
      c.judge_header.ensures.unmoved (search (rules, is)),
      record {
        most = c.in-Some.most;
        asked = c.in-Some.is;
        header = c.in-Some-header_of.header;
        has = c.in-Some-header_of.ensures.has;
        of = search rules;
        past = past;
      },
    )

pub returns-clause-second : goal.returns-clause-second
returns-clause-second c =
    λ is.
    let past =
    c.judge_header.ensures.past (search (rules, is)) (search (rules, is)) in (
      c.judge_header.ensures.unmoved (search (rules, is)),
      record {
        most = c.in-Some.most;
        asked = c.in-Some.is;
        header = c.in-Some-header_of.header;
        has = c.in-Some-header_of.ensures.has;
        of = search rules;
        past = past;
      },
    )
