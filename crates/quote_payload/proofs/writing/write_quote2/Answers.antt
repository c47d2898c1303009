use Rattle.std.proofs.Common.{◌∙◌, ap, arith}
use Rattle.quote_payload.specs.Payload.{item_of}
use Rattle.quote_payload.proofs.ReadBack.{item_of-version2}
use Rattle.quote_payload.proofs.writing.write_quote2.Goals as goal

pub returns-clause-bytes : goal.returns-clause-bytes
returns-clause-bytes c = cc

pub returns-clause-item : goal.returns-clause-item
returns-clause-item c =
    ap item_of (returns-clause-bytes c)
    ∙ item_of-version2 c.args.quote.now c.message_of.ensures.symbol
    c.message_of.ensures.bid (omega arith) c.message_of.ensures.offer (omega arith)
