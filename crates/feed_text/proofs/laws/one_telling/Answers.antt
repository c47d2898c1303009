use Rattle.feed_text.proofs.OneTelling.{Single, one_told, one_of_all, one_of, one_full, not_both}
use Rattle.feed_text.proofs.laws.one_telling.Goals as goal

pub returns-clause-emitted : goal.returns-clause-emitted
returns-clause-emitted c window gaps records old new last t u a b =
    let one : Single = record {
      packet = c.one_reading.ensures.packet;
      no_fault = c.one_reading.ensures.no_fault;
      fault = c.one_reading.ensures.fault;
      outcome = c.one_outcome.ensures;
    } in
    one_told window gaps records old new last t u one a b

pub returns-clause-capture : goal.returns-clause-capture
returns-clause-capture c config records t u a b =
    let one : Single = record {
      packet = c.one_reading.ensures.packet;
      no_fault = c.one_reading.ensures.no_fault;
      fault = c.one_reading.ensures.fault;
      outcome = c.one_outcome.ensures;
    } in
    one_of_all config records t u one a b

pub returns-clause-records : goal.returns-clause-records
returns-clause-records c config records t u a b =
    let one : Single = record {
      packet = c.one_reading.ensures.packet;
      no_fault = c.one_reading.ensures.no_fault;
      fault = c.one_reading.ensures.fault;
      outcome = c.one_outcome.ensures;
    } in
    one_of config records t u one a b

pub returns-clause-full : goal.returns-clause-full
returns-clause-full c config records t u a b =
    let one : Single = record {
      packet = c.one_reading.ensures.packet;
      no_fault = c.one_reading.ensures.no_fault;
      fault = c.one_reading.ensures.fault;
      outcome = c.one_outcome.ensures;
    } in
    one_full config records t u one a b

pub returns-clause-either : goal.returns-clause-either
returns-clause-either c config records t u a b =
    let one : Single = record {
      packet = c.one_reading.ensures.packet;
      no_fault = c.one_reading.ensures.no_fault;
      fault = c.one_reading.ensures.fault;
      outcome = c.one_outcome.ensures;
    } in
    not_both config records t u one a b
