use Rattle.std.proofs.Common.{sym, ◌∙◌}
use Rattle.std.proofs.lemmas.Bool.{and_from, eq-eqb}
use Rattle.packet_capture.specs.Options.{option_field_of}
use Rattle.packet_capture.proofs.OptionNumbers.{number_none, number_cut, number_found}
use Rattle.packet_capture.proofs.drop_report.option_number.Goals as goal

pub returns-in-End : goal.returns-in-End
returns-in-End c = number_none c.args.order c.args.code c.args.bytes.now c.options.rest.now
    c.options.invariant c.in-End.ensures

pub returns-in-Cut : goal.returns-in-Cut
returns-in-Cut c = number_cut c.args.order c.args.code c.args.bytes.now c.options.rest.now
    c.options.invariant c.in-Cut.ensures.2

pub returns-then-value-eq8 : goal.returns-then-value-eq8
returns-then-value-eq8 c =
    c.read_u64.ensures ∙ sym (number_found c.args.order c.args.code c.args.bytes.now
    c.options.rest.now (option_field_of c.in-Found.found c.in-Found.value.now)
    c.options.invariant c.in-Found.ensures.0
    (and_from _ _ (eq-eqb _ _ c.if-found-code.true) (eq-eqb _ _ c.if-value-eq8.true)))
