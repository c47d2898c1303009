use Rattle.std.proofs.Common.{◌≡◌, map, subst, refl, true, []}
use Rattle.std.specs.Prelude.{string_bytes}
use Rattle.clap.specs.Faults.{fault_of, is_simple_and_free}
use Rattle.clap.specs.Kinds.{HasKind}
use Rattle.clap.specs.Simple.{App, HasMatchesOf}
use Rattle.clap.specs.Values.{kind_of}
use Rattle.command_words.proofs.Refusing.{IsRefusedByClap-by}
use Rattle.command_words.proofs.command_line.parsed.Goals as goal

pub returns-in-Ok-clause-taken : goal.returns-in-Ok-clause-taken
returns-in-Ok-clause-taken c =
    let words = map (λ word. string_bytes word) c.args.words.now in
    subst (λ (a : App). is_simple_and_free a ≡ true → fault_of a words ≡ [])
    c.in_ok-nbbo_command.ensures.app c.in-Ok.ensures.kinds refl

pub returns-in-Ok-clause-values : goal.returns-in-Ok-clause-values
returns-in-Ok-clause-values c =
    let words = map (λ word. string_bytes word) c.args.words.now in
    (subst (λ (a : App). HasMatchesOf a words c.in-Ok.matches) c.in_ok-nbbo_command.ensures.app
    c.in-Ok.ensures.matches refl).1

pub returns-in-Err-clause-refused : goal.returns-in-Err-clause-refused
returns-in-Err-clause-refused c =
    let words = map (λ word. string_bytes word) c.args.words.now in
    let fails = subst (λ (a : App). is_simple_and_free a ≡ true → HasKind (fault_of a words)
    c.in-Err.error) c.in_ok-nbbo_command.ensures.app c.in-Err.ensures.kinds refl in
    IsRefusedByClap-by words (kind_of c.in-Err.error) c.refusal_of.result c.refusal_of.ensures fails
