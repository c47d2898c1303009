use Rattle.std.proofs.Common.{◌≡◌, subst}
use Rattle.std.specs.Prelude.{Bool, IfOk}
use Rattle.udp_listening.specs.Reports.{told_ends}
use Rattle.udp_listening.proofs.listen_report.ended_of.Goals as goal

pub returns : goal.returns
returns g c =
    subst (λ (told : Bool). IfOk c.ended_if_told.result
    (λ ended. ended.items ≡ told_ends told c.args.lines.now))
    c.has_further_options.ensures c.ended_if_told.ensures
