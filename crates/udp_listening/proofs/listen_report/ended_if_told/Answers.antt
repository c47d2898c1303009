use Rattle.std.proofs.Common.{◌≡◌, subst, sym}
use Rattle.std.specs.Prelude.{Bool, IfOk}
use Rattle.udp_listening.specs.Reports.{told_ends}
use Rattle.udp_listening.proofs.listen_report.ended_if_told.Goals as goal

pub returns-then-is_told : goal.returns-then-is_told
returns-then-is_told g c =
    subst (λ (told : Bool). IfOk c.ended_in.result
    (λ ended. ended.items ≡ told_ends told c.args.lines.now)) (sym c.if-is_told.true)
    c.ended_in.ensures
