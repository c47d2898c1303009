-- How the logic stores a lane: for the Model of a lane's code alone, no public clause cites it.
use Rattle.std.specs.Prelude.{List, refl}
use Rattle.std.specs.Coded.{Coded, code_by, coded×, coded_list}
use Rattle.feed_core.specs.Worlds.{Lane}

abbrev pub lane_code : {T : Type 0} → Coded T → Coded (Lane T)
lane_code {T} code =
    code_by (List T × List T) (coded× (coded_list code) (coded_list code))
    (λ lane. (lane.sent, lane.received)) (λ p. record { sent = p.0; received = p.1 }) (λ _. refl)
