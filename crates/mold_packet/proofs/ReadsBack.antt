-- What was written reads back.
use Rattle.std.proofs.Common.{◌≡◌, ℕ, ◌≤◌, List, [], Result, Ok, Err, ap}
use Rattle.std.specs.Prelude.{IfOk, IfErr}
use Rattle.mold_packet.specs.declared.fault.PacketFault.{PacketFault}
use Rattle.mold_packet.specs.declared.request.Request.{Request}
use Rattle.mold_packet.specs.Content.{Content, Spells}
use Rattle.mold_packet.specs.Faults.{HasFault}
use Rattle.mold_packet.specs.Request.{SpellsRequest, HasRequestFault}
use Rattle.mold_packet.specs.laws.OneReading.{same_packet, no_fault}
use Rattle.mold_packet.proofs.OneRequest.{same_request, no_request_fault}

pub packet_back : (bytes : List ℕ) (written : Content) (answer : Result Content PacketFault)
    → Spells bytes written [] → IfOk answer (λ packet. (rest : List ℕ) × Spells bytes packet rest)
    → IfErr answer (HasFault bytes) → answer ≡ Ok written
packet_back bytes written (Ok packet) s ok err = ap (λ (x : Content). Ok x)
    (same_packet bytes packet written ok.0 [] ok.1 s)
packet_back bytes written (Err fault) s ok err = absurd (no_fault bytes written [] fault s err)

pub request_back : (bytes : List ℕ) (written : Request) (answer : Result Request PacketFault)
    → SpellsRequest bytes written → 1 ≤ written.number → IfOk answer (SpellsRequest bytes)
    → IfErr answer (HasRequestFault bytes) → answer ≡ Ok written
request_back bytes written (Ok request) s one ok err = ap (λ (x : Request). Ok x)
    (same_request bytes request written ok s)
request_back bytes written (Err fault) s one ok err =
    absurd (no_request_fault bytes written fault s one err)
