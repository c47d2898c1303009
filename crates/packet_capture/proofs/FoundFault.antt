-- A packet's fault is its frame's.
use Rattle.std.proofs.Common.{◌≡◌, ℕ, List, subst, inr}
use Rattle.std.specs.Prelude.{Result, Ok, Err, IfErr}
use Rattle.packet_capture.specs.declared.link.LinkType.{LinkType}
use Rattle.packet_capture.specs.declared.link.IpVersion.{IpVersion}
use Rattle.packet_capture.specs.declared.fault.FrameFault.{FrameFault}
use Rattle.packet_capture.specs.Links.{number_of, packet_in}
use Rattle.packet_capture.specs.Datagrams.{HasPacket}
use Rattle.packet_capture.specs.FrameFaults.{HasPacketFault, HasFrameFault}

pub frame_fault : {T : Type 0} (number : ℕ) (frame packet : List ℕ) (link : LinkType)
    (version : IpVersion) → number ≡ number_of link → HasPacket link frame version
    → packet ≡ packet_in link frame → (r : Result T FrameFault)
    → IfErr r (HasPacketFault version packet) → IfErr r (HasFrameFault number frame)
frame_fault number frame packet link version is has at (Ok d) h = h
frame_fault number frame packet link version is has at (Err f) h =
    let P : List ℕ → Type 0 = λ x. HasPacketFault version x f in
    inr (link, is, inr (version, has, subst P at h))
