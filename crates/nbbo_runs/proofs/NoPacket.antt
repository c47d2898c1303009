-- That no datagram is a packet.
use Rattle.std.proofs.Common.{◌≡◌, ℕ, zero, suc, [], ◌∷◌, refl, arith}
use Rattle.std.specs.Prelude.{codes}
use Rattle.text_out.specs.Devices.{Writing}
use Rattle.text_out.specs.StandardError.{SaysEach}
use Rattle.nbbo_runs.specs.Discovery.{no_packet_texts}

pub no_packet_some : {S : Type 0} (w : Writing S) (count : ℕ) (s : S) → (count ≡ 0 → ⊥)
    → SaysEach w (no_packet_texts count) s s
no_packet_some w zero s some = absurd (some refl)
no_packet_some w (suc n) s some = refl

pub no_packet_none : {S : Type 0} (w : Writing S) (count : ℕ) (s t : S) → count ≡ 0
    → SaysEach w (codes "nbbo: no datagram is a MoldUDP64 packet\n" ∷ []) s t
    → SaysEach w (no_packet_texts count) s t
no_packet_none w zero s t none said = said
no_packet_none w (suc n) s t none said = absurd (omega arith)
