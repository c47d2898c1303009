-- The messages of a datagram.
use Rattle.std.specs.Prelude.{◌≡◌, ◌⊎◌, ℕ, List, []}
use Rattle.mold_packet.specs.declared.fault.PacketFault.{PacketFault}
use Rattle.mold_packet.specs.Content.{Content, Spells}
use Rattle.mold_packet.specs.Faults.{HasFault}

-- those of the packet that the bytes spell; a datagram that is no packet has none
abbrev pub HasMessages : List ℕ → List (List ℕ) → Type 0
HasMessages bytes messages =
    ((packet : Content) × (rest : List ℕ) × Spells bytes packet rest
    × (messages ≡ packet.messages))
    ⊎ ((fault : PacketFault) × HasFault bytes fault × (messages ≡ []))
