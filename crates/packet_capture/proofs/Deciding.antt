-- Tests by cases.
use Rattle.std.proofs.Common.{◌≡◌, ℕ, ◌≤◌, List, length, refl, arith, inl, inr}
use Rattle.std.specs.Prelude.{◌⊎◌, ◌/◌, Option, Some, None, slice_index}
use Rattle.std.proofs.lemmas.Bool.{cases_lt, cases_eq}
use Rattle.packet_capture.specs.declared.fields.ByteOrder.TheVariants.{Big}
use Rattle.packet_capture.specs.declared.link.IpVersion.{IpVersion}
use Rattle.packet_capture.specs.Fields.{u16_in}
use Rattle.packet_capture.specs.Packets.{IsIp, IsUdp, version_number, least_len, header_len, packet_len}

pub option_cases : {X : Type 0} (o : Option X) → (o ≡ None) ⊎ ((x : X) × (o ≡ Some x))
option_cases None = inl refl
option_cases (Some x) = inr (x, refl)

pub udp_or_not : (segment : List ℕ) → IsUdp segment ⊎ (IsUdp segment → ⊥)
udp_or_not segment = elim (cases_lt (length segment) 8) [
  | inl short ↦ inr (λ h. let a = h.there in omega arith)
  | inr there ↦ elim (cases_lt (u16_in Big segment 4) 8) [
    | inl few ↦ inr (λ h. let a = h.least in omega arith)
    | inr least ↦ elim (cases_lt (length segment) (u16_in Big segment 4)) [
      | inl cut ↦ inr (λ h. let a = h.within in omega arith)
      | inr within ↦ inl (record { there = there; least = least; within = within })
    ]
  ]
]

pub ip_or_not : (version : IpVersion) (packet : List ℕ) → least_len version ≤ length packet
    → IsIp version packet ⊎ (IsIp version packet → ⊥)
ip_or_not version packet there = elim (cases_eq (slice_index packet 0 / 16)
    (version_number version)) [
      | inr other ↦ inr (λ h. other h.number)
      | inl number ↦ elim (cases_lt (header_len version packet) (least_len version)) [
        | inl few ↦ inr (λ h. let a = h.least in omega arith)
        | inr least ↦ elim (cases_lt (packet_len version packet) (header_len version packet)) [
          | inl cut ↦ inr (λ h. let a = h.within in omega arith)
          | inr within ↦ inl (record {
            there = there;
            number = number;
            least =
                least;
            within = within;
          })
        ]
      ]
    ]
