-- Every frame carries a datagram or has a fault.
use Rattle.std.proofs.Common.{◌≡◌, ℕ, List, length, refl, inl, inr}
use Rattle.std.specs.Prelude.{◌⊎◌}
use Rattle.std.proofs.lemmas.Bool.{cases_lt, cases_eq}
use Rattle.packet_capture.specs.declared.link.LinkType.{LinkType}
use Rattle.packet_capture.specs.declared.link.LinkType.TheVariants.{Null, Ethernet, Raw, Loop, LinuxCooked, Ipv4, Ipv6, LinuxCooked2}
use Rattle.packet_capture.specs.declared.link.IpVersion.{IpVersion}
use Rattle.packet_capture.specs.declared.fault.FrameFault.{FrameFault}
use Rattle.packet_capture.specs.declared.fault.FrameFault.TheVariants.{UnknownLink, NotIp, ShortFrame, BadIpHeader, BadUdpLength}
use Rattle.packet_capture.specs.Links.{number_of, link_len, version_in, packet_in}
use Rattle.packet_capture.specs.Packets.{least_len, packet_len, obstacle_in, segment_in}
use Rattle.packet_capture.specs.Datagrams.{DatagramContent, HasPacket, HasUdp, CarriesDatagram, datagram_in}
use Rattle.packet_capture.specs.FrameFaults.{HasLinkFault, HasPacketFault, HasFrameFault}
use Rattle.packet_capture.proofs.Deciding.{option_cases, udp_or_not, ip_or_not}

link_or_not : (n : ℕ) → ((link : LinkType) × (n ≡ number_of link))
    ⊎ ((link : LinkType) → n ≡ number_of link → ⊥)
link_or_not n = elim (cases_eq n 0) [
  | inl e ↦ inl (Null, e)
  | inr a ↦
      elim (cases_eq n 1) [
        | inl e ↦ inl (Ethernet, e)
        | inr b ↦
            elim (cases_eq n 101) [
              | inl e ↦ inl (Raw, e)
              | inr c ↦
                  elim (cases_eq n 108) [
                    | inl e ↦ inl (Loop, e)
                    | inr d ↦
                        elim (cases_eq n 113) [
                          | inl e ↦ inl (LinuxCooked, e)
                          | inr f ↦
                              elim (cases_eq n 228) [
                                | inl e ↦ inl (Ipv4, e)
                                | inr g ↦
                                    elim (cases_eq n 229) [
                                      | inl e ↦ inl (Ipv6, e)
                                      | inr h ↦
                                          elim (cases_eq n 276) [
                                            | inl e ↦ inl (LinuxCooked2, e)
                                            | inr k ↦ inr (other n a b c d f g h k)
                                          ]
                                    ]
                              ]
                        ]
                  ]
            ]
      ]
]
  where
    other : (n : ℕ) → (n ≡ 0 → ⊥) → (n ≡ 1 → ⊥) → (n ≡ 101 → ⊥) → (n ≡ 108 → ⊥) → (n ≡ 113 → ⊥)
        → (n ≡ 228 → ⊥) → (n ≡ 229 → ⊥) → (n ≡ 276 → ⊥) → (link : LinkType) → n ≡ number_of link → ⊥
    other n a b c d f g h k Null = a
    other n a b c d f g h k Ethernet = b
    other n a b c d f g h k Raw = c
    other n a b c d f g h k Loop = d
    other n a b c d f g h k LinuxCooked = f
    other n a b c d f g h k Ipv4 = g
    other n a b c d f g h k Ipv6 = h
    other n a b c d f g h k LinuxCooked2 = k

packet_or_fault : (link : LinkType) (frame : List ℕ) → ((v : IpVersion) × HasPacket link frame v)
    ⊎ ((f : FrameFault) × HasLinkFault link frame f)
packet_or_fault link frame = elim (cases_lt (length frame) (link_len link frame)) [
  | inl short ↦ inr (ShortFrame, inl (short, refl))
  | inr there ↦ elim (option_cases (version_in link frame)) [
    | inl none ↦ inr (NotIp, inr (there, none, refl))
    | inr some ↦ inl (some.0, record { there = there; version_is = some.1 })
  ]
]

udp_or_fault : (v : IpVersion) (p : List ℕ) → HasUdp v p ⊎ ((f : FrameFault) × HasPacketFault v p f)
udp_or_fault v p = elim (cases_lt (length p) (least_len v)) [
  | inl short ↦ inr (ShortFrame, inl (short, refl))
  | inr there ↦ elim (ip_or_not v p there) [
    | inr bad ↦ inr (BadIpHeader, inr (inl (there, bad, refl)))
    | inl ip ↦ elim (option_cases (obstacle_in v p)) [
      | inr some ↦ inr (some.0, inr (inr (inl (ip, some.1))))
      | inl clear ↦ elim (cases_lt (length p) (packet_len v p)) [
        | inl cut ↦ inr (ShortFrame, inr (inr (inr (inl ((ip, clear), cut, refl)))))
        | inr whole ↦ elim (udp_or_not (segment_in v p)) [
          | inr bad ↦ inr (BadUdpLength, inr (inr (inr (inr ((ip, clear), whole, bad, refl)))))
          | inl udp ↦ inl (record { ip = ip; clear = clear; whole = whole; udp = udp })
        ]
      ]
    ]
  ]
]

pub carries_or_fault : (n : ℕ) (frame : List ℕ)
    → ((d : DatagramContent) × CarriesDatagram n frame d)
    ⊎ ((f : FrameFault) × HasFrameFault n frame f)
carries_or_fault n frame = elim (link_or_not n) [
  | inr unknown ↦ inr (UnknownLink, inl (refl, unknown))
  | inl (link, number) ↦ elim (packet_or_fault link frame) [
    | inr fault ↦ inr (fault.0, inr (link, number, inl fault.1))
    | inl (v, packet) ↦ elim (udp_or_fault v (packet_in link frame)) [
      | inr fault ↦ inr (fault.0, inr (link, number, inr (v, packet, fault.1)))
      | inl udp ↦ inl (
        datagram_in v (packet_in link frame),
        record {
          link = link;
          number_is =
              number;
          version = v;
          packet = packet;
          udp = udp;
          is = refl;
        },
      )
    ]
  ]
]
