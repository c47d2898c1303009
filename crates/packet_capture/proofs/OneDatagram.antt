-- A frame carries one datagram, or has one fault.
use Rattle.std.proofs.Common.{◌≡◌, ℕ, ◌<◌, ◌≤◌, List, length, refl, sym, ap, subst, ◌∙◌, arith, inl, inr}
use Rattle.std.specs.Prelude.{◌==◌, Option, Some, None, if◌then◌else◌}
use Rattle.std.proofs.lemmas.Option.{same_Some, none-some}
use Rattle.packet_capture.specs.declared.link.LinkType.{LinkType}
use Rattle.packet_capture.specs.declared.link.LinkType.TheVariants.{Null, Ethernet, Raw, Loop, LinuxCooked, Ipv4, Ipv6, LinuxCooked2}
use Rattle.packet_capture.specs.declared.link.IpVersion.{IpVersion}
use Rattle.packet_capture.specs.declared.fault.FrameFault.{FrameFault}
use Rattle.packet_capture.specs.declared.fault.FrameFault.TheVariants.{ShortFrame, BadIpHeader, BadUdpLength}
use Rattle.packet_capture.specs.Links.{number_of, version_in, packet_in}
use Rattle.packet_capture.specs.Packets.{IsIp, IsUdp, least_len, packet_len, obstacle_in, segment_in}
use Rattle.packet_capture.specs.Datagrams.{DatagramContent, HasPacket, HasUdp, CarriesDatagram, datagram_in}
use Rattle.packet_capture.specs.FrameFaults.{HasLinkFault, IsClear, HasPacketFault, HasFrameFault}

-- the link type of a number
link_by : ℕ → Option LinkType
link_by n =
    if n == 0 then Some Null else (if n == 1 then Some Ethernet else (if n == 101 then Some Raw
    else (if n == 108 then Some Loop else (if n == 113 then Some LinuxCooked
    else (if n == 228 then Some Ipv4 else (if n == 229 then Some Ipv6
    else (if n == 276 then Some LinuxCooked2 else None)))))))

by_number : (link : LinkType) → link_by (number_of link) ≡ Some link
unfolding link_by
by_number Null = refl
by_number Ethernet = refl
by_number Raw = refl
by_number Loop = refl
by_number LinuxCooked = refl
by_number Ipv4 = refl
by_number Ipv6 = refl
by_number LinuxCooked2 = refl

same_link : (n : ℕ) (a b : LinkType) → n ≡ number_of a → n ≡ number_of b → a ≡ b
same_link n a b p q = same_Some a b (sym (by_number a) ∙ ap link_by (sym p ∙ q) ∙ by_number b)

same_version : (link : LinkType) (frame : List ℕ) (a b : IpVersion) → HasPacket link frame a
    → HasPacket link frame b → a ≡ b
same_version link frame a b p q = same_Some a b (sym p.version_is ∙ q.version_is)

pub same_datagram : (n : ℕ) (frame : List ℕ) (d e : DatagramContent) → CarriesDatagram n frame d
    → CarriesDatagram n frame e → d ≡ e
same_datagram n frame d e a b =
    let link : a.link ≡ b.link = same_link n a.link b.link a.number_is b.number_is in
    let version : a.version ≡ b.version = same_Some a.version b.version (sym a.packet.version_is
    ∙ ap (λ (l : LinkType). version_in l frame) link ∙ b.packet.version_is) in
    a.is ∙ ap (λ (l : LinkType). datagram_in a.version (packet_in l frame)) link
    ∙ ap (λ (v : IpVersion). datagram_in v (packet_in b.link frame)) version ∙ sym b.is

two_link_faults : (link : LinkType) (frame : List ℕ) (f g : FrameFault) → HasLinkFault link frame f
    → HasLinkFault link frame g → f ≡ g
two_link_faults link frame f g (inl h) (inl k) = h.1 ∙ sym k.1
two_link_faults link frame f g (inr h) (inr k) = h.2 ∙ sym k.2
two_link_faults link frame f g (inl h) (inr k) = let a = h.0 in let b = k.0 in absurd (omega arith)
two_link_faults link frame f g (inr h) (inl k) = let a = h.0 in let b = k.0 in absurd (omega arith)

no_link_fault : (link : LinkType) (frame : List ℕ) (version : IpVersion) (f : FrameFault)
    → HasPacket link frame version → HasLinkFault link frame f → ⊥
no_link_fault link frame version f p (inl h) = let a = p.there in let b = h.0
    in absurd (omega arith)
no_link_fault link frame version f p (inr h) = none-some version (sym h.1 ∙ p.version_is)

-- a packet with a header that says this of a datagram has no other fault
cut_first : (v : IpVersion) (p : List ℕ) (g : FrameFault) → length p < least_len v
    → HasPacketFault v p g → g ≡ ShortFrame
cut_first v p g short (inl k) = k.1
cut_first v p g short (inr (inl k)) = let a = k.0 in absurd (omega arith)
cut_first v p g short (inr (inr (inl k))) = let a = k.0.there in absurd (omega arith)
cut_first v p g short (inr (inr (inr (inl k)))) = let a = k.0.0.there in absurd (omega arith)
cut_first v p g short (inr (inr (inr (inr k)))) = let a = k.0.0.there in absurd (omega arith)

bad_header : (v : IpVersion) (p : List ℕ) (g : FrameFault) → least_len v ≤ length p → (IsIp v p → ⊥)
    → HasPacketFault v p g → g ≡ BadIpHeader
bad_header v p g there bad (inl k) = let a = k.0 in absurd (omega arith)
bad_header v p g there bad (inr (inl k)) = k.2
bad_header v p g there bad (inr (inr (inl k))) = absurd (bad k.0)
bad_header v p g there bad (inr (inr (inr (inl k)))) = absurd (bad k.0.0)
bad_header v p g there bad (inr (inr (inr (inr k)))) = absurd (bad k.0.0)

in_the_way : (v : IpVersion) (p : List ℕ) (f g : FrameFault) → IsIp v p → obstacle_in v p ≡ Some f
    → HasPacketFault v p g → f ≡ g
in_the_way v p f g ip is (inl k) = let a = ip.there in let b = k.0 in absurd (omega arith)
in_the_way v p f g ip is (inr (inl k)) = absurd (k.1 ip)
in_the_way v p f g ip is (inr (inr (inl k))) = same_Some f g (sym is ∙ k.1)
in_the_way v p f g ip is (inr (inr (inr (inl k)))) = absurd (none-some f (sym k.0.1 ∙ is))
in_the_way v p f g ip is (inr (inr (inr (inr k)))) = absurd (none-some f (sym k.0.1 ∙ is))

cut_packet : (v : IpVersion) (p : List ℕ) (g : FrameFault) → IsClear v p → length p < packet_len v p
    → HasPacketFault v p g → g ≡ ShortFrame
cut_packet v p g clear cut (inl k) = k.1
cut_packet v p g clear cut (inr (inl k)) = absurd (k.1 clear.0)
cut_packet v p g clear cut (inr (inr (inl k))) = absurd (none-some g (sym clear.1 ∙ k.1))
cut_packet v p g clear cut (inr (inr (inr (inl k)))) = k.2
cut_packet v p g clear cut (inr (inr (inr (inr k)))) = let a = k.1 in absurd (omega arith)

bad_len : (v : IpVersion) (p : List ℕ) (g : FrameFault) → IsClear v p → packet_len v p ≤ length p
    → (IsUdp (segment_in v p) → ⊥) → HasPacketFault v p g → g ≡ BadUdpLength
bad_len v p g clear whole bad (inl k) = let a = clear.0.there in let b = k.0 in absurd (omega arith)
bad_len v p g clear whole bad (inr (inl k)) = absurd (k.1 clear.0)
bad_len v p g clear whole bad (inr (inr (inl k))) = absurd (none-some g (sym clear.1 ∙ k.1))
bad_len v p g clear whole bad (inr (inr (inr (inl k)))) = let a = k.1 in absurd (omega arith)
bad_len v p g clear whole bad (inr (inr (inr (inr k)))) = k.3

two_packet_faults : (v : IpVersion) (p : List ℕ) (f g : FrameFault) → HasPacketFault v p f
    → HasPacketFault v p g → f ≡ g
two_packet_faults v p f g (inl h) k = h.1 ∙ sym (cut_first v p g h.0 k)
two_packet_faults v p f g (inr (inl h)) k = h.2 ∙ sym (bad_header v p g h.0 h.1 k)
two_packet_faults v p f g (inr (inr (inl h))) k = in_the_way v p f g h.0 h.1 k
two_packet_faults v p f g (inr (inr (inr (inl h)))) k = h.2 ∙ sym (cut_packet v p g h.0 h.1 k)
two_packet_faults v p f g (inr (inr (inr (inr h)))) k = h.3 ∙ sym (bad_len v p g h.0 h.1 h.2 k)

no_packet_fault : (v : IpVersion) (p : List ℕ) (f : FrameFault) → HasUdp v p
    → HasPacketFault v p f → ⊥
no_packet_fault v p f u (inl k) = let a = u.ip.there in let b = k.0 in absurd (omega arith)
no_packet_fault v p f u (inr (inl k)) = k.1 u.ip
no_packet_fault v p f u (inr (inr (inl k))) = none-some f (sym u.clear ∙ k.1)
no_packet_fault v p f u (inr (inr (inr (inl k)))) = let a = u.whole in let b = k.1
    in absurd (omega arith)
no_packet_fault v p f u (inr (inr (inr (inr k)))) = k.2 u.udp

-- a fault of one link type is one of every link type that the number may be
link_fault_at : (frame : List ℕ) (f : FrameFault) (a b : LinkType) → a ≡ b → HasLinkFault a frame f
    → HasLinkFault b frame f
link_fault_at frame f a b e h = let P : LinkType → Type 0 = λ l. HasLinkFault l frame f
    in subst P e h

packet_at : (frame : List ℕ) (v : IpVersion) (a b : LinkType) → a ≡ b
    → HasPacket a frame v → HasPacket b frame v
packet_at frame v a b e h = let P : LinkType → Type 0 = λ l. HasPacket l frame v in subst P e h

fault_at : (frame : List ℕ) (f : FrameFault) (v w : IpVersion) (a b : LinkType) → a ≡ b → v ≡ w
    → HasPacketFault v (packet_in a frame) f → HasPacketFault w (packet_in b frame) f
fault_at frame f v w a b e d h =
    let P : LinkType → Type 0 = λ l. HasPacketFault v (packet_in l frame) f in
    let Q : IpVersion → Type 0 = λ x. HasPacketFault x (packet_in b frame) f in
    subst Q d (subst P e h)

pub same_frame_fault : (n : ℕ) (frame : List ℕ) (f g : FrameFault) → HasFrameFault n frame f
    → HasFrameFault n frame g → f ≡ g
same_frame_fault n frame f g (inl h) (inl k) = h.0 ∙ sym k.0
same_frame_fault n frame f g (inl h) (inr k) = absurd (h.1 k.0 k.1)
same_frame_fault n frame f g (inr h) (inl k) = absurd (k.1 h.0 h.1)
same_frame_fault n frame f g (inr (a, p, inl h)) (inr (b, q, inl k)) =
    two_link_faults b frame f g (link_fault_at frame f a b (same_link n a b p q) h) k
same_frame_fault n frame f g (inr (a, p, inl h)) (inr (b, q, inr k)) =
    absurd (no_link_fault b frame k.0 f k.1 (link_fault_at frame f a b (same_link n a b p q) h))
same_frame_fault n frame f g (inr (a, p, inr h)) (inr (b, q, inl k)) =
    absurd (no_link_fault a frame h.0 g h.1 (link_fault_at frame g b a (same_link n b a q p) k))
same_frame_fault n frame f g (inr (a, p, inr (v, h, x))) (inr (b, q, inr (w, k, y))) =
    let e : a ≡ b = same_link n a b p q in
    let d : v ≡ w = same_version b frame v w (packet_at frame v a b e h) k in
    two_packet_faults w (packet_in b frame) f g (fault_at frame f v w a b e d x) y

pub no_frame_fault : (n : ℕ) (frame : List ℕ) (d : DatagramContent) (f : FrameFault)
    → CarriesDatagram n frame d → HasFrameFault n frame f → ⊥
no_frame_fault n frame d f c (inl h) = h.1 c.link c.number_is
no_frame_fault n frame d f c (inr (a, p, inl h)) =
    no_link_fault c.link frame c.version f c.packet (link_fault_at frame f a c.link
    (same_link n a c.link p c.number_is) h)
no_frame_fault n frame d f c (inr (a, p, inr (v, h, x))) =
    let e : a ≡ c.link = same_link n a c.link p c.number_is in
    let d : v ≡ c.version = same_version c.link frame v c.version (packet_at frame v a c.link e h)
    c.packet in
    no_packet_fault c.version (packet_in c.link frame) f c.udp
    (fault_at frame f v c.version a c.link e d x)
