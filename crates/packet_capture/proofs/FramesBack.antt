-- Frames that were written read back.
use Rattle.std.proofs.Common.{◌≡◌, ℕ, zero, suc, ◌+◌, ◌-◌, ◌*◌, ◌<◌, ◌≤◌, Bool, true, false, List, [], ◌∷◌, ◌++◌, length, take, drop, refl, sym, ap, subst, ◌∙◌, arith, length-append, append_assoc}
use Rattle.std.specs.Prelude.{◌/◌, ◌%◌, ◌==◌, flat_map, Some, None, slice_index, if◌then◌else◌}
use Rattle.std.proofs.lemmas.List.{drop-drop, get_or-append-add}
use Rattle.std.proofs.Math.Seq.{take-append_seam, drop-append-add}
use Rattle.packet_capture.specs.declared.fields.ByteOrder.TheVariants.{Big}
use Rattle.packet_capture.specs.declared.link.IpVersion.{IpVersion}
use Rattle.packet_capture.specs.declared.link.IpVersion.TheVariants.{V4, V6}
use Rattle.packet_capture.specs.declared.link.LinkType.TheVariants.{Ethernet}
use Rattle.packet_capture.specs.declared.link.TypedHeader.{TypedHeader}
use Rattle.packet_capture.specs.declared.fault.FrameFault.TheVariants.{Fragment}
use Rattle.packet_capture.specs.declared.datagram.Address.{Address}
use Rattle.packet_capture.specs.declared.datagram.Address.TheVariants as addresses
use Rattle.packet_capture.specs.Fields.{u16_in, bytes_at}
use Rattle.packet_capture.specs.Links.{is_tag, with_tag, with_tags, tagged, ethernet, link_len, by_ether_type, packet_in}
use Rattle.packet_capture.specs.Packets.{IsIp, IsUdp, header_len, packet_len, obstacle_in, destination_in, segment_in}
use Rattle.packet_capture.specs.Datagrams.{HasUdp, HasPacket, CarriesDatagram, datagram_in}
use Rattle.packet_capture.specs.Written.{u16_bytes}
use Rattle.packet_capture.proofs.WrittenBack.{two_back}
use Rattle.packet_capture.proofs.Tags.{untagged}
use Rattle.packet_capture.specs.WrittenFrames.{WrittenDatagram, udp_bytes, WrittenIpv4, IsWrittenIpv4, ipv4_bytes, WrittenIpv6, IsWrittenIpv6, ipv6_bytes, TagKind, customer, service, doubled, tag_type, Tag, tag_bytes, ethernet_bytes}

-- what follows a part of a known length
skip : (xs ys : List ℕ) (n m : ℕ) → length xs ≡ n → drop (n + m) (xs ++ ys) ≡ drop m ys
skip xs ys n m len = ap (λ (k : ℕ). drop (k + m) (xs ++ ys)) (sym len) ∙ drop-append-add xs ys m

front : (xs ys : List ℕ) (n : ℕ) → length xs ≡ n → take n (xs ++ ys) ≡ xs
front xs ys n len = ap (λ (k : ℕ). take k (xs ++ ys)) (sym len) ∙ take-append_seam xs ys

-- the datagram
is_udp : (d : WrittenDatagram) → 8 + length d.bytes < 65536 → IsUdp (udp_bytes d)
unfolding u16_in
is_udp d fits =
    let len = two_back (8 + length d.bytes) in
    record { there = omega arith; least = omega arith; within = omega arith }

port_back : (d : WrittenDatagram) → u16_in Big (udp_bytes d) 2 ≡ d.port
unfolding u16_in
port_back d = two_back d.port

bytes_back : (d : WrittenDatagram)
    → bytes_at (udp_bytes d) 8 (u16_in Big (udp_bytes d) 4 - 8) ≡ d.bytes
unfolding u16_in
bytes_back d =
    let len : (8 + length d.bytes) / 256 * 256 + (8 + length d.bytes) % 256 - 8 ≡ length
    d.bytes = omega arith in
    front_all d.bytes _ len
  where
    front_all : (xs : List ℕ) (n : ℕ) → n ≡ length xs → take n xs ≡ xs
    front_all [] zero e = refl
    front_all [] (suc n) e = absurd (omega arith)
    front_all (x ∷ xs) zero e = absurd (omega arith)
    front_all (x ∷ xs) (suc n) e = ap (λ (ys : List ℕ). x ∷ ys) (front_all xs n (omega arith))

-- what a packet that was written reads as
record ReadsAs (version : IpVersion) (packet : List ℕ) (address : Address)
    (d : WrittenDatagram) : Type 0 where
  udp : HasUdp version packet
  is : datagram_in version packet ≡ record { address = address; port = d.port; bytes = d.bytes }

reads_as : (version : IpVersion) (packet : List ℕ) (address : Address) (d : WrittenDatagram)
    → 8 + length d.bytes < 65536 → IsIp version packet → obstacle_in version packet ≡ None
    → packet_len version packet ≤ length packet → segment_in version packet ≡ udp_bytes d
    → destination_in version packet ≡ address → ReadsAs version packet address d
reads_as version packet address d fits ip clear whole segment destination =
    let P : List ℕ → Type 0 = λ x. IsUdp x in
    let port : u16_in Big (segment_in version packet) 2 ≡ d.port =
    ap (λ (x : List ℕ). u16_in Big x 2) segment ∙ port_back d in
    let bytes : bytes_at (segment_in version packet) 8 (u16_in Big (segment_in version packet)
    4 - 8) ≡ d.bytes = ap (λ (x : List ℕ). bytes_at x 8 (u16_in Big x 4 - 8)) segment
    ∙ bytes_back d in
    record {
      udp = record {
        ip = ip;
        clear = clear;
        whole = whole;
        udp =
            subst P (sym segment) (is_udp d fits);
      };
      is = λ i. record { address = destination i; port = port i; bytes = bytes i };
    }

length-udp : (d : WrittenDatagram) → length (udp_bytes d) ≡ 8 + length d.bytes
length-udp d = omega arith

-- IPv4: what follows the first twelve bytes
four_rest : WrittenIpv4 → WrittenDatagram → List ℕ → List ℕ
four_rest p d filling = p.source ++ (p.destination ++ (p.options ++ (udp_bytes d ++ filling)))

four_is : (p : WrittenIpv4) (d : WrittenDatagram) (filling : List ℕ)
    → drop 12 (ipv4_bytes p d ++ filling) ≡ four_rest p d filling
unfolding four_rest
four_is p d filling =
    append_assoc p.source (p.destination ++ (p.options ++ udp_bytes d)) filling
    ∙ ap (λ (x : List ℕ). p.source ++ x) (append_assoc p.destination (p.options
    ++ udp_bytes d) filling
    ∙ ap (λ (x : List ℕ). p.destination ++ x) (append_assoc p.options (udp_bytes d) filling))

drop_more : (n m : ℕ) (xs ys : List ℕ) → drop n xs ≡ ys → drop (n + m) xs ≡ drop m ys
drop_more n m xs ys e = sym (drop-drop m n xs) ∙ ap (λ (x : List ℕ). drop m x) e

four_segment : (p : WrittenIpv4) (d : WrittenDatagram) (filling : List ℕ) → IsWrittenIpv4 p d
    → drop (12 + (4 + (4 + (4 * p.words + 0)))) (ipv4_bytes p d ++ filling) ≡ udp_bytes d ++ filling
unfolding four_rest
four_segment p d filling h =
    drop_more 12 (4 + (4 + (4 * p.words + 0))) (ipv4_bytes p d ++ filling)
    (four_rest p d filling) (four_is p d filling)
    ∙ skip p.source (p.destination ++ (p.options ++ (udp_bytes d ++ filling))) 4
    (4 + (4 * p.words + 0)) h.source
    ∙ skip p.destination (p.options ++ (udp_bytes d ++ filling)) 4 (4 * p.words + 0) h.destination
    ∙ skip p.options (udp_bytes d ++ filling) (4 * p.words) 0 h.options

four_destination : (p : WrittenIpv4) (d : WrittenDatagram) (filling : List ℕ) → IsWrittenIpv4 p d
    → bytes_at (ipv4_bytes p d ++ filling) 16 4 ≡ p.destination
unfolding four_rest
four_destination p d filling h =
    ap (λ (x : List ℕ). take 4 x) (drop_more 12 4 (ipv4_bytes p d ++ filling)
    (four_rest p d filling) (four_is p d filling)
    ∙ skip p.source (p.destination ++ (p.options ++ (udp_bytes d ++ filling))) 4 0 h.source)
    ∙ front p.destination (p.options ++ (udp_bytes d ++ filling)) 4 h.destination

length-four : (p : WrittenIpv4) (d : WrittenDatagram) (filling : List ℕ) → IsWrittenIpv4 p d
    → length (ipv4_bytes p d ++ filling) ≡ 28 + 4 * p.words + length d.bytes + length filling
length-four p d filling h =
    let a = h.source in let b = h.destination in let c = h.options in
    omega (
      arith,
      length-append (ipv4_bytes p d) filling,
      length-append p.source (p.destination
          ++ (p.options ++ udp_bytes d)),
      length-append p.destination (p.options ++ udp_bytes d),
      length-append p.options (udp_bytes d),
      length-udp d,
    )

four_clear : (p : WrittenIpv4) (d : WrittenDatagram) (filling : List ℕ) → (keep : Bool)
    → p.keep_whole ≡ keep → obstacle_in V4 (ipv4_bytes p d ++ filling) ≡ None
unfolding u16_in
four_clear p d filling true e = ap (λ (b : Bool). if ((if b then 64 else 0) * 256 + 0) % 16384 == 0
    then None else Some Fragment) e
four_clear p d filling false e = ap (λ (b : Bool). if ((if b then 64 else 0) * 256 + 0) % 16384 == 0
    then None else Some Fragment) e

four_back : (p : WrittenIpv4) (d : WrittenDatagram) (filling : List ℕ) → IsWrittenIpv4 p d
    → ReadsAs V4 (ipv4_bytes p d ++ filling) (addresses.V4 p.destination) d
unfolding u16_in
four_back p d filling h =
    let packet : List ℕ = ipv4_bytes p d ++ filling in
    let few = h.few in
    let fits = h.fits in
    let len = length-four p d filling h in
    let header : header_len V4 packet ≡ 20 + 4 * p.words = omega arith in
    let whole : packet_len V4 packet ≡ 28 + 4 * p.words + length d.bytes =
    two_back (28 + 4 * p.words + length d.bytes) in
    let number : (69 + p.words) / 16 ≡ 4 = omega arith in
    let start : header_len V4 packet ≡ 12 + (4 + (4 + (4 * p.words + 0))) = omega arith in
    let rest : drop (header_len V4 packet) packet ≡ udp_bytes d
    ++ filling = ap (λ (n : ℕ). drop n packet) start ∙ four_segment p d filling h in
    let count : packet_len V4 packet - header_len V4 packet ≡ length (udp_bytes d) =
    omega (arith, length-udp d) in
    reads_as V4 packet (addresses.V4 p.destination) d (omega arith)
    (record { there = omega arith; number = number; least = omega arith; within = omega arith })
    (four_clear p d filling p.keep_whole refl)
    (omega arith)
    (ap (λ (n : ℕ). take n (drop (header_len V4 packet) packet)) count
    ∙ ap (λ (x : List ℕ). take (length (udp_bytes d)) x) rest
    ∙ take-append_seam (udp_bytes d) filling)
    (ap (λ (x : List ℕ). addresses.V4 x) (four_destination p d filling h))

-- IPv6: what follows the first eight bytes
six_is : (p : WrittenIpv6) (d : WrittenDatagram) (filling : List ℕ)
    → drop 8 (ipv6_bytes p d ++ filling) ≡ p.source ++ (p.destination ++ (udp_bytes d ++ filling))
six_is p d filling =
    append_assoc p.source (p.destination ++ udp_bytes d) filling
    ∙ ap (λ (x : List ℕ). p.source ++ x) (append_assoc p.destination (udp_bytes d) filling)

six_segment : (p : WrittenIpv6) (d : WrittenDatagram) (filling : List ℕ) → IsWrittenIpv6 p d
    → drop (8 + (16 + (16 + 0))) (ipv6_bytes p d ++ filling) ≡ udp_bytes d ++ filling
six_segment p d filling h =
    drop_more 8 (16 + (16 + 0)) (ipv6_bytes p d ++ filling) (p.source
    ++ (p.destination ++ (udp_bytes d ++ filling))) (six_is p d filling)
    ∙ skip p.source (p.destination ++ (udp_bytes d ++ filling)) 16 (16 + 0) h.source
    ∙ skip p.destination (udp_bytes d ++ filling) 16 0 h.destination

six_destination : (p : WrittenIpv6) (d : WrittenDatagram) (filling : List ℕ) → IsWrittenIpv6 p d
    → bytes_at (ipv6_bytes p d ++ filling) 24 16 ≡ p.destination
six_destination p d filling h =
    ap (λ (x : List ℕ). take 16 x) (drop_more 8 16 (ipv6_bytes p d ++ filling) (p.source
    ++ (p.destination ++ (udp_bytes d ++ filling))) (six_is p d filling)
    ∙ skip p.source (p.destination ++ (udp_bytes d ++ filling)) 16 0 h.source)
    ∙ front p.destination (udp_bytes d ++ filling) 16 h.destination

length-six : (p : WrittenIpv6) (d : WrittenDatagram) (filling : List ℕ) → IsWrittenIpv6 p d
    → length (ipv6_bytes p d ++ filling) ≡ 48 + length d.bytes + length filling
length-six p d filling h =
    let a = h.source in let b = h.destination in
    omega (
      arith,
      length-append (ipv6_bytes p d) filling,
      length-append p.source (p.destination
          ++ udp_bytes d),
      length-append p.destination (udp_bytes d),
      length-udp d,
    )

six_back : (p : WrittenIpv6) (d : WrittenDatagram) (filling : List ℕ) → IsWrittenIpv6 p d
    → ReadsAs V6 (ipv6_bytes p d ++ filling) (addresses.V6 p.destination) d
unfolding u16_in
six_back p d filling h =
    let packet : List ℕ = ipv6_bytes p d ++ filling in
    let class = h.class_high in
    let fits = h.fits in
    let len = length-six p d filling h in
    let whole : u16_in Big packet 4 ≡ 8 + length d.bytes = two_back (8 + length d.bytes) in
    let number : (96 + p.class_high) / 16 ≡ 6 = omega arith in
    let count : packet_len V6 packet - 40 ≡ length (udp_bytes d) = omega (arith, length-udp d) in
    reads_as V6 packet (addresses.V6 p.destination) d (omega arith)
    (record { there = omega arith; number = number; least = omega arith; within = omega arith })
    refl
    (omega arith)
    (ap (λ (n : ℕ). take n (drop 40 packet)) count
    ∙ ap (λ (x : List ℕ). take (length (udp_bytes d)) x) (six_segment p d filling h)
    ∙ take-append_seam (udp_bytes d) filling)
    (ap (λ (x : List ℕ). addresses.V6 x) (six_destination p d filling h))

-- Ethernet: a number after the addresses
number_after : (xs ys : List ℕ) (n k : ℕ) → length xs ≡ n
    → u16_in Big (xs ++ ys) (n + k) ≡ u16_in Big ys k
unfolding u16_in
number_after xs ys n k len =
    let at : (j : ℕ) → slice_index (xs ++ ys) (n + j) ≡ slice_index ys j =
    λ j. ap (λ (m : ℕ). slice_index (xs ++ ys) (m + j)) (sym len) ∙ get_or-append-add xs ys j 0
    in
    let further : n + k + 1 ≡ n + (k + 1) = omega arith in
    let next : slice_index (xs ++ ys) (n + k + 1) ≡ slice_index ys (k + 1) =
    ap (λ (m : ℕ). slice_index (xs ++ ys) m) further ∙ at (k + 1) in
    ap (λ (x : ℕ). x * 256 + slice_index (xs ++ ys) (n + k + 1)) (at k)
    ∙ ap (λ (x : ℕ). slice_index ys k * 256 + x) next

first_type : (xs ys : List ℕ) (n : ℕ) → length xs ≡ n → u16_in Big (xs ++ ys) n ≡ u16_in Big ys 0
first_type xs ys n len =
    let same : n ≡ n + 0 = omega arith in
    ap (λ (k : ℕ). u16_in Big (xs ++ ys) k) same ∙ number_after xs ys n 0 len

-- the types that are no tags
record IsType (type : ℕ) (version : IpVersion) : Type 0 where
  no_tag : is_tag type ≡ false
  version_is : by_ether_type type ≡ Some version

tag_type_is : (kind : TagKind)
    → is_tag (tag_type kind / 256 * 256 + tag_type kind % 256) ≡ true
tag_type_is customer = refl
tag_type_is service = refl
tag_type_is doubled = refl

length-tags : (tags : List Tag) → length (flat_map tag_bytes tags) ≡ 4 * length tags
length-tags [] = refl
length-tags (a ∷ tags) = let h = length-tags tags in omega (arith, h)

-- a header after this many bytes, where tags and then a type that is none follow them
tags_back : (tags : List Tag) (type : ℕ) (packet before : List ℕ) (most n len end : ℕ)
    → is_tag type ≡ false → length before ≡ n → len ≡ n + 2 → end ≡ n + 4 * length tags
    → length tags ≤ most
    → with_tags most (record { type_at = n; len = len })
    (before ++ (flat_map tag_bytes tags ++ (u16_bytes Big type ++ packet)))
    ≡ record { type_at = end; len = end + 2 }
unfolding u16_in
tags_back [] type packet before most n len end none at two last few =
    let frame : List ℕ = before ++ (u16_bytes Big type ++ packet) in
    let same : n ≡ end = omega (arith, last) in
    let type_is : u16_in Big frame n ≡ type = first_type before (u16_bytes Big type ++ packet) n at
    ∙ two_back type in
    untagged most (record { type_at = n; len = len }) frame (ap is_tag type_is ∙ none)
    ∙ λ i. record {
      type_at = same i;
      len = (two ∙ ap (λ (k : ℕ). k + 2) same) i;
    }
tags_back (a ∷ tags) type packet before zero n len end none at two last few = absurd (omega arith)
tags_back (a ∷ tags) type packet before (suc most) n len end none at two last few =
    let rest : List ℕ = flat_map tag_bytes tags ++ (u16_bytes Big type ++ packet) in
    let frame : List ℕ = before ++ (tag_bytes a ++ rest) in
    let longer : List ℕ = before ++ tag_bytes a in
    let joined : frame ≡ longer ++ rest = sym (append_assoc before (tag_bytes a) rest) in
    let first : is_tag (u16_in Big frame n) ≡ true =
    ap is_tag (first_type before (tag_bytes a ++ rest) n at) ∙ tag_type_is a.kind in
    let h : TypedHeader = with_tag (record { type_at = n; len = len }) in
    let next : h ≡ record { type_at = n + 4; len = n + 6 } =
    let e : len + 2 ≡ n + 4 = omega (arith, two) in let f : len + 4 ≡ n + 6 = omega (arith, two) in
    λ i. record { type_at = e i; len = f i } in
    ap (λ (b : Bool). if b then with_tags most h frame
    else (record { type_at = n; len = len })) first
    ∙ ap (λ (x : TypedHeader). with_tags most x frame) next
    ∙ ap (λ (x : List ℕ). with_tags most (record { type_at = n + 4; len = n + 6 }) x) joined
    ∙ tags_back tags type packet longer most (n + 4) (n + 6) end none
    (omega (arith, length-append before (tag_bytes a), at)) (omega arith) (omega (arith, last))
    (omega (arith, few))

ethernet_back : (heads : List ℕ) (tags : List Tag) (type : ℕ) (version : IpVersion)
    (packet : List ℕ) → length heads ≡ 12 → IsType type version
    → let frame = heads ++ (flat_map tag_bytes tags ++ (u16_bytes Big type ++ packet))
    in HasPacket Ethernet frame version × (packet_in Ethernet frame ≡ packet)
unfolding u16_in
ethernet_back heads tags type version packet twelve t =
    let between : List ℕ = flat_map tag_bytes tags in
    let rest : List ℕ = between ++ (u16_bytes Big type ++ packet) in
    let frame : List ℕ = heads ++ rest in
    let count : length between ≡ 4 * length tags = length-tags tags in
    let len : length frame ≡ 12 + (4 * length tags + (2 + length packet)) =
    omega (
      arith,
      length-append heads rest,
      length-append between (u16_bytes Big type ++ packet),
      twelve,
      count,
    ) in
    let end : ℕ = 12 + 4 * length tags in
    let header : tagged ethernet frame ≡ record { type_at = end; len = end + 2 } =
    tags_back tags type packet heads (length frame) 12 14 end t.no_tag twelve refl refl
    (omega (arith, len)) in
    let long : link_len Ethernet frame ≡ end + 2 = ap (λ (h : TypedHeader). h.len) header in
    let at_end : u16_in Big frame end ≡ type =
    number_after heads rest 12 (4 * length tags) twelve
    ∙ first_type between (u16_bytes Big type ++ packet) (4 * length tags) count ∙ two_back type in
    let type_is : u16_in Big frame (tagged ethernet frame).type_at ≡ type =
    ap (λ (h : TypedHeader). u16_in Big frame h.type_at) header ∙ at_end in
    let where_packet : link_len Ethernet frame ≡ 12 + (4 * length tags + 2) =
    long ∙ omega arith in (
      record {
        there = omega (arith, long, len);
        version_is = ap by_ether_type type_is ∙ t.version_is;
      },
      ap (λ (n : ℕ). drop n frame) where_packet
          ∙ skip heads rest 12 (4 * length tags + 2) twelve
          ∙ skip between (u16_bytes Big type ++ packet) (4 * length tags) 2 count,
    )

carried : (heads : List ℕ) (tags : List Tag) (type : ℕ) (version : IpVersion) (packet : List ℕ)
    (address : Address) (d : WrittenDatagram) → length heads ≡ 12 → IsType type version
    → ReadsAs version packet address d
    → CarriesDatagram 1 (heads ++ (flat_map tag_bytes tags ++ (u16_bytes Big type ++ packet)))
    (record { address = address; port = d.port; bytes = d.bytes })
carried heads tags type version packet address d h t reads =
    let found = ethernet_back heads tags type version packet h t in
    let P : List ℕ → Type 0 = λ x. HasUdp version x in
    record {
      link = Ethernet;
      number_is = refl;
      version = version;
      packet = found.0;
      udp = subst P (sym found.1) reads.udp;
      is = sym (ap (λ (x : List ℕ). datagram_in version x) found.1 ∙ reads.is);
    }

pub ipv4_back : (heads : List ℕ) (tags : List Tag) (p : WrittenIpv4) (d : WrittenDatagram)
    (filling : List ℕ) → length heads ≡ 12 → IsWrittenIpv4 p d
    → CarriesDatagram 1 (ethernet_bytes heads tags 2048 (ipv4_bytes p d) filling)
    (record { address = addresses.V4 p.destination; port = d.port; bytes = d.bytes })
ipv4_back heads tags p d filling h k = carried heads tags 2048 V4 (ipv4_bytes p d ++ filling)
    (addresses.V4 p.destination) d h (record { no_tag = refl; version_is = refl })
    (four_back p d filling k)

pub ipv6_back : (heads : List ℕ) (tags : List Tag) (p : WrittenIpv6) (d : WrittenDatagram)
    (filling : List ℕ) → length heads ≡ 12 → IsWrittenIpv6 p d
    → CarriesDatagram 1 (ethernet_bytes heads tags 34525 (ipv6_bytes p d) filling)
    (record { address = addresses.V6 p.destination; port = d.port; bytes = d.bytes })
ipv6_back heads tags p d filling h k = carried heads tags 34525 V6 (ipv6_bytes p d ++ filling)
    (addresses.V6 p.destination) d h (record { no_tag = refl; version_is = refl })
    (six_back p d filling k)
