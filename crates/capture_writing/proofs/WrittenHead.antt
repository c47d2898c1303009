-- The bytes of a head, one after the other.
use Rattle.std.proofs.Common.{◌≡◌, ℕ, ◌+◌, ◌*◌, ◌/◌, ◌%◌, ◌==◌, Bool, true, false, List, [], ◌∷◌, ◌++◌, length, get_or, refl, ap, sym, ◌∙◌, if◌then◌else◌}
use Rattle.std.proofs.lemmas.List.{append-nil}
use Rattle.packet_capture.specs.declared.fields.ByteOrder.TheVariants.{Big, Little}
use Rattle.packet_capture.specs.Written.{u16_bytes, u32_bytes}
use Rattle.capture_writing.specs.declared.destination.Destination.{Destination}
use Rattle.capture_writing.specs.Checksums.{checksum_of, datagram_checksum_of}
use Rattle.capture_writing.specs.Frames.{frame_bytes, datagram_record_bytes, link_address, sender_link, header_sum, datagram_sum}
use Rattle.capture_writing.proofs.ReadingBack.{of_four, group_link, machine_link, frame_len}

-- the head of a frame, of the fields that aren't constant
abbrev pub frame_parts : (link total check address port len sum bytes : List ℕ) → List ℕ
frame_parts l t k a p u s bytes =
    get_or l 0 0 ∷ get_or l 1 0 ∷ get_or l 2 0 ∷ get_or l 3 0 ∷ get_or l 4 0 ∷ get_or l 5 0
    ∷ 2 ∷ 0 ∷ 192 ∷ 0 ∷ 2 ∷ 1 ∷ 8 ∷ 0
    ∷ 69 ∷ 0 ∷ get_or t 0 0 ∷ get_or t 1 0 ∷ 0 ∷ 0 ∷ 64 ∷ 0 ∷ 1 ∷ 17 ∷ get_or k 0 0 ∷ get_or k 1 0
    ∷ 192 ∷ 0 ∷ 2 ∷ 1 ∷ get_or a 0 0 ∷ get_or a 1 0 ∷ get_or a 2 0 ∷ get_or a 3 0
    ∷ get_or p 0 0 ∷ get_or p 1 0 ∷ get_or p 0 0 ∷ get_or p 1 0
    ∷ get_or u 0 0 ∷ get_or u 1 0 ∷ get_or s 0 0 ∷ get_or s 1 0 ∷ bytes

-- what follows the packet record
abbrev pub parts_of : Destination → List ℕ → List ℕ
parts_of to bytes = frame_parts (link_address to.address) (u16_bytes Big (28 + length bytes))
    (u16_bytes Big (checksum_of (header_sum to bytes))) to.address (u16_bytes Big to.port)
    (u16_bytes Big (8 + length bytes))
    (u16_bytes Big (datagram_checksum_of (datagram_sum to bytes))) bytes

either : (P : List ℕ → Type 0) (b : Bool) (xs ys : List ℕ) → P xs → P ys
    → P (if b then xs else ys)
either P true xs ys x y = x
either P false xs ys x y = y

-- the fields of a frame, one after the other
spread : (a b c d t0 t1 k0 k1 p0 p1 u0 u1 s0 s1 : ℕ) (bytes : List ℕ)
    → frame_parts (link_address (a ∷ b ∷ c ∷ d ∷ [])) (t0 ∷ t1 ∷ []) (k0 ∷ k1 ∷ [])
    (a ∷ b ∷ c ∷ d ∷ []) (p0 ∷ p1 ∷ []) (u0 ∷ u1 ∷ []) (s0 ∷ s1 ∷ []) bytes
    ≡ (link_address (a ∷ b ∷ c ∷ d ∷ []) ++ sender_link)
    ++ (8 ∷ 0 ∷ 69 ∷ 0 ∷ t0 ∷ t1 ∷ 0 ∷ 0 ∷ 64 ∷ 0 ∷ 1 ∷ 17 ∷ k0 ∷ k1 ∷ 192 ∷ 0 ∷ 2 ∷ 1
    ∷ a ∷ b ∷ c ∷ d ∷ p0 ∷ p1 ∷ p0 ∷ p1 ∷ u0 ∷ u1 ∷ s0 ∷ s1 ∷ (bytes ++ []))
spread a b c d t0 t1 k0 k1 p0 p1 u0 u1 s0 s1 bytes =
    let address = a ∷ b ∷ c ∷ d ∷ [] in
    either (λ (l : List ℕ). frame_parts l (t0 ∷ t1 ∷ []) (k0 ∷ k1 ∷ []) (a ∷ b ∷ c ∷ d ∷ [])
    (p0 ∷ p1 ∷ []) (u0 ∷ u1 ∷ []) (s0 ∷ s1 ∷ []) bytes ≡ (l ++ sender_link)
    ++ (8 ∷ 0 ∷ 69 ∷ 0 ∷ t0 ∷ t1 ∷ 0 ∷ 0 ∷ 64 ∷ 0 ∷ 1 ∷ 17 ∷ k0 ∷ k1 ∷ 192 ∷ 0 ∷ 2 ∷ 1
    ∷ a ∷ b ∷ c ∷ d ∷ p0 ∷ p1 ∷ p0 ∷ p1 ∷ u0 ∷ u1 ∷ s0 ∷ s1 ∷ (bytes ++ [])))
    (a / 16 == 14) (group_link address) (machine_link address)
    (rw (append-nil bytes) refl) (rw (append-nil bytes) refl)

pub frame_parts_are : (to : Destination) (bytes : List ℕ) → length to.address ≡ 4
    → parts_of to bytes ≡ frame_bytes to bytes
frame_parts_are to bytes four =
    of_four (λ (address : List ℕ). parts_of (record { address = address; port = to.port }) bytes
    ≡ frame_bytes (record { address = address; port = to.port }) bytes)
    (λ a b c d. spread a b c d _ _ _ _ _ _ _ _ _ _ bytes)
    to.address four

-- a packet record and a frame
abbrev pub recorded : (time captured len : ℕ) (frame : List ℕ) → List ℕ
recorded time captured len frame =
    u32_bytes Little (time / 1000000000) ++ (u32_bytes Little (time % 1000000000)
    ++ (u32_bytes Little captured ++ (u32_bytes Little len ++ frame)))

pub head_is : (to : Destination) (time : ℕ) (bytes : List ℕ) → length to.address ≡ 4
    → recorded time (42 + length bytes) (42 + length bytes) (parts_of to bytes)
    ≡ datagram_record_bytes (record { to = to; time = time; bytes = bytes })
head_is to time bytes four =
    ap (recorded time (42 + length bytes) (42 + length bytes)) (frame_parts_are to bytes four)
    ∙ ap (λ (n : ℕ). recorded time n (42 + length bytes) (frame_bytes to bytes))
    (sym (frame_len to bytes four))
