-- What was written is what `packet_capture` has for written frames.
use Rattle.std.proofs.Common.{◌≡◌, ℕ, ◌+◌, ◌*◌, ◌/◌, ◌%◌, ◌<◌, ◌≤◌, ◌^◌, Bool, true, false, List, [], ◌∷◌, ◌++◌, map, length, refl, ap, ◌∙◌, arith, if◌then◌else◌, slice_index, ◌==◌}
use Rattle.std.specs.List.{flat_map, AllByRecursion}
use Rattle.std.proofs.lemmas.List.{length-append, append-nil}
use Rattle.packet_capture.specs.declared.fields.ByteOrder.TheVariants.{Little}
use Rattle.packet_capture.specs.Frames.{FrameContent}
use Rattle.packet_capture.specs.Written.{WrittenFrame, IsWrittenFrame, record_bytes, written_frame}
use Rattle.packet_capture.specs.WrittenFrames.{IsWrittenIpv4, ethernet_bytes, ipv4_bytes, udp_bytes}
use Rattle.capture_writing.specs.declared.destination.Destination.{Destination}
use Rattle.capture_writing.specs.Frames.{TimedDatagram, FitsFrame, frame_of_datagram, frame_read, frame_bytes, datagram_record_bytes, packet_to, datagram_to, link_address, sender_link}

-- a list of four numbers
pub of_four : (P : List ℕ → Type 0) → ((a b c d : ℕ) → P (a ∷ b ∷ c ∷ d ∷ []))
    → (xs : List ℕ) → length xs ≡ 4 → P xs
of_four P f [] e = absurd (omega arith)
of_four P f (a ∷ []) e = absurd (omega arith)
of_four P f (a ∷ b ∷ []) e = absurd (omega arith)
of_four P f (a ∷ b ∷ c ∷ []) e = absurd (omega arith)
of_four P f (a ∷ b ∷ c ∷ d ∷ []) e = f a b c d
of_four P f (a ∷ b ∷ c ∷ d ∷ e ∷ more) h = absurd (omega arith)

either_len : (b : Bool) (xs ys : List ℕ) → length xs ≡ 6 → length ys ≡ 6
    → length (if b then xs else ys) ≡ 6
either_len true xs ys x y = x
either_len false xs ys x y = y

abbrev pub group_link : List ℕ → List ℕ
group_link address = 1 ∷ 0 ∷ 94 ∷ slice_index address 1 % 128 ∷ slice_index address 2
    ∷ slice_index address 3 ∷ []

abbrev pub machine_link : List ℕ → List ℕ
machine_link address = 2 ∷ 0 ∷ slice_index address 0 ∷ slice_index address 1
    ∷ slice_index address 2 ∷ slice_index address 3 ∷ []

pub heads_len : (address : List ℕ) → length (link_address address ++ sender_link) ≡ 12
heads_len address =
    let six = either_len (slice_index address 0 / 16 == 14) (group_link address)
    (machine_link address) refl refl in
    omega (arith, length-append (link_address address) sender_link, six)

packet_len : (to : Destination) (bytes : List ℕ) → length to.address ≡ 4
    → length (ipv4_bytes (packet_to to bytes) (datagram_to to bytes)) ≡ 28 + length bytes
packet_len to bytes four =
    omega (arith, length-append to.address (udp_bytes (datagram_to to bytes)))

-- a frame's headers have 42 bytes
pub frame_len : (to : Destination) (bytes : List ℕ) → length to.address ≡ 4
    → length (frame_bytes to bytes) ≡ 42 + length bytes
frame_len to bytes four =
    let packet = ipv4_bytes (packet_to to bytes) (datagram_to to bytes) in
    omega (
      arith,
      length-append (link_address to.address ++ sender_link) (8 ∷ 0 ∷ (packet ++ [])),
      heads_len to.address,
      ap (λ (x : List ℕ). length x) (append-nil packet),
      packet_len to bytes four,
    )

-- a time is its second and the parts of it
halves : (time : ℕ) → time / 1000000000 * 1000000000 + time % 1000000000 * 1 ≡ time
halves time = omega arith

pub same_frames : (ds : List TimedDatagram) → AllByRecursion FitsFrame ds
    → map (written_frame true 1) (map frame_of_datagram ds) ≡ map frame_read ds
same_frames [] all = refl
same_frames (d ∷ ds) all = rw (halves d.time, same_frames ds all.1) refl

pub same_bytes : (ds : List TimedDatagram)
    → flat_map (record_bytes Little) (map frame_of_datagram ds) ≡ flat_map datagram_record_bytes ds
same_bytes [] = refl
same_bytes (d ∷ ds) = ap (λ (x : List ℕ). datagram_record_bytes d ++ x) (same_bytes ds)

is_written : (d : TimedDatagram) → FitsFrame d → IsWrittenFrame (frame_of_datagram d)
is_written d is = record {
  seconds = let h = is.time in omega arith;
  parts = omega arith;
  wire_len = let h = is.short in omega arith;
  short = let h = is.short in omega (arith, frame_len d.to d.bytes is.address);
}

pub all_written : (ds : List TimedDatagram) → AllByRecursion FitsFrame ds
    → AllByRecursion IsWrittenFrame (map frame_of_datagram ds)
all_written [] all = tt
all_written (d ∷ ds) all = (is_written d all.0, all_written ds all.1)

pub is_packet : (d : TimedDatagram) → FitsFrame d
    → IsWrittenIpv4 (packet_to d.to d.bytes) (datagram_to d.to d.bytes)
is_packet d is = record {
  source = refl;
  destination = is.address;
  few = omega arith;
  options = refl;
  port = is.port;
  fits = let h = is.short in omega arith;
}
