-- A section that was written reads back.
use Rattle.std.proofs.Common.{◌≡◌, ℕ, ◌+◌, ◌-◌, ◌*◌, ◌^◌, ◌<◌, ◌≤◌, List, [], ◌∷◌, ◌++◌, length, take, drop, refl, sym, ap, subst, ◌∙◌, arith, inl, inr, length-append, append_assoc}
use Rattle.std.specs.Prelude.{◌/◌, ◌%◌, flat_map, map, Some, None, slice_get, slice_index}
use Rattle.std.proofs.lemmas.List.{get_or-append-add}
use Rattle.std.proofs.Math.Seq.{take-append_seam, drop-append_seam}
use Rattle.std.specs.List.{AllByRecursion}
use Rattle.packet_capture.specs.declared.fields.ByteOrder.{ByteOrder}
use Rattle.packet_capture.specs.declared.fields.ByteOrder.TheVariants.{Big, Little}
use Rattle.packet_capture.specs.declared.interface.Interface.{Interface}
use Rattle.packet_capture.specs.declared.content.BlockKind.TheVariants.{Description, Enhanced}
use Rattle.packet_capture.specs.declared.reader.Format.TheVariants.{InSection}
use Rattle.packet_capture.specs.Fields.{u16_in, u32_in, bytes_at}
use Rattle.packet_capture.specs.Frames.{FrameContent}
use Rattle.packet_capture.specs.Interfaces.{time_of, AreOptions, options_in, bare_interface}
use Rattle.packet_capture.specs.Savefiles.{magic_at}
use Rattle.packet_capture.specs.Blocks.{BeginsSection, order_at, IsBlock}
use Rattle.packet_capture.specs.Contents.{block_kind, HasFrame, BlockEvent, section_begins, interface_added, frame_came, BlockSays}
use Rattle.packet_capture.specs.DropReports.{report_of}
use Rattle.packet_capture.specs.Captures.{Context, new_context, PieceContent, frame_in_event, IsPiece, ArePieces, frames_of, IsCapture}
use Rattle.packet_capture.specs.Written.{u16_bytes, u32_bytes}
use Rattle.packet_capture.specs.WrittenSections.{block_bytes, section_header, interface_bytes, WrittenPacket, IsWrittenPacket, packet_bytes, section_bytes, written_interface, packet_frame}
use Rattle.packet_capture.proofs.WrittenBack.{two_back, number_back}

-- a number of four bytes after a part of a known length
index_after : (xs ys : List ℕ) (n j : ℕ) → length xs ≡ n
    → slice_index (xs ++ ys) (n + j) ≡ slice_index ys j
index_after xs ys n j len = ap (λ (m : ℕ). slice_index (xs ++ ys) (m + j)) (sym len)
    ∙ get_or-append-add xs ys j 0

last_number : (order : ByteOrder) (xs rest : List ℕ) (n m : ℕ) → length xs ≡ n → m < 2 ^ 32
    → u32_in order (xs ++ (u32_bytes order m ++ rest)) n ≡ m
unfolding u16_in u32_in
last_number Big xs rest n m len small =
    let ys : List ℕ = u32_bytes Big m ++ rest in
    let start : n ≡ n + 0 = omega arith in
    let last : n + 2 + 1 ≡ n + 3 = omega arith in
    let a : slice_index (xs ++ ys) n ≡ m / 65536 / 256 = ap (λ (k : ℕ). slice_index (xs ++ ys) k)
    start ∙ index_after xs ys n 0 len in
    let b : slice_index (xs ++ ys) (n + 1) ≡ m / 65536 % 256 = index_after xs ys n 1 len in
    let c : slice_index (xs ++ ys) (n + 2) ≡ m % 65536 / 256 = index_after xs ys n 2 len in
    let d : slice_index (xs ++ ys) (n + 2 + 1) ≡ m % 65536 % 256 =
    ap (λ (k : ℕ). slice_index (xs ++ ys) k) last ∙ index_after xs ys n 3 len in
    omega arith
last_number Little xs rest n m len small =
    let ys : List ℕ = u32_bytes Little m ++ rest in
    let start : n ≡ n + 0 = omega arith in
    let last : n + 2 + 1 ≡ n + 3 = omega arith in
    let a : slice_index (xs ++ ys) n ≡ m % 65536 % 256 = ap (λ (k : ℕ). slice_index (xs ++ ys) k)
    start ∙ index_after xs ys n 0 len in
    let b : slice_index (xs ++ ys) (n + 1) ≡ m % 65536 / 256 = index_after xs ys n 1 len in
    let c : slice_index (xs ++ ys) (n + 2) ≡ m / 65536 % 256 = index_after xs ys n 2 len in
    let d : slice_index (xs ++ ys) (n + 2 + 1) ≡ m / 65536 / 256 =
    ap (λ (k : ℕ). slice_index (xs ++ ys) k) last ∙ index_after xs ys n 3 len in
    omega arith

length-number : (order : ByteOrder) (n : ℕ) → length (u32_bytes order n) ≡ 4
length-number Big n = refl
length-number Little n = refl

length-block : (order : ByteOrder) (type : ℕ) (body : List ℕ)
    → length (block_bytes order type body) ≡ 12 + length body
length-block Big type body = omega (arith, length-append body (u32_bytes Big (12 + length body)))
length-block Little type body =
    omega (arith, length-append body (u32_bytes Little (12 + length body)))

-- a block's length at its front, and at its end
front_len : (order : ByteOrder) (type : ℕ) (body rest : List ℕ) → 12 + length body < 2 ^ 32
    → u32_in order (block_bytes order type body ++ rest) 4 ≡ 12 + length body
unfolding u16_in u32_in
front_len Big type body rest small = number_back (12 + length body) small
front_len Little type body rest small = number_back (12 + length body) small

heads : ByteOrder → ℕ → List ℕ → List ℕ
heads order type body = u32_bytes order type ++ (u32_bytes order (12 + length body) ++ body)

parted : (order : ByteOrder) (type : ℕ) (body rest : List ℕ) → block_bytes order type body
    ++ rest ≡ heads order type body ++ (u32_bytes order (12 + length body) ++ rest)
unfolding heads
parted Big type body rest = ap (λ (x : List ℕ). u32_bytes Big type
    ++ (u32_bytes Big (12 + length body) ++ x))
    (append_assoc body (u32_bytes Big (12 + length body)) rest)
parted Little type body rest = ap (λ (x : List ℕ). u32_bytes Little type
    ++ (u32_bytes Little (12 + length body) ++ x))
    (append_assoc body (u32_bytes Little (12 + length body)) rest)

length-heads : (order : ByteOrder) (type : ℕ) (body : List ℕ)
    → length (heads order type body) ≡ 8 + length body
unfolding heads
length-heads Big type body = omega arith
length-heads Little type body = omega arith

end_len : (order : ByteOrder) (type : ℕ) (body rest : List ℕ) → 12 + length body < 2 ^ 32
    → u32_in order (block_bytes order type body ++ rest) (8 + length body) ≡ 12 + length body
end_len order type body rest small =
    ap (λ (x : List ℕ). u32_in order x (8 + length body)) (parted order type body rest)
    ∙ last_number order (heads order type body) rest (8 + length body) (12 + length body)
    (length-heads order type body) small

is_block : (section order : ByteOrder) (type : ℕ) (body rest : List ℕ)
    → order_at section (block_bytes order type body ++ rest) ≡ Some order → length body ≤ 1048564
    → length body % 4 ≡ 0 → IsBlock section (block_bytes order type body ++ rest) order
    (block_bytes order type body)
is_block section order type body rest order_is short even =
    let bytes : List ℕ = block_bytes order type body ++ rest in
    let front = front_len order type body rest (omega arith) in
    let len = length-append (block_bytes order type body) rest in
    let own = length-block order type body in
    let at_end : u32_in order bytes 4 - 4 ≡ 8 + length body = omega arith in
    let back : u32_in order bytes (u32_in order bytes 4 - 4) ≡ 12 + length body =
    ap (λ (k : ℕ). u32_in order bytes k) at_end ∙ end_len order type body rest (omega arith) in
    record {
      there = omega arith;
      order_is = order_is;
      counted = (omega arith, omega arith);
      short = omega arith;
      whole = omega arith;
      again = back ∙ sym front;
      block_is = sym (ap (λ (k : ℕ). take k bytes) (front ∙ sym own)
          ∙ take-append_seam (block_bytes order type body) rest);
    }

after_block : (order : ByteOrder) (type : ℕ) (body rest : List ℕ) (n : ℕ)
    → n ≡ length (block_bytes order type body) → drop n (block_bytes order type body ++ rest) ≡ rest
after_block order type body rest n e = ap (λ (k : ℕ). drop k (block_bytes order type body ++ rest))
    e ∙ drop-append_seam (block_bytes order type body) rest

-- contexts and pieces
abbrev pub section_begun : ByteOrder → Context
section_begun order = record { format = InSection order; interfaces = [] }

abbrev pub with_interface : ByteOrder → ℕ → ℕ → Context
with_interface order link snap_len = record {
  format = InSection order;
  interfaces =
      written_interface link snap_len ∷ [];
}

abbrev block_piece : ByteOrder → List ℕ → BlockEvent → PieceContent
block_piece order block event = record {
  len = length block;
  frame = frame_in_event event;
  dropped = report_of order block;
}

abbrev packet_piece : ByteOrder → ℕ → ℕ → WrittenPacket → PieceContent
packet_piece order link snap_len p = block_piece order (packet_bytes order p)
    (frame_came (packet_frame link snap_len p))

-- the header
section_order : (section order : ByteOrder) (rest : List ℕ)
    → order_at section (section_header order ++ rest) ≡ Some order
unfolding u16_in u32_in
section_order section Big rest = refl
section_order section Little rest = refl

section_says : (order : ByteOrder) (is : List Interface)
    → BlockSays is order (section_header order) section_begins
unfolding u16_in u32_in
section_says Big is = (refl, omega arith, (refl, inl refl))
section_says Little is = (refl, omega arith, (refl, inl refl))

section_body : (order : ByteOrder) (rest : List ℕ) → IsBlock Big (section_header order ++ rest)
    order (section_header order)
section_body Big rest = is_block Big Big 168627466 (u32_bytes Big 439041101
    ++ (u16_bytes Big 1
    ++ (u16_bytes Big 0 ++ (u32_bytes Big 4294967295 ++ u32_bytes Big 4294967295)))) rest
    (section_order Big Big rest) (omega arith) refl
section_body Little rest = is_block Big Little 168627466 (u32_bytes Little 439041101
    ++ (u16_bytes Little 1 ++ (u16_bytes Little 0 ++ (u32_bytes Little 4294967295
    ++ u32_bytes Little 4294967295)))) rest (section_order Big Little rest) (omega arith) refl

no_magic : (order : ByteOrder) (rest : List ℕ) → (magic_at (section_header order ++ rest) ≡ None)
    × BeginsSection (section_header order ++ rest)
unfolding u16_in u32_in
no_magic Big rest = (refl, refl)
no_magic Little rest = (refl, refl)

first_piece : (order : ByteOrder) (rest : List ℕ) → IsPiece new_context (section_header order
    ++ rest) (block_piece order (section_header order) section_begins) (section_begun order)
first_piece order rest = inr (record {
  there = omega (arith, length-append (section_header order) rest, length-section order);
  no_savefile = (no_magic order rest).0;
  section = (no_magic order rest).1;
  block = record {
    order = order;
    block = section_header order;
    is_block = section_body order rest;
    event = section_begins;
    says = section_says order [];
    few = omega arith;
    len = refl;
    frame = refl;
    dropped = refl;
    after_is = refl;
  };
})
  where
    length-section : (order : ByteOrder) → length (section_header order) ≡ 28
    length-section Big = refl
    length-section Little = refl

-- the interface
interface_order : (order : ByteOrder) (link snap_len : ℕ) (rest : List ℕ)
    → order_at order (interface_bytes order link snap_len ++ rest) ≡ Some order
unfolding u16_in u32_in
interface_order Big link snap_len rest = refl
interface_order Little link snap_len rest = refl

interface_is : (order : ByteOrder) (link snap_len : ℕ) → snap_len < 2 ^ 32
    → written_interface link snap_len ≡ bare_interface order (interface_bytes order link snap_len)
unfolding u16_in u32_in
interface_is Big link snap_len small = let a = sym (two_back link)
    in let b = sym (number_back snap_len small)
    in λ i. record { link = a i; snap_len = b i; resolution = 6; offset = 0 }
interface_is Little link snap_len small = let a = sym (two_back link)
    in let b = sym (number_back snap_len small)
    in λ i. record { link = a i; snap_len = b i; resolution = 6; offset = 0 }

interface_kind : (order : ByteOrder) (link snap_len : ℕ)
    → block_kind order (interface_bytes order link snap_len) ≡ Description
unfolding u16_in u32_in
interface_kind Big link snap_len = refl
interface_kind Little link snap_len = refl

no_options : (order : ByteOrder) (link snap_len : ℕ)
    → AreOptions order (options_in (interface_bytes order link snap_len)) []
no_options Big link snap_len = λ four. absurd (omega arith)
no_options Little link snap_len = λ four. absurd (omega arith)

length-interface : (order : ByteOrder) (link snap_len : ℕ)
    → length (interface_bytes order link snap_len) ≡ 20
length-interface Big link snap_len = refl
length-interface Little link snap_len = refl

interface_body : (order : ByteOrder) (link snap_len : ℕ) (rest : List ℕ)
    → IsBlock order (interface_bytes order link snap_len ++ rest) order
    (interface_bytes order link snap_len)
interface_body Big link snap_len rest = is_block Big Big 1 (u16_bytes Big link
    ++ (u16_bytes Big 0 ++ u32_bytes Big snap_len)) rest (interface_order Big link snap_len rest)
    (omega arith) refl
interface_body Little link snap_len rest = is_block Little Little 1 (u16_bytes Little link
    ++ (u16_bytes Little 0 ++ u32_bytes Little snap_len)) rest (interface_order Little link snap_len
    rest) (omega arith) refl

interface_piece : (order : ByteOrder) (link snap_len : ℕ) (rest : List ℕ) → snap_len < 2 ^ 32
    → IsPiece (section_begun order) (interface_bytes order link snap_len ++ rest)
    (block_piece order (interface_bytes order link snap_len)
    (interface_added (written_interface link snap_len))) (with_interface order link snap_len)
interface_piece order link snap_len rest small = record {
  order = order;
  block = interface_bytes order link snap_len;
  is_block = interface_body order link snap_len rest;
  event = interface_added (written_interface link snap_len);
  says = (
    interface_kind order link snap_len,
    (
      omega (arith, length-interface order link snap_len),
      record {
        options = [];
        are = no_options order link snap_len;
        is = interface_is order
            link snap_len small;
      },
    ),
  );
  few = omega arith;
  len = refl;
  frame = refl;
  dropped = refl;
  after_is = refl;
}

-- a packet
packet_body : ByteOrder → WrittenPacket → List ℕ
packet_body order p =
    u32_bytes order 0
    ++ (u32_bytes order (p.ticks / 4294967296) ++ (u32_bytes order (p.ticks % 4294967296)
    ++ (u32_bytes order (length p.bytes) ++ (u32_bytes order p.wire_len
    ++ (p.bytes ++ p.filling)))))

length-body : (order : ByteOrder) (p : WrittenPacket)
    → length (packet_body order p) ≡ 20 + (length p.bytes + length p.filling)
unfolding packet_body
length-body Big p = omega (arith, length-append p.bytes p.filling)
length-body Little p = omega (arith, length-append p.bytes p.filling)

packet_order : (order : ByteOrder) (p : WrittenPacket) (rest : List ℕ)
    → order_at order (packet_bytes order p ++ rest) ≡ Some order
unfolding u16_in u32_in
packet_order Big p rest = refl
packet_order Little p rest = refl

packet_block : (order : ByteOrder) (p : WrittenPacket) (rest : List ℕ) → IsWrittenPacket p
    → IsBlock order (packet_bytes order p ++ rest) order (packet_bytes order p)
unfolding packet_body
packet_block order p rest h =
    let short = h.short in
    let filled = h.filled in
    let len = length-body order p in
    is_block order order 6 (packet_body order p) rest (packet_order order p rest)
    (omega arith) (omega arith)

packet_field : (order : ByteOrder) (p : WrittenPacket) → IsWrittenPacket p
    → (u32_in order (packet_bytes order p) 12 ≡ p.ticks / 4294967296)
    × (u32_in order (packet_bytes order p) 16 ≡ p.ticks % 4294967296)
    × (u32_in order (packet_bytes order p) 20 ≡ length p.bytes)
    × (u32_in order (packet_bytes order p) 24 ≡ p.wire_len)
unfolding u16_in u32_in
packet_field Big p h = let t = h.ticks in let s = h.short
    in (
      number_back (p.ticks / 4294967296) (omega arith),
      number_back (p.ticks % 4294967296)
          (omega arith),
      number_back (length p.bytes) (omega arith),
      number_back p.wire_len h.wire_len,
    )
packet_field Little p h = let t = h.ticks in let s = h.short
    in (
      number_back (p.ticks / 4294967296) (omega arith),
      number_back (p.ticks % 4294967296)
          (omega arith),
      number_back (length p.bytes) (omega arith),
      number_back p.wire_len h.wire_len,
    )

packet_kind : (order : ByteOrder) (p : WrittenPacket)
    → (Enhanced ≡ block_kind order (packet_bytes order p))
    × (u32_in order (packet_bytes order p) 8 ≡ 0)
unfolding u16_in u32_in
packet_kind Big p = (refl, refl)
packet_kind Little p = (refl, refl)

packet_rest : (order : ByteOrder) (p : WrittenPacket) → drop 28 (packet_bytes order p) ≡ p.bytes
    ++ (p.filling ++ u32_bytes order (12 + length (packet_body order p)))
unfolding packet_body
packet_rest Big p = append_assoc p.bytes p.filling (u32_bytes Big (12 + length (packet_body Big p)))
packet_rest Little p = append_assoc p.bytes p.filling
    (u32_bytes Little (12 + length (packet_body Little p)))

length-packet : (order : ByteOrder) (p : WrittenPacket)
    → length (packet_bytes order p) ≡ 32 + (length p.bytes + length p.filling)
unfolding packet_body
length-packet order p = let len = length-body order p in length-block order 6 (packet_body order p)
    ∙ omega arith

has_frame : (order : ByteOrder) (link snap_len : ℕ) (p : WrittenPacket) → IsWrittenPacket p
    → HasFrame (written_interface link snap_len ∷ []) order (packet_bytes order p)
    (packet_frame link snap_len p)
has_frame order link snap_len p h =
    let i : Interface = written_interface link snap_len in
    let block : List ℕ = packet_bytes order p in
    let at = packet_field order p h in
    let kind = packet_kind order p in
    let len = length-packet order p in
    let captured = at.2 in
    let high = at.0 in
    let low = at.1 in
    let ticks : p.ticks ≡ u32_in order block 12 * 4294967296 + u32_in order block 16 = omega arith
    in
    let time : time_of i p.ticks ≡ time_of i (u32_in order block 12 * 4294967296 + u32_in order
    block 16) = ap (λ (n : ℕ). time_of i n) ticks in
    let wire : p.wire_len ≡ u32_in order block 24 = sym at.3 in
    let tail : List ℕ = p.filling ++ u32_bytes order (12 + length (packet_body order p)) in
    let bytes : p.bytes ≡ bytes_at block 28 (u32_in order block 20) =
    sym (take-append_seam p.bytes tail)
    ∙ ap (λ (x : List ℕ). take (length p.bytes) x) (sym (packet_rest order p))
    ∙ ap (λ (n : ℕ). take n (drop 28 block)) (sym captured) in
    record {
      kind = Enhanced;
      kind_is = kind.0;
      is_packet = tt;
      there = omega arith;
      interface = i;
      interface_is = ap (λ (n : ℕ). slice_get (i ∷ []) n) kind.1;
      whole = omega arith;
      is = λ j. record { link = link; time = time j; wire_len = wire j; bytes = bytes j };
    }

packet_is : (order : ByteOrder) (link snap_len : ℕ) (p : WrittenPacket) (rest : List ℕ)
    → IsWrittenPacket p → IsPiece (with_interface order link snap_len) (packet_bytes order p
    ++ rest) (packet_piece order link snap_len p) (with_interface order link snap_len)
packet_is order link snap_len p rest h = record {
  order = order;
  block = packet_bytes order p;
  is_block = packet_block order p rest h;
  event = frame_came (packet_frame link snap_len p);
  says = has_frame order link snap_len p h;
  few = omega arith;
  len = refl;
  frame = refl;
  dropped = refl;
  after_is = refl;
}

packets_are : (order : ByteOrder) (link snap_len : ℕ) (ps : List WrittenPacket)
    → AllByRecursion IsWrittenPacket ps → ArePieces (with_interface order link snap_len)
    (flat_map (packet_bytes order) ps) (map (packet_piece order link snap_len) ps)
    (with_interface order link snap_len) []
packets_are order link snap_len [] each = (refl, refl)
packets_are order link snap_len (p ∷ ps) each =
    let rest : List ℕ = flat_map (packet_bytes order) ps in
    let C : Context = with_interface order link snap_len in
    let P : List ℕ → Type 0 = λ x. ArePieces C x (map (packet_piece order link snap_len) ps) C []
    in (
      C,
      packet_is order link snap_len p rest each.0,
      subst P (sym (drop-append_seam (packet_bytes order p) rest))
          (packets_are order link snap_len ps each.1),
    )

packet_frames : (order : ByteOrder) (link snap_len : ℕ) (ps : List WrittenPacket)
    → map (packet_frame link snap_len) ps ≡ frames_of (map (packet_piece order link snap_len) ps)
packet_frames order link snap_len [] = refl
packet_frames order link snap_len (p ∷ ps) = ap (λ (xs : List FrameContent). packet_frame link
    snap_len p ∷ xs) (packet_frames order link snap_len ps)

pub section_back : (order : ByteOrder) (link snap_len : ℕ) (ps : List WrittenPacket)
    → snap_len < 2 ^ 32 → AllByRecursion IsWrittenPacket ps
    → IsCapture (section_bytes order link snap_len ps) (map (packet_frame link snap_len) ps)
section_back order link snap_len ps small each =
    let packets : List ℕ = flat_map (packet_bytes order) ps in
    let second : List ℕ = interface_bytes order link snap_len ++ packets in
    let pieces : List PieceContent = map (packet_piece order link snap_len) ps in
    let last : Context = with_interface order link snap_len in
    let P : List ℕ → Type 0 = λ x. ArePieces last x pieces last [] in
    let interface_first : ArePieces (section_begun order) second
    (block_piece order (interface_bytes order link snap_len)
    (interface_added (written_interface link snap_len)) ∷ pieces) last [] = (
      last,
      interface_piece order link snap_len packets small,
      subst P (sym (drop-append_seam (interface_bytes order link snap_len) packets))
          (packets_are order link snap_len ps each),
    ) in
    let Q : List ℕ → Type 0 = λ x. ArePieces (section_begun order) x
    (block_piece order (interface_bytes order link snap_len)
    (interface_added (written_interface link snap_len)) ∷ pieces) last [] in
    record {
      first = block_piece order (section_header order) section_begins;
      others = block_piece order (interface_bytes order link snap_len)
          (interface_added (written_interface link snap_len)) ∷ pieces;
      after = last;
      are = (
        section_begun order,
        first_piece order second,
        subst Q (sym (drop-append_seam (section_header order) second)) interface_first,
      );
      frames_are = packet_frames order link snap_len ps;
    }
