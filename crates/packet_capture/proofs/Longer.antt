-- A piece, or a fault, at the front of bytes is there whatever follows them.
use Rattle.std.proofs.Common.{◌≡◌, ℕ, ◌+◌, ◌-◌, ◌*◌, ◌<◌, ◌≤◌, List, ◌++◌, length, take, drop, sym, ap, subst, ◌∙◌, arith, inl, inr, length-append, length-drop}
use Rattle.std.specs.Prelude.{◌==◌, ◌%◌, true, false, Option, Some, None, slice_index, if◌then◌else◌}
use Rattle.std.proofs.Math.ListN.{get_or-append}
use Rattle.std.proofs.lemmas.List.{take-append-le, drop-append-le}
use Rattle.packet_capture.specs.declared.fields.ByteOrder.{ByteOrder}
use Rattle.packet_capture.specs.declared.fields.ByteOrder.TheVariants.{Big, Little}
use Rattle.packet_capture.specs.declared.fault.CaptureFault.{CaptureFault}
use Rattle.packet_capture.specs.declared.reader.Format.{Format}
use Rattle.packet_capture.specs.declared.reader.Format.TheVariants.{Start, InSavefile, InSection}
use Rattle.packet_capture.specs.declared.savefile.Magic.{Magic}
use Rattle.packet_capture.specs.declared.savefile.Savefile.{Savefile}
use Rattle.packet_capture.specs.declared.stop.NoPiece.{NoPiece}
use Rattle.packet_capture.specs.declared.stop.NoPiece.TheVariants.{Bad, Wants}
use Rattle.packet_capture.specs.Fields.{u16_in, u32_in, bytes_at}
use Rattle.packet_capture.specs.Frames.{FrameContent}
use Rattle.packet_capture.specs.Savefiles.{magic_of, magic_at, IsVersion, BeginsSavefile, HasOtherVersion, captured_at, IsPacketRecord}
use Rattle.packet_capture.specs.Blocks.{order_at, IsBlockLen, IsBlock}
use Rattle.packet_capture.specs.Stops.{StopsInHeader, StopsInRecord, StopsInLen, StopsInBlock}
use Rattle.packet_capture.specs.Captures.{Context, PieceContent, IsRecordPiece, IsBlockPiece, IsPieceIn, IsPiece, StopsInSection, StopsIn, StopsReading}

-- numbers and bytes
index_longer : (xs more : List ℕ) (i : ℕ) → i < length xs
    → slice_index (xs ++ more) i ≡ slice_index xs i
index_longer xs more i h = get_or-append xs more 0 i h

u16_longer : (order : ByteOrder) (xs more : List ℕ) (at : ℕ) → at + 2 ≤ length xs
    → u16_in order (xs ++ more) at ≡ u16_in order xs at
unfolding u16_in
u16_longer Big xs more at h =
    ap (λ (n : ℕ). n * 256 + slice_index (xs ++ more) (at + 1))
    (index_longer xs more at (omega arith))
    ∙ ap (λ (n : ℕ). slice_index xs at * 256 + n) (index_longer xs more (at + 1) (omega arith))
u16_longer Little xs more at h =
    ap (λ (n : ℕ). n * 256 + slice_index (xs ++ more) at)
    (index_longer xs more (at + 1) (omega arith))
    ∙ ap (λ (n : ℕ). slice_index xs (at + 1) * 256 + n) (index_longer xs more at (omega arith))

u32_longer : (order : ByteOrder) (xs more : List ℕ) (at : ℕ) → at + 4 ≤ length xs
    → u32_in order (xs ++ more) at ≡ u32_in order xs at
unfolding u32_in
u32_longer Big xs more at h =
    ap (λ (n : ℕ). n * 65536 + u16_in Big (xs ++ more) (at + 2))
    (u16_longer Big xs more at (omega arith))
    ∙ ap (λ (n : ℕ). u16_in Big xs at * 65536 + n) (u16_longer Big xs more (at + 2) (omega arith))
u32_longer Little xs more at h =
    ap (λ (n : ℕ). n * 65536 + u16_in Little (xs ++ more) at) (u16_longer Little xs more
    (at + 2) (omega arith))
    ∙ ap (λ (n : ℕ). u16_in Little xs (at + 2) * 65536 + n)
    (u16_longer Little xs more at (omega arith))

bytes_longer : (xs more : List ℕ) (at len : ℕ) → at + len ≤ length xs
    → bytes_at (xs ++ more) at len ≡ bytes_at xs at len
bytes_longer xs more at len h =
    ap (λ (ys : List ℕ). take len ys) (drop-append-le at xs more (omega arith))
    ∙ take-append-le len (drop at xs) more (omega (arith, length-drop at xs))

longer : (xs more : List ℕ) (n : ℕ) → n ≤ length xs → n ≤ length (xs ++ more)
longer xs more n h = omega (arith, length-append xs more)

-- a savefile's header
magic_by : ℕ → ℕ → Option Magic
magic_by big little =
    if big == 2712847316 then Some (magic_of true false)
    else (if big == 2712812621 then Some (magic_of true true)
    else (if little == 2712847316 then Some (magic_of false false)
    else (if little == 2712812621 then Some (magic_of false true) else None)))

magic_longer : (xs more : List ℕ) → 4 ≤ length xs → magic_at (xs ++ more) ≡ magic_at xs
unfolding magic_by
magic_longer xs more h =
    ap (λ (n : ℕ). magic_by n (u32_in Little (xs ++ more) 0)) (u32_longer Big xs more 0 h)
    ∙ ap (λ (n : ℕ). magic_by (u32_in Big xs 0) n) (u32_longer Little xs more 0 h)

version_longer : (m : Magic) (xs more : List ℕ) → 24 ≤ length xs → IsVersion m xs
    → IsVersion m (xs ++ more)
version_longer m xs more h v = (
  u16_longer m.order xs more 4 (omega arith) ∙ v.0,
  u16_longer m.order
      xs more 6 (omega arith) ∙ v.1,
)

version_shorter : (m : Magic) (xs more : List ℕ) → 24 ≤ length xs
    → IsVersion m (xs ++ more) → IsVersion m xs
version_shorter m xs more h v = (
  sym (u16_longer m.order xs more 4 (omega arith))
      ∙ v.0,
  sym (u16_longer m.order xs more 6 (omega arith)) ∙ v.1,
)

begins_longer : (xs more : List ℕ) (s : Savefile) → BeginsSavefile xs s
    → BeginsSavefile (xs ++ more) s
begins_longer xs more s h =
    let there = h.there in
    let link = u32_longer h.magic.order xs more 20 (omega arith) in
    let S : ℕ → Savefile = λ n. record { magic = h.magic; link = n % 65536 } in
    record {
      there = longer xs more 24 there;
      magic = h.magic;
      magic_is = magic_longer xs more (omega arith) ∙ h.magic_is;
      version = version_longer h.magic xs more there h.version;
      is = h.is ∙ ap S (sym link);
    }

other_longer : (xs more : List ℕ) → HasOtherVersion xs → HasOtherVersion (xs ++ more)
other_longer xs more h =
    let there = h.there in
    record {
      there = longer xs more 24 there;
      magic = h.magic;
      magic_is = magic_longer xs more (omega arith) ∙ h.magic_is;
      other = λ v. h.other (version_shorter h.magic xs more there v);
    }

-- a packet record
record_longer : (s : Savefile) (xs more : List ℕ) (f : FrameContent) → IsPacketRecord s xs f
    → IsPacketRecord s (xs ++ more) f
record_longer s xs more f h =
    let there = h.there in
    let whole = h.whole in
    let short = h.short in
    let order : ByteOrder = s.magic.order in
    let captured : captured_at s (xs ++ more) ≡ captured_at s xs = u32_longer order xs
    more 8 (omega arith) in
    let unit : ℕ = if s.magic.nanoseconds then 1 else 1000 in
    let T : ℕ → ℕ → Option ℕ = λ a b. Some (a * 1000000000 + b * unit) in
    let seconds = u32_longer order xs more 0 (omega arith) in
    let parts = u32_longer order xs more 4 (omega arith) in
    record {
      there = longer xs more 16 there;
      short = omega arith;
      whole = let all = longer xs more (16 + captured_at s xs) whole in omega arith;
      link = h.link;
      time = h.time ∙ ap (λ (n : ℕ). T n (u32_in order xs 4)) (sym seconds)
          ∙ ap (λ (n : ℕ). T (u32_in order (xs ++ more) 0) n) (sym parts);
      wire_len = h.wire_len ∙ sym (u32_longer order xs more 12 (omega arith));
      bytes_are = h.bytes_are ∙ sym (ap (λ (n : ℕ). bytes_at (xs ++ more) 16 n) captured
          ∙ bytes_longer xs more 16 (captured_at s xs) whole);
    }

-- a block
order_by : ByteOrder → ℕ → ℕ → ℕ → Option ByteOrder
order_by section type big little =
    if type == 168627466
    then (if big == 439041101 then Some Big else (if little == 439041101 then
    Some Little else None))
    else Some section

order_longer : (section : ByteOrder) (xs more : List ℕ) → 12 ≤ length xs
    → order_at section (xs ++ more) ≡ order_at section xs
unfolding order_by
order_longer section xs more h =
    ap (λ (n : ℕ). order_by section n (u32_in Big (xs ++ more) 8) (u32_in Little (xs ++ more) 8))
    (u32_longer Big xs more 0 (omega arith))
    ∙ ap (λ (n : ℕ). order_by section (u32_in Big xs 0) n (u32_in Little (xs ++ more) 8))
    (u32_longer Big xs more 8 (omega arith))
    ∙ ap (λ (n : ℕ). order_by section (u32_in Big xs 0) (u32_in Big xs 8) n)
    (u32_longer Little xs more 8 (omega arith))

block_longer : (section : ByteOrder) (xs more : List ℕ) (order : ByteOrder) (block : List ℕ)
    → IsBlock section xs order block → IsBlock section (xs ++ more) order block
block_longer section xs more order block h =
    let there = h.there in
    let len : u32_in order (xs ++ more) 4 ≡ u32_in order xs 4 = u32_longer order xs
    more 4 (omega arith) in
    let P : ℕ → Type 0 = λ k. IsBlockLen k in
    let least = h.counted.0 in
    let whole = h.whole in
    let short = h.short in
    record {
      there = longer xs more 12 there;
      order_is = order_longer section xs more there ∙ h.order_is;
      counted = subst P (sym len) h.counted;
      short = omega arith;
      whole = let all = longer xs more (u32_in order xs 4) whole in omega arith;
      again = ap (λ (k : ℕ). u32_in order (xs ++ more) (k - 4)) len
          ∙ u32_longer order xs more (u32_in order xs 4 - 4) (omega arith) ∙ h.again ∙ sym len;
      block_is = h.block_is ∙ sym (ap (λ (k : ℕ). take k (xs ++ more)) len
          ∙ take-append-le (u32_in order xs 4) xs more whole);
    }

block_piece_longer : (section : ByteOrder) (before after : Context) (xs more : List ℕ)
    (p : PieceContent) → IsBlockPiece section before xs p after
    → IsBlockPiece section before (xs ++ more) p after
block_piece_longer section before after xs more p h = record {
  order = h.order;
  block = h.block;
  is_block = block_longer section xs more h.order h.block h.is_block;
  event = h.event;
  says = h.says;
  few = h.few;
  len = h.len;
  frame = h.frame;
  dropped = h.dropped;
  after_is = h.after_is;
}

record_piece_longer : (s : Savefile) (before after : Context) (xs more : List ℕ) (p : PieceContent)
    → IsRecordPiece s before xs p after → IsRecordPiece s before (xs ++ more) p after
record_piece_longer s before after xs more p h =
    let there = h.is_record.there in
    record {
      frame = h.frame;
      is_record = record_longer s xs more h.frame h.is_record;
      len = h.len ∙ ap (λ (n : ℕ). 16 + n) (sym (u32_longer s.magic.order xs more 8 (omega arith)));
      frame_is = h.frame_is;
      dropped = h.dropped;
      after_is = h.after_is;
    }

piece_longer_in : (format : Format) (before after : Context) (xs more : List ℕ) (p : PieceContent)
    → IsPieceIn format before xs p after → IsPieceIn format before (xs ++ more) p after
piece_longer_in Start before after xs more p (inl h) = inl (record {
  there = longer xs more 4 h.there;
  savefile = h.savefile;
  begins = begins_longer xs more h.savefile h.begins;
  len = h.len;
  frame = h.frame;
  dropped = h.dropped;
  after_is = h.after_is;
})
piece_longer_in Start before after xs more p (inr h) = inr (record {
  there = longer xs more 4 h.there;
  no_savefile = magic_longer xs more h.there ∙ h.no_savefile;
  section = u32_longer Big xs more 0 h.there ∙ h.section;
  block = block_piece_longer Big before after xs more p h.block;
})
piece_longer_in (InSavefile s) before after xs more p h = record_piece_longer s
    before after xs more p h
piece_longer_in (InSection order) before after xs more p h = block_piece_longer order
    before after xs more p h

pub piece_longer : (before after : Context) (xs more : List ℕ) (p : PieceContent)
    → IsPiece before xs p after → IsPiece before (xs ++ more) p after
piece_longer before after xs more p h = piece_longer_in before.format before after xs more p h

-- faults
abbrev is_wants : NoPiece → ℕ
is_wants (Bad f) = 0
is_wants (Wants n) = 1

wanted : (f : CaptureFault) (n : ℕ) → Bad f ≡ Wants n → ⊥
wanted f n e = let one = ap is_wants e in omega arith

header_fault_longer : (xs more : List ℕ) (f : CaptureFault) → StopsInHeader xs (Bad f)
    → StopsInHeader (xs ++ more) (Bad f)
header_fault_longer xs more f (inl h) = absurd (wanted f 24 h.1)
header_fault_longer xs more f (inr h) = inr (other_longer xs more h.0, h.1)

record_fault_longer : (s : Savefile) (xs more : List ℕ) (f : CaptureFault)
    → StopsInRecord s xs (Bad f) → StopsInRecord s (xs ++ more) (Bad f)
record_fault_longer s xs more f (inl h) = absurd (wanted f 16 h.1)
record_fault_longer s xs more f (inr (inl h)) =
    let there = h.0 in
    let long = h.1 in
    let captured : captured_at s (xs ++ more) ≡ captured_at s xs = u32_longer s.magic.order xs
    more 8 (omega arith) in
    inr (inl (longer xs more 16 there, omega arith, h.2))
record_fault_longer s xs more f (inr (inr h)) = absurd (wanted f (16 + captured_at s xs) h.3)

len_fault_longer : (order : ByteOrder) (xs more : List ℕ) (f : CaptureFault) → 12 ≤ length xs
    → StopsInLen order xs (Bad f) → StopsInLen order (xs ++ more) (Bad f)
len_fault_longer order xs more f there (inl h) =
    let len : u32_in order (xs ++ more) 4 ≡ u32_in order xs 4 = u32_longer order xs
    more 4 (omega arith) in
    let P : ℕ → Type 0 = λ k. IsBlockLen k in
    inl ((λ c. h.0 (subst P len c)), h.1)
len_fault_longer order xs more f there (inr (inl h)) =
    let len : u32_in order (xs ++ more) 4 ≡ u32_in order xs 4 = u32_longer order xs
    more 4 (omega arith) in
    let P : ℕ → Type 0 = λ k. IsBlockLen k in
    let long = h.1 in
    inr (inl (subst P (sym len) h.0, omega arith, h.2))
len_fault_longer order xs more f there (inr (inr (inl h))) =
    absurd (wanted f (u32_in order xs 4) h.3)
len_fault_longer order xs more f there (inr (inr (inr h))) =
    let len : u32_in order (xs ++ more) 4 ≡ u32_in order xs 4 = u32_longer order xs
    more 4 (omega arith) in
    let P : ℕ → Type 0 = λ k. IsBlockLen k in
    let least = h.0.0 in
    let short = h.1 in
    let whole = h.2 in
    let all = longer xs more (u32_in order xs 4) whole in
    let last : u32_in order (xs ++ more) (u32_in order (xs ++ more) 4 - 4) ≡ u32_in order xs
    (u32_in order xs 4 - 4) =
    ap (λ (k : ℕ). u32_in order (xs ++ more) (k - 4)) len
    ∙ u32_longer order xs more (u32_in order xs 4 - 4) (omega arith) in
    inr (inr (inr (
      subst P (sym len) h.0,
      omega arith,
      omega arith,
      (λ e. h.3 (sym last ∙ e ∙ len)),
      h.4,
    )))

block_fault_longer : (section : ByteOrder) (xs more : List ℕ) (f : CaptureFault)
    → StopsInBlock section xs (Bad f) → StopsInBlock section (xs ++ more) (Bad f)
block_fault_longer section xs more f (inl h) = absurd (wanted f 12 h.1)
block_fault_longer section xs more f (inr (inl h)) =
    inr (inl (longer xs more 12 h.0, order_longer section xs more h.0 ∙ h.1, h.2))
block_fault_longer section xs more f (inr (inr h)) =
    inr (inr (
      longer xs more 12 h.0,
      (
        h.1.0,
        order_longer section xs more h.0
            ∙ h.1.1,
        len_fault_longer h.1.0 xs more f h.0 h.1.2,
      ),
    ))

section_fault_longer : (section : ByteOrder) (before : Context) (xs more : List ℕ)
    (f : CaptureFault) → StopsInSection section before xs (Bad f)
    → StopsInSection section before (xs ++ more) (Bad f)
section_fault_longer section before xs more f (inl h) = inl (block_fault_longer section xs more f h)
section_fault_longer section before xs more f (inr h) = inr (record {
  order = h.order;
  block = h.block;
  is_block = block_longer section xs more h.order h.block h.is_block;
  fault = h.fault;
  stop_is = h.stop_is;
  why = h.why;
})

fault_longer_in : (format : Format) (before : Context) (xs more : List ℕ) (f : CaptureFault)
    → StopsIn format before xs (Bad f) → StopsIn format before (xs ++ more) (Bad f)
fault_longer_in Start before xs more f (inl h) = absurd (wanted f 4 h.1)
fault_longer_in Start before xs more f (inr (inl h)) =
    inr (inl (
      longer xs more 4 h.0,
      magic_longer xs more h.0
          ∙ h.1,
      (λ e. h.2 (sym (u32_longer Big xs more 0 h.0) ∙ e)),
      h.3,
    ))
fault_longer_in Start before xs more f (inr (inr (inl h))) =
    inr (inr (inl (
      longer xs more 4 h.0,
      (h.1.0, magic_longer xs more h.0 ∙ h.1.1),
      header_fault_longer xs more f h.2,
    )))
fault_longer_in Start before xs more f (inr (inr (inr h))) =
    inr (inr (inr (
      longer xs more 4 h.0,
      magic_longer xs more h.0 ∙ h.1,
      u32_longer Big xs more 0
          h.0 ∙ h.2,
      section_fault_longer Big before xs more f h.3,
    )))
fault_longer_in (InSavefile s) before xs more f h = record_fault_longer s xs more f h
fault_longer_in (InSection order) before xs more f h = section_fault_longer order before xs more f h

pub fault_longer : (before : Context) (xs more : List ℕ) (f : CaptureFault)
    → StopsReading before xs (Bad f) → StopsReading before (xs ++ more) (Bad f)
fault_longer before xs more f h = fault_longer_in before.format before xs more f h
