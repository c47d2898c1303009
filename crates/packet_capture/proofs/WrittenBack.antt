-- A savefile that was written reads back.
use Rattle.std.proofs.Common.{◌≡◌, ℕ, ◌+◌, ◌*◌, ◌^◌, ◌<◌, Bool, true, false, List, [], ◌∷◌, ◌++◌, length, take, drop, refl, sym, ap, subst, ◌∙◌, arith, inl, length-append}
use Rattle.std.specs.Prelude.{◌/◌, ◌%◌, flat_map, map, Option, Some, None, if◌then◌else◌}
use Rattle.std.proofs.lemmas.List.{drop-drop}
use Rattle.std.proofs.Math.Seq.{take-append_seam, drop-append_seam}
use Rattle.std.specs.List.{AllByRecursion}
use Rattle.packet_capture.specs.declared.fields.ByteOrder.{ByteOrder}
use Rattle.packet_capture.specs.declared.fields.ByteOrder.TheVariants.{Big, Little}
use Rattle.packet_capture.specs.declared.drop_report.DropReport.TheVariants.{Silent}
use Rattle.packet_capture.specs.declared.savefile.Savefile.{Savefile}
use Rattle.packet_capture.specs.declared.reader.Format.TheVariants.{InSavefile}
use Rattle.packet_capture.specs.Fields.{u16_in, u32_in}
use Rattle.packet_capture.specs.Frames.{FrameContent}
use Rattle.packet_capture.specs.Savefiles.{BeginsSavefile, IsPacketRecord}
use Rattle.packet_capture.specs.Captures.{Context, PieceContent, IsRecordPiece, ArePieces, frames_of, IsCapture}
use Rattle.packet_capture.specs.Written.{header_bytes, WrittenFrame, IsWrittenFrame, record_bytes, savefile_bytes, written_frame}

abbrev pub file : ByteOrder → Bool → ℕ → Savefile
file order nanoseconds link = record {
  magic = record { order = order; nanoseconds = nanoseconds };
  link = link;
}

abbrev pub within : ByteOrder → Bool → ℕ → Context
within order nanoseconds link = record {
  format = InSavefile (file order nanoseconds link);
  interfaces = [];
}

-- numbers of two and four bytes, from their bytes
pub two_back : (n : ℕ) → n / 256 * 256 + n % 256 ≡ n
two_back n = omega arith

pub number_back : (n : ℕ) → n < 2 ^ 32
    → (n / 65536 / 256 * 256 + n / 65536 % 256) * 65536
    + (n % 65536 / 256 * 256 + n % 65536 % 256) ≡ n
number_back n small = omega arith

link_back : (n : ℕ) → n < 65536
    → n ≡ ((n / 65536 / 256 * 256 + n / 65536 % 256) * 65536
    + (n % 65536 / 256 * 256 + n % 65536 % 256)) % 65536
link_back n small = omega arith

-- the header
begins : (order : ByteOrder) (nanoseconds : Bool) (longest link : ℕ) (rest : List ℕ) → link < 65536
    → BeginsSavefile (header_bytes order nanoseconds longest link ++ rest)
    (file order nanoseconds link)
unfolding u16_in u32_in
begins Big true longest link rest small = record {
  there = omega arith;
  magic =
      record { order = Big; nanoseconds = true };
  magic_is = refl;
  version = (refl, refl);
  is =
      λ i. record {
        magic = record { order = Big; nanoseconds = true };
        link =
            link_back link small i;
      };
}
begins Big false longest link rest small = record {
  there = omega arith;
  magic =
      record { order = Big; nanoseconds = false };
  magic_is = refl;
  version = (refl, refl);
  is =
      λ i. record {
        magic = record { order = Big; nanoseconds = false };
        link =
            link_back link small i;
      };
}
begins Little true longest link rest small = record {
  there = omega arith;
  magic =
      record { order = Little; nanoseconds = true };
  magic_is = refl;
  version = (refl, refl);
  is =
      λ i. record {
        magic = record { order = Little; nanoseconds = true };
        link =
            link_back link small i;
      };
}
begins Little false longest link rest small = record {
  there = omega arith;
  magic =
      record { order = Little; nanoseconds = false };
  magic_is = refl;
  version = (refl, refl);
  is =
      λ i. record {
        magic = record { order = Little; nanoseconds = false };
        link =
            link_back link small i;
      };
}

header_piece : PieceContent
header_piece = record { len = 24; frame = None; dropped = Silent }

after_header : (order : ByteOrder) (nanoseconds : Bool) (longest link : ℕ) (rest : List ℕ)
    → drop 24 (header_bytes order nanoseconds longest link ++ rest) ≡ rest
after_header Big nanoseconds longest link rest = refl
after_header Little nanoseconds longest link rest = refl

-- a packet record, by the numbers in it
record_piece : WrittenFrame → Bool → ℕ → PieceContent
record_piece f nanoseconds link = record {
  len = 16 + length f.bytes;
  frame =
      Some (written_frame nanoseconds link f);
  dropped = Silent;
}

field : (order : ByteOrder) (f : WrittenFrame) (rest : List ℕ) → IsWrittenFrame f
    → (u32_in order (record_bytes order f ++ rest) 0 ≡ f.seconds)
    × (u32_in order (record_bytes order f ++ rest) 4 ≡ f.parts)
    × (u32_in order (record_bytes order f ++ rest) 8 ≡ length f.bytes)
    × (u32_in order (record_bytes order f ++ rest) 12 ≡ f.wire_len)
unfolding u16_in u32_in
field Big f rest h = let short = h.short
    in (
      number_back f.seconds h.seconds,
      number_back f.parts h.parts,
      number_back (length f.bytes)
          (omega arith),
      number_back f.wire_len h.wire_len,
    )
field Little f rest h = let short = h.short
    in (
      number_back f.seconds h.seconds,
      number_back f.parts h.parts,
      number_back (length f.bytes)
          (omega arith),
      number_back f.wire_len h.wire_len,
    )

after_fields : (order : ByteOrder) (f : WrittenFrame) (rest : List ℕ)
    → drop 16 (record_bytes order f ++ rest) ≡ f.bytes ++ rest
after_fields Big f rest = refl
after_fields Little f rest = refl

length-record : (order : ByteOrder) (f : WrittenFrame) (rest : List ℕ)
    → length (record_bytes order f ++ rest) ≡ 16 + (length f.bytes + length rest)
length-record Big f rest = omega (arith, length-append f.bytes rest)
length-record Little f rest = omega (arith, length-append f.bytes rest)

is_record : (order : ByteOrder) (nanoseconds : Bool) (link : ℕ) (f : WrittenFrame) (rest : List ℕ)
    → IsWrittenFrame f → IsPacketRecord (file order nanoseconds link) (record_bytes order f ++ rest)
    (written_frame nanoseconds link f)
is_record order nanoseconds link f rest h =
    let at = field order f rest h in
    let bytes : List ℕ = record_bytes order f ++ rest in
    let len = length-record order f rest in
    let short = h.short in
    let unit : ℕ = if nanoseconds then 1 else 1000 in
    let T : ℕ → ℕ → Option ℕ = λ s p. Some (s * 1000000000 + p * unit) in
    record {
      there = omega arith;
      short = let captured = at.2 in omega arith;
      whole = let captured = at.2 in omega arith;
      link = refl;
      time = sym (ap (λ (s : ℕ). T s (u32_in order bytes 4)) at.0
          ∙ ap (λ (p : ℕ). T f.seconds p) at.1);
      wire_len = sym at.3;
      bytes_are = sym (take-append_seam f.bytes rest) ∙ ap (λ (x : List ℕ). take (length f.bytes) x)
          (sym (after_fields order f rest)) ∙ ap (λ (n : ℕ). take n (drop 16 bytes)) (sym at.2);
    }

is_piece : (order : ByteOrder) (nanoseconds : Bool) (link : ℕ) (f : WrittenFrame) (rest : List ℕ)
    → IsWrittenFrame f → IsRecordPiece (file order nanoseconds link) (within order nanoseconds link)
    (record_bytes order f ++ rest) (record_piece f nanoseconds link) (within order nanoseconds link)
unfolding record_piece
is_piece order nanoseconds link f rest h = record {
  frame = written_frame nanoseconds link f;
  is_record = is_record order nanoseconds link f rest h;
  len = ap (λ (n : ℕ). 16 + n) (sym (field order f rest h).2);
  frame_is = refl;
  dropped = refl;
  after_is = refl;
}

after_record : (order : ByteOrder) (f : WrittenFrame) (rest : List ℕ)
    → drop (16 + length f.bytes) (record_bytes order f ++ rest) ≡ rest
after_record order f rest =
    sym (drop-drop (length f.bytes) 16 (record_bytes order f ++ rest))
    ∙ ap (λ (x : List ℕ). drop (length f.bytes) x) (after_fields order f rest)
    ∙ drop-append_seam f.bytes rest

records : (order : ByteOrder) (nanoseconds : Bool) (link : ℕ) (fs : List WrittenFrame)
    → AllByRecursion IsWrittenFrame fs → ArePieces (within order nanoseconds link)
    (flat_map (record_bytes order) fs) (map (λ f. record_piece f nanoseconds link) fs)
    (within order nanoseconds link) []
unfolding record_piece
records order nanoseconds link [] each = (refl, refl)
records order nanoseconds link (f ∷ fs) each =
    let rest : List ℕ = flat_map (record_bytes order) fs in
    let P : List ℕ → Type 0 = λ x. ArePieces (within order nanoseconds link) x
    (map (λ g. record_piece g nanoseconds link) fs) (within order nanoseconds link) [] in (
      within order nanoseconds link,
      is_piece order nanoseconds link f rest each.0,
      subst P (sym (after_record order f rest)) (records order nanoseconds link fs each.1),
    )

frames : (nanoseconds : Bool) (link : ℕ) (fs : List WrittenFrame)
    → map (written_frame nanoseconds link) fs ≡ frames_of
    (map (λ f. record_piece f nanoseconds link) fs)
unfolding record_piece
frames nanoseconds link [] = refl
frames nanoseconds link (f ∷ fs) = ap (λ (xs : List FrameContent). written_frame nanoseconds link f
    ∷ xs) (frames nanoseconds link fs)

pub savefile_back : (order : ByteOrder) (nanoseconds : Bool) (longest link : ℕ)
    (fs : List WrittenFrame) → link < 65536 → AllByRecursion IsWrittenFrame fs
    → IsCapture (savefile_bytes order nanoseconds longest link fs)
    (map (written_frame nanoseconds link) fs)
unfolding header_piece
savefile_back order nanoseconds longest link fs small each =
    let body : List ℕ = flat_map (record_bytes order) fs in
    let begun = begins order nanoseconds longest link body small in
    let P : List ℕ → Type 0 = λ x. ArePieces (within order nanoseconds link) x
    (map (λ f. record_piece f nanoseconds link) fs) (within order nanoseconds link) [] in
    record {
      first = header_piece;
      others = map (λ f. record_piece f nanoseconds link) fs;
      after = within order nanoseconds link;
      are = (
        within order nanoseconds link,
        inl (record {
          there = let t = begun.there in omega arith;
          savefile = file order nanoseconds link;
          begins = begun;
          len = refl;
          frame = refl;
          dropped = refl;
          after_is = refl;
        }),
        subst P (sym (after_header order nanoseconds longest link body))
            (records order nanoseconds link fs each),
      );
      frames_are = frames nanoseconds link fs;
    }
