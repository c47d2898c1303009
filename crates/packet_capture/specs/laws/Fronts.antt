-- The front of some bytes: a piece has one byte at least, and no more than they have; and bytes
-- that are less than a piece are fewer than the longest piece has.
use Rattle.std.proofs.Common.{◌≡◌, ℕ, ◌<◌, ◌≤◌, List, length, take, ap, ◌∙◌, arith, inl, inr, length-take-le}
use Rattle.packet_capture.specs.declared.fields.ByteOrder.{ByteOrder}
use Rattle.packet_capture.specs.declared.fields.ByteOrder.TheVariants.{Big}
use Rattle.packet_capture.specs.declared.reader.Format.{Format}
use Rattle.packet_capture.specs.declared.reader.Format.TheVariants.{Start, InSavefile, InSection}
use Rattle.packet_capture.specs.declared.savefile.Savefile.{Savefile}
use Rattle.packet_capture.specs.declared.stop.NoPiece.TheVariants.{Wants}
use Rattle.packet_capture.specs.Fields.{u32_in}
use Rattle.packet_capture.specs.Stops.{StopsInHeader, StopsInRecord, StopsInLen}
use Rattle.packet_capture.specs.Captures.{Context, PieceContent, IsBlockPiece, IsPieceIn, IsPiece, StopsInSection, StopsIn, StopsReading}

-- ---- pieces

block_len : (section : ByteOrder) (before : Context) (bytes : List ℕ) (p : PieceContent)
    (after : Context) → IsBlockPiece section before bytes p after → (0 < p.len)
    × (p.len ≤ length bytes)
block_len section before bytes p after h =
    let n = u32_in h.order bytes 4 in
    let len : p.len ≡ length (take n bytes) = h.len ∙ ap length h.is_block.block_is in
    let same = length-take-le n bytes h.is_block.whole in
    let least = h.is_block.counted.0 in
    let whole = h.is_block.whole in
    (omega (arith, len, same, least), omega (arith, len, same, whole))

len_in : (format : Format) (before : Context) (bytes : List ℕ) (p : PieceContent) (after : Context)
    → IsPieceIn format before bytes p after → (0 < p.len) × (p.len ≤ length bytes)
len_in Start before bytes p after (inl h) = let there = h.begins.there in let len = h.len
    in (omega (arith, len), omega (arith, len, there))
len_in Start before bytes p after (inr h) = block_len Big before bytes p after h.block
len_in (InSavefile s) before bytes p after h = let len = h.len in let whole = h.is_record.whole
    in (omega (arith, len), omega (arith, len, whole))
len_in (InSection order) before bytes p after h = block_len order before bytes p after h

pub piece_len : (before : Context) (bytes : List ℕ) (p : PieceContent) (after : Context)
    → IsPiece before bytes p after → (0 < p.len) × (p.len ≤ length bytes)
piece_len before bytes p after h = len_in before.format before bytes p after h

-- ---- less than a piece

header_few : (bytes : List ℕ) (n : ℕ) → StopsInHeader bytes (Wants n) → length bytes < 1048593
header_few bytes n (inl h) = let few = h.0 in omega (arith, few)
header_few bytes n (inr h) = let e = h.1 in absurd cc

record_few : (s : Savefile) (bytes : List ℕ) (n : ℕ) → StopsInRecord s bytes (Wants n)
    → length bytes < 1048593
record_few s bytes n (inl h) = let few = h.0 in omega (arith, few)
record_few s bytes n (inr (inl h)) = let e = h.2 in absurd cc
record_few s bytes n (inr (inr h)) = let short = h.1 in let few = h.2 in omega (arith, short, few)

len_few : (order : ByteOrder) (bytes : List ℕ) (n : ℕ) → StopsInLen order bytes (Wants n)
    → length bytes < 1048593
len_few order bytes n (inl h) = let e = h.1 in absurd cc
len_few order bytes n (inr (inl h)) = let e = h.2 in absurd cc
len_few order bytes n (inr (inr (inl h))) = let short = h.1 in let few = h.2
    in omega (arith, short, few)
len_few order bytes n (inr (inr (inr h))) = let e = h.4 in absurd cc

section_few : (section : ByteOrder) (before : Context) (bytes : List ℕ) (n : ℕ)
    → StopsInSection section before bytes (Wants n) → length bytes < 1048593
section_few section before bytes n (inl (inl h)) = let few = h.0 in omega (arith, few)
section_few section before bytes n (inl (inr (inl h))) = let e = h.2 in absurd cc
section_few section before bytes n (inl (inr (inr h))) = len_few h.1.0 bytes n h.1.2
section_few section before bytes n (inr h) = let e = h.stop_is in absurd cc

few_in : (format : Format) (before : Context) (bytes : List ℕ) (n : ℕ)
    → StopsIn format before bytes (Wants n) → length bytes < 1048593
few_in Start before bytes n (inl h) = let few = h.0 in omega (arith, few)
few_in Start before bytes n (inr (inl h)) = let e = h.3 in absurd cc
few_in Start before bytes n (inr (inr (inl h))) = header_few bytes n h.2
few_in Start before bytes n (inr (inr (inr h))) = section_few Big before bytes n h.3
few_in (InSavefile s) before bytes n h = record_few s bytes n h
few_in (InSection order) before bytes n h = section_few order before bytes n h

pub few_unread : (before : Context) (bytes : List ℕ) (n : ℕ) → StopsReading before bytes (Wants n)
    → length bytes < 1048593
few_unread before bytes n h = few_in before.format before bytes n h
