-- Blocks of a pcapng file: draft-ietf-opsawg-pcapng, sections 3.1 and 4.
use Rattle.std.specs.Prelude.{◌≡◌, ℕ, ◌-◌, ◌%◌, ◌≤◌, ◌==◌, List, length, take, Option, Some, None, if◌then◌else◌}
use Rattle.packet_capture.specs.declared.fields.ByteOrder.{ByteOrder}
use Rattle.packet_capture.specs.declared.fields.ByteOrder.TheVariants.{Big, Little}
use Rattle.packet_capture.specs.Fields.{u32_in}

-- a block's first four bytes are its type; those of a section's header are the same in both orders
abbrev pub BeginsSection : List ℕ → Type 0
BeginsSection bytes = u32_in Big bytes 0 ≡ 168627466

-- The order of a block's numbers: that of its section. A section's header says its own, by the
-- number 1a2b3c4d.
abbrev pub order_at : ByteOrder → List ℕ → Option ByteOrder
order_at section bytes =
    if u32_in Big bytes 0 == 168627466
    then (if u32_in Big bytes 8 == 439041101 then Some Big
    else (if u32_in Little bytes 8 == 439041101 then Some Little else None))
    else Some section

-- a length counts the type, itself and its repetition at the end, and is a multiple of 4
abbrev pub IsBlockLen : ℕ → Type 0
IsBlockLen len = (12 ≤ len) × (len % 4 ≡ 0)

-- the bytes begin with this block, which has numbers in this order
pub record IsBlock (section : ByteOrder) (bytes : List ℕ) (order : ByteOrder) (block : List ℕ)
    : Type 0 where
  pub there : 12 ≤ length bytes
  pub order_is : order_at section bytes ≡ Some order
  pub counted : IsBlockLen (u32_in order bytes 4)
  pub short : u32_in order bytes 4 ≤ 1048576
  pub whole : u32_in order bytes 4 ≤ length bytes
  pub again : u32_in order bytes (u32_in order bytes 4 - 4) ≡ u32_in order bytes 4
  pub block_is : block ≡ take (u32_in order bytes 4) bytes
