-- Numbers of several bytes, in either byte order.
use Rattle.std.specs.Prelude.{ℕ, ◌+◌, ◌*◌, List, take, drop, slice_index}
use Rattle.packet_capture.specs.declared.fields.ByteOrder.{ByteOrder}
use Rattle.packet_capture.specs.declared.fields.ByteOrder.TheVariants.{Big, Little}

-- a number of two bytes, from an offset on
unfoldable pub u16_in : ByteOrder → List ℕ → ℕ → ℕ
u16_in Big bytes at = slice_index bytes at * 256 + slice_index bytes (at + 1)
u16_in Little bytes at = slice_index bytes (at + 1) * 256 + slice_index bytes at

-- a number of four bytes
unfoldable pub u32_in : ByteOrder → List ℕ → ℕ → ℕ
u32_in Big bytes at = u16_in Big bytes at * 65536 + u16_in Big bytes (at + 2)
u32_in Little bytes at = u16_in Little bytes (at + 2) * 65536 + u16_in Little bytes at

-- the first bytes from an offset on, as many as a length says
abbrev pub bytes_at : List ℕ → ℕ → ℕ → List ℕ
bytes_at bytes at len = take len (drop at bytes)

-- a number of eight bytes
unfoldable pub u64_in : ByteOrder → List ℕ → ℕ → ℕ
u64_in Big bytes at = u32_in Big bytes at * 4294967296 + u32_in Big bytes (at + 4)
u64_in Little bytes at = u32_in Little bytes (at + 4) * 4294967296 + u32_in Little bytes at
