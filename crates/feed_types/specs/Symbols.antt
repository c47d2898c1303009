-- Which eight bytes are a symbol (this project's quotation payload): a name of 1 to 8 bytes from
-- 21 to 7e, and then spaces to the end.
use Rattle.std.specs.Prelude.{ℕ, ◌-◌, Bool, ◌&&◌, not, nat_le, ◌==◌, List, ◌++◌, length, drop, replicate}
use Rattle.std.specs.Int.{w64, from_be_bytes}
use Rattle.std.specs.List.{take_while, list_all}

abbrev pub is_space : ℕ → Bool
is_space byte = byte == 32

-- a byte that a name may have: printable, and no space
abbrev pub is_name_byte : ℕ → Bool
is_name_byte byte = nat_le 33 byte && nat_le byte 126

abbrev pub is_symbol_name : List ℕ → Bool
is_symbol_name name =
    nat_le 1 (length name) && (nat_le (length name) 8 && list_all is_name_byte name)

-- the name in a field: the bytes before the first space
abbrev pub name_of : List ℕ → List ℕ
name_of field = take_while (λ byte. not (is_space byte)) field

-- what follows the name in a field
abbrev pub filling_of : List ℕ → List ℕ
filling_of field = drop (length (name_of field)) field

abbrev pub is_symbol_field : List ℕ → Bool
is_symbol_field field =
    (length field == 8)
    && (is_symbol_name (name_of field) && list_all is_space (filling_of field))

-- the field of a name
abbrev pub filled : List ℕ → List ℕ
filled name = name ++ replicate (8 - length name) 32

-- the field as one number, its first byte highest
abbrev pub key_of : List ℕ → ℕ
key_of field = from_be_bytes w64 field
