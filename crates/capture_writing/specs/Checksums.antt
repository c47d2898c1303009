-- Checksums of the Internet: RFC 1071. The words of two bytes of what is summed up, the checksum
-- among them, add up to a multiple of 65535.
use Rattle.std.specs.Prelude.{ℕ, ◌+◌, ◌-◌, ◌*◌, ◌%◌, List, [], ◌∷◌}

-- the sum of the words: a last byte is the higher one of a word
abbrev pub words_sum : List ℕ → ℕ
words_sum [] = 0
words_sum (last ∷ []) = last * 256
words_sum (high ∷ low ∷ bytes) = high * 256 + low + words_sum bytes

-- what makes a sum a multiple, below it
abbrev pub checksum_of : ℕ → ℕ
checksum_of sum = (65535 - sum % 65535) % 65535

-- the same for a datagram, in which 0 means that there is none: RFC 768
abbrev pub datagram_checksum_of : ℕ → ℕ
datagram_checksum_of sum = 65535 - sum % 65535
