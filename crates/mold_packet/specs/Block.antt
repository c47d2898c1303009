-- Message blocks, one after the other: MoldUDP64 1.00, "Message Block".
use Rattle.std.specs.Prelude.{◌≡◌, ℕ, zero, suc, ◌^◌, ◌<◌, List, [], ◌∷◌, ◌++◌, length, take, drop}
use Rattle.std.specs.List.{flat_map, AllByRecursion}
use Rattle.std.specs.Int.{w16, to_be_bytes, from_be_bytes}

-- a message whose length fits the two bytes of its block
abbrev pub IsMessage : List ℕ → Type 0
IsMessage message = length message < 2 ^ 16

-- the message's length in two bytes, and then the message
abbrev pub block : List ℕ → List ℕ
block message = to_be_bytes w16 (length message) ++ message

-- the bytes are the blocks of these messages, n of them, and then the rest
pub record HasBlocks
    (n : ℕ) (bytes : List ℕ) (messages : List (List ℕ)) (rest : List ℕ) : Type 0 where
  pub count : length messages ≡ n
  pub each : AllByRecursion IsMessage messages
  pub spelled : bytes ≡ flat_map block messages ++ rest

-- less than a block: its length field or its message is cut
abbrev pub IsCut : List ℕ → Type 0
IsCut [] = Unit {0}
IsCut (high ∷ []) = Unit {0}
IsCut (high ∷ low ∷ message) = length message < from_be_bytes w16 (high ∷ low ∷ [])

-- fewer than n whole blocks, and then one that is cut
pub record CutShort (n : ℕ) (bytes : List ℕ) : Type 0 where
  pub whole : List (List ℕ)
  pub part : List ℕ
  pub fewer : length whole < n
  pub each : AllByRecursion IsMessage whole
  pub spelled : bytes ≡ flat_map block whole ++ part
  pub cut : IsCut part

-- the length that the field at the front gives
abbrev pub block_len : List ℕ → ℕ
block_len bytes = from_be_bytes w16 (take 2 bytes)

-- the messages of the first n blocks
abbrev pub blocks_at : ℕ → List ℕ → List (List ℕ)
blocks_at zero bytes = []
blocks_at (suc n) bytes =
    let behind = drop 2 bytes in
    take (block_len bytes) behind ∷ blocks_at n (drop (block_len bytes) behind)

-- n blocks and nothing else
abbrev pub AreBlocks : ℕ → List ℕ → Type 0
AreBlocks n bytes = HasBlocks n bytes (blocks_at n bytes) []
