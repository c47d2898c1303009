-- The contents of devices over memory, and the results of a reader's calls.
use Rattle.std.specs.Prelude.{◌≡◌, ℕ, ◌*◌, ◌≤◌, List, ◌++◌, length, [], take}

-- what was written into memory, and the number of calls that failed
pub record Written : Type 0 where
  pub text : List ℕ
  pub failures : ℕ

-- a reader of std, the number of its calls, and the number of those that failed
pub record ReadStream (R : Type 0) : Type 0 where
  pub inner : R
  pub calls : ℕ
  pub failures : ℕ

-- a writer of std, and the number of its calls that failed
pub record WriteStream (W : Type 0) : Type 0 where
  pub inner : W
  pub failures : ℕ

-- bytes in memory that are still to be read, and the most that one call reads
pub record HeldBytes : Type 0 where
  pub bytes : List ℕ
  pub piece : ℕ

-- `calls` calls read these bytes from the front, each at least one and at most a piece.
pub record GivesPieces (before : HeldBytes) (calls : ℕ) (bytes : List ℕ) (after : HeldBytes) : Type
    0 where
  pub front : before.bytes ≡ bytes ++ after.bytes
  pub least : calls ≤ length bytes
  pub most : length bytes ≤ calls * before.piece
  pub piece : after.piece ≡ before.piece

-- No byte is left, and nothing changes.
pub record GivesEnd (before after : HeldBytes) : Type 0 where
  pub none : before.bytes ≡ []
  pub same : after ≡ before

-- `calls` calls lead the reader from one state to the other, and the bytes that they read follow
-- the old bytes.
pub record HasGiven {R : Type 0} (gives : R → ℕ → List ℕ → R → Type 0)
    (from to : R) (old new : List ℕ) (calls : ℕ) : Type 0 where
  pub bytes : List ℕ
  pub given : gives from calls bytes to
  pub behind : new ≡ old ++ bytes

-- The same, and then one more call shows the end.
pub record HasGivenAll {R : Type 0} (gives : R → ℕ → List ℕ → R → Type 0) (ends : R → R → Type 0)
    (from to : R) (old new : List ℕ) (calls : ℕ) : Type 0 where
  pub mid : R
  pub came : HasGiven gives from mid old new calls
  pub end : ends mid to

-- The same by some calls, and then one more call fails.
pub record HasGivenUpTo {R : Type 0} (gives : R → ℕ → List ℕ → R → Type 0) (fails : R → R → Type 0)
    (from to : R) (old new : List ℕ) : Type 0 where
  pub calls : ℕ
  pub mid : R
  pub came : HasGiven gives from mid old new calls
  pub failed : fails mid to

-- A writer took a prefix of the text.
pub record Wrote {W : Type 0} (adds : W → List ℕ → W → Type 0)
    (before : W) (text : List ℕ) (after : W) : Type 0 where
  pub count : ℕ
  pub taken : adds before (take count text) after

-- A writer took a prefix of the old text, and the new text is what is left.
pub record Moved {W : Type 0} (adds : W → List ℕ → W → Type 0)
    (before after : W) (old new : List ℕ) : Type 0 where
  pub shown : List ℕ
  pub taken : adds before shown after
  pub left : old ≡ shown ++ new

-- ---- what the traits say of their readers and writers

-- How readers of a type go on: calls that read these bytes, one call that shows the end, the number
-- of calls that failed, and one call that fails. These are the members of the trait CaptureIn.
pub record Reading (R : Type 0) : Type 1 where
  pub gives : R → ℕ → List ℕ → R → Type 0
  pub ends : R → R → Type 0
  pub failures : R → ℕ
  pub fails : R → R → Type 0

-- How writers of a type go on: calls that take this text, and the number of calls that failed.
-- These are the members of the trait TextOut.
pub record Writing (W : Type 0) : Type 1 where
  pub adds : W → List ℕ → W → Type 0
  pub failures : W → ℕ
