-- The snapshots with which venues' first sessions begin, by the bytes of their files.
use Rattle.std.specs.Prelude.{◌≡◌, ◌≢◌, ◌⊎◌, ◌<◌, ◌==◌, ℕ, List, [], ◌∷◌, codes, decimal, length, map, Option, Some, None, slice_index_or, string_bytes, if◌then◌else◌}
use Rattle.command_words.specs.declared.snapshot_file.SnapshotFile.{SnapshotFile}
use Rattle.venue_normaliser.specs.Snapshots.{HasSnapshotFault, IsSnapshot, SnapshotContent}
use Rattle.venue_normaliser.specs.declared.snapshot_fault.SnapshotFault.{SnapshotFault}
use Rattle.venue_normaliser.specs.declared.snapshot_fault.SnapshotFault.TheVariants.{AfterEnd, BadNumber, Cut, NoEnd, NotOfSnapshot}

-- the bytes of the first file that is of the venue
abbrev pub given_bytes : List SnapshotFile → (bytes : List (List ℕ)) → (venue : ℕ) → Option (List ℕ)
given_bytes [] bytes venue = None
given_bytes (f ∷ fs) [] venue = None
given_bytes (f ∷ fs) (b ∷ bs) venue = if f.venue == venue then Some b else given_bytes fs bs venue

-- the snapshot that these bytes are
abbrev pub IsSnapshotOf : (bytes : Option (List ℕ)) → Option SnapshotContent → Type 0
IsSnapshotOf None snapshot = snapshot ≡ None
IsSnapshotOf (Some bytes) None = ⊥
IsSnapshotOf (Some bytes) (Some s) = IsSnapshot bytes s.messages s.number

-- Each file's bytes are there, and each venue that has a file has the snapshot that they are.
pub record AreSnapshots (files : List SnapshotFile) (bytes : List (List ℕ)) (venues : ℕ)
    (snapshots : List (Option SnapshotContent)) : Type 0 where
  pub all : length bytes ≡ length files
  pub count : length snapshots ≡ venues
  pub each : (place : ℕ) → place < venues
      → IsSnapshotOf (given_bytes files bytes place) (slice_index_or snapshots place None)

-- ---- why there are none. The texts are this project's own.

-- the names of the files
abbrev pub file_names : List SnapshotFile → List (List ℕ)
file_names files = map (λ f. string_bytes f.name) files

-- what is wrong with a file, and at which byte, counted from 0
abbrev pub snapshot_texts : (name what : List ℕ) → (byte : ℕ) → List (List ℕ)
snapshot_texts name what byte =
    codes "nbbo: snapshot " ∷ name ∷ what ∷ decimal byte ∷ codes "\n" ∷ []

abbrev pub snapshot_fault_texts : (name : List ℕ) → SnapshotFault → List (List ℕ)
snapshot_fault_texts name (Cut byte) =
    snapshot_texts name (codes ": a message is cut at byte ") byte
snapshot_fault_texts name (NoEnd byte) =
    snapshot_texts name (codes ": no End of Snapshot, message G, at byte ") byte
snapshot_fault_texts name (NotOfSnapshot byte) =
    snapshot_texts name (codes ": no message of a snapshot at byte ") byte
snapshot_fault_texts name (BadNumber byte) =
    snapshot_texts name
    (codes ": no number from 1 to 4294967295 in the End of Snapshot at byte ") byte
snapshot_fault_texts name (AfterEnd byte) =
    snapshot_texts name (codes ": more bytes after the End of Snapshot at byte ") byte

-- the texts of the first file that is of the venue, whose bytes are no snapshot
pub record IsBadFile (files : List SnapshotFile) (bytes : List (List ℕ)) (venue : ℕ)
    (texts : List (List ℕ)) : Type 0 where
  pub name : List ℕ
  pub named : given_bytes files (file_names files) venue ≡ Some name
  pub found : List ℕ
  pub given : given_bytes files bytes venue ≡ Some found
  pub fault : SnapshotFault
  pub has : HasSnapshotFault found fault
  pub are : texts ≡ snapshot_fault_texts name fault

abbrev pub IsNoMemory : (texts : List (List ℕ)) → Type 0
IsNoMemory texts = texts ≡ codes "nbbo: no memory\n" ∷ []

-- the texts where files give these venues no snapshots: their bytes aren't all there, or there was
-- no memory, or the bytes of a venue's file are no snapshot
abbrev pub AreRefused : List SnapshotFile → (bytes : List (List ℕ)) → (venues : ℕ)
    → (texts : List (List ℕ)) → Type 0
AreRefused files bytes venues texts =
    ((length bytes ≢ length files) × (texts ≡ codes "nbbo: snapshots not read\n" ∷ []))
    ⊎ IsNoMemory texts
    ⊎ ((venue : ℕ) × (venue < venues) × IsBadFile files bytes venue texts)
