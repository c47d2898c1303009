-- What a recording has written of its venues: their datagrams and skips, as records.
use Rattle.std.specs.Prelude.{◌≡◌, ◌⊎◌, ℕ, Bool, false, true, List, [], ◌∷◌, ◌++◌, Some, codes, flat_map, slice_get, slice_set}
use Rattle.text_out.specs.Devices.{Wrote}
use Rattle.line_recordings.specs.Recordings.{Fates, HasRecorded, recorded_text}
use Rattle.line_recordings.specs.declared.recording.Recording.{Recording}
use Rattle.line_recordings.specs.declared.venue_records.VenueRecords.{VenueRecords}

-- A part of a recording: these came of the venue at this place of the list, which has this number,
-- one after the other, each with its fate.
pub record Part : Type 0 where
  pub place : ℕ
  pub venue : ℕ
  pub fates : Fates

-- the bytes of the part's records
abbrev pub part_text : Part → List ℕ
part_text part = recorded_text part.venue part.fates

-- the part is of the venue at its place, which becomes the other one by it
pub record IsRecordedPart (venues : List VenueRecords) (part : Part) (old new : VenueRecords)
    : Type 0 where
  pub there : slice_get venues part.place ≡ Some old
  pub venue_is : part.venue ≡ old.venue
  pub recorded : HasRecorded old part.fates new

-- These parts have come of the venues one after the other, and nothing else has come of them.
abbrev pub HaveCome : List VenueRecords → List Part → List VenueRecords → Type 0
HaveCome old [] new = new ≡ old
HaveCome old (part ∷ parts) new =
    (before after : VenueRecords) × IsRecordedPart old part before after
    × HaveCome (slice_set old part.place after) parts new

-- Of what came of the venues meanwhile the records were added to the page.
pub record HavePut (old : List VenueRecords) (before : List ℕ) (new : List VenueRecords)
    (after : List ℕ) : Type 0 where
  pub parts : List Part
  pub come : HaveCome old parts new
  pub text : after ≡ before ++ flat_map part_text parts

-- Of what came of the venues meanwhile the writer has the records, those that waited on the page
-- before; but for the rest, which waits on the page, unless a write has failed.
pub record HasWritten {W : Type 0} (adds : W → List ℕ → W → Type 0) (old new : Recording W)
    : Type 0 where
  pub parts : List Part
  pub come : HaveCome old.venues.items parts new.venues.items
  pub written : List ℕ
  pub rest : List ℕ
  pub all : old.page ++ flat_map part_text parts ≡ written ++ rest
  pub wrote : adds old.writer written new.writer
  pub waits : new.has_failed ≡ false → rest ≡ new.page

-- the bytes at the end of a recording that isn't whole: a record that breaks off
abbrev pub cut : List ℕ
cut = 0 ∷ 75 ∷ 0 ∷ 8 ∷ []

-- nothing more is written but the page, and at most the bytes of a recording that isn't whole
abbrev pub ClosesRecording : {W : Type 0} → (W → List ℕ → W → Type 0) → Recording W → Recording W
    → Type 0
ClosesRecording adds old new =
    (new.writer ≡ old.writer) ⊎ Wrote adds old.writer (old.page ++ cut) new.writer

-- a whole recording: its records, and its end
pub record WritesRecording {W : Type 0} (adds : W → List ℕ → W → Type 0) (old new : Recording W)
    : Type 0 where
  pub last : Recording W
  pub written : HasWritten adds old last
  pub closed : ClosesRecording adds last new

-- what is reported of a recording: that it has failed, if it has
abbrev pub failure_texts : (has_failed : Bool) → List (List ℕ)
failure_texts false = []
failure_texts true = codes "nbbo: recording failed\n" ∷ []
