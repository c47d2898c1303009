-- What a recording makes of what its senders hand over, venue by venue.
use Rattle.std.specs.Prelude.{◌≡◌, ℕ, ◌+◌, ◌-◌, ◌/◌, ◌%◌, ◌^◌, ◌&&◌, nat_le, nat_lt, Bool, true, false, List, [], ◌∷◌, ◌++◌, length, flat_map, min, Option, None, Some}
use Rattle.feed_types.specs.declared.line.LineId.{LineId}
use Rattle.feed_types.specs.declared.line.LineId.TheVariants.{A, B, Recovery}
use Rattle.feed_types.specs.Text.{line_letter}
use Rattle.rtrb.specs.Ring.{received}
use Rattle.line_recordings.specs.declared.placed.Placed.{Placed}
use Rattle.line_recordings.specs.declared.record_kind.RecordKind.{RecordKind}
use Rattle.line_recordings.specs.declared.record_kind.RecordKind.TheVariants.{Line, Skip}
use Rattle.line_recordings.specs.declared.record_source.RecordSource.{RecordSource}
use Rattle.line_recordings.specs.declared.venue_records.Taken.{Taken}
use Rattle.line_recordings.specs.declared.venue_records.Taken.TheVariants as takes
use Rattle.line_recordings.specs.declared.venue_records.VenueRecords.{VenueRecords}

-- the letter of a kind of record: that of the line, or K
abbrev pub kind_letter : RecordKind → ℕ
kind_letter (Line line) = line_letter line
kind_letter Skip = 75

-- what came of the venue from the sender of this kind, in order
abbrev pub came : VenueRecords → RecordKind → List Placed
came venue (Line A) = received venue.of_a.records
came venue (Line B) = received venue.of_b.records
came venue (Line Recovery) = received venue.of_recovery.records
came venue Skip = received venue.of_skips.records

-- nothing has come of the venue's lines
abbrev pub HasHeardNone : VenueRecords → Type 0
HasHeardNone venue = (line : LineId) → came venue (Line line) ≡ []

-- the venue, whose line is heard from this source from now on
abbrev pub hearing : VenueRecords → LineId → RecordSource → VenueRecords
hearing venue A source = record venue { of_a = source }
hearing venue B source = record venue { of_b = source }
hearing venue Recovery source = record venue { of_recovery = source }

-- a record of a recording: its kind, and what came
pub record Recorded : Type 0 where
  pub kind : RecordKind
  pub placed : Placed

-- the record of a renewal in the own format, if the venue's session of this name has begun
abbrev pub renewal_bytes : (venue : ℕ) → (begun : Option (List ℕ)) → List ℕ
renewal_bytes venue None = []
renewal_bytes venue (Some name) = venue ∷ 78 ∷ 0 ∷ 10 ∷ name

-- the bytes of what came in the own format, of this venue: its record, and before it that of the
-- renewal, if a session has begun at it
abbrev pub recorded_bytes : (venue : ℕ) → Recorded → List ℕ
recorded_bytes venue r =
    let len = length r.placed.bytes.items in
    renewal_bytes venue r.placed.begun
    ++ (venue ∷ kind_letter r.kind ∷ len / 256 ∷ len % 256 ∷ r.placed.bytes.items)

-- What comes may be written, where the records before it end at the place before `next`: it isn't
-- before that, and it is no longer than a record may be.
abbrev pub is_next_at : (next : ℕ) → Placed → Bool
is_next_at next placed =
    nat_le next placed.place
    && (nat_lt placed.place (2 ^ 64 - 1) && nat_lt (length placed.bytes.items) 65536)

abbrev pub is_next : VenueRecords → Placed → Bool
is_next venue placed = is_next_at venue.next placed

-- one more has come from the sender of this kind, and from no other
pub record ComesFrom (old new : VenueRecords) (kind : RecordKind) (placed : Placed) : Type 0 where
  pub one : came new kind ≡ came old kind ++ placed ∷ []
  pub others : (other : RecordKind) → (other ≡ kind → ⊥) → came new other ≡ came old other

-- nothing has come
abbrev pub NoneComes : VenueRecords → VenueRecords → Type 0
NoneComes old new = (kind : RecordKind) → came new kind ≡ came old kind

-- Of the venue this record is next: it has come, past the places of those before, and those after
-- it are past its place.
pub record IsNextRecord (old new : VenueRecords) (r : Recorded) : Type 0 where
  pub comes : ComesFrom old new r.kind r.placed
  pub next_is : is_next old r.placed ≡ true
  pub after : new.next ≡ r.placed.place + 1
  pub same : new.left_out ≡ old.left_out
  pub venue_is : new.venue ≡ old.venue

-- One has come that isn't written, since a later one was or since it is too long: it is counted.
-- The count stays at 2^64 - 1.
pub record IsLeftOut (old new : VenueRecords) : Type 0 where
  pub kind : RecordKind
  pub placed : Placed
  pub comes : ComesFrom old new kind placed
  pub late : is_next old placed ≡ false
  pub after : new.next ≡ old.next
  pub counted : new.left_out ≡ min (old.left_out + 1) (2 ^ 64 - 1)
  pub venue_is : new.venue ≡ old.venue

-- nothing has come of the venue that is written or left out
pub record IsUnchanged (old new : VenueRecords) : Type 0 where
  pub comes : NoneComes old new
  pub after : new.next ≡ old.next
  pub same : new.left_out ≡ old.left_out
  pub venue_is : new.venue ≡ old.venue

-- what becomes of one that came: it is a record of the recording, or left out
abbrev pub Fates : Type 0
Fates = List (Option Recorded)

-- These have come of the venue one after the other, each with this fate, and no other one.
abbrev pub HasRecorded : VenueRecords → Fates → VenueRecords → Type 0
HasRecorded old [] new = IsUnchanged old new
HasRecorded old (Some r ∷ fates) new =
    (mid : VenueRecords) × IsNextRecord old mid r × HasRecorded mid fates new
HasRecorded old (None ∷ fates) new =
    (mid : VenueRecords) × IsLeftOut old mid × HasRecorded mid fates new

abbrev pub recorded_if : (venue : ℕ) → Option Recorded → List ℕ
recorded_if venue None = []
recorded_if venue (Some r) = recorded_bytes venue r

-- the bytes of the records, in their order
abbrev pub recorded_text : (venue : ℕ) → Fates → List ℕ
recorded_text venue fates = flat_map (recorded_if venue) fates

-- Of what came of the venue meanwhile this text was added: the record of each, at its place, or
-- none of one that is counted as left out.
pub record PutsRecords (old new : VenueRecords) (before after : List ℕ) : Type 0 where
  pub fates : Fates
  pub recorded : HasRecorded old fates new
  pub text : after ≡ before ++ recorded_text old.venue fates

-- what is taken next of the venue: nothing yet, one that is left out, or its next record
abbrev pub IsTaken : VenueRecords → Taken → VenueRecords → Type 0
IsTaken old takes.Nothing new = IsUnchanged old new
IsTaken old takes.LeftOut new = IsLeftOut old new
IsTaken old (takes.Next kind placed) new =
    IsNextRecord old new (record { kind = kind; placed = placed })
