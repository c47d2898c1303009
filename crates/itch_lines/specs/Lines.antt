-- What a line of a venue in ITCH brings.
use Rattle.std.specs.Prelude.{◌≡◌, ℕ, List, [], ◌∷◌, ◌++◌, flat_map}
use Rattle.std.specs.List.{AllByRecursion}
use Rattle.feed_types.specs.declared.line.LineId.{LineId}
use Rattle.venue_lines.specs.Sources.{failures_after}
use Rattle.itch_lines.specs.Cells.{HasBeenGiven, ItchState}
use Rattle.itch_lines.specs.Sections.{BringsEnd, BringsSkip, MakesOfDatagram}
use Rattle.itch_lines.specs.declared.source_end.SourceEnd.{SourceEnd}
use Rattle.itch_lines.specs.declared.source_end.SourceEnd.TheVariants.{Open, Ended, Failing, Failed}

-- a line's source, its venue and which of the venue's lines it is, the datagrams that were made and
-- are to be brought, and how it stands with its source
pub record ItchLineState (S : Type 0) : Type 0 where
  pub source : S
  pub venue : ℕ
  pub line : LineId
  pub waiting : List (List ℕ)
  pub end : SourceEnd

-- The section is possible at the venue: there are two states that its lock may keep, and the
-- datagram of these bytes leads from the one to the other. Outside of the lock nothing is known of
-- its state, so this says what may be made, and not that these two were the lock's own.
pub record IsPossibleTaking (venue : ℕ) (line : LineId) (bytes : List ℕ) (made : List (List ℕ))
    : Type 0 where
  pub old : ItchState
  pub was : HasBeenGiven old.normaliser
  pub venue_is : old.normaliser.lines.venue ≡ venue
  pub new : ItchState
  pub is : HasBeenGiven new.normaliser
  pub takes : MakesOfDatagram old.names line bytes old.normaliser new.normaliser was.packets
      was.put made

-- the same of a gap that is given up
pub record IsPossibleSkip (venue : ℕ) (made : List (List ℕ)) : Type 0 where
  pub old : ItchState
  pub was : HasBeenGiven old.normaliser
  pub venue_is : old.normaliser.lines.venue ≡ venue
  pub new : ItchState
  pub is : HasBeenGiven new.normaliser
  pub number : ℕ
  pub skips : BringsSkip number old.normaliser new.normaliser was.packets was.put made

-- What became of a datagram of these bytes, or of a gap that was given up, and the datagrams that
-- were made then; or the venue's normaliser has failed.
pub data Section : Type 0 where
  Took : (bytes : List ℕ) → (made : List (List ℕ)) → Section
  GaveUp : (made : List (List ℕ)) → Section
  FailedIn : (received : List (List ℕ)) → (made : List (List ℕ)) → Section

abbrev pub received_in : Section → List (List ℕ)
received_in (Took bytes made) = bytes ∷ []
received_in (GaveUp made) = []
received_in (FailedIn received made) = received

abbrev pub made_in : Section → List (List ℕ)
made_in (Took bytes made) = made
made_in (GaveUp made) = made
made_in (FailedIn received made) = made

-- the section is one that the venue's lock may see
abbrev pub IsPossible : ℕ → LineId → Section → Type 0
IsPossible venue line (Took bytes made) = IsPossibleTaking venue line bytes made
IsPossible venue line (GaveUp made) = IsPossibleSkip venue made
IsPossible venue line (FailedIn received made) = BringsEnd made

-- the normaliser has not failed in it
abbrev pub IsUnfailing : Section → Type 0
IsUnfailing (Took bytes made) = Unit {0}
IsUnfailing (GaveUp made) = Unit {0}
IsUnfailing (FailedIn received made) = ⊥

-- the line ends with a fault, or has
abbrev pub EndsInFault : SourceEnd → Type 0
EndsInFault Open = ⊥
EndsInFault Ended = ⊥
EndsInFault (Failing fault) = Unit {0}
EndsInFault (Failed fault) = Unit {0}

-- how many calls of a line have failed: one at most, since it ends then
abbrev pub failures_at : SourceEnd → ℕ
failures_at Open = 0
failures_at Ended = 0
failures_at (Failing fault) = 0
failures_at (Failed fault) = failures_after 0 fault

-- The datagrams of these bytes are what the line has brought from one state to the other: section
-- by section what its source's datagrams, and gaps that were given up, have made under the venue's
-- lock, in order, and what waited before; but for what waits still. Where no fault ends the line,
-- the normaliser has failed in no section.
pub record HandsOnMade {S : Type 0} (brings : S → List (List ℕ) → S → Type 0)
    (old : ItchLineState S) (bytes : List (List ℕ)) (new : ItchLineState S) : Type 0 where
  pub venue : new.venue ≡ old.venue
  pub line : new.line ≡ old.line
  pub sections : List Section
  pub each : AllByRecursion (IsPossible old.venue old.line) sections
  pub sound : (EndsInFault new.end → ⊥) → AllByRecursion IsUnfailing sections
  pub ended : EndsInFault old.end → EndsInFault new.end
  pub came : brings old.source (flat_map received_in sections) new.source
  pub all : old.waiting ++ flat_map made_in sections ≡ bytes ++ new.waiting
