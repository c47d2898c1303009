-- The sessions that follow the venues' sessions.
use Rattle.std.specs.Prelude.{◌≡◌, ℕ, ◌<◌, ◌==◌, List, [], ◌∷◌, Some, slice_get, if◌then◌else◌}
use Rattle.run_settings.specs.declared.next_session.NextSession.{NextSession}

-- each is of one of the first `venues` venues
abbrev pub FollowVenues : ℕ → List NextSession → Type 0
FollowVenues venues sessions =
    (place : ℕ) (next : NextSession) → Some next ≡ slice_get sessions place → next.venue < venues

-- the names of the sessions that follow a venue's first one
abbrev pub names_after : ℕ → List NextSession → List (List ℕ)
names_after venue [] = []
names_after venue (next ∷ others) =
    if next.venue == venue then next.name ∷ names_after venue others else names_after venue others
