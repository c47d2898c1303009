-- The sessions that follow the venues' first ones, as a feed takes them from the settings.
use Rattle.std.specs.Prelude.{◌≡◌, ℕ, ◌<◌, ◌≤◌, List, [], ◌∷◌, Some, slice_get, vec_len}
use Rattle.std.specs.Option.{option_map}
use Rattle.run_settings.specs.NextSessions.{names_after}
use Rattle.run_settings.specs.declared.listen_settings.ListenSettings.{ListenSettings}
use Rattle.run_settings.specs.declared.next_session.NextSession.{NextSession}
use Rattle.udp_listening.specs.Settings.{following_of}

-- the names, or those from before where there are none
abbrev pub names_or : (names before : List (List ℕ)) → List (List ℕ)
names_or [] before = before
names_or (name ∷ names) before = name ∷ names

-- Of a feed's venues the first `venues` have the names of these sessions that are theirs, or those
-- from before where there are none, and the others those from before.
pub record AreNamedNext (venues : ℕ) (next : List NextSession) (old new : List (List (List ℕ)))
    : Type 0 where
  pub named : (venue : ℕ) → venue < venues → venue < 16
      → slice_get new venue ≡ option_map (names_or (names_after venue next)) (slice_get old venue)
  pub others : (venue : ℕ) → venues ≤ venue → slice_get new venue ≡ slice_get old venue

-- each venue of the settings has the names of those of their sessions that follow its first one
abbrev pub AreNextOf : ListenSettings → List (List (List ℕ)) → Type 0
AreNextOf settings next =
    (venue : ℕ) → venue < vec_len settings.feed.sessions
    → slice_get next venue ≡ Some (following_of settings venue)
