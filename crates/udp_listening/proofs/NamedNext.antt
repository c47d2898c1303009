-- The naming of the sessions that follow, in a feed whose venues nothing follows yet.
use Rattle.std.proofs.Common.{◌≡◌, ℕ, zero, suc, ◌<◌, ◌≤◌, List, [], ◌∷◌, Option, Some, Result, Ok, Err, IfOk, false, refl, ap, subst, ◌∙◌, arith}
use Rattle.std.specs.Prelude.{is_err, slice_get, vec_len}
use Rattle.std.specs.Option.{option_map}
use Rattle.run_settings.specs.NextSessions.{names_after}
use Rattle.run_settings.specs.declared.next_session.NextSession.{NextSession}
use Rattle.run_settings.specs.declared.listen_settings.ListenSettings.{ListenSettings}
use Rattle.venue_lines.specs.Starts.{none_next}
use Rattle.udp_listening.specs.NamedNext.{AreNamedNext, AreNextOf, names_or}

none_at : (venues venue : ℕ) → venue < venues
    → slice_get (none_next venues) venue ≡ Some []
none_at zero venue below = absurd (omega arith)
none_at (suc venues) zero below = refl
none_at (suc venues) (suc venue) below = none_at venues venue (omega arith)

or_nothing : (names : List (List ℕ)) → names_or names [] ≡ names
or_nothing [] = refl
or_nothing (name ∷ names) = refl

-- what is so where the naming has not failed
when_named : {E : Type 0} (result : Result (Unit {0}) E) {P : Type 0} → is_err result ≡ false
    → IfOk result (λ _. P) → P
when_named (Ok x) none named = named
when_named (Err fault) none named = absurd cc

each_named : (settings : ListenSettings) (old new : List (List (List ℕ)))
    → old ≡ none_next (vec_len settings.feed.sessions) → vec_len settings.feed.sessions ≤ 16
    → AreNamedNext (vec_len settings.feed.sessions) settings.next.items old new
    → AreNextOf settings new
each_named settings old new none few n = λ venue below.
    let names = names_after venue settings.next.items in
    n.named venue below (omega (arith, few, below))
    ∙ ap (λ (l : List (List (List ℕ))). option_map (names_or names) (slice_get l venue)) none
    ∙ ap (λ (o : Option (List (List ℕ))). option_map (names_or names) o)
    (none_at (vec_len settings.feed.sessions) venue below)
    ∙ ap Some (or_nothing names)

-- each has the names of the settings
pub all_named : {E : Type 0} (settings : ListenSettings) (venues : ℕ) (next : List NextSession)
    (old new : List (List (List ℕ))) (result : Result (Unit {0}) E)
    → venues ≡ vec_len settings.feed.sessions → next ≡ settings.next.items
    → old ≡ none_next (vec_len settings.feed.sessions) → vec_len settings.feed.sessions ≤ 16
    → is_err result ≡ false → IfOk result (λ _. AreNamedNext venues next old new)
    → AreNextOf settings new
all_named settings venues next old new result count same none few made named =
    each_named settings old new none few
    (subst (λ (x : ℕ × List NextSession). AreNamedNext x.0 x.1 old new)
    (λ i. (count i, same i)) (when_named result made named))
