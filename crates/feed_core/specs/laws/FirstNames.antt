-- A venue's first session is the one that it is set up with.
use Rattle.std.proofs.Common.{◌≡◌, ℕ, zero, suc, List, [], ◌∷◌, ◌++◌, map, Some, Result, Ok, Err, refl, sym, ap, subst, ◌∙◌}
use Rattle.std.specs.Prelude.{slice_get}
use Rattle.line_arbiter.specs.declared.faults.RenewFault.{RenewFault}
use Rattle.line_arbiter.specs.declared.faults.SkipFault.{SkipFault}
use Rattle.line_arbiter.specs.Histories.{Begun, History, new_session, names_of, skip_after, history_after}
use Rattle.line_arbiter.specs.laws.Histories.{names_same}
use Rattle.line_arbiter.specs.Packets.{Skip}
use Rattle.feed_steps.specs.declared.event.Event.{Event}
use Rattle.feed_steps.specs.declared.event.Done.{Done}
use Rattle.feed_core.specs.Worlds.{Venue, World, Setting, new_venue, new_world}
use Rattle.feed_core.specs.Runs.{IsRun}
use Rattle.feed_core.specs.laws.KeptVenues.{KeepsVenueStep, run_keeps}
use Rattle.feed_core.specs.laws.VenueHalfLaw.{none_asked}

abbrev IsFirst : Setting → ℕ → Venue → Type 0
IsFirst s place v = slice_get (names_of v.history) 0 ≡ slice_get s.sessions place

first_same : (bs : List Begun) (b c : Begun) → b.name ≡ c.name
    → slice_get (map (λ (x : Begun). x.name) (bs ++ b ∷ [])) 0 ≡ slice_get
    (map (λ (x : Begun). x.name) (bs ++ c ∷ [])) 0
first_same [] b c e = ap (λ (n : List ℕ). Some n) e
first_same (x ∷ bs) b c e = refl

first_more : (bs : List Begun) (b c : Begun)
    → slice_get (map (λ (x : Begun). x.name) ((bs ++ b ∷ []) ++ c ∷ [])) 0 ≡ slice_get
    (map (λ (x : Begun). x.name) (bs ++ b ∷ [])) 0
first_more [] b c = refl
first_more (x ∷ bs) b c = refl

first_renewed : (old : History) (name : List ℕ) (answer : Result ℕ RenewFault)
    → slice_get (names_of (history_after old name answer)) 0 ≡ slice_get (names_of old) 0
first_renewed old name (Ok ordinal) = first_more old.earlier old.present (new_session name)
first_renewed old name (Err fault) = refl

first_skipped : (old : History) (number : ℕ) (answer : Result (Unit {0}) SkipFault)
    → slice_get (names_of (skip_after old number answer)) 0 ≡ slice_get (names_of old) 0
first_skipped old number (Ok _) =
    ap (λ (names : List (List ℕ)). slice_get names 0) (sym (names_same old (Skip number)))
first_skipped old number (Err fault) = refl

moves : (s : Setting) → KeepsVenueStep s (λ e. Unit {0}) (IsFirst s)
moves s = record {
  packet = λ place v line bytes p rest answer h may spells taken k.
      ap (λ (x : History). slice_get (names_of x) 0) taken.is
      ∙ first_same v.history.earlier _ v.history.present refl
      ∙ k;
  renew = λ place v name answer h r k. ap (λ (x : History). slice_get (names_of x) 0) r.is
      ∙ first_renewed v.history name answer ∙ k;
  skip = λ place v number answer h may r k.
      ap (λ (x : History). slice_get (names_of x) 0) r.is
      ∙ first_skipped v.history number answer ∙ k;
  push = λ place v x e k. k;
  consume = λ place v x e k. k;
}

new_first : (sessions : List (List ℕ)) (i : ℕ) (v : Venue)
    → slice_get (map new_venue sessions) i ≡ Some v
    → slice_get (names_of v.history) 0 ≡ slice_get sessions i
new_first [] i v e = absurd cc
new_first (name ∷ names) zero v e =
    subst (λ (u : Venue). slice_get (names_of u.history) 0 ≡ Some name)
    (let same : new_venue name ≡ v = cc in same) refl
new_first (name ∷ names) (suc i) v e = new_first names i v e

pub first_through : (s : Setting) (events : List Event) (ds : List Done) (w : World)
    → IsRun s (new_world s) events ds w
    → (place : ℕ) (v : Venue) → slice_get w.venues place ≡ Some v
    → slice_get (names_of v.history) 0 ≡ slice_get s.sessions place
first_through s events ds w run =
    run_keeps s (λ e. Unit {0}) (IsFirst s) (moves s) (new_world s) events ds w (none_asked events)
    (new_first s.sessions) run
