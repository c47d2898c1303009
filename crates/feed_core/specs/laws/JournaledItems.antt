-- The journal's items of a venue are those that were consumed there.
use Rattle.std.proofs.Common.{◌≡◌, ℕ, List, [], ◌∷◌, ◌++◌, Some, refl, ap, ◌∙◌}
use Rattle.std.specs.Prelude.{slice_get}
use Rattle.feed_types.specs.declared.item.Numbered.{Numbered}
use Rattle.feed_types.specs.declared.journal.Entry.{Entry}
use Rattle.journal_book.specs.ItemLaws.{items_here}
use Rattle.journal_book.specs.ItemsIn.{items_in}
use Rattle.feed_steps.specs.declared.event.Event.{Event}
use Rattle.feed_steps.specs.declared.event.Done.{Done}
use Rattle.feed_core.specs.Worlds.{Venue, World, Setting, new_world}
use Rattle.feed_core.specs.Runs.{IsRun}
use Rattle.feed_core.specs.laws.KeptVenues.{KeepsEntriesStep, run_keeps_entries}
use Rattle.feed_core.specs.laws.VenueHalfLaw.{new_at, none_asked}

abbrev IsJournaled : List Entry → ℕ → Venue → Type 0
IsJournaled entries place v = items_in entries place ≡ v.lane.received

moves : (s : Setting) → KeepsEntriesStep s (λ e. Unit {0}) IsJournaled
moves s = record {
  packet = λ E place v line bytes p rest answer h may spells taken k. k;
  renew = λ E place v name answer h r k. k;
  skip = λ E place v number answer h may r k. k;
  push = λ E place v x e k. k;
  consume = λ E place v x e k. items_here place place E x refl
      ∙ ap (λ (items : List Numbered). items ++ x ∷ []) k;
  other = λ E e place v same k. same ∙ k;
}

pub journaled_through : (s : Setting) (events : List Event) (ds : List Done) (w : World)
    → IsRun s (new_world s) events ds w
    → (place : ℕ) (v : Venue) → slice_get w.venues place ≡ Some v
    → items_in w.entries place ≡ v.lane.received
journaled_through s events ds w run =
    run_keeps_entries s (λ e. Unit {0}) IsJournaled (moves s) (new_world s) events ds w
    (none_asked events) (new_at (IsJournaled []) s.sessions (λ i name. refl)) run
