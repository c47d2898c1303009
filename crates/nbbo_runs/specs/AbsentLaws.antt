-- The laws of a sink whose symbols and sessions are watched.
use Rattle.std.proofs.Common.{◌≡◌, ℕ, List, [], ◌∷◌, ◌++◌, refl, sym, ap, ◌∙◌}
use Rattle.std.specs.Prelude.{Bool, ◌&&◌, not}
use Rattle.std.proofs.lemmas.List.Folds.{list_any-append}
use Rattle.event_sinks.specs.SinkEvents.{TimedEvent}
use Rattle.nbbo_runs.specs.declared.watched_sink.WatchedSink.{WatchedSink}
use Rattle.nbbo_runs.specs.AbsentSymbols.{IsAfterItems, TakesWatched, brings_item, comes_in}
use Rattle.nbbo_runs.specs.NamedSessions.{ordinals_after, ordinals_with}
use Rattle.run_notes.specs.AbsentLaws.{one_or_other, stays}
use Rattle.run_notes.specs.AbsentSymbols.{has_key}

pub items_none : (before : List ℕ) → IsAfterItems before [] before
items_none before key = stays (has_key before key)

pub items_more : (before mid after : List ℕ) (xs ys : List TimedEvent)
    → IsAfterItems before xs mid → IsAfterItems mid ys after → IsAfterItems before (xs ++ ys) after
items_more before mid after xs ys first second key =
    second key
    ∙ ap (λ (b : Bool). b && not (comes_in ys key)) (first key)
    ∙ one_or_other (has_key before key) (comes_in xs key) (comes_in ys key)
    ∙ ap (λ (b : Bool). has_key before key && not b)
    (sym (list_any-append (λ (e : TimedEvent). brings_item key e.event) xs ys))

-- the ordinals after events, and after more
both : (before : List ℕ) (xs ys : List TimedEvent)
    → ordinals_after (ordinals_after before xs) ys ≡ ordinals_after before (xs ++ ys)
both before [] ys = refl
both before (x ∷ xs) ys = both (ordinals_with before x.event) xs ys

pub ordinals_more : (before mid after : List ℕ) (xs ys : List TimedEvent)
    → mid ≡ ordinals_after before xs → after ≡ ordinals_after mid ys
    → after ≡ ordinals_after before (xs ++ ys)
ordinals_more before mid after xs ys first second =
    second ∙ ap (λ (l : List ℕ). ordinals_after l ys) first ∙ both before xs ys

module _ {K : Type 0} (takes : K → List TimedEvent → K → Type 0) where
  pub watched_sink_none : ((s : K) → takes s [] s)
      → (s : WatchedSink K) → TakesWatched takes s [] s
  watched_sink_none none s = (none s.sink, items_none s.absent, refl)

  pub watched_sink_more : ((s t u : K) (xs ys : List TimedEvent)
      → takes s xs t → takes t ys u → takes s (xs ++ ys) u)
      → (s t u : WatchedSink K) (xs ys : List TimedEvent)
      → TakesWatched takes s xs t → TakesWatched takes t ys u → TakesWatched takes s (xs ++ ys) u
  watched_sink_more more s t u xs ys a b = (
    more s.sink t.sink u.sink xs ys a.0 b.0,
    items_more s.absent t.absent u.absent xs ys a.1 b.1,
    ordinals_more s.ordinals t.ordinals u.ordinals xs ys a.2 b.2,
  )
