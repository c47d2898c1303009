-- Laws of a maker of rows of gaps.
use Rattle.std.proofs.Common.{List, [], ◌∷◌, ◌++◌, ℕ, append_assoc, refl, sym, subst, ap, ◌∙◌}
use Rattle.run_settings.specs.declared.formats.RowFormat.{RowFormat}
use Rattle.event_sinks.specs.SinkEvents.{TimedEvent}
use Rattle.line_gaps.specs.declared.venue_gaps.VenueGaps.{VenueGaps}
use Rattle.gap_rows.specs.declared.gap_maker.GapMaker.{GapMaker}
use Rattle.gap_rows.specs.GapMakers.{MakesGaps, TakesEach, TellsGaps}

pub takes_more : (format : RowFormat) (xs ys : List TimedEvent) (s t u : List VenueGaps)
    (a b : List ℕ) → TakesEach format xs s a t → TakesEach format ys t b u
    → TakesEach format (xs ++ ys) s (a ++ b) u
takes_more format [] ys s t u a b first next =
    subst (λ (v : List VenueGaps). TakesEach format ys v (a ++ b) u) first.same
    (subst (λ (l : List ℕ). TakesEach format ys t (l ++ b) u) (sym first.none) next)
takes_more format (x ∷ xs) ys s t u a b first next = record {
  mid = first.mid;
  first = first.first;
  rest = first.rest ++ b;
  takes = first.takes;
  follow = takes_more format xs ys first.mid t u first.rest b first.follow next;
  text_is = ap (λ (l : List ℕ). l ++ b) first.text_is ∙ append_assoc first.first first.rest b;
}

pub tells_no_gaps : (s : GapMaker) → TellsGaps s [] []
tells_no_gaps s = record {
  venues = s.venues.items;
  takes = record { none = refl; same = refl };
}

pub makes_no_gaps : (s : GapMaker) → MakesGaps s [] [] s
makes_no_gaps s = record { takes = record { none = refl; same = refl }; format = refl }

pub tells_after_gaps : (s t : GapMaker) (xs ys : List TimedEvent) (a b : List ℕ)
    → MakesGaps s xs a t → TellsGaps t ys b → TellsGaps s (xs ++ ys) (a ++ b)
tells_after_gaps s t xs ys a b first next = record {
  venues = next.venues;
  takes = takes_more s.format xs ys s.venues.items t.venues.items next.venues a b first.takes
      (subst (λ (f : RowFormat). TakesEach f ys t.venues.items b next.venues) first.format
      next.takes);
}

pub makes_more_gaps : (s t u : GapMaker) (xs ys : List TimedEvent) (a b : List ℕ)
    → MakesGaps s xs a t → MakesGaps t ys b u → MakesGaps s (xs ++ ys) (a ++ b) u
makes_more_gaps s t u xs ys a b first next = record {
  takes = takes_more s.format xs ys s.venues.items t.venues.items u.venues.items a b first.takes
      (subst (λ (f : RowFormat). TakesEach f ys t.venues.items b u.venues.items) first.format
      next.takes);
  format = next.format ∙ first.format;
}
