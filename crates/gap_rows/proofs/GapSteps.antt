-- What a maker of rows of gaps makes of one event.
use Rattle.std.proofs.Common.{◌≡◌, ◌<◌, ◌≤◌, ℕ, List, [], ◌∷◌, ◌++◌, length, arith, append-nil, ap, ◌∙◌, refl, sym, subst, Result, Ok, Err, Option, None, Some}
use Rattle.std.specs.Prelude.{OnErr, OnOk}
use Rattle.std.proofs.lemmas.Bool.Decides.{nat_tests}
use Rattle.run_settings.specs.declared.formats.RowFormat.{RowFormat}
use Rattle.event_sinks.specs.SinkEvents.{SinkEvent, TimedEvent, timed_event, told_before}
use Rattle.event_sinks.specs.TextPages.{FailsPage, TakesPage}
use Rattle.event_sinks.specs.declared.text_page.TextPage.{TextPage}
use Rattle.line_gaps.specs.declared.open_gap.EndedGap.{EndedGap}
use Rattle.line_gaps.specs.declared.venue_gaps.VenueGaps.{VenueGaps}
use Rattle.report_rows.specs.RowSinks.{FailsMaking, Makes}
use Rattle.gap_rows.specs.declared.gap_maker.GapMaker.{GapMaker}
use Rattle.gap_rows.specs.GapCells.{gap_rows_text}
use Rattle.gap_rows.specs.GapMakers.{EndsIn, MakesGaps, TakesEach, TellsGaps, one_of, rows_in, said_at, said_by, shown_in, venue_in}

pub is_one : (count venue : ℕ) → venue < count → one_of count (Some venue) ≡ Some venue
is_one count venue within = grind (arith, nat_tests, within)

pub is_none : (count venue : ℕ) → count ≤ venue → one_of count (Some venue) ≡ None
is_none count venue past = grind (arith, nat_tests, past)

-- gaps that end are of a venue
pub rows_are : (format : RowFormat) (e : TimedEvent) (o : Option ℕ) (count venue : ℕ)
    (old new : List VenueGaps)
    (gaps : List EndedGap) → ((n : ℕ) → o ≡ Some n → venue ≡ n)
    → EndsIn e (one_of count o) old new gaps
    → gap_rows_text format venue gaps ≡ rows_in format o gaps
rows_are format e None count venue old new gaps is ends =
    ap (λ (g : List EndedGap). gap_rows_text format venue g) ends.none
rows_are format e (Some n) count venue old new gaps is ends =
    ap (λ (v : ℕ). gap_rows_text format v gaps) (is n refl)

-- one event
pub takes_one : (format : RowFormat) (e : TimedEvent) (old new : List VenueGaps)
    (gaps : List EndedGap) (text : List ℕ)
    → EndsIn e (one_of (length old) (venue_in e.event)) old new gaps
    → text ≡ rows_in format (shown_in e.event) gaps
    → TakesEach format (e ∷ []) old text new
takes_one format e old new gaps text ends is = record {
  mid = new;
  first = text;
  rest = [];
  takes = record { gaps = gaps; ends = ends; text_is = is };
  follow = record { none = refl; same = refl };
  text_is = sym (append-nil text);
}

-- one event, of which the gaps that it ended are written with its venue
pub takes_of : (format : RowFormat) (e : TimedEvent) (venue : ℕ) (old new : List VenueGaps)
    (gaps : List EndedGap) → EndsIn e (one_of (length old) (venue_in e.event)) old new gaps
    → ((n : ℕ) → venue_in e.event ≡ Some n → venue ≡ n) → shown_in e.event ≡ venue_in e.event
    → TakesEach format (e ∷ []) old (gap_rows_text format venue gaps) new
takes_of format e venue old new gaps ends is shown =
    takes_one format e old new gaps (gap_rows_text format venue gaps) ends
    (rows_are format e (venue_in e.event) (length old) venue old new gaps is ends
    ∙ ap (λ (o : Option ℕ). rows_in format o gaps) (sym shown))

module _ {W : Type 0} (adds : W → List ℕ → W → Type 0) (failures : W → ℕ) where
  pub made : {T E : Type 0} (r : Result T E) (old new : GapMaker) (e : TimedEvent)
      (p q : TextPage W) (venue : ℕ) (gaps : List EndedGap) → new.format ≡ old.format
      → TakesEach old.format (e ∷ []) old.venues.items (gap_rows_text old.format venue gaps)
      new.venues.items
      → OnOk r (TakesPage adds failures p (gap_rows_text new.format venue gaps) q)
      → OnOk r (Makes MakesGaps adds failures old p (e ∷ []) new q)
  made (Ok x) old new e p q venue gaps same each takes = record {
    text = gap_rows_text old.format venue gaps;
    made = record { takes = each; format = same };
    takes = subst (λ (f : RowFormat). TakesPage adds failures p (gap_rows_text f venue gaps) q) same
        takes;
  }
  made (Err x) old new e p q venue gaps same each takes = tt

  pub failed : {T E : Type 0} (r : Result T E) (old new : GapMaker) (e : TimedEvent)
      (p q : TextPage W) (venue : ℕ) (gaps : List EndedGap) → new.format ≡ old.format
      → TakesEach old.format (e ∷ []) old.venues.items (gap_rows_text old.format venue gaps)
      new.venues.items
      → OnErr r (FailsPage adds failures p
      (p.text.items ++ gap_rows_text new.format venue gaps) q)
      → OnErr r (FailsMaking TellsGaps adds failures old p (e ∷ []) q)
  failed (Ok x) old new e p q venue gaps same each fails = tt
  failed (Err x) old new e p q venue gaps same each fails = record {
    first = e ∷ [];
    rest = [];
    all = refl;
    text = gap_rows_text old.format venue gaps;
    told = record { venues = new.venues.items; takes = each };
    fails = subst (λ (f : RowFormat). FailsPage adds failures p
        (p.text.items ++ gap_rows_text f venue gaps) q) same fails;
  }

-- what is told of an event, and what would be told of it
pub said_told : (time : Option ℕ) (event : SinkEvent) → said_by event ≡ event
    → said_at (timed_event time event) ≡ timed_event time event
said_told time event said = ap (timed_event time) said

pub said_before : (time : Option ℕ) (event : SinkEvent) → said_by event ≡ event
    → said_at (timed_event time (told_before event)) ≡ timed_event time event
said_before time event said = ap (timed_event time) said
