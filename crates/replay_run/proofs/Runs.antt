-- The events of records are a run of the machine.
use Rattle.std.proofs.Common.{◌≡◌, ℕ, ◌≤◌, Bool, List, [], ◌∷◌, ◌++◌, length, map, refl, sym, ap, subst, ◌∙◌, arith}
use Rattle.feed_types.specs.declared.journal.Entry.{Entry}
use Rattle.line_arbiter.specs.Histories.{History, new_history}
use Rattle.filter_terms.specs.declared.terms.Terms.{Terms}
use Rattle.feed_steps.specs.declared.event.Event.{Event}
use Rattle.feed_core.specs.Worlds.{Venue, World, Setting, new_venue, new_world}
use Rattle.feed_core.specs.Runs.{IsRun}
use Rattle.feed_core.specs.Headline.{Headline}
use Rattle.feed_core.specs.laws.HeadlineLaw.{headline}
use Rattle.feed_text.specs.declared.replay.ReplayConfig.{ReplayConfig}
use Rattle.capture_records.specs.Capture.{CaptureRecord, record_venue}
use Rattle.feed_text.specs.ReplayEvents.{ReplayEvent, entries_of}
use Rattle.feed_text.specs.Emitted.{Emits}
use Rattle.feed_text.specs.Texts.{EmitsAll, HasJournalRoom}
use Rattle.feed_text.specs.laws.Entries.{entries_more}
use Rattle.feed_text.specs.laws.Entries.{entries_grow}
use Rattle.feed_text.specs.laws.VenueItemsLaw.{Each, one_came, new_each, taken_are_streams}
use Rattle.replay_run.specs.Events.{event_of, drains, AreEvents, outcomes_of, replay_setting, consumed_all, world_of, IsReplayRun}
use Rattle.replay_run.proofs.ListPlaces.{get_map}
use Rattle.replay_run.proofs.EmittedEvents.{outcomes_more, run_more}
use Rattle.replay_run.proofs.Drains.{with_venues}
use Rattle.replay_run.proofs.RecordRuns.{record_ran, run_as}
use Rattle.replay_run.proofs.RunItems.{venue_items}

-- ---- records

abbrev pub RanAll : Setting → List CaptureRecord → List History → List Entry → List ReplayEvent
    → List History → Type 0
RanAll s rs hs entries emitted new =
    (events : List Event) × AreEvents rs events
    × IsRun s (world_of hs entries) events (outcomes_of entries emitted)
    (world_of new (entries_of entries emitted))

pub all_ran : (s : Setting) (gaps : Bool) → 1 ≤ s.lane
    → (rs : List CaptureRecord) (hs new : List History) (entries : List Entry)
    (emitted : List ReplayEvent)
    → Each s.window hs → Emits s.window gaps rs hs emitted new
    → length (entries_of entries emitted) ≤ s.journal
    → RanAll s rs hs entries emitted new
all_ran s gaps lane [] hs new entries emitted each t room = (
  [],
  refl,
  run_as s (world_of hs entries) [] [] (outcomes_of entries emitted) (world_of hs entries)
      (world_of new (entries_of entries emitted))
      (sym (ap (outcomes_of entries) t.0))
      (ap (λ (l : List History). world_of l entries) (sym t.1)
      ∙ ap (λ (E : List Entry). world_of new E) (sym (ap (entries_of entries) t.0)))
      refl,
)
all_ran s gaps lane (r ∷ rs) hs new entries emitted each (mid, first, others, one, rest, whole)
    room =
    let E : List Entry = entries_of entries first in
    let after : entries_of entries emitted ≡ entries_of E others = ap (entries_of entries) whole
    ∙ entries_more entries first others in
    let fits : length (entries_of E others) ≤ s.journal =
    subst (λ (l : List Entry). length l ≤ s.journal) after room in
    let fits_first : length E ≤ s.journal = (let g = entries_grow E others in omega arith) in
    let a = record_ran s gaps lane hs mid entries r first each one fits_first in
    let b = all_ran s gaps lane rs mid new E others
    (λ i k e. (one_came s.window gaps r hs mid first each one i k e).2.kept) rest fits in
    let own : List Event = event_of r ∷ drains (record_venue r) a.0 in (
      own ++ b.0,
      (a.0, b.0, b.1, refl),
      run_as s (world_of hs entries) (own ++ b.0) (outcomes_of entries first
          ++ outcomes_of E others)
          (outcomes_of entries emitted) (world_of new (entries_of E others))
          (world_of new (entries_of entries emitted))
          (sym (ap (outcomes_of entries) whole ∙ outcomes_more entries first others))
          (ap (λ (x : List Entry). world_of new x) (sym after))
          (run_more s (world_of hs entries) (world_of mid E) (world_of new (entries_of E others))
          own b.0
          (outcomes_of entries first) (outcomes_of E others) a.1 b.2),
    )

-- ---- from the first record on

pub begins : (names : List (List ℕ))
    → map consumed_all (map new_history names) ≡ map new_venue names
begins [] = refl
begins (name ∷ names) = ap (λ (vs : List Venue). new_venue name ∷ vs) (begins names)

pub replay_run : (config : ReplayConfig) (lane : ℕ) (filters : List Terms)
    (records : List CaptureRecord)
    (emitted : List ReplayEvent) (histories : List History) → 1 ≤ lane
    → EmitsAll config records emitted histories → HasJournalRoom config emitted
    → IsReplayRun (replay_setting config lane filters) records emitted histories
replay_run config lane filters records emitted hs some emits room =
    let s : Setting = replay_setting config lane filters in
    let ran : RanAll s records (map new_history config.sessions.now) [] emitted hs =
    all_ran s config.gaps some records (map new_history config.sessions.now) hs [] emitted
    (new_each config) emits room in
    let run : IsRun s (new_world s) ran.0 (outcomes_of [] emitted)
    (world_of hs (entries_of [] emitted)) =
    subst (λ (w : World). IsRun s w ran.0 (outcomes_of [] emitted)
    (world_of hs (entries_of [] emitted)))
    (with_venues [] _ _ (begins config.sessions.now)) ran.2 in
    let head : Headline s ran.0 (world_of hs (entries_of [] emitted)) =
    headline s ran.0 (outcomes_of [] emitted) (world_of hs (entries_of [] emitted)) run in
    record {
      events = ran.0;
      are = ran.1;
      run = run;
      headline = head;
      items = λ place h at. venue_items place records ran.0 emitted h
          (taken_are_streams config records emitted hs emits place h at)
          (head.venues place (consumed_all h) (get_map consumed_all hs place h at)) ran.1;
    }
