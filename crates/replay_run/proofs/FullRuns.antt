-- A run up to a full journal.
use Rattle.std.proofs.Common.{◌≡◌, ℕ, zero, suc, ◌+◌, ◌<◌, ◌≤◌, Bool, true, false, List, [], ◌∷◌, ◌++◌, length, map, drop, Some, None, Option, refl, sym, ap, subst, ◌∙◌, arith, append_assoc, append-nil, length-append, inl, inr}
use Rattle.std.specs.Prelude.{slice_get, slice_set, nat_le, if◌then◌else◌}
use Rattle.std.proofs.lemmas.Bool.{le-leb}
use Rattle.std.proofs.lemmas.Grind.{flat_map-append}
use Rattle.feed_types.specs.declared.item.Numbered.{Numbered}
use Rattle.feed_types.specs.declared.journal.Entry.{Entry}
use Rattle.feed_types.specs.declared.journal.Entry.TheVariants as entry
use Rattle.feed_types.specs.declared.line.LineId.{LineId}
use Rattle.feed_types.specs.Sessions.{Session}
use Rattle.mold_packet.specs.declared.request.Request.{Request}
use Rattle.nbbo_book.specs.Eligible.{is_so}
use Rattle.line_arbiter.specs.Streams.{stream_of, gap_of}
use Rattle.line_arbiter.specs.Histories.{History, new_history, streams_of}
use Rattle.filter_terms.specs.declared.terms.Terms.{Terms}
use Rattle.feed_steps.specs.declared.event.Event.{Event}
use Rattle.feed_steps.specs.declared.event.Event.TheVariants.{Packet, Push, Consume, Declare, Skip}
use Rattle.feed_steps.specs.declared.event.Done.{Done}
use Rattle.feed_steps.specs.declared.event.Done.TheVariants as outcome
use Rattle.feed_core.specs.Worlds.{Venue, World, Setting, new_venue, new_world}
use Rattle.feed_steps.specs.Steps.{Applies, Refused, Changes, journal_item, consume_next, journal_full, already_so}
use Rattle.feed_core.specs.Steps.{next_out, declare_help}
use Rattle.feed_core.specs.laws.LaneMoves.{with_intake}
use Rattle.feed_core.specs.OneStep.{IsStep}
use Rattle.feed_core.specs.Runs.{IsRun}
use Rattle.feed_steps.specs.Steps as parts
use Rattle.feed_core.specs.VenueHalf.{BringsOnly, BringOnly}
use Rattle.feed_core.specs.laws.HeadlineLaw.{headline}
use Rattle.feed_text.specs.declared.replay.ReplayConfig.{ReplayConfig}
use Rattle.capture_records.specs.Capture.{CaptureRecord, datagram_record, renewal_record, skip_record, self_help_record, record_venue}
use Rattle.feed_text.specs.ReplayEvents.{ReplayEvent, packet_answered, packet_refused, item_taken, gap_left, renewal_answered, skip_answered, self_help_declared, entries_after, entries_of}
use Rattle.line_arbiter.specs.LastSent.{last_sent, stream_length}
use Rattle.feed_text.specs.Emitted.{gap_event, gap_emitted, EmitsFault, EmitsPacket, EmitsSkip, EmitsAt, EmitsRecord}
use Rattle.capture_records.specs.Formats.{TimedRecord, what_of}
use Rattle.event_sinks.specs.SinkEvents.{TimedEvent}
use Rattle.feed_text.specs.Told.{IsToldToFull}
use Rattle.feed_text.specs.VenueItems.{taken_by, items_taken}
use Rattle.feed_types.specs.ListLaws.{get_set_same, get_set_other, same_or_not}
use Rattle.feed_text.specs.laws.Entries.{entries_more}
use Rattle.feed_text.specs.laws.Entries.{entries_grow}
use Rattle.line_arbiter.specs.laws.AnsweredHistories.{IsAnsweredThroughout}
use Rattle.feed_text.specs.laws.VenueItemsLaw.{Each, items_same, items_other, new_each, all_kept, taken_are_streams}
use Rattle.replay_run.specs.Events.{slice_of, drains, outcomes_by, outcomes_of, replay_setting, consumed_all, world_of}
use Rattle.replay_run.specs.Full.{StopsAt, IsRunToFull}
use Rattle.replay_run.specs.ToldHeadline.{HoldsOnly, HoldOnly}
use Rattle.replay_run.proofs.ListPlaces.{get_map, get_set_here}
use Rattle.replay_run.proofs.EmittedEvents.{at_venue, outcomes_more, run_more}
use Rattle.replay_run.proofs.Drains.{at, venue_at, venue_more, push_step, drain, with_venues}
use Rattle.replay_run.proofs.RecordRuns.{items_len, packet_begins, ready_behind, skip_begins, skip_behind}
use Rattle.replay_run.proofs.RunSessions.{all_more, drains_only, events_only}
use Rattle.replay_run.proofs.Runs.{RanAll, all_ran, begins}

-- ---- the event that finds no room

-- the event adds an entry
abbrev Adds : List Entry → ReplayEvent → Type 0
Adds E next = length E < length (entries_after E next)

head_is : {X : Type 0} (x y : X) (xs ys : List X) → x ∷ xs ≡ y ∷ ys → x ≡ y
head_is x y xs ys e = cc

tail_is : {X : Type 0} (x y : X) (xs ys : List X) → x ∷ xs ≡ y ∷ ys → xs ≡ ys
tail_is x y xs ys e = cc

none_is : {X : Type 0} (xs : List X) (y : X) (ys : List X) → [] ≡ xs ++ y ∷ ys → ⊥
none_is [] y ys e = cc
none_is (x ∷ xs) y ys e = cc

-- an event that adds no entry had room
record IsPast (x : ReplayEvent) (xs first others : List ReplayEvent) (next : ReplayEvent) : Type 0
  where
    rest : List ReplayEvent
    first_is : first ≡ x ∷ rest
    rest_are : xs ≡ rest ++ next ∷ others

past : (E : List Entry) (x : ReplayEvent) (xs first others : List ReplayEvent) (next : ReplayEvent)
    → x ∷ xs ≡ first ++ next ∷ others → entries_after E x ≡ E → Adds E next
    → IsPast x xs first others next
past E x xs [] others next e same adds =
    let is : length (entries_after E next) ≡ length E =
    ap (λ (h : ReplayEvent). length (entries_after E h)) (sym (head_is x next xs others e))
    ∙ ap length same in
    absurd (omega arith)
past E x xs (y ∷ first) others next e same adds = record {
  rest = first;
  first_is = ap (λ (h : ReplayEvent). h ∷ first) (sym (head_is x y xs (first ++ next ∷ others) e));
  rest_are = tail_is x y xs (first ++ next ∷ others) e;
}

in_gap : (window : ℕ) (gaps : Bool) (venue : ℕ) (h : History) (E : List Entry)
    (first others : List ReplayEvent)
    (next : ReplayEvent) → gap_emitted window gaps venue h ≡ first ++ next
    ∷ others → Adds E next → ⊥
in_gap window false venue h E first others next e adds = none_is first next others e
in_gap window true venue h E first others next e adds =
    by (gap_of h.present.name window (last_sent h) h.present.packets) e
  where
    by : (o : Option Request) → gap_event venue o ≡ first ++ next ∷ others → ⊥
    by None e = none_is first next others e
    by (Some request) e =
        (let p = past E (gap_left venue request) [] first others next e refl adds
        in none_is p.rest next others
        p.rest_are)

-- the event is one of the items
record IsInItems (venue : ℕ) (ready : List Numbered) (first : List ReplayEvent)
    (next : ReplayEvent) : Type 0 where
  had : List Numbered
  item : Numbered
  rest : List Numbered
  ready_are : ready ≡ had ++ item ∷ rest
  first_are : first ≡ map (item_taken venue) had
  next_is : next ≡ item_taken venue item

in_items : (window : ℕ) (gaps : Bool) (venue : ℕ) (h : History) (E : List Entry)
    (ready : List Numbered)
    (first others : List ReplayEvent) (next : ReplayEvent)
    → map (item_taken venue) ready ++ gap_emitted window gaps venue h ≡ first
    ++ next ∷ others → Adds E next
    → IsInItems venue ready first next
in_items window gaps venue h E [] first others next e adds =
    absurd (in_gap window gaps venue h E first others next e adds)
in_items window gaps venue h E (x ∷ ready) [] others next e adds = record {
  had = [];
  item = x;
  rest = ready;
  ready_are = refl;
  first_are = refl;
  next_is =
      sym (head_is (item_taken venue x) next (map (item_taken venue) ready
      ++ gap_emitted window gaps venue h) others e);
}
in_items window gaps venue h E (x ∷ ready) (y ∷ first) others next e adds =
    let i = in_items window gaps venue h E ready first others next
    (tail_is (item_taken venue x) y (map (item_taken venue) ready
    ++ gap_emitted window gaps venue h)
    (first ++ next ∷ others) e) adds in
    record {
      had = x ∷ i.had;
      item = i.item;
      rest = i.rest;
      ready_are = ap (λ (xs : List Numbered). x ∷ xs) i.ready_are;
      first_are =
          ap (λ (z : ReplayEvent). z ∷ first)
          (sym (head_is (item_taken venue x) y (map (item_taken venue) ready
          ++ gap_emitted window gaps venue h)
          (first ++ next ∷ others) e)) ∙ ap (λ (zs : List ReplayEvent). item_taken venue x ∷ zs)
          i.first_are;
      next_is = i.next_is;
    }

-- ---- the last record

get_map_back : {X Y : Type 0} (f : X → Y) (xs : List X) (i : ℕ) (y : Y)
    → slice_get (map f xs) i ≡ Some y
    → (x : X) × (slice_get xs i ≡ Some x) × (y ≡ f x)
get_map_back f [] i y e = absurd cc
get_map_back f (x ∷ xs) zero y e = (x, refl, (let same : f x ≡ y = cc in sym same))
get_map_back f (x ∷ xs) (suc i) y e = get_map_back f xs i y e

-- the items that were emitted before are the streams of these histories
abbrev AreTold : List ReplayEvent → List History → Type 0
AreTold emitted hs = (place : ℕ) (h : History) → slice_get hs place ≡ Some h
    → items_taken place emitted ≡ streams_of h

-- the record's events that found room, and the one that doesn't
record LastRan (s : Setting) (r : CaptureRecord) (hs : List History) (E : List Entry)
    (emitted first : List ReplayEvent) : Type 0 where
  events : List Event
  refused : Event
  stops : StopsAt r events refused
  pushed : List Done
  full : World
  run : IsRun s (world_of hs E) events (outcomes_of E first ++ pushed) full
  entries_are : full.entries ≡ entries_of E first
  items : AreTold emitted hs → (place : ℕ) (v : Venue) → slice_get full.venues place ≡ Some v
      → items_taken place (emitted ++ first) ≡ v.lane.received
  next : IsStep s full refused journal_full full

module _ (s : Setting) (gaps : Bool) (lane : 1 ≤ s.lane) (hs : List History) (E : List Entry)
    (emitted : List ReplayEvent)
    (venue : ℕ) (h : History) (there : slice_get hs venue ≡ Some h)
    (kept : IsAnsweredThroughout s.window h) where
  -- the item that was pushed isn't consumed
  refused_next : (new : History) (items : List Numbered) (x : Numbered) (F : List Entry)
      → s.journal ≤ length F
      → IsStep s (at (map consumed_all hs) venue (venue_more new items x) F)
      (Consume venue) journal_full
      (at (map consumed_all hs) venue (venue_more new items x) F)
  refused_next new items x F full =
      let v : Venue = venue_more new items x in
      let w : World = at (map consumed_all hs) venue v F in
      let no : nat_le s.journal (length F) ≡ true = le-leb s.journal (length F) full in
      at_venue w venue v journal_full w
      (λ v. Applies (with_intake w venue v)
      (consume_next s.journal venue (next_out v.lane) (record {
        received = v.lane.received;
        entries = w.entries;
      })) w
      journal_full w)
      (get_set_here (map consumed_all hs) venue (consumed_all h) v
      (get_map consumed_all hs venue h there))
      (subst (λ (b : Bool). Applies (with_intake w venue v)
      (if b then Refused journal_full else journal_item venue (next_out v.lane)
      (record { received = v.lane.received; entries = w.entries })) w journal_full w) (sym no)
      (refl, refl))

  items_more : (new : History) (had : List Numbered) (x : Numbered) (F : List Entry)
      (first : List ReplayEvent)
      → ((place : ℕ) → items_taken place first ≡ items_taken place (map (item_taken venue) had))
      → AreTold emitted hs
      → (place : ℕ) (v : Venue)
      → slice_get (slice_set (map consumed_all hs) venue (venue_more new (streams_of h ++ had) x))
      place ≡ Some v
      → items_taken place (emitted ++ first) ≡ v.lane.received
  items_more new had x F first taken before place v at_place =
      let u : Venue = venue_more new (streams_of h ++ had) x in
      let split : items_taken place (emitted ++ first) ≡ items_taken place emitted
      ++ items_taken place
      (map (item_taken venue) had) = flat_map-append (taken_by place) emitted first
      ∙ ap (λ (xs : List Numbered). items_taken place emitted ++ xs) (taken place) in
      elim (same_or_not place venue) [
        | inl here ↦ rw (here)
            (let is : v ≡ u =
            get_set_same (map consumed_all hs) venue u v
            (subst (λ (n : ℕ). slice_get (slice_set (map consumed_all hs) venue u) n ≡ Some v) here
            at_place) in
            subst (λ (n : ℕ). items_taken n (emitted ++ first) ≡ items_taken n emitted
            ++ items_taken n
            (map (item_taken venue) had)) here split
            ∙ ap (λ (xs : List Numbered). xs ++ items_taken venue (map (item_taken venue) had))
            (before venue h there)
            ∙ ap (λ (xs : List Numbered). streams_of h ++ xs) (items_same venue had)
            ∙ sym (ap (λ (x : Venue). x.lane.received) is))
        | inr away ↦
            (let old =
            get_map_back consumed_all hs place v
            (sym (get_set_other (map consumed_all hs) venue place u away) ∙ at_place) in
            split
            ∙ ap (λ (xs : List Numbered). items_taken place emitted ++ xs)
            (items_other place venue had (λ e. away (sym e)))
            ∙ append-nil (items_taken place emitted)
            ∙ before place old.0 old.1
            ∙ sym (ap (λ (x : Venue). x.lane.received) old.2))
      ]

  -- the record's event leaves the venue so, and then one of the items that it made ready finds no
  -- room; what is emitted of the event itself adds no entry
  ready_stops : (r : CaptureRecord) (e : Event) (d : Done) (x : ReplayEvent)
      (ready : List Numbered) (some : Bool)
      (first others : List ReplayEvent) (next : ReplayEvent) (new : History)
      → IsStep s (world_of hs E) e d (at (map consumed_all hs) venue (venue_at new (streams_of h))
      E)
      → ((l : List Entry) → entries_after l x ≡ l) → ((l : List Entry) → outcomes_by l x ≡ d ∷ [])
      → ((place : ℕ) → taken_by place x ≡ [])
      → ((n : ℕ) → StopsAt r (e ∷ drains venue n ++ Push venue ∷ []) (Consume venue))
      → x ∷ map (item_taken venue) ready ++ gap_emitted s.window some venue new ≡ first ++ next
      ∷ others
      → streams_of new ≡ streams_of h ++ ready
      → length (entries_of E first) ≤ s.journal
      → s.journal < length (entries_after (entries_of E first) next)
      → LastRan s r hs E emitted first
  ready_stops r e d x ready some first others next new step quiet told none_taken stops
      tells behind room short =
      let F : List Entry = entries_of E first in
      let p = past F x (map (item_taken venue) ready ++ gap_emitted s.window some venue new)
      first others next tells
      (quiet F) (omega arith) in
      let i = in_items s.window some venue new F ready p.rest others next p.rest_are (omega arith)
      in
      let taken : List ReplayEvent = map (item_taken venue) i.had in
      let first_is : first ≡ x ∷ taken = p.first_is
      ∙ ap (λ (xs : List ReplayEvent). x ∷ xs) i.first_are in
      let after : F ≡ entries_of E taken =
      ap (entries_of E) first_is ∙ ap (λ (l : List Entry). entries_of l taken) (quiet E) in
      let outcomes : outcomes_of E first ≡ d ∷ outcomes_of E taken =
      ap (outcomes_of E) first_is
      ∙ ap (λ (l : List Entry). outcomes_by E x ++ outcomes_of l taken) (quiet E)
      ∙ ap (λ (ds : List Done). ds ++ outcomes_of E taken) (told E) in
      let all : streams_of new ≡ streams_of h ++ (i.had ++ i.item ∷ i.rest) =
      behind ∙ ap (λ (xs : List Numbered). streams_of h ++ xs) i.ready_are in
      let w : World = world_of hs E in
      let mid : World = at (map consumed_all hs) venue (venue_at new (streams_of h)) E in
      let drained : World =
      at (map consumed_all hs) venue (venue_at new (streams_of h ++ i.had)) (entries_of E taken) in
      let full : World =
      at (map consumed_all hs) venue (venue_more new (streams_of h ++ i.had) i.item)
      (entries_of E taken) in
      let there_is = get_map consumed_all hs venue h there in
      let same_len : length F ≡ length (entries_of E taken) = ap length after in
      let fits : length E + length i.had ≤ s.journal =
      (let n = items_len venue i.had E in omega arith) in
      let no_room : s.journal ≤ length (entries_of E taken) =
      (let n : length (entries_after F next) ≡ length (F ++ entry.Consumed venue i.item ∷ []) =
      ap (λ (x : ReplayEvent). length (entries_after F x)) i.next_is in let m =
      length-append F (entry.Consumed venue i.item ∷ []) in omega arith) in
      let ran : IsRun s w (e ∷ drains venue (length i.had) ++ Push venue ∷ [])
      ((d ∷ outcomes_of E taken) ++ outcome.Pushed i.item.number ∷ []) full = (
        mid,
        step,
        run_more s mid drained full (drains venue (length i.had)) (Push venue
            ∷ []) (outcomes_of E taken)
            (outcome.Pushed i.item.number ∷ [])
            (drain s lane (map consumed_all hs) venue (consumed_all h) there_is
            new i.had (streams_of h)
            (i.item ∷ i.rest) E all fits) (
              full,
              push_step s lane (map consumed_all hs) venue (consumed_all h) there_is new
                  (streams_of h ++ i.had) i.rest i.item (entries_of E taken)
                  (all ∙ sym (append_assoc (streams_of h) i.had (i.item ∷ i.rest))),
              refl,
            ),
      ) in
      record {
        events = e ∷ drains venue (length i.had) ++ Push venue ∷ [];
        refused = Consume venue;
        stops = stops (length i.had);
        pushed = outcome.Pushed i.item.number ∷ [];
        full = full;
        run = subst
            (λ (ds : List Done). IsRun s w (e ∷ drains venue (length i.had) ++ Push venue ∷ [])
            (ds ++ outcome.Pushed i.item.number ∷ []) full) (sym outcomes) ran;
        entries_are = sym after;
        items = items_more new i.had i.item (entries_of E taken) first
            (λ place. ap (items_taken place) first_is
            ∙ ap (λ (xs : List Numbered). xs ++ items_taken place taken) (none_taken place));
        next = refused_next new (streams_of h ++ i.had) i.item (entries_of E taken) no_room;
      }

  packet_stops : (line : LineId) (bytes : List ℕ) (first others : List ReplayEvent)
      (next : ReplayEvent) (new : History)
      → EmitsPacket s.window gaps venue line bytes h (first ++ next ∷ others) new
      → length (entries_of E first) ≤ s.journal
      → s.journal < length (entries_after (entries_of E first) next)
      → LastRan s (datagram_record venue line bytes) hs E emitted first
  packet_stops line bytes first others next new t room short =
      ready_stops (datagram_record venue line bytes) (Packet venue line (slice_of bytes))
      (parts.packet_done t.answer)
      (packet_answered venue line t.packet.number (length t.packet.messages) (length bytes)
      t.answer)
      (drop (stream_length h) (stream_of new.present.packets)) gaps first others
      next new (packet_begins s gaps lane hs E venue h there kept line bytes (first
      ++ next ∷ others) new t)
      (λ l. refl) (λ l. refl) (λ place. refl) (λ n. (n, refl, refl)) (sym t.emitted_is)
      (ready_behind s gaps lane hs E venue h there kept line bytes (first ++ next ∷ others) new t)
      room short

  skip_stops : (number : ℕ) (first others : List ReplayEvent) (next : ReplayEvent) (new : History)
      → EmitsSkip venue number h (first ++ next ∷ others) new
      → length (entries_of E first) ≤ s.journal
      → s.journal < length (entries_after (entries_of E first) next)
      → LastRan s (skip_record venue number) hs E emitted first
  skip_stops number first others next new t room short =
      let ready : List Numbered = drop (stream_length h) (stream_of new.present.packets) in
      ready_stops (skip_record venue number) (Skip venue number) (parts.skip_done number t.answer)
      (skip_answered venue number t.answer) ready false first others next new
      (skip_begins s gaps lane hs E venue h there kept number (first ++ next ∷ others) new t)
      (λ l. refl) (λ l. refl) (λ place. refl) (λ n. (n, refl, refl))
      (ap (λ (xs : List ReplayEvent). skip_answered venue number t.answer ∷ xs)
      (append-nil (map (item_taken venue) ready)) ∙ sym t.emitted_is)
      (skip_behind s gaps lane hs E venue h there kept number (first ++ next ∷ others) new t) room
      short

  fault_stops : (line : LineId) (bytes : List ℕ) (first others : List ReplayEvent)
      (next : ReplayEvent) (new : History)
      → EmitsFault s.window gaps venue line bytes h (first ++ next ∷ others) new
      → s.journal < length (entries_after (entries_of E first) next)
      → length (entries_of E first) ≤ s.journal → ⊥
  fault_stops line bytes first others next new t short room =
      let F : List Entry = entries_of E first in
      let p = past F (packet_refused venue line t.fault) (gap_emitted s.window gaps venue new) first
      others next
      (sym t.emitted_is) refl (omega arith) in
      in_gap s.window gaps venue new F p.rest others next p.rest_are (omega arith)

  -- the declaration changes something, and there is no room for it
  declared_full : (on b : Bool) → is_so E venue on ≡ b → length E ≤ s.journal
      → s.journal < length (if b then E else E ++ entry.SelfHelp venue on ∷ [])
      → Applies (λ (x : List Entry). world_of hs x)
      (if b then Refused already_so else
      (if nat_le s.journal (length E) then Refused journal_full else Changes
      (outcome.Declared (length E + 1))
      (E ++ entry.SelfHelp venue on ∷ []))) (world_of hs E) journal_full (world_of hs E)
  declared_full on true e room short = absurd (omega arith)
  declared_full on false e room short =
      let n = length-append E (entry.SelfHelp venue on ∷ []) in
      let no : nat_le s.journal (length E) ≡ true = le-leb s.journal (length E) (omega arith) in
      subst (λ (b : Bool). Applies (λ (x : List Entry). world_of hs x)
      (if b then Refused journal_full else Changes (outcome.Declared (length E + 1))
      (E ++ entry.SelfHelp venue on ∷ [])) (world_of hs E) journal_full (world_of hs E)) (sym no)
      (refl, refl)

  self_help_stops : (on : Bool) (first others : List ReplayEvent) (next : ReplayEvent)
      → first ++ next ∷ others ≡ self_help_declared venue on ∷ []
      → length (entries_of E first) ≤ s.journal
      → s.journal < length (entries_after (entries_of E first) next)
      → LastRan s (self_help_record venue on) hs E emitted first
  self_help_stops on (y ∷ first) others next e room short =
      absurd (none_is first next others
      (sym (tail_is y (self_help_declared venue on) (first ++ next ∷ others) [] e)))
  self_help_stops on [] others next e room short =
      let w : World = world_of hs E in
      let is : next ≡ self_help_declared venue on =
      head_is next (self_help_declared venue on) others [] e in
      let over : s.journal < length (if is_so E venue on then E else E
      ++ entry.SelfHelp venue on ∷ []) =
      subst (λ (x : ReplayEvent). s.journal < length (entries_after E x)) is short in
      record {
        events = [];
        refused = Declare venue on;
        stops = (refl, refl);
        pushed = [];
        full = w;
        run = refl;
        entries_are = refl;
        items = λ before place v at_place.
            (let old = get_map_back consumed_all hs place v at_place
            in ap (items_taken place) (append-nil emitted)
            ∙ before place old.0 old.1 ∙ sym (ap (λ (x : Venue). x.lane.received) old.2));
        next = at_venue w venue (consumed_all h) journal_full w
            (λ v. Applies (λ (x : List Entry). record w { entries = x })
            (declare_help s.journal venue on E) w journal_full w)
            (get_map consumed_all hs venue h there)
            (declared_full on (is_so E venue on) refl room over);
      }

last_ran : (s : Setting) (gaps : Bool) → 1 ≤ s.lane
    → (hs after : List History) (E : List Entry) (r : CaptureRecord)
    (emitted first others : List ReplayEvent)
    (next : ReplayEvent) → Each s.window hs
    → EmitsRecord s.window gaps r hs (first ++ next ∷ others) after
    → length (entries_of E first) ≤ s.journal
    → s.journal < length (entries_after (entries_of E first) next)
    → LastRan s r hs E emitted first
last_ran s gaps lane hs after E r emitted first others next each t room short =
    by r t.at (each (record_venue r) t.before t.at) t.emits
  where
    by : (r : CaptureRecord) → slice_get hs (record_venue r) ≡ Some t.before
        → IsAnsweredThroughout s.window t.before
        → EmitsAt s.window gaps r t.before (first ++ next ∷ others) t.after
        → LastRan s r hs E emitted first
    by (datagram_record venue line bytes) at kept x = elim x [
      | inl f ↦
          absurd (fault_stops s gaps lane hs E emitted venue t.before at kept line bytes
          first others next t.after f
          short room)
      | inr p ↦
          packet_stops s gaps lane hs E emitted venue t.before at kept line bytes first others
          next t.after p room short
    ]
    by (renewal_record venue name) at kept x =
        let p = past (entries_of E first) (renewal_answered venue x.answer) [] first others next
        (sym x.emitted_is) refl
        (omega arith) in
        absurd (none_is p.rest next others p.rest_are)
    by (skip_record venue number) at kept x =
        skip_stops s gaps lane hs E emitted venue t.before at kept number first others
        next t.after x room short
    by (self_help_record venue on) at kept x =
        self_help_stops s gaps lane hs E emitted venue t.before at kept on first others next
        x.emitted_is room short

-- ---- from the first record on

stops_only : (place : ℕ) (session : Session) (r : CaptureRecord)
    (events : List Event) (refused : Event)
    → StopsAt r events refused → HoldsOnly place session r → BringOnly place events session
stops_only place session (datagram_record venue line bytes) events refused x may =
    subst (λ (es : List Event). BringOnly place es session) (sym x.1) (
      may,
      all_more (BringsOnly place session) (drains venue x.0) (Push venue ∷ [])
          (drains_only place venue session x.0) (tt, tt),
    )
stops_only place session (renewal_record venue name) events refused x may = absurd x
stops_only place session (skip_record venue number) events refused x may =
    subst (λ (es : List Event). BringOnly place es session) (sym x.1) (
      tt,
      all_more (BringsOnly place session) (drains venue x.0) (Push venue ∷ [])
          (drains_only place venue session x.0) (tt, tt),
    )
stops_only place session (self_help_record venue on) events refused x may =
    subst (λ (es : List Event). BringOnly place es session) (sym x.0) tt

only_front : (place : ℕ) (session : Session) (rs : List CaptureRecord) (r : CaptureRecord)
    → HoldOnly place (rs ++ r ∷ []) session → HoldOnly place rs session × HoldsOnly place session r
only_front place session [] r all = (tt, all.0)
only_front place session (x ∷ rs) r all = (let f = only_front place session rs r all.1
    in ((all.0, f.0), f.1))

pub full_run : (config : ReplayConfig) (lane : ℕ) (filters : List Terms)
    (records : List TimedRecord)
    (told : List TimedEvent) → 1 ≤ lane → (x : IsToldToFull config records told)
    → IsRunToFull (replay_setting config lane filters) (map what_of x.before.taken)
    x.last.what (x.before.emitted ++ x.first)
full_run config lane filters records told some x =
    let before = x.before in
    let earlier : List CaptureRecord = map what_of before.taken in
    let last : CaptureRecord = x.last.what in
    let s : Setting = replay_setting config lane filters in
    let hs : List History = before.histories in
    let E : List Entry = entries_of [] before.emitted in
    let F : List Entry = entries_of E x.first in
    let told_first : entries_of [] (before.emitted ++ x.first) ≡ F =
    entries_more [] before.emitted x.first in
    let room : length F ≤ config.journal = subst (λ (l : List Entry). length l ≤ config.journal)
    told_first x.room in
    let past_end : entries_of [] (before.emitted ++ x.first ++ x.next ∷ [])
    ≡ entries_after F x.next =
    entries_more [] (before.emitted ++ x.first) (x.next ∷ [])
    ∙ ap (λ (l : List Entry). entries_after l x.next) told_first in
    let short : config.journal < length (entries_after F x.next) =
    subst (λ (l : List Entry). config.journal < length l) past_end x.full in
    let before_fits : length E ≤ config.journal = (let g = entries_grow E x.first in omega arith) in
    let ran : RanAll s earlier (map new_history config.sessions.now) [] before.emitted hs =
    all_ran s config.gaps some earlier (map new_history config.sessions.now) hs [] before.emitted
    (new_each config) before.emits before_fits in
    let run : IsRun s (new_world s) ran.0 (outcomes_of [] before.emitted) (world_of hs E) =
    subst (λ (w : World). IsRun s w ran.0 (outcomes_of [] before.emitted) (world_of hs E))
    (with_venues [] (map consumed_all (map new_history config.sessions.now))
    (map new_venue config.sessions.now)
    (begins config.sessions.now)) ran.2 in
    let l : LastRan s last hs E before.emitted x.first =
    last_ran s config.gaps some hs x.after E last before.emitted x.first x.others x.next
    (all_kept config earlier before.emitted hs before.emits) x.last_emits room short in
    let whole : outcomes_of [] before.emitted ++ (outcomes_of E x.first ++ l.pushed)
    ≡ outcomes_of [] (before.emitted ++ x.first) ++ l.pushed =
    sym (append_assoc (outcomes_of [] before.emitted) (outcomes_of E x.first) l.pushed)
    ∙ ap (λ (ds : List Done). ds ++ l.pushed) (sym (outcomes_more [] before.emitted x.first)) in
    let all : IsRun s (new_world s) (ran.0 ++ l.events) (outcomes_of [] (before.emitted ++ x.first)
    ++ l.pushed) l.full =
    subst (λ (ds : List Done). IsRun s (new_world s) (ran.0 ++ l.events) ds l.full) whole
    (run_more s (new_world s) (world_of hs E) l.full ran.0 l.events (outcomes_of [] before.emitted)
    (outcomes_of E x.first ++ l.pushed) run l.run) in
    record {
      before = ran.0;
      are = ran.1;
      done = l.events;
      refused = l.refused;
      stops = l.stops;
      only = λ place session may. (let f = only_front place session earlier last may in
          all_more (BringsOnly place session) ran.0 l.events (events_only place session
          earlier ran.0 ran.1 f.0)
          (stops_only place session last l.events l.refused l.stops f.1));
      pushed = l.pushed;
      full = l.full;
      run = all;
      entries = l.entries_are ∙ sym told_first;
      items = l.items (λ place h there. taken_are_streams config earlier before.emitted hs
          before.emits place h there);
      headline = headline s (ran.0 ++ l.events) (outcomes_of [] (before.emitted ++ x.first)
          ++ l.pushed) l.full all;
      next = l.next;
    }
