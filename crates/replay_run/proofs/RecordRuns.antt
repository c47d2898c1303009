-- The events of one record are a run of the machine.
use Rattle.std.proofs.Common.{◌≡◌, ℕ, ◌+◌, ◌≤◌, Bool, true, false, List, [], ◌∷◌, ◌++◌, length, map, drop, Some, refl, sym, ap, subst, ◌∙◌, arith, append-nil, length-append, inl, inr}
use Rattle.std.specs.Prelude.{◌⊎◌, slice_get, slice_set, nat_le, if◌then◌else◌}
use Rattle.std.proofs.lemmas.Bool.{lt-leb}
use Rattle.feed_types.specs.declared.item.Numbered.{Numbered}
use Rattle.feed_types.specs.declared.journal.Entry.{Entry}
use Rattle.feed_types.specs.declared.journal.Entry.TheVariants as entry
use Rattle.feed_types.specs.declared.line.LineId.{LineId}
use Rattle.mold_packet.specs.Faults.{code_of}
use Rattle.nbbo_book.specs.Eligible.{is_so}
use Rattle.line_arbiter.specs.Packets.{end_of}
use Rattle.line_arbiter.specs.Streams.{stream_of, sent_of}
use Rattle.line_arbiter.specs.Histories.{History, items_of, streams_of, names_of}
use Rattle.line_arbiter.specs.Outcomes.{IsOutcome}
use Rattle.line_arbiter.specs.Renewals.{IsRenewal}
use Rattle.line_arbiter.specs.Skips.{IsSkip}
use Rattle.feed_steps.specs.declared.event.Event.{Event}
use Rattle.feed_steps.specs.declared.event.Event.TheVariants.{Packet, Declare, Renew, Skip}
use Rattle.feed_steps.specs.declared.event.Done.{Done}
use Rattle.feed_steps.specs.declared.event.Done.TheVariants as done
use Rattle.feed_core.specs.Worlds.{Venue, session_count, session_sent, World, Setting}
use Rattle.feed_steps.specs.Steps.{Applies, Refused, Changes, journal_full, already_so}
use Rattle.feed_core.specs.Steps.{declare_help, RefusesBytes, Answers}
use Rattle.line_arbiter.specs.Additions.{AddsRenewal, AddsSkip}
use Rattle.feed_core.specs.OneStep.{IsStep}
use Rattle.feed_core.specs.Runs.{IsRun}
use Rattle.feed_steps.specs.Steps as parts
use Rattle.feed_core.specs.Steps as steps
use Rattle.line_arbiter.specs.laws.Histories.{items_push}
use Rattle.capture_records.specs.Capture.{CaptureRecord, datagram_record, renewal_record, skip_record, self_help_record, record_venue}
use Rattle.feed_text.specs.ReplayEvents.{ReplayEvent, item_taken, entries_of}
use Rattle.line_arbiter.specs.LastSent.{last_sent, stream_length}
use Rattle.feed_text.specs.Emitted.{gap_emitted, EmitsFault, EmitsPacket, EmitsRenewal, EmitsSkip, EmitsSelfHelp, EmitsAt, EmitsRecord}
use Rattle.line_arbiter.specs.laws.LastSent.{last_counted}
use Rattle.feed_types.specs.ListLaws.{same_set}
use Rattle.feed_text.specs.laws.Entries.{entries_more}
use Rattle.feed_text.specs.VenueItems.{items_taken}
use Rattle.line_arbiter.specs.laws.AnsweredHistories.{IsAnsweredThroughout}
use Rattle.feed_text.specs.laws.VenueItemsLaw.{Each, ready_items, skip_items, here}
use Rattle.replay_run.specs.Events.{slice_of, event_of, drains, outcomes_of, consumed_all, world_of}
use Rattle.replay_run.proofs.ListPlaces.{get_map, set_map}
use Rattle.replay_run.proofs.EmittedEvents.{at_venue, gap_silent, outcomes_more}
use Rattle.replay_run.proofs.Drains.{at, drain, venue_at, with_venues}

pub items_len : (venue : ℕ) (xs : List Numbered) (entries : List Entry)
    → length (entries_of entries (map (item_taken venue) xs)) ≡ length entries + length xs
items_len venue [] entries = omega arith
items_len venue (x ∷ xs) entries =
    let n = length-append entries (entry.Consumed venue x ∷ []) in
    let more = items_len venue xs (entries ++ entry.Consumed venue x ∷ []) in
    omega arith

counted : (h : History) → session_sent (consumed_all h) ≡ last_sent h
counted h =
    let n : length (streams_of h) ≡ length (items_of h.earlier) + length
    (stream_of h.present.packets) =
    ap length (items_push h.earlier h.present)
    ∙ length-append (items_of h.earlier) (stream_of h.present.packets) in
    let count : session_count (consumed_all h) ≡ stream_length h = omega arith in
    ap (sent_of h.present.packets) count ∙ last_counted h

pub run_as : (s : Setting) (a : World) (es : List Event) (ds gs : List Done) (b c : World) → ds ≡ gs
    → b ≡ c
    → IsRun s a es ds b → IsRun s a es gs c
run_as s a es ds gs b c e f x =
    subst (λ (w : World). IsRun s a es gs w) f (subst (λ (l : List Done). IsRun s a es l b) e x)

-- the record's event and `n` drains of its venue lead to what the record emits
abbrev Ran : Setting → CaptureRecord → List History → List Entry → List ReplayEvent
    → List History → Type 0
Ran s r hs entries emitted new =
    (n : ℕ) × IsRun s (world_of hs entries) (event_of r ∷ drains (record_venue r) n)
    (outcomes_of entries emitted)
    (world_of new (entries_of entries emitted))

module _ (s : Setting) (gaps : Bool) (lane : 1 ≤ s.lane) (hs : List History)
    (entries : List Entry) (venue : ℕ)
    (h : History) (there : slice_get hs venue ≡ Some h) (kept : IsAnsweredThroughout s.window h)
  where
    vs : List Venue
    vs = map consumed_all hs

    there_is : slice_get (map consumed_all hs) venue ≡ Some (consumed_all h)
    there_is = get_map consumed_all hs venue h there

    settled : (new : History) (E : List Entry)
        → at (map consumed_all hs) venue (consumed_all new) E ≡ world_of (slice_set hs venue new) E
    settled new E = with_venues E _ _ (set_map consumed_all hs venue new)

    unmoved : (new : History) (E F : List Entry) → new ≡ h → E ≡ F
        → world_of hs E ≡ world_of (slice_set hs venue new) F
    unmoved new E F e f = ap (λ (x : List Entry). world_of hs x) f
        ∙ ap (λ (l : List History). world_of l F) (sym (same_set hs venue h there))
        ∙ ap (λ (k : History). world_of (slice_set hs venue k) F) (sym e)

    fault_ran : (line : LineId) (bytes : List ℕ) (emitted : List ReplayEvent) (new : History)
        → EmitsFault s.window gaps venue line bytes h emitted new
        → Ran s (datagram_record venue line bytes) hs entries emitted (slice_set hs venue new)
    fault_ran line bytes emitted new t =
        let w : World = world_of hs entries in
        let d : Done = done.Refused (code_of t.fault) in
        let silent = gap_silent s.window gaps venue new in
        let step : IsStep s w (Packet venue line (slice_of bytes)) d w =
        at_venue w venue (consumed_all h) d w
        (λ v. RefusesBytes bytes w d w ⊎ steps.AnswersPacket s.window venue v line bytes w d w)
        there_is
        (inl (record { fault = t.fault; has = t.has; is = (refl, refl) })) in (
          0,
          run_as s w (Packet venue line (slice_of bytes) ∷ []) (d ∷ [])
              (outcomes_of entries emitted)
              w
              (world_of (slice_set hs venue new) (entries_of entries emitted))
              (sym (ap (outcomes_of entries) t.emitted_is ∙ ap (λ (ds : List Done). d ∷ ds)
              (silent.outcomes entries)))
              (unmoved new entries (entries_of entries emitted) t.same
              (sym (ap (entries_of entries) t.emitted_is ∙ silent.entries entries)))
              (w, step, refl),
        )

    -- the packet is answered, and nothing is pushed yet
    pub packet_begins : (line : LineId) (bytes : List ℕ)
        (emitted : List ReplayEvent) (new : History)
        (t : EmitsPacket s.window gaps venue line bytes h emitted new)
        → IsStep s (world_of hs entries) (Packet venue line (slice_of bytes))
        (parts.packet_done t.answer)
        (at (map consumed_all hs) venue (venue_at new (streams_of h)) entries)
    packet_begins line bytes emitted new t =
        let w : World = world_of hs entries in
        let d : Done = parts.packet_done t.answer in
        let mid : World = at (map consumed_all hs) venue (venue_at new (streams_of h)) entries in
        at_venue w venue (consumed_all h) d mid
        (λ v. RefusesBytes bytes w d mid ⊎ steps.AnswersPacket s.window venue v line bytes w d mid)
        there_is (inr (record {
          packet = t.packet;
          rest = t.rest;
          spells = t.spells;
          answers = record {
            answer = t.answer;
            history = new;
            adds = record {
              right =
                  subst (λ (n : ℕ). IsOutcome h.present.name s.window n
                  h.present.packets t.packet t.answer)
                  (sym (counted h)) t.taken.right;
              is = t.taken.is;
            };
            outcome_is = refl;
            new_is = refl;
          };
        }))

    -- the items that it made ready follow the streams
    pub ready_behind : (line : LineId) (bytes : List ℕ) (emitted : List ReplayEvent) (new : History)
        → EmitsPacket s.window gaps venue line bytes h emitted new
        → streams_of new ≡ streams_of h ++ drop (stream_length h) (stream_of new.present.packets)
    ready_behind line bytes emitted new t =
        (here s.window gaps (datagram_record venue line bytes) h new emitted kept (inr t)).items
        ∙ ap (λ (xs : List Numbered). streams_of h ++ xs) (ready_items s.window gaps venue
        line bytes h new emitted t)

    -- the event left the venue so, and then its ready items are pushed and consumed
    drained : (e : Event) (d : Done) (ready : List Numbered)
        (emitted : List ReplayEvent) (new : History)
        → IsStep s (world_of hs entries) e d (at (map consumed_all hs) venue
        (venue_at new (streams_of h)) entries)
        → outcomes_of entries emitted ≡ d ∷ outcomes_of entries (map (item_taken venue) ready)
        → entries_of entries emitted ≡ entries_of entries (map (item_taken venue) ready)
        → streams_of new ≡ streams_of h ++ ready → length (entries_of entries emitted) ≤ s.journal
        → (n : ℕ) × IsRun s (world_of hs entries) (e ∷ drains venue n) (outcomes_of entries emitted)
        (world_of (slice_set hs venue new) (entries_of entries emitted))
    drained e d ready emitted new step outcomes after streams room =
        let w : World = world_of hs entries in
        let mid : World = at (map consumed_all hs) venue (venue_at new (streams_of h)) entries in
        let hs1 : List ReplayEvent = map (item_taken venue) ready in
        let all : streams_of new ≡ streams_of h ++ (ready ++ []) =
        streams ∙ ap (λ (xs : List Numbered). streams_of h ++ xs) (sym (append-nil ready)) in
        let fits : length entries + length ready ≤ s.journal =
        (let n = items_len venue ready entries
        in let m : length (entries_of entries emitted) ≡ length
        (entries_of entries hs1) = ap length after in omega arith) in (
          length ready,
          run_as s w (e ∷ drains venue (length ready)) (d ∷ outcomes_of entries hs1)
              (outcomes_of entries emitted)
              (at (map consumed_all hs) venue (venue_at new (streams_of h ++ ready))
              (entries_of entries hs1))
              (world_of (slice_set hs venue new) (entries_of entries emitted))
              (sym outcomes)
              (ap (λ (xs : List Numbered). at (map consumed_all hs) venue (venue_at new xs)
              (entries_of entries hs1))
              (sym streams) ∙ settled new (entries_of entries hs1)
              ∙ ap (λ (E : List Entry). world_of (slice_set hs venue new) E) (sym after)) (
                mid,
                step,
                drain s lane (map consumed_all hs) venue
                    (consumed_all h) there_is new ready (streams_of h) [] entries all fits,
              ),
        )

    packet_ran : (line : LineId) (bytes : List ℕ) (emitted : List ReplayEvent) (new : History)
        → EmitsPacket s.window gaps venue line bytes h emitted new
        → length (entries_of entries emitted) ≤ s.journal
        → Ran s (datagram_record venue line bytes) hs entries emitted (slice_set hs venue new)
    packet_ran line bytes emitted new t room =
        let d : Done = parts.packet_done t.answer in
        let ready : List Numbered = drop (stream_length h) (stream_of new.present.packets) in
        let silent = gap_silent s.window gaps venue new in
        let hs1 : List ReplayEvent = map (item_taken venue) ready in
        let outcomes : outcomes_of entries emitted ≡ d ∷ outcomes_of entries hs1 =
        ap (outcomes_of entries) t.emitted_is
        ∙ ap (λ (ds : List Done). d ∷ ds)
        (outcomes_more entries hs1 (gap_emitted s.window gaps venue new)
        ∙ ap (λ (ds : List Done). outcomes_of entries hs1 ++ ds)
        (silent.outcomes (entries_of entries hs1))
        ∙ append-nil (outcomes_of entries hs1)) in
        let after : entries_of entries emitted ≡ entries_of entries hs1 =
        ap (entries_of entries) t.emitted_is
        ∙ entries_more entries hs1 (gap_emitted s.window gaps venue new)
        ∙ silent.entries (entries_of entries hs1) in
        drained (Packet venue line (slice_of bytes)) d ready emitted new (packet_begins line bytes
        emitted new t) outcomes
        after (ready_behind line bytes emitted new t) room

    -- the skip is answered, and nothing is pushed yet
    pub skip_begins : (number : ℕ) (emitted : List ReplayEvent) (new : History)
        (t : EmitsSkip venue number h emitted new)
        → IsStep s (world_of hs entries) (Skip venue number) (parts.skip_done number t.answer)
        (at (map consumed_all hs) venue (venue_at new (streams_of h)) entries)
    skip_begins number emitted new t =
        let w : World = world_of hs entries in
        let d : Done = parts.skip_done number t.answer in
        let mid : World = at (map consumed_all hs) venue (venue_at new (streams_of h)) entries in
        at_venue w venue (consumed_all h) d mid
        (λ v. Answers (AddsSkip (session_sent v) number v.history) (parts.skip_done number) venue v
        w d mid) there_is
        (record {
          answer = t.answer;
          history = new;
          adds = record {
            right = subst (λ (n : ℕ). IsSkip h.present.packets n number t.answer)
                (sym (counted h)) t.skipped.right;
            is = t.skipped.is;
          };
          outcome_is = refl;
          new_is = refl;
        })

    -- the items that it made ready follow the streams
    pub skip_behind : (number : ℕ) (emitted : List ReplayEvent) (new : History)
        → EmitsSkip venue number h emitted new
        → streams_of new ≡ streams_of h ++ drop (stream_length h) (stream_of new.present.packets)
    skip_behind number emitted new t =
        (here s.window gaps (skip_record venue number) h new emitted kept t).items
        ∙ ap (λ (xs : List Numbered). streams_of h ++ xs) (skip_items s.window gaps venue
        number h new emitted t)

    skip_ran : (number : ℕ) (emitted : List ReplayEvent) (new : History)
        → EmitsSkip venue number h emitted new
        → length (entries_of entries emitted) ≤ s.journal
        → Ran s (skip_record venue number) hs entries emitted (slice_set hs venue new)
    skip_ran number emitted new t room =
        drained (Skip venue number) (parts.skip_done number t.answer)
        (drop (stream_length h) (stream_of new.present.packets)) emitted new
        (skip_begins number emitted new t)
        (ap (outcomes_of entries) t.emitted_is) (ap (entries_of entries) t.emitted_is)
        (skip_behind number emitted new t) room

    renewal_ran : (name : List ℕ) (emitted : List ReplayEvent) (new : History)
        → EmitsRenewal venue name h emitted new
        → Ran s (renewal_record venue name) hs entries emitted (slice_set hs venue new)
    renewal_ran name emitted new t =
        let w : World = world_of hs entries in
        let d : Done = parts.renewal_done t.answer in
        let mid : World = at (map consumed_all hs) venue (venue_at new (streams_of h)) entries in
        let streams : streams_of new ≡ streams_of h =
        (here s.window gaps (renewal_record venue name) h new emitted kept t).items
        ∙ ap (λ (xs : List Numbered). streams_of h ++ xs) (ap (items_taken venue) t.emitted_is)
        ∙ append-nil (streams_of h) in
        let step : IsStep s w (Renew venue name) d mid =
        at_venue w venue (consumed_all h) d mid
        (λ v. Answers (AddsRenewal (session_sent v) name v.history) parts.renewal_done venue v
        w d mid) there_is
        (record {
          answer = t.answer;
          history = new;
          adds =
              record {
                right =
                    subst (λ (n : ℕ). IsRenewal (names_of h) (end_of h.present.packets) n name
                    t.answer)
                    (sym (counted h)) t.renewed.right;
                is = t.renewed.is;
              };
          outcome_is = refl;
          new_is = refl;
        }) in (
          0,
          run_as s w (Renew venue name ∷ []) (d ∷ []) (outcomes_of entries emitted) mid
              (world_of (slice_set hs venue new) (entries_of entries emitted))
              (sym (ap (outcomes_of entries) t.emitted_is))
              (ap (λ (xs : List Numbered). at (map consumed_all hs) venue (venue_at new xs) entries)
              (sym streams)
              ∙ settled new entries
              ∙ ap (λ (E : List Entry). world_of (slice_set hs venue new) E)
              (sym (ap (entries_of entries) t.emitted_is)))
              (mid, step, refl),
        )

    declared_so : (on b : Bool)
        → length (if b then entries else entries ++ entry.SelfHelp venue on ∷ []) ≤ s.journal
        → Applies (λ (E : List Entry). world_of hs E)
        (if b then Refused already_so else
        (if nat_le s.journal (length entries) then Refused journal_full else Changes
        (done.Declared (length entries + 1))
        (entries ++ entry.SelfHelp venue on ∷ []))) (world_of hs entries)
        (if b then already_so else done.Declared (length entries + 1))
        (world_of hs (if b then entries else entries ++ entry.SelfHelp venue on ∷ []))
    declared_so on true room = (refl, refl)
    declared_so on false room =
        let n = length-append entries (entry.SelfHelp venue on ∷ []) in
        let free : nat_le s.journal (length entries) ≡ false = lt-leb s.journal
        (length entries) (omega arith) in
        subst (λ (b : Bool). Applies (λ (E : List Entry). world_of hs E)
        (if b then Refused journal_full else Changes (done.Declared (length entries + 1))
        (entries ++ entry.SelfHelp venue on ∷ [])) (world_of hs entries)
        (done.Declared (length entries + 1))
        (world_of hs (entries ++ entry.SelfHelp venue on ∷ [])))
        (sym free) (refl, refl)

    self_help_ran : (on : Bool) (emitted : List ReplayEvent) (new : History)
        → EmitsSelfHelp venue on h emitted new
        → length (entries_of entries emitted) ≤ s.journal
        → Ran s (self_help_record venue on) hs entries emitted (slice_set hs venue new)
    self_help_ran on emitted new t room =
        let w : World = world_of hs entries in
        let b : Bool = is_so entries venue on in
        let d : Done = if b then already_so else done.Declared (length entries + 1) in
        let E : List Entry = if b then entries else entries ++ entry.SelfHelp venue on ∷ [] in
        let mid : World = world_of hs E in
        let after : entries_of entries emitted ≡ E = ap (entries_of entries) t.emitted_is in
        let fits : length E ≤ s.journal = subst (λ (l : List Entry). length l ≤ s.journal) after
        room
        in
        let step : IsStep s w (Declare venue on) d mid =
        at_venue w venue (consumed_all h) d mid
        (λ v. Applies (λ (x : List Entry). record w { entries = x })
        (declare_help s.journal venue on entries) w d mid)
        there_is
        (declared_so on b fits) in (
          0,
          run_as s w (Declare venue on ∷ []) (d ∷ []) (outcomes_of entries emitted) mid
              (world_of (slice_set hs venue new) (entries_of entries emitted))
              (sym (ap (outcomes_of entries) t.emitted_is))
              (unmoved new E (entries_of entries emitted) t.same (sym after))
              (mid, step, refl),
        )

pub record_ran : (s : Setting) (gaps : Bool) → 1 ≤ s.lane
    → (hs new : List History) (entries : List Entry) (r : CaptureRecord)
    (emitted : List ReplayEvent) → Each s.window hs
    → EmitsRecord s.window gaps r hs emitted new → length (entries_of entries emitted) ≤ s.journal
    → Ran s r hs entries emitted new
record_ran s gaps lane hs new entries r emitted each t room =
    subst (Ran s r hs entries emitted) (sym t.others)
    (by r t.at (each (record_venue r) t.before t.at) t.emits)
  where
    by : (r : CaptureRecord) → slice_get hs (record_venue r) ≡ Some t.before
        → IsAnsweredThroughout s.window t.before
        → EmitsAt s.window gaps r t.before emitted t.after
        → Ran s r hs entries emitted (slice_set hs (record_venue r) t.after)
    by (datagram_record venue line bytes) at kept x = elim x [
      | inl f ↦ fault_ran s gaps lane hs entries venue t.before at kept line bytes emitted t.after f
      | inr p ↦ packet_ran s gaps lane hs entries venue t.before at kept line
          bytes emitted t.after p room
    ]
    by (renewal_record venue name) at kept x =
        renewal_ran s gaps lane hs entries venue t.before at kept name emitted t.after x
    by (skip_record venue number) at kept x =
        skip_ran s gaps lane hs entries venue t.before at kept number emitted t.after x room
    by (self_help_record venue on) at kept x =
        self_help_ran s gaps lane hs entries venue t.before at kept on emitted t.after x room
