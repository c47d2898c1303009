-- Items are pushed, and each is consumed at once.
use Rattle.std.proofs.Common.{◌≡◌, ℕ, ◌+◌, ◌-◌, ◌<◌, ◌≤◌, Bool, false, List, [], ◌∷◌, ◌++◌, length, map, Some, Option, refl, sym, ap, subst, ◌∙◌, arith, append_assoc, append-nil, length-append}
use Rattle.std.specs.Prelude.{slice_get, slice_set, nat_le, if◌then◌else◌}
use Rattle.std.proofs.lemmas.Bool.{lt-leb}
use Rattle.feed_types.specs.declared.item.Numbered.{Numbered}
use Rattle.feed_types.specs.declared.journal.Entry.{Entry}
use Rattle.feed_types.specs.declared.journal.Entry.TheVariants as entry
use Rattle.line_arbiter.specs.Histories.{History, streams_of}
use Rattle.feed_steps.specs.declared.event.Event.TheVariants.{Push, Consume}
use Rattle.feed_steps.specs.declared.event.Done.{Done}
use Rattle.feed_steps.specs.declared.event.Done.TheVariants as done
use Rattle.feed_core.specs.Worlds.{is_full, Venue, World, Setting}
use Rattle.feed_steps.specs.Steps.{Applies, Refused, push_next, journal_item, consume_next, journal_full, Intake}
use Rattle.feed_core.specs.Steps.{next_in, next_out}
use Rattle.feed_core.specs.laws.LaneMoves.{with_sent, with_intake}
use Rattle.feed_core.specs.OneStep.{IsStep}
use Rattle.feed_core.specs.Runs.{IsRun}
use Rattle.feed_text.specs.ReplayEvents.{item_taken, entries_of}
use Rattle.replay_run.specs.Events.{drains, outcomes_of}
use Rattle.replay_run.proofs.ListPlaces.{get_seam, get_set_here, set_twice}
use Rattle.replay_run.proofs.EmittedEvents.{at_venue}

-- a world with this venue in its place
abbrev pub at : List Venue → ℕ → Venue → List Entry → World
at vs place v entries = record {
  venues = slice_set vs place v;
  entries = entries;
  subscribers = [];
  used = 0;
}

-- a venue with this history and these items, all consumed
abbrev pub venue_at : History → List Numbered → Venue
venue_at h items = record { history = h; lane = record { sent = items; received = items } }

-- the same venue, where one more item was pushed
abbrev pub venue_more : History → List Numbered → Numbered → Venue
venue_more h items x = record {
  history = h;
  lane = record {
    sent = items ++ x
        ∷ [];
    received = items;
  };
}

pub with_venues : (entries : List Entry) (vs us : List Venue) → vs ≡ us
    → ◌≡◌ {A = World} (record { venues = vs; entries = entries; subscribers = []; used = 0 })
    (record { venues = us; entries = entries; subscribers = []; used = 0 })
with_venues entries vs us e =
    ap (λ (l : List Venue). record { venues = l; entries = entries; subscribers = []; used = 0 }) e

module _ (s : Setting) (lane : 1 ≤ s.lane) (vs : List Venue) (place : ℕ) (u : Venue)
    (there : slice_get vs place ≡ Some u) (h : History) where
  pub push_step : (items rest : List Numbered) (x : Numbered) (entries : List Entry)
      → streams_of h ≡ items ++ x ∷ rest
      → IsStep s (at vs place (venue_at h items) entries) (Push place) (done.Pushed x.number)
      (at vs place (venue_more h items x) entries)
  push_step items rest x entries e =
      let v : Venue = venue_at h items in
      let w : World = at vs place v entries in
      let d : Done = done.Pushed x.number in
      let new : World = at vs place (venue_more h items x) entries in
      let room : nat_le s.lane (length items - length items) ≡ false =
      lt-leb s.lane (length items - length items) (omega arith) in
      let next : slice_get (streams_of h) (length items) ≡ Some x =
      ap (λ (l : List Numbered). slice_get l (length items)) e ∙ get_seam items rest x in
      at_venue w place v d new
      (λ v. Applies (with_sent w place v)
      (push_next (is_full s.lane v.lane) (next_in (streams_of v.history) v.lane) v.lane.sent) w d
      new)
      (get_set_here vs place u v there)
      (subst (λ (b : Bool). Applies (with_sent w place v)
      (push_next b (slice_get (streams_of h) (length items)) items) w d
      new) (sym room)
      (subst (λ (o : Option Numbered). Applies (with_sent w place v) (push_next false o items) w d
      new) (sym next)
      (refl, with_venues entries _ _ (sym (set_twice vs place v (venue_more h items x))))))

  consume_step : (items : List Numbered) (x : Numbered) (entries : List Entry)
      → length entries < s.journal
      → IsStep s (at vs place (venue_more h items x) entries) (Consume place)
      (done.Consumed (length entries + 1))
      (at vs place (venue_at h (items ++ x ∷ [])) (entries ++ entry.Consumed place x ∷ []))
  consume_step items x entries short =
      let v : Venue = venue_more h items x in
      let w : World = at vs place v entries in
      let d : Done = done.Consumed (length entries + 1) in
      let new : World = at vs place (venue_at h (items ++ x ∷ [])) (entries
      ++ entry.Consumed place x ∷ []) in
      let old : Intake = record { received = items; entries = entries } in
      let room : nat_le s.journal (length entries) ≡ false = lt-leb s.journal (length entries) short
      in
      let next : slice_get (items ++ x ∷ []) (length items) ≡ Some x = get_seam items [] x in
      at_venue w place v d new
      (λ v. Applies (with_intake w place v)
      (consume_next s.journal place (next_out v.lane) (record {
        received = v.lane.received;
        entries = w.entries;
      })) w
      d new) (get_set_here vs place u v there)
      (subst (λ (b : Bool). Applies (with_intake w place v)
      (if b then Refused journal_full else journal_item place (slice_get (items ++ x ∷ [])
      (length items)) old) w d
      new) (sym room)
      (subst (λ (o : Option Numbered). Applies (with_intake w place v)
      (journal_item place o old) w d new) (sym next) (
        refl,
        with_venues (entries ++ entry.Consumed place x ∷ []) _ _
            (sym (set_twice vs place v (venue_at h (items ++ x ∷ [])))),
      )))

  pub drain : (ready items more : List Numbered) (entries : List Entry)
      → streams_of h ≡ items ++ (ready ++ more)
      → length entries + length ready ≤ s.journal
      → IsRun s (at vs place (venue_at h items) entries) (drains place (length ready))
      (outcomes_of entries (map (item_taken place) ready))
      (at vs place (venue_at h (items ++ ready))
      (entries_of entries (map (item_taken place) ready)))
  drain [] items more entries e room =
      ap (λ (xs : List Numbered). at vs place (venue_at h xs) entries) (append-nil items)
  drain (x ∷ ready) items more entries e room = (
    at vs place (venue_more h items x) entries,
    push_step items (ready ++ more) x entries e,
    (
      at vs place (venue_at h (items ++ x ∷ [])) (entries ++ entry.Consumed place x ∷ []),
      consume_step items x entries (omega arith),
      subst (λ (xs : List Numbered). IsRun s
          (at vs place (venue_at h (items ++ x ∷ [])) (entries ++ entry.Consumed place x ∷ []))
          (drains place (length ready))
          (outcomes_of (entries ++ entry.Consumed place x ∷ []) (map (item_taken place) ready))
          (at vs place (venue_at h xs)
          (entries_of (entries ++ entry.Consumed place x ∷ []) (map (item_taken place) ready))))
          (append_assoc items (x ∷ []) ready)
          (drain ready (items ++ x ∷ []) more (entries ++ entry.Consumed place x ∷ [])
          (e ∙ sym (append_assoc items (x ∷ []) (ready ++ more)))
          (let n = length-append entries (entry.Consumed place x ∷ []) in omega arith)),
    ),
  )
