-- What one more item leaves of a section, in terms of plain states.
use Rattle.std.proofs.Common.{◌≡◌, ℕ, ◌+◌, ◌≤◌, ◌<◌, Bool, true, false, List, [], ◌∷◌, ◌++◌, length, map, Option, Some, None, Ok, Err, refl, sym, ap, subst, ◌∙◌, arith, append_assoc, append-nil, length-append}
use Rattle.std.specs.Prelude.{slice_get, slice_set, nat_le, if◌then◌else◌}
use Rattle.std.proofs.lemmas.Bool.Decides.{nat_tests}
use Rattle.std.proofs.lemmas.List.{map-append}
use Rattle.feed_types.specs.declared.item.Numbered.{Numbered}
use Rattle.feed_types.specs.declared.journal.Entry.{Entry}
use Rattle.feed_types.specs.declared.journal.Entry.TheVariants as entry
use Rattle.journal_book.specs.declared.fault.JournalFault.TheVariants.{JournalFull}
use Rattle.fifo_lane.specs.Lane.{LaneEnd, with_items}
use Rattle.feed_types.specs.ListLaws.{get_within}
use Rattle.feed_steps.specs.declared.event.Done.TheVariants as done
use Rattle.feed_steps.specs.Steps.{AppliesTo, Intake, journal_item, journal_full, Refused}
use Rattle.hub_lanes.specs.Hubs.{HubState}
use Rattle.hub_lanes.specs.Sections.{ConsumesOne, KeepsButIntake, hub_intake}
use Rattle.hub_lanes.specs.Batches.{ConsumesCount, ConsumesItems, HasEntryRoom}
use Rattle.feed_steps.specs.laws.Lists.{put_same}
use Rattle.hub_lanes.proofs.LaneEnds.{end_grows}

module _ (journal venue : ℕ) (old after : Intake) where
  -- an item was journaled
  item_journaled : (b : Bool) (next : Option Numbered) (position : ℕ)
      → AppliesTo (if b then Refused journal_full else journal_item venue next old) old
      (done.Consumed position) after
      → (x : Numbered) × (after ≡ record {
        received = old.received ++ x ∷ [];
        entries = old.entries ++ entry.Consumed venue x ∷ [];
      })
  item_journaled true next position e = absurd (let h = e.0 in cc)
  item_journaled false None position e = absurd (let h = e.0 in cc)
  item_journaled false (Some x) position e = (x, e.1)

  -- where there was no item, there was room
  none_journaled : (b : Bool) (next : Option Numbered)
      → AppliesTo (if b then Refused journal_full else journal_item venue next old)
      old done.LaneEmpty after
      → (b ≡ false) × (after ≡ old)
  none_journaled true next e = absurd (let h = e.0 in cc)
  none_journaled false None e = (refl, e.1)
  none_journaled false (Some x) e = absurd (let h = e.0 in cc)

  -- and where the journal was full, there was none
  refused_full : (b : Bool) (next : Option Numbered) → AppliesTo
      (if b then Refused journal_full else journal_item venue next old) old (done.Refused 17) after
      → (b ≡ true) × (after ≡ old)
  refused_full true next e = (refl, e.1)
  refused_full false None e = absurd (let h = e.0 in cc)
  refused_full false (Some x) e = absurd (let h = e.0 in cc)

room_of : (m n : ℕ) → nat_le m n ≡ false → n < m
room_of m n e = grind (arith, nat_tests)

full_of : (m n : ℕ) → nat_le m n ≡ true → m ≤ n
full_of m n e = grind (arith, nat_tests)

module _ (venue : ℕ) (old : HubState) where
  -- nothing was journaled yet
  pub no_items : (lane : LaneEnd Numbered) → slice_get old.receivers venue ≡ Some lane
      → ConsumesItems venue [] old old
  no_items lane at = record {
    lane = lane;
    at = at;
    received = sym (ap (λ (l : List Numbered). slice_set old.receivers venue (with_items lane l))
        (append-nil lane.items) ∙ put_same old.receivers venue lane at);
    entries = sym (append-nil old.journal.entries);
    kept = refl;
  }

  -- none was journaled
  pub start_count : (after : HubState) → after ≡ old → venue < length old.receivers
      → ConsumesCount venue 0 old after
  start_count after same below =
      let there = get_within old.receivers venue below in
      subst (λ (s : HubState). ConsumesCount venue 0 old s) (sym same) (record {
        items = [];
        count_is = refl;
        consumes = no_items there.0 there.1;
      })

module _ (venue : ℕ) (old : HubState) where
  module _ (between new : HubState) (kept : KeepsButIntake between new) where
    kept_on : KeepsButIntake old between → KeepsButIntake old new
    kept_on before = kept ∙ ap (λ (s : HubState). record s {
      journal = record s.journal { entries = new.journal.entries; ready = new.journal.ready };
      receivers = new.receivers;
    }) before

    -- one more item was journaled
    pub one_item : (items : List Numbered) (position : ℕ) → ConsumesItems venue items old between
        → ConsumesOne venue (Ok (Some position)) between new
        → (x : Numbered) × ConsumesItems venue (items ++ x ∷ []) old new
    one_item items position r one =
        let found = item_journaled between.journal.journal venue
        (hub_intake one.lane between.journal)
        one.after (nat_le between.journal.journal (length between.journal.entries)) one.popped
        position
        one.comes in
        let x = found.0 in
        let consumed = entry.Consumed venue in (
          x,
          record {
            lane = r.lane;
            at = r.at;
            received = end_grows old.receivers between.receivers new.receivers venue
                r.lane one.lane items x
                r.at one.at r.received (one.received
                ∙ ap (λ (i : Intake). slice_set between.receivers venue
                (with_items one.lane i.received))
                found.1);
            entries = one.entries ∙ ap (λ (i : Intake). i.entries) found.1
                ∙ ap (λ (l : List Entry). l ++ consumed x ∷ []) r.entries
                ∙ append_assoc old.journal.entries (map consumed items) (consumed x ∷ [])
                ∙ ap (λ (l : List Entry). old.journal.entries ++ l)
                (sym (map-append consumed items (x ∷ [])));
            kept = kept_on r.kept;
          },
        )

    -- and there is no further one
    pub no_item_more : (items : List Numbered) → ConsumesItems venue items old between
        → ConsumesOne venue (Ok None) between new → ConsumesItems venue items old new
    no_item_more items r one =
        let found = none_journaled between.journal.journal venue
        (hub_intake one.lane between.journal)
        one.after (nat_le between.journal.journal (length between.journal.entries)) one.popped
        one.comes in
        record {
          lane = r.lane;
          at = r.at;
          received = one.received
              ∙ ap (λ (i : Intake). slice_set between.receivers venue
              (with_items one.lane i.received))
              found.1
              ∙ put_same between.receivers venue one.lane one.at ∙ r.received;
          entries = one.entries ∙ ap (λ (i : Intake). i.entries) found.1 ∙ r.entries;
          kept = kept_on r.kept;
        }

  -- one more was journaled
  pub one_more_item : (count position : ℕ) (between new : HubState)
      → ConsumesCount venue count old between
      → ConsumesOne venue (Ok (Some position)) between new → KeepsButIntake between new
      → ConsumesCount venue (count + 1) old new
  one_more_item count position between new r one kept =
      let more = one_item between new kept r.items position r.consumes one in
      record {
        items = r.items ++ more.0 ∷ [];
        count_is = length-append r.items (more.0 ∷ [])
            ∙ ap (λ (n : ℕ). n + 1) r.count_is;
        consumes = more.1;
      }

  -- there is no further one
  pub none_more_item : (count : ℕ) (between new : HubState) → ConsumesCount venue count old between
      → ConsumesOne venue (Ok None) between new → KeepsButIntake between new
      → ConsumesCount venue count old new
  none_more_item count between new r one kept = record {
    items = r.items;
    count_is = r.count_is;
    consumes = no_item_more between new kept r.items r.consumes one;
  }

  -- the journal had room
  pub had_room : (between new : HubState) → between ≡ old → ConsumesOne venue (Ok None) between new
      → HasEntryRoom old
  had_room between new same later =
      let one = subst (λ (s : HubState). ConsumesOne venue (Ok None) s new) same later in
      let found = none_journaled old.journal.journal venue (hub_intake one.lane old.journal)
      one.after
      (nat_le old.journal.journal (length old.journal.entries)) one.popped one.comes in
      room_of old.journal.journal (length old.journal.entries) found.0

  -- the journal was full
  pub was_full : (new : HubState) → ConsumesOne venue (Err JournalFull) old new
      → old.journal.journal ≤ length old.journal.entries
  was_full new one =
      let found = refused_full old.journal.journal venue (hub_intake one.lane old.journal) one.after
      (nat_le old.journal.journal (length old.journal.entries)) one.popped one.comes in
      full_of old.journal.journal (length old.journal.entries) found.0
