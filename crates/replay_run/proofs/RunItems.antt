-- The items that were emitted.
use Rattle.std.proofs.Common.{◌≡◌, ℕ, Bool, true, false, List, [], ◌∷◌, ◌++◌, sym, ap, ◌∙◌, append_assoc, append-nil}
use Rattle.std.specs.Prelude.{if◌then◌else◌}
use Rattle.feed_types.specs.declared.item.Numbered.{Numbered}
use Rattle.feed_types.specs.declared.journal.Entry.{Entry}
use Rattle.feed_types.specs.declared.journal.Entry.TheVariants as entry
use Rattle.nbbo_book.specs.Eligible.{is_so}
use Rattle.journal_book.specs.ItemsIn.{items_in}
use Rattle.journal_book.specs.ItemLaws.{items_put}
use Rattle.line_arbiter.specs.Histories.{History, all_begun, streams_of}
use Rattle.line_arbiter.specs.laws.Arrivals.{all_map}
use Rattle.feed_steps.specs.declared.event.Event.{Event}
use Rattle.feed_core.specs.VenueHalf.{AreItemsOf, VenueHalf}
use Rattle.capture_records.specs.Capture.{CaptureRecord}
use Rattle.feed_text.specs.ReplayEvents.{ReplayEvent, packet_answered, packet_refused, item_taken, gap_left, renewal_answered, skip_answered, self_help_declared, entries_after, entries_of}
use Rattle.feed_text.specs.VenueItems.{taken_by, items_taken}
use Rattle.replay_run.specs.Events.{AreEvents, consumed_all}
use Rattle.replay_run.specs.ToldHeadline.{HoldOnly, IsRecorded}
use Rattle.replay_run.proofs.RunSessions.{events_only}
use Rattle.replay_run.proofs.RunSkips.{among_one}

pub venue_items : (place : ℕ) (records : List CaptureRecord) (events : List Event)
    (emitted : List ReplayEvent)
    (h : History) → items_taken place emitted ≡ streams_of h
    → VenueHalf events place (consumed_all h)
    → AreEvents records events
    → AreItemsOf (IsRecorded records place) (HoldOnly place records) (items_taken place emitted)
    h
venue_items place records events emitted h items half are = record {
  items = items;
  sequence = half.sequence;
  skips = all_map (λ b. all_map (among_one records events place are) b.packets)
      (all_begun h) half.skips;
  session = λ s may. half.session s (events_only place s records events are may);
  sessions = λ began named all. items ∙ sym half.items
      ∙ half.sessions began named (all_map (λ s. events_only place s records events are) began all);
  taken = half.taken;
  gap = half.gap;
}

-- the journal's items of the venue are those that were emitted
journaled_after : (place : ℕ) (E : List Entry) (x : ReplayEvent)
    → items_in (entries_after E x) place ≡ items_in E place ++ taken_by place x
journaled_after place E (item_taken venue numbered) = items_put place E
    (entry.Consumed venue numbered)
journaled_after place E (packet_answered venue line number count bytes answer) =
    sym (append-nil (items_in E place))
journaled_after place E (packet_refused venue line fault) = sym (append-nil (items_in E place))
journaled_after place E (gap_left venue request) = sym (append-nil (items_in E place))
journaled_after place E (renewal_answered venue answer) = sym (append-nil (items_in E place))
journaled_after place E (skip_answered venue number answer) = sym (append-nil (items_in E place))
journaled_after place E (self_help_declared venue on) = by (is_so E venue on)
  where
    by : (so : Bool) → items_in (if so then E else E ++ entry.SelfHelp venue on ∷ [])
        place ≡ items_in E place ++ []
    by true = sym (append-nil (items_in E place))
    by false = items_put place E (entry.SelfHelp venue on)

pub journaled_items : (place : ℕ) (E : List Entry) (emitted : List ReplayEvent)
    → items_in (entries_of E emitted) place ≡ items_in E place ++ items_taken place emitted
journaled_items place E [] = sym (append-nil (items_in E place))
journaled_items place E (x ∷ xs) =
    journaled_items place (entries_after E x) xs
    ∙ ap (λ (items : List Numbered). items ++ items_taken place xs) (journaled_after place E x)
    ∙ append_assoc (items_in E place) (taken_by place x) (items_taken place xs)
