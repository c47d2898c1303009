-- The journal among what a sink is told: its entries, and the changes of the national best.
use Rattle.std.specs.Prelude.{ℕ, List, [], ◌∷◌, flat_map, Some}
use Rattle.feed_types.specs.declared.item.Numbered.{Numbered}
use Rattle.feed_types.specs.declared.journal.Entry.{Entry}
use Rattle.feed_types.specs.declared.journal.Entry.TheVariants.{Consumed, SelfHelp}
use Rattle.feed_types.specs.declared.journal.Notice.{Notice}
use Rattle.journal_book.specs.ItemsIn.{items_in}
use Rattle.event_sinks.specs.SinkEvents.{SinkEvent, TimedEvent, told_item, told_best, told_declaration}

-- the entry of an event: its item, or a declaration that changes something
abbrev pub entry_told : SinkEvent → List Entry
entry_told (told_item venue numbered) = Consumed venue numbered ∷ []
entry_told (told_declaration venue on (Some position)) = SelfHelp venue on ∷ []
entry_told _ = []

-- the entries that are told, in order
abbrev pub entries_in : List TimedEvent → List Entry
entries_in told = flat_map (λ e. entry_told e.event) told

-- the items that are told of a venue, in order
abbrev pub items_of_venue : ℕ → List TimedEvent → List Numbered
items_of_venue place told = items_in (entries_in told) place

-- the change of a national best that an event is
abbrev pub notice_told : SinkEvent → List Notice
notice_told (told_best notice) = notice ∷ []
notice_told _ = []

-- the changes that are told, in order
abbrev pub bests_in : List TimedEvent → List Notice
bests_in told = flat_map (λ e. notice_told e.event) told
