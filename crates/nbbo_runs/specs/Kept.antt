-- The events of a replay, kept in a list.
use Rattle.std.specs.Prelude.{◌≡◌, List, ◌++◌}
use Rattle.feed_text.specs.ReplayStates.{SinkTaking}
use Rattle.event_sinks.specs.SinkEvents.{TimedEvent}

-- events are kept
abbrev pub keeping : SinkTaking (List TimedEvent)
keeping = record { takes = λ kept told after. after ≡ kept ++ told; fails = λ kept told after. ⊥ }
