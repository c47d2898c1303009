-- What an event leaves of the world where it moves an item of a lane, by a name.
use Rattle.std.specs.Prelude.{ℕ, List}
use Rattle.feed_types.specs.declared.item.Numbered.{Numbered}
use Rattle.feed_types.specs.declared.journal.Notice.{Notice}
use Rattle.feed_steps.specs.Steps.{Intake}
use Rattle.feed_core.specs.Worlds.{Venue, Subscriber, World}
use Rattle.feed_core.specs.Steps.{put_venue, put_subscriber}

abbrev pub with_sent : World → ℕ → Venue → List Numbered → World
with_sent w place v sent = put_venue w place (record v { lane = record v.lane { sent = sent } })

abbrev pub with_intake : World → ℕ → Venue → Intake → World
with_intake w place v x =
    record (put_venue w place (record v { lane = record v.lane { received = x.received } })) {
      entries = x.entries;
    }

abbrev pub with_offered : World → ℕ → Subscriber → List Notice → World
with_offered w id x sent =
    put_subscriber w id (record x { lane = record x.lane { sent = sent } })

abbrev pub with_dequeued : World → ℕ → Subscriber → List Notice → World
with_dequeued w id x received =
    put_subscriber w id (record x { lane = record x.lane { received = received } })
