-- The world of the machine over events: what has happened to a feed. It begins empty.
use Rattle.std.specs.Prelude.{ℕ, ◌-◌, Bool, nat_le, List, [], length, drop, map}
use Rattle.feed_types.specs.declared.item.Numbered.{Numbered}
use Rattle.feed_types.specs.declared.journal.Entry.{Entry}
use Rattle.feed_types.specs.declared.journal.Notice.{Notice}
use Rattle.feed_types.specs.declared.config.FeedConfig.{FeedConfig}
use Rattle.line_arbiter.specs.Streams.{sent_of}
use Rattle.line_arbiter.specs.Histories.{History, new_history, items_of}
use Rattle.filter_terms.specs.declared.terms.Terms.{Terms}
use Rattle.filter_terms.specs.declared.filter.Filter.{Filter}
use Rattle.filter_terms.specs.Filters.{terms_of}

-- a lane: what was ever put in at one end, and what was taken out at the other
pub record Lane (X : Type 0) : Type 0 where
  pub sent : List X
  pub received : List X

abbrev pub empty_lane : {X : Type 0} → Lane X
empty_lane = record { sent = []; received = [] }

-- what was put in and not taken out
abbrev pub inside : {X : Type 0} → Lane X → List X
inside lane = drop (length lane.received) lane.sent

-- whether the lane holds as many items as it can
abbrev pub is_full : {X : Type 0} → ℕ → Lane X → Bool
is_full capacity lane = nat_le capacity (length lane.sent - length lane.received)

-- a venue: what its lines brought and what was given up, session by session, and the lane from
-- there to the journal
pub record Venue : Type 0 where
  pub history : History
  pub lane : Lane Numbered

-- how many items of the present session were sent
abbrev pub session_count : Venue → ℕ
session_count v = length v.lane.sent - length (items_of v.history.earlier)

-- the number of the last item of the present session that was sent: their count, where nothing was
-- given up
abbrev pub session_sent : Venue → ℕ
session_sent v = sent_of v.history.present.packets (session_count v)

-- a subscriber: what it asked for, and the lane from the journal to it
pub record Subscriber : Type 0 where
  pub terms : Terms
  pub lane : Lane Notice

-- the world; `used` counts the filters that were used
pub record World : Type 0 where
  pub venues : List Venue
  pub entries : List Entry
  pub subscribers : List Subscriber
  pub used : ℕ

-- The setting of a feed: the name of each venue's first session, the symbols, the capacities of a
-- window in messages and of a lane and the journal in items, and the terms of the filters that were
-- handed in.
pub record Setting : Type 0 where
  pub sessions : List (List ℕ)
  pub symbols : List (List ℕ)
  pub window : ℕ
  pub lane : ℕ
  pub journal : ℕ
  pub filters : List Terms

-- the terms of filters
abbrev pub all_terms : {g F m : _} → List (Filter g F m) → List Terms
all_terms filters = map (λ f. terms_of f) filters

abbrev pub setting_of : FeedConfig → List Terms → Setting
setting_of config filters = record {
  sessions = config.sessions.now;
  symbols = config.symbols.now;
  window = config.window;
  lane = config.lane;
  journal = config.journal;
  filters = filters;
}

abbrev pub new_venue : List ℕ → Venue
new_venue session = record { history = new_history session; lane = empty_lane }

abbrev pub new_world : Setting → World
new_world s = record { venues = map new_venue s.sessions; entries = []; subscribers = []; used = 0 }
