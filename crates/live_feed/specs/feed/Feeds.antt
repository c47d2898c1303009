-- A feed that isn't open yet.
use Rattle.std.specs.Prelude.{◌≡◌, ℕ, ◌≤◌, List, [], length, map, Option, refl}
use Rattle.std.specs.Coded.{Coded, code_by, coded×, coded_ℕ, coded_list, coded_option}
use Rattle.atomic_table.specs.Seated.{TableId, table_id_coded}
use Rattle.feed_types.specs.declared.config.FeedConfig.{FeedConfig}
use Rattle.feed_types.specs.declared.item.Numbered.{Numbered}
use Rattle.journal_book.specs.Journals.{JournalState}
use Rattle.fifo_lane.specs.Lane.{LaneEnd}
use Rattle.feed_steps.specs.Lanes.{FeedLanes, FeedSetting}
use Rattle.venue_lines.specs.Starts.{AreStarts, StartState, names_by_venue}
use Rattle.hub_lanes.specs.declared.spare.SpareLane.{SpareLane}
use Rattle.hub_lanes.specs.Spares.{AreUnused}

-- the setting of a feed with this journal and these capacities of a window, a lane and a log
abbrev pub feed_setting_of : JournalState → ℕ → ℕ → ℕ → FeedSetting
feed_setting_of journal window lane log = record {
  symbols = journal.symbols;
  window = window;
  lane = lane;
  journal = journal.journal;
  log = log;
  kept = journal.kept;
}

-- the setting of a feed of this configuration, in which a subscriber may be behind by `kept`
-- changes where not all of them are kept
abbrev pub configured_setting : FeedConfig → Option ℕ → FeedSetting
configured_setting config kept = record {
  symbols = config.symbols.now;
  window = config.window;
  lane = config.lane;
  journal = config.journal;
  log = config.log;
  kept = kept;
}

-- the lanes of these ends, in a feed of this setting, and the sessions that follow at these starts
abbrev pub lanes_of : List (LaneEnd Numbered) → List SpareLane → FeedSetting → List StartState
    → FeedLanes
lanes_of receivers spare setting starts = record {
  venues = map (λ e. e.lane) receivers;
  subscribers = map (λ s. s.sender.lane) spare;
  setting = setting;
  next = names_by_venue starts;
}

-- a setting is stored as the tuple of its fields
abbrev pub setting_code : Coded FeedSetting
setting_code =
    code_by (List (List ℕ) × (ℕ × (ℕ × (ℕ × (ℕ × Option ℕ)))))
    (coded× (coded_list (coded_list coded_ℕ))
    (coded× coded_ℕ (coded× coded_ℕ (coded× coded_ℕ (coded× coded_ℕ (coded_option coded_ℕ))))))
    (λ s. (s.symbols, (s.window, (s.lane, (s.journal, (s.log, s.kept))))))
    (λ p. record {
      symbols = p.0;
      window = p.1.0;
      lane = p.1.1.0;
      journal = p.1.1.1.0;
      log = p.1.1.1.1.0;
      kept = p.1.1.1.1.1;
    })
    (λ _. refl)

-- a feed's lanes are stored likewise
abbrev pub feed_lanes_code : Coded FeedLanes
feed_lanes_code =
    code_by (List TableId × (List TableId × (FeedSetting × List (List (List ℕ)))))
    (coded× (coded_list table_id_coded) (coded× (coded_list table_id_coded)
    (coded× setting_code (coded_list (coded_list (coded_list coded_ℕ))))))
    (λ f. (f.venues, (f.subscribers, (f.setting, f.next))))
    (λ p. record { venues = p.0; subscribers = p.1.0; setting = p.1.1.0; next = p.1.1.1 })
    (λ _. refl)

-- The feed has a lane for each venue of its journal and for 32 subscribers, and nothing came yet.
-- It is set up so.
pub record IsClosed (setting : FeedSetting) (starts : List StartState)
    (receivers : List (LaneEnd Numbered)) (journal : JournalState) (spare : List SpareLane)
    : Type 0 where
  pub begun : AreStarts setting.window setting.lane starts receivers
  pub venues : length receivers ≡ journal.venues
  pub few : journal.venues ≤ 16
  pub entries : journal.entries ≡ []
  pub cursors : journal.cursors ≡ []
  pub unused : AreUnused setting.lane spare
  pub many : length spare ≡ 32
  pub symbols : journal.symbols ≡ setting.symbols
  pub size : journal.journal ≡ setting.journal
  pub kept : journal.kept ≡ setting.kept
