-- What venues lack at the end of a capture.
use Rattle.std.specs.Prelude.{◌≡◌, ℕ, ◌+◌, List, [], ◌∷◌, ◌++◌, Option}
use Rattle.line_arbiter.specs.Histories.{History}
use Rattle.event_sinks.specs.declared.venue_gap.VenueGap.{VenueGap}
use Rattle.feed_text.specs.declared.replay.ReplayConfig.{ReplayConfig}
use Rattle.feed_text.specs.declared.standing_gap.StandingGap.{StandingGap}
use Rattle.text_out.specs.Devices.{Reading}
use Rattle.line_arbiter.specs.LastSent.{last_gap}
use Rattle.feed_text.specs.EventReplays.{venues_in}
use Rattle.capture_records.specs.Formats.{TimedRecord, Parsing, HasReadRecords}
use Rattle.feed_text.specs.Rules.{AreTakenOf, new_point}
use Rattle.event_sinks.specs.VenueGaps.{venue_gap}

-- what a venue with this history lacks
abbrev pub lack_of : ℕ → ℕ → History → List VenueGap
lack_of window venue h = venue_gap venue (last_gap window h)

-- what these venues lack, from this venue on, of each that lacks anything
abbrev pub lacks_of : ℕ → ℕ → List History → List VenueGap
lacks_of window venue [] = []
lacks_of window venue (h ∷ hs) = lack_of window venue h ++ lacks_of window (venue + 1) hs

-- A whole capture was read, and what its venues lack at the end was appended.
pub record AppendsLacks {R S F : Type 0} (reading : Reading R) (parsing : Parsing S F)
    (config : ReplayConfig) (from to : R) (start finish : S) (old new : List VenueGap) : Type 0
  where
    pub records : List TimedRecord
    pub calls : ℕ
    pub mid : R
    pub read : HasReadRecords reading parsing (venues_in config) from calls mid start records finish
        []
    pub end : reading.ends mid to
    pub taken : List TimedRecord
    pub histories : List History
    pub standing : ℕ → Option StandingGap
    pub are_taken : AreTakenOf config records (new_point config) taken []
        (record { histories = histories; standing = standing })
    pub lacks : new ≡ old ++ lacks_of config.window 0 histories
