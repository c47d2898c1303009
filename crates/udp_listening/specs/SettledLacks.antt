-- What the venues of a settled feed lack.
use Rattle.std.specs.Prelude.{ℕ, ◌+◌, List, [], ◌∷◌, ◌++◌, take}
use Rattle.event_sinks.specs.VenueGaps.{venue_gap}
use Rattle.event_sinks.specs.declared.venue_gap.VenueGap.{VenueGap}
use Rattle.live_feed.specs.settle.Settlements.{SettlementState, VenueEndState}

-- what these venues lack, from this one on, each its run of missing messages, if it has one
abbrev pub lacks_from : ℕ → List VenueEndState → List VenueGap
lacks_from venue [] = []
lacks_from venue (v ∷ vs) = venue_gap venue v.gap ++ lacks_from (venue + 1) vs

-- what all venues lack, of which a feed has at most 16
abbrev pub settled_lacks : SettlementState → List VenueGap
settled_lacks s = lacks_from 0 (take 16 s.venues)
