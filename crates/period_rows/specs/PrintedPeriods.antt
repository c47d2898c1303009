-- The periods whose rows events print.
use Rattle.std.specs.Prelude.{ℕ, ◌<◌, List, [], ◌∷◌, ◌++◌, map, option_to_list, Option, None, Some, if◌then◌else◌}
use Rattle.event_sinks.specs.SinkEvents.{TimedEvent}
use Rattle.report_rows.specs.PeriodLists.{over_with}
use Rattle.report_rows.specs.SpanEvents.{ends_all}
use Rattle.report_rows.specs.declared.kept_periods.KeptPeriod.{KeptPeriod}
use Rattle.period_rows.specs.CountStates.{CountPeriod, own_begin, state_told}

-- when periods began
abbrev pub period_begins : {T : Type 0} → List (KeptPeriod T) → List ℕ
period_begins ps = map (λ p. p.begin) ps

-- a time is later than all of these
abbrev pub IsAfterAll : ℕ → List ℕ → Type 0
IsAfterAll b [] = Unit
IsAfterAll b (c ∷ cs) = (c < b) × IsAfterAll b cs

-- each is later than all after it
abbrev pub AreLatestFirst : List ℕ → Type 0
AreLatestFirst [] = Unit
AreLatestFirst (b ∷ bs) = IsAfterAll b bs × AreLatestFirst bs

-- the period that a datagram ends
abbrev pub period_left : Option ℕ → List CountPeriod → Option CountPeriod
period_left None ps = None
period_left (Some begin) ps = over_with begin ps

-- of the periods that are kept those that an event ends, the latest one first
abbrev pub ended_with : ℕ → TimedEvent → List CountPeriod → List CountPeriod
ended_with length e ps =
    if ends_all e.event then ps else option_to_list (period_left (own_begin length e) ps)

-- those that events ended, the latest one first
abbrev pub ended_told : ℕ → List TimedEvent → List CountPeriod
ended_told length [] = []
ended_told length (e ∷ earlier) =
    ended_with length e (state_told length earlier).periods ++ ended_told length earlier
