-- What is counted of a replay's events. A count stays at 2^64 - 1 once it is there. Of a list of
-- events the last one stands first.
use Rattle.std.specs.Prelude.{ℕ, zero, suc, ◌+◌, ◌==◌, Bool, true, false, List, [], ◌∷◌, length, Option, Some, None, Ok, Err}
use Rattle.std.specs.List.{count_by, sum_by, filter}
use Rattle.feed_types.specs.Nationals.{state_of}
use Rattle.feed_types.specs.declared.item.Item.{Item}
use Rattle.feed_types.specs.declared.item.Item.TheVariants as items
use Rattle.feed_types.specs.declared.line.LineId.{LineId}
use Rattle.feed_types.specs.declared.line.LineId.TheVariants.{A, B, Recovery}
use Rattle.feed_types.specs.declared.national.NationalState.{NationalState}
use Rattle.feed_types.specs.declared.national.NationalState.TheVariants.{Empty, OneSided}
use Rattle.mold_packet.specs.Faults.{code_of}
use Rattle.line_arbiter.specs.Codes.{line_fault_code}
use Rattle.line_arbiter.specs.declared.outcome.Outcome.{Outcome}
use Rattle.line_arbiter.specs.declared.outcome.Outcome.TheVariants.{Taken, Heartbeat, Ended, Ahead}
use Rattle.line_arbiter.specs.Streams.{is_same_line}
use Rattle.event_sinks.specs.SinkEvents.{SinkEvent, told_packet, told_refusal, told_item, told_best, told_renewal, told_skip, told_declaration}
use Rattle.report_rows.specs.EventFigures.{bytes_in, first_in, is_best_of, is_crossed, is_locked, is_normal, repeated_in}
use Rattle.replay_reports.specs.declared.counts.line_counts.LineCounts.{LineCounts}
use Rattle.replay_reports.specs.declared.counts.item_counts.ItemCounts.{ItemCounts}
use Rattle.replay_reports.specs.declared.counts.best_counts.BestCounts.{BestCounts}
use Rattle.replay_reports.specs.declared.counts.best_counts.StateCounts.{StateCounts}
use Rattle.replay_reports.specs.declared.counts.venue_counts.VenueCounts.{VenueCounts}
use Rattle.replay_reports.specs.times.Figures.{capped}

-- a value for each of `count` places, from a place on
unfoldable pub each_place : (count place : ℕ) → (ℕ → ℕ) → List ℕ
each_place zero place f = []
each_place (suc count) place f = f place ∷ each_place count (place + 1) f

-- ---- a line: its datagrams, by their answers

-- it is a datagram of the line
abbrev pub is_on_line : LineId → SinkEvent → Bool
is_on_line line (told_packet venue on number count bytes answer) = is_same_line on line
is_on_line line (told_refusal venue on fault) = is_same_line on line
is_on_line line _ = false

abbrev pub is_taken_packet : SinkEvent → Bool
is_taken_packet (told_packet venue on number count bytes (Ok (Taken new repeated))) = true
is_taken_packet _ = false

abbrev pub is_heartbeat : SinkEvent → Bool
is_heartbeat (told_packet venue on number count bytes (Ok Heartbeat)) = true
is_heartbeat _ = false

abbrev pub is_end_packet : SinkEvent → Bool
is_end_packet (told_packet venue on number count bytes (Ok Ended)) = true
is_end_packet _ = false

abbrev pub is_ahead_packet : SinkEvent → Bool
is_ahead_packet (told_packet venue on number count bytes (Ok Ahead)) = true
is_ahead_packet _ = false

-- it was refused for the fault of this code
abbrev pub is_refused : ℕ → SinkEvent → Bool
is_refused code (told_packet venue on number count bytes (Err fault)) =
    line_fault_code fault == code
is_refused code (told_refusal venue on fault) = code_of fault == code
is_refused code _ = false

-- the counts of a line that had these datagrams
abbrev pub line_counts : List SinkEvent → LineCounts
line_counts datagrams = record {
  packets = capped (length datagrams);
  bytes = capped (sum_by bytes_in datagrams);
  taken = capped (count_by is_taken_packet datagrams);
  first = capped (sum_by first_in datagrams);
  repeated = capped (sum_by repeated_in datagrams);
  heartbeats = capped (count_by is_heartbeat datagrams);
  ends = capped (count_by is_end_packet datagrams);
  ahead = capped (count_by is_ahead_packet datagrams);
  refused = each_place 12 0 (λ code. capped (count_by (is_refused code) datagrams));
}

-- ---- a venue: its items

abbrev pub is_quote_item : Item → Bool
is_quote_item (items.Quote quote) = true
is_quote_item _ = false

abbrev pub is_halt_item : Item → Bool
is_halt_item (items.Halt symbol halted) = halted
is_halt_item _ = false

abbrev pub is_trading_item : Item → Bool
is_trading_item (items.Halt symbol true) = false
is_trading_item (items.Halt symbol false) = true
is_trading_item _ = false

abbrev pub is_other_item : Item → Bool
is_other_item items.Other = true
is_other_item _ = false

abbrev pub is_end_item : Item → Bool
is_end_item items.End = true
is_end_item _ = false

-- an item of such a kind was taken
abbrev pub is_item : (Item → Bool) → SinkEvent → Bool
is_item of_kind (told_item venue numbered) = of_kind numbered.item
is_item of_kind _ = false

-- the number of the last item, 0 where there is none
abbrev pub last_number_counted : List SinkEvent → ℕ
last_number_counted [] = 0
last_number_counted (told_item venue numbered ∷ earlier) = numbered.number
last_number_counted (last ∷ earlier) = last_number_counted earlier

abbrev pub item_counts : List SinkEvent → ItemCounts
item_counts events = record {
  quotes = capped (count_by (is_item is_quote_item) events);
  halts = capped (count_by (is_item is_halt_item) events);
  resumptions = capped (count_by (is_item is_trading_item) events);
  others = capped (count_by (is_item is_other_item) events);
  ends = capped (count_by (is_item is_end_item) events);
  last = last_number_counted events;
}

-- ---- a venue: all of it

abbrev pub is_renewal : SinkEvent → Bool
is_renewal (told_renewal venue (Ok ordinal)) = true
is_renewal _ = false

abbrev pub is_refused_renewal : SinkEvent → Bool
is_refused_renewal (told_renewal venue (Err fault)) = true
is_refused_renewal _ = false

abbrev pub is_granted_skip : SinkEvent → Bool
is_granted_skip (told_skip venue number (Ok done)) = true
is_granted_skip _ = false

abbrev pub is_refused_skip : SinkEvent → Bool
is_refused_skip (told_skip venue number (Err fault)) = true
is_refused_skip _ = false

abbrev pub is_declared : SinkEvent → Bool
is_declared (told_declaration venue true (Some position)) = true
is_declared _ = false

abbrev pub is_withdrawn : SinkEvent → Bool
is_withdrawn (told_declaration venue false (Some position)) = true
is_withdrawn _ = false

abbrev pub is_already_so : SinkEvent → Bool
is_already_so (told_declaration venue on None) = true
is_already_so _ = false

-- the counts of a venue that had these events
abbrev pub venue_counts : List SinkEvent → VenueCounts
venue_counts events = record {
  lines = record {
    a = line_counts (filter (is_on_line A) events);
    b = line_counts (filter (is_on_line B) events);
    recovery = line_counts (filter (is_on_line Recovery) events);
  };
  items = item_counts events;
  skips = capped (count_by is_granted_skip events);
  skips_refused = capped (count_by is_refused_skip events);
  renewals = capped (count_by is_renewal events);
  renewals_refused = capped (count_by is_refused_renewal events);
  declared = capped (count_by is_declared events);
  withdrawn = capped (count_by is_withdrawn events);
  already = capped (count_by is_already_so events);
}

-- ---- the national bests

-- a national best changed to a state of which this holds
abbrev pub is_change : (NationalState → Bool) → SinkEvent → Bool
is_change to (told_best notice) = to (state_of notice.national)
is_change to _ = false

abbrev pub is_empty_state : NationalState → Bool
is_empty_state Empty = true
is_empty_state _ = false

abbrev pub is_one_sided : NationalState → Bool
is_one_sided OneSided = true
is_one_sided _ = false

abbrev pub state_counts : List SinkEvent → StateCounts
state_counts events = record {
  empty = capped (count_by (is_change is_empty_state) events);
  one_sided = capped (count_by (is_change is_one_sided) events);
  normal = capped (count_by (is_change is_normal) events);
  locked = capped (count_by (is_change is_locked) events);
  crossed = capped (count_by (is_change is_crossed) events);
}

-- a national best changed, and its bid is this venue's
abbrev pub leads_bid : ℕ → SinkEvent → Bool
leads_bid venue (told_best notice) = is_best_of venue notice.national.bid
leads_bid venue _ = false

abbrev pub leads_offer : ℕ → SinkEvent → Bool
leads_offer venue (told_best notice) = is_best_of venue notice.national.offer
leads_offer venue _ = false

-- the changes of national bests, by the state after, and of each venue those after which the best
-- bid, or the best offer, is its own
abbrev pub best_counts : List SinkEvent → BestCounts
best_counts events = record {
  states = state_counts events;
  bids = each_place 16 0 (λ venue. capped (count_by (leads_bid venue) events));
  offers = each_place 16 0 (λ venue. capped (count_by (leads_offer venue) events));
}
