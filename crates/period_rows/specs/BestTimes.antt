-- The rows of a period by what is kept of symbols. Only private clauses cite these.
use Rattle.std.specs.Prelude.{ℕ, ◌+◌, ◌-◌, ◌*◌, List, [], length, min, Option, Some, None, slice_index_or}
use Rattle.feed_types.specs.FullCounts.{count_after}
use Rattle.report_rows.specs.FirstTexts.{first_texts}
use Rattle.period_rows.specs.BestRows.{best_row, mean_by, most_spread, share_of}
use Rattle.report_rows.specs.EventFigures.{is_crossed, is_locked, is_normal}
use Rattle.period_rows.specs.Bests.{bids, in_state, no_best, offers, spread_of}
use Rattle.period_rows.specs.declared.best_figures.BestFigures.{BestFigures}
use Rattle.period_rows.specs.declared.best_shares.BestShares.{BestShares}
use Rattle.period_rows.specs.declared.best_times.PeriodOver.{PeriodOver}
use Rattle.period_rows.specs.declared.symbol_times.SymbolTimes.{SymbolTimes}

abbrev pub figures_shares : ℕ → ℕ → BestFigures → BestShares
figures_shares length venue f = record {
  bid = share_of length (slice_index_or f.bids venue 0);
  offer = share_of length (slice_index_or f.offers venue 0);
  normal = share_of length f.normal;
  locked = share_of length f.locked;
  crossed = share_of length f.crossed;
  spread = mean_by f.spread f.normal;
}

abbrev pub figures_row : PeriodOver → List ℕ → BestFigures → ℕ → List ℕ
figures_row over symbol f venue =
    best_row over.style.format over.begin symbol venue (figures_shares over.style.length venue f)

abbrev pub figures_text : PeriodOver → List ℕ → BestFigures → List ℕ
figures_text over symbol f = first_texts (figures_row over symbol f) over.venues

-- the same with the best that stands up to a time
abbrev pub settled_shares : ℕ → ℕ → ℕ → SymbolTimes → BestShares
settled_shares length end venue t =
    let took = end - t.since in
    let normal = count_after t.figures.normal (in_state is_normal t.best * took) in
    record {
      bid = share_of length (count_after (slice_index_or t.figures.bids venue 0)
          (bids venue t.best * took));
      offer = share_of length (count_after (slice_index_or t.figures.offers venue 0)
          (offers venue t.best * took));
      normal = share_of length normal;
      locked = share_of length (count_after t.figures.locked
          (in_state is_locked t.best * took));
      crossed = share_of length
          (count_after t.figures.crossed (in_state is_crossed t.best * took));
      spread = mean_by (min (t.figures.spread + spread_of t.best * took) most_spread) normal;
    }

abbrev pub settled_row : PeriodOver → SymbolTimes → ℕ → List ℕ
settled_row over t venue =
    best_row over.style.format over.begin t.symbol venue
    (settled_shares over.style.length over.end venue t)

abbrev pub settled_text : PeriodOver → SymbolTimes → List ℕ
settled_text over t = first_texts (settled_row over t) over.venues

abbrev pub no_best_figures : BestFigures
no_best_figures = record { normal = 0; locked = 0; crossed = 0; spread = 0; bids = []; offers = [] }

abbrev pub no_symbol : SymbolTimes
no_symbol = record { symbol = []; best = no_best; since = 0; figures = no_best_figures }

abbrev pub settled_at : PeriodOver → List SymbolTimes → ℕ → List ℕ
settled_at over ts place = settled_text over (slice_index_or ts place no_symbol)

abbrev pub times_text : PeriodOver → List SymbolTimes → List ℕ
times_text over ts = first_texts (settled_at over ts) (length ts)

abbrev pub over_rows : Option PeriodOver → List SymbolTimes → List ℕ
over_rows None ts = []
over_rows (Some over) ts = times_text over ts
