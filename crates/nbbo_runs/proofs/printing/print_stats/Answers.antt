use Rattle.std.proofs.Common.{rules, ◌≡◌, ◌<◌, List, ℕ, [], Err, refl, arith, ◌∙◌}
use Rattle.std.specs.Prelude.{IsOkAnd}
use Rattle.event_sinks.specs.declared.replay_stop.ReplayStop.TheVariants.{NoMemory}
use Rattle.text_out.specs.Devices.{Reading, Writing}
use Rattle.text_out.specs.Members.{reading_of, writing_of}
use Rattle.capture_records.specs.Formats.{Parsing}
use Rattle.feed_text.specs.ReplayStates.{SinkTaking}
use Rattle.replay_run.specs.Printed.{facts_of_run}
use Rattle.replay_reports.specs.declared.stats.replay_stats.ReplayStats.{ReplayStats}
use Rattle.replay_reports.specs.stats.StatsSinks.{TakesStats}
use Rattle.nbbo_runs.specs.declared.fed_sink.FedSink.{FedSink}
use Rattle.nbbo_runs.specs.Printing.{IsStatsText, span_events, taking_in}
use Rattle.nbbo_runs.proofs.Keeping.{kept_of}
use Rattle.nbbo_runs.proofs.PrintedTexts.{missing_after, text_as}
use Rattle.nbbo_runs.proofs.printing.print_stats.Goals as goal

pub returns-in_default : goal.returns-in_default
returns-in_default g c = record {
  prints = record {
    told = [];
    seen = Err NoMemory;
    run = (refl, refl, refl);
    printed = Err NoMemory;
    prints = c.without_memory.ensures.output;
    ends = c.without_memory.ensures.outcome;
  };
  missing = rw c.without_memory.ensures.outcome (record { gaps = tt; absent = tt });
}

-- what takes the events of statistics
abbrev fed : SinkTaking (FedSink ReplayStats)
fed = record {
  takes = λ before told after. TakesStats before.sink told after.sink;
  fails = λ before told after. ⊥;
}

pub returns : goal.returns
returns g c =
    let reading : Reading g.row.R.Denot = reading_of g.R.CaptureIn in
    let writing : Writing g.row.W.Denot = writing_of g.W.TextOut in
    let parsing : Parsing g.row.F.Denot g.row.F-Fault.Denot = record {
      reads = g.F.RecordFormat.reads;
      wants = g.F.RecordFormat.wants;
      is_bad = g.F.RecordFormat.is_bad;
      is_whole = g.F.RecordFormat.is_whole;
    } in
    let config = c.args.config.now in
    let span = config.span in
    let timed = c.args.form.timed in
    let replayed = c.replay_in_span-replayed in
    let start = c.in-Ok.stats in
    let stats = replayed.result.sink.sink in
    let some : 0 < config.replay.window = (let least = c.requires.can.least in omega (arith, least))
    in
    let kept = kept_of reading parsing config.replay (facts_of_run config.replay)
    (taking_in span fed) (λ s. Unit {0})
    (λ s. record {
      same_times = refl;
      same_venues = refl;
      stats = λ window earlier are. are;
    })
    (λ s t told failed. failed) _ _ _ _ _ replayed.result.sink replayed.result.outcome
    replayed.ensures.run in
    let Is : List ℕ → Type 0 = IsStatsText config.replay timed (span_events span kept.told) in
    record {
      prints = record {
        told = kept.told;
        seen = replayed.result.outcome;
        run = kept.run;
        printed = c.write_text-printed.result;
        prints = text_as writing
            (λ text. IsOkAnd c.stats_text-text.result
            (λ bytes. bytes.items ≡ text)) Is _ _ c.write_text-printed.result
            (λ text made. record {
              stats = stats;
              are = kept.took.stats config.replay.window [] (c.in-Ok.ensures.stats some);
              has_times = kept.took.same_times ∙ c.in-Ok.ensures.has_times;
              venues = kept.took.same_venues ∙ c.in-Ok.ensures.count ∙ search rules;
            })
            c.write_text-printed.ensures;
        ends = c.and.ensures;
      };
      missing = rw c.and.ensures (missing_after reading parsing config.replay _ _ _ _ _ _
          c.write_text-printed.result replayed.result.outcome replayed.ensures.missing);
    }
