-- How a replay ends, and what follows from it.
use Rattle.std.proofs.Common.{◌≡◌, inl, inr, ℕ, ◌+◌, ◌≤◌, List, [], ◌∷◌, ◌++◌, drop, append-nil, refl, sym, subst, None}
use Rattle.std.specs.Prelude.{Result, Ok, Err, ◌⊎◌, ⊤}
use Rattle.feed_text.specs.declared.replay.ReplayConfig.{ReplayConfig}
use Rattle.event_sinks.specs.declared.replay_stop.ReplayStop.{ReplayStop}
use Rattle.event_sinks.specs.declared.replay_stop.ReplayStop.TheVariants.{SinkFailed, Bad, JournalFull, ReadFailed, Short, TooManyTurns, NoMemory}
use Rattle.feed_text.specs.declared.replay_sink.PublishStop.TheVariants as stops
use Rattle.capture_records.specs.Capture.{IsRecord}
use Rattle.text_out.specs.Devices.{Reading}
use Rattle.feed_text.specs.EventReplays.{ReadAndTold, IsToldPart, AnswersRun, TookAll, venues_in}
use Rattle.feed_text.specs.Following.{VenueList, FollowAll}
use Rattle.capture_records.specs.Formats.{TimedRecord, Parsing, TakesPiece, HasReadRecords}
use Rattle.feed_text.specs.declared.standing_gaps.StandingGaps.{StandingGaps}
use Rattle.feed_text.specs.Rules.{ReplayPoint}
use Rattle.feed_text.specs.Standings.{Knows}
use Rattle.feed_text.specs.ReplayStates.{SinkTaking, ReplayState}
use Rattle.feed_text.specs.Running.{ClosesSink, RanToEnd, ShowsBefore, StoppedAt, StopsShown}
use Rattle.event_sinks.specs.SinkEvents.{TimedEvent, at_time}
use Rattle.feed_text.specs.Tellings.{lasts_told}
use Rattle.feed_text.specs.Told.{IsToldOf, IsToldSome, told_facts}
use Rattle.feed_text.proofs.Tales.{SinkLaws}
use Rattle.feed_text.proofs.TakenRecords.{at_state, so_shown, told_up_to}
use Rattle.feed_text.proofs.RecordStops.{stopped_full, stopped_within}
use Rattle.feed_text.proofs.ReadRecords.{InLaws, record_read}
use Rattle.feed_text.proofs.Runs.{Ran}

module _ {R S F K : Type 0} {reading : Reading R} {parsing : Parsing S F} {taking : SinkTaking K}
    (ins : InLaws reading parsing) (sinks : SinkLaws taking) (config : ReplayConfig) where
  -- the sink took all that the records tell, and shows it
  pub ran_by : {calls : ℕ} {from mid : R} {start format : S} {rest : List ℕ} {before : K}
      {venues : VenueList} {gaps : StandingGaps} {t : ReplayState K} (is_shown : K → Type 0)
      (IsLeft : List ℕ → Type 0)
      (CameTo : ℕ → R → Type 0) (after : K)
      → IsLeft rest → CameTo calls mid → taking.takes t.sink [] after → is_shown after
      → Ran reading parsing taking config from calls mid start format rest before venues gaps t
      → ReadAndTold reading parsing (venues_in config) from start format IsLeft CameTo
      (IsToldOf config) (TookAll taking is_shown before after)
  ran_by is_shown IsLeft CameTo after left came took shown x =
      let y = so_shown sinks config after took x.has.so in
      record {
        records = x.records;
        calls = _;
        mid = _;
        rest = _;
        read = x.read;
        left = left;
        came_to = came;
        told = y.told;
        is = told_up_to sinks config y;
        took = (y.took, shown);
      }

  -- the sink failed as it showed what it took
  ran_unshown : {calls : ℕ} {from to : R} {start format : S} {rest : List ℕ} {before : K}
      {venues : VenueList} {gaps : StandingGaps} {t : ReplayState K} (after : K)
      → taking.fails t.sink [] after
      → Ran reading parsing taking config from calls to start format rest before venues gaps t
      → ReadAndTold reading parsing (venues_in config) from start format (λ rest. ⊤)
      (λ calls mid. (mid ≡ to) ⊎ reading.ends mid to) (IsToldPart (told_facts config))
      (λ told. taking.fails before told after)
  ran_unshown {before = before} {t = t} after failed x = record {
    records = x.records;
    calls = _;
    mid = _;
    rest = _;
    read = x.read;
    left = tt;
    came_to = inl refl;
    told = x.has.so.told ++ [];
    is = inl (subst (IsToldSome config x.records) (sym (append-nil x.has.so.told))
        ([], told_up_to sinks config x.has.so));
    took = sinks.fails_after before t.sink after x.has.so.told [] x.has.so.took failed;
  }

  pub answers_unshown : {calls : ℕ} {from to : R} {start format : S} {rest : List ℕ} {before : K}
      {venues : VenueList} {gaps : StandingGaps} {t : ReplayState K} (is_shown : K → Type 0)
      (result : ReplayStop F)
      (after : K) → result ≡ SinkFailed → taking.fails t.sink [] after
      → Ran reading parsing taking config from calls to start format rest before venues gaps t
      → AnswersRun reading parsing taking is_shown config (told_facts config) from to start format
      before after (Err result)
  answers_unshown {from = from} {to = to} {start = start} {format = format} {before = before}
      is_shown result after e failed x =
      subst (λ (r : ReplayStop F). AnswersRun reading parsing taking is_shown config
      (told_facts config) from to start format before after (Err r)) (sym e)
      (ran_unshown after failed x)

  -- no piece begins the rest
  pub answers_bad : {calls : ℕ} {from to : R} {start format : S} {rest : List ℕ} {before : K}
      {venues : VenueList} {gaps : StandingGaps} {t : ReplayState K} (is_shown : K → Type 0)
      (fault : F)
      (result : ReplayStop F) (after : K)
      → ShowsBefore taking.takes taking.fails is_shown (Bad fault) t.sink after result
      → parsing.is_bad format rest fault
      → Ran reading parsing taking config from calls to start format rest before venues gaps t
      → AnswersRun reading parsing taking is_shown config (told_facts config) from to start format
      before after (Err result)
  answers_bad {from = from} {to = to} {start = start} {format = format} {before = before} is_shown
      fault result after s bad x = elim s [
        | inl a ↦ subst (λ (r : ReplayStop F). AnswersRun reading parsing taking is_shown config
            (told_facts config) from to start format before after (Err r)) (sym a.0)
            (ran_by is_shown (λ rest. parsing.is_bad format rest fault) (λ calls mid. mid ≡ to)
            after bad refl a.1 a.2 x)
        | inr a ↦ answers_unshown is_shown result after a.0 a.1 x
      ]

  -- a stop within a record: the journal was full, and the sink showed what it took, or the sink
  -- failed
  pub answers_stopped : {calls len : ℕ} {from to : R} {start format next : S} {rest seen : List ℕ}
      {before : K} {venues : VenueList} {gaps : StandingGaps} {t u : ReplayState K}
      (is_shown : K → Type 0)
      (r : TimedRecord) (stop : _) (result : ReplayStop F) (after : K)
      → IsRecord (venues_in config) r.what → seen ≡ rest
      → TakesPiece parsing.reads format seen (r ∷ []) len next
      → ((at : ReplayPoint) → FollowAll config.window venues.items at.histories
      → Knows config gaps at → StoppedAt taking config r at (at_state t r.time) u stop)
      → StopsShown taking.takes taking.fails is_shown
      stop u.sink after result
      → Ran reading parsing taking config from calls to start format rest before venues gaps t
      → AnswersRun reading parsing taking is_shown config (told_facts config) from to start next
      before after (Err result)
  answers_stopped {len = len} {from = from} {to = to} {start = start} {next = next} {rest = rest}
      {before = before} {u = u} is_shown r stops.JournalFull result after is same piece takes s x =
      let read = record_read ins {left = drop len rest} r is same piece refl x.read in
      let k = stopped_full sinks config r x.has.so (takes x.has.at x.has.follow x.has.knows) in
      elim s [
        | inl a ↦ subst (λ (r : ReplayStop F). AnswersRun reading parsing taking is_shown config
            (told_facts config) from to start next before after (Err r)) (sym a.0)
            (record {
              records = _;
              calls = _;
              mid = to;
              rest = drop len rest;
              read = read;
              left = tt;
              came_to = refl;
              told = k.told;
              is = k.is;
              took = (
                subst (λ (l : List TimedEvent). taking.takes before l after)
                    (append-nil k.told) (sinks.takes_more before u.sink after k.told [] k.took a.1),
                a.2,
              );
            })
        | inr a ↦ subst (λ (r : ReplayStop F). AnswersRun reading parsing taking is_shown config
            (told_facts config) from to start next before after (Err r)) (sym a.0)
            (record {
              records = _;
              calls = _;
              mid = to;
              rest = drop len rest;
              read = read;
              left = tt;
              came_to = inl refl;
              told = k.told;
              is = inr (inl k.is);
              took = subst (λ (l : List TimedEvent). taking.fails before l after)
                  (append-nil k.told) (sinks.fails_after before u.sink after k.told [] k.took a.1);
            })
      ]
  answers_stopped {len = len} {from = from} {to = to} {start = start} {next = next} {rest = rest}
      {before = before} {u = u} is_shown r stops.SinkFailed result after is same piece takes s x =
      let k = stopped_within sinks config r x.has.so (takes x.has.at x.has.follow x.has.knows) in
      subst (λ (r : ReplayStop F). AnswersRun reading parsing taking is_shown config
      (told_facts config) from to start next before after (Err r)) (sym s.0)
      (record {
        records = _;
        calls = _;
        mid = to;
        rest = drop len rest;
        read = record_read ins {left = drop len rest} r is same piece refl x.read;
        left = tt;
        came_to = inl refl;
        told = k.told;
        is = k.is;
        took = subst (taking.fails before k.told) (sym s.1) k.took;
      })

  -- all was read
  pub ran_to_end : {calls : ℕ} {from mid to : R} {start format : S} {rest : List ℕ} {before : K}
      {venues : VenueList} {gaps : StandingGaps} {t : ReplayState K} → rest ≡ []
      → parsing.is_whole format
      → calls + 1 ≤ config.turns → reading.ends mid to
      → Ran reading parsing taking config from calls mid start format rest before venues gaps t
      → RanToEnd reading parsing taking config from to start format before t.sink venues.items
  ran_to_end {calls = calls} {from = from} {mid = mid} {start = start} {format = format}
      {before = before} {t = t} none whole few ends x =
      let y = x.has.so in
      record {
        records = x.records;
        calls = _;
        mid = _;
        within = few;
        read = subst (HasReadRecords reading parsing (venues_in config) from calls mid start
            x.records format) none x.read;
        is_whole = whole;
        end = ends;
        told = y.told;
        is = told_up_to sinks config y;
        follow = x.has.follow;
        count = x.has.count;
        took = y.took;
      }

module _ {R S F K : Type 0} {reading : Reading R} {parsing : Parsing S F} {taking : SinkTaking K}
    (sinks : SinkLaws taking) (config : ReplayConfig) where
  pub closed_by : {from to : R} {start finish : S} {before mid : K} (venues : VenueList) (after : K)
      (is_shown : K → Type 0) (r : Result (Unit {0}) (ReplayStop F))
      → RanToEnd reading parsing taking config from to start finish before mid venues.items
      → ClosesSink taking.takes taking.fails is_shown venues mid after r
      → AnswersRun reading parsing taking is_shown config (told_facts config) from to
      start finish before after r
  closed_by {before = before} {mid = mid} venues after is_shown (Ok done) x c =
      let T : List TimedEvent = at_time None (lasts_told 0 x.is.histories) in
      record {
        records = x.records;
        calls = x.calls;
        mid = x.mid;
        rest = [];
        read = x.read;
        left = (refl, x.is_whole);
        came_to = (x.within, x.end);
        told = x.told ++ T;
        is = record { first = x.told; is = x.is; told_is = refl };
        took = (
          sinks.takes_more before mid after _ T x.took
              (c.0 config.window x.is.histories x.follow),
          c.1,
        );
      }
  closed_by {before = before} {mid = mid} venues after is_shown (Err SinkFailed) x c =
      let T : List TimedEvent = at_time None (lasts_told 0 x.is.histories) in
      record {
        records = x.records;
        calls = x.calls;
        mid = x.mid;
        rest = [];
        read = x.read;
        left = tt;
        came_to = inr x.end;
        told = x.told ++ T;
        is = inr (inr (record { first = x.told; is = x.is; told_is = refl }));
        took = sinks.fails_after before mid after _ T x.took
            (c config.window x.is.histories x.follow);
      }
  closed_by venues after is_shown (Err ReadFailed) x c = absurd c
  closed_by venues after is_shown (Err (Bad fault)) x c = absurd c
  closed_by venues after is_shown (Err Short) x c = absurd c
  closed_by venues after is_shown (Err TooManyTurns) x c = absurd c
  closed_by venues after is_shown (Err JournalFull) x c = absurd c
  closed_by venues after is_shown (Err NoMemory) x c = absurd c
