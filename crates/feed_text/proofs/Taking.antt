-- What is taken of records, one after another: what is put in, and the records.
use Rattle.std.proofs.Common.{◌≡◌, inl, inr, ℕ, Bool, List, [], ◌∷◌, ◌++◌, map, append_assoc, append-nil, refl, sym, ap, ◌∙◌, subst}
use Rattle.std.specs.Prelude.{Result, Ok, Err, Option, Some, None, ◌==◌, length, slice_get, if◌then◌else◌}
use Rattle.std.proofs.lemmas.Option.{none-some}
use Rattle.line_arbiter.specs.Histories.{History}
use Rattle.feed_text.specs.declared.replay.ReplayConfig.{ReplayConfig}
use Rattle.feed_text.specs.declared.replay_sink.PublishStop.{PublishStop}
use Rattle.run_settings.specs.declared.next_session.NextSession.{NextSession}
use Rattle.run_settings.specs.declared.skip_rule.SkipRule.{SkipRule}
use Rattle.run_settings.specs.declared.skip_rule.SkipRule.TheVariants.{Never, After}
use Rattle.mold_packet.specs.Content.{Content}
use Rattle.feed_text.specs.declared.standing_gap.StandingGap.{StandingGap}
use Rattle.feed_text.specs.declared.standing_gaps.StandingGaps.{StandingGaps}
use Rattle.capture_records.specs.Capture.{CaptureRecord, datagram_record, renewal_record, skip_record, self_help_record, record_venue}
use Rattle.capture_records.specs.Formats.{TimedRecord, timed_record, what_of}
use Rattle.feed_text.specs.ReplayEvents.{ReplayEvent}
use Rattle.feed_text.specs.Emitted.{EmitsRecord, Emits}
use Rattle.feed_text.specs.Rules.{AreTakenOf, GivesUpOverdue, IsTakenNext, PutsBefore, PutsIn, SkipsBefore, ReplayPoint, gap_at, point_after, gap_standing_after, stands_then}
use Rattle.run_settings.specs.NextSessions.{names_after}
use Rattle.feed_text.specs.PuttingIn.{IsPlain, PutNone, PutOne, PutToStop}
use Rattle.feed_text.specs.Standings.{Awaits, Knows, kept_at}
use Rattle.feed_text.specs.ReplayStates.{SinkTaking, ReplayState}
use Rattle.feed_text.specs.Following.{ReplayVenue, VenueList, EmitsNext, FollowAll, TakesRecord}
use Rattle.feed_text.specs.Running.{StoppedAt, TookSome, TookPutIn, TakesNext}
use Rattle.feed_text.proofs.Tales.{SinkLaws, goes_none, goes_more}

-- records after records
pub tells_records : (window : ℕ) (gaps : Bool) (rs qs : List TimedRecord)
    (old mid new : List History) (xs ys : List ReplayEvent)
    → Emits window gaps (map what_of rs) old xs mid → Emits window gaps (map what_of qs) mid ys new
    → Emits window gaps (map what_of (rs ++ qs)) old (xs ++ ys) new
tells_records window gaps [] qs old mid new xs ys a b =
    subst (λ (hs : List History). Emits window gaps (map what_of qs) hs (xs ++ ys) new) a.1
    (subst (λ (ls : List ReplayEvent). Emits window gaps (map what_of qs) mid (ls ++ ys) new)
    (sym a.0) b)
tells_records window gaps (r ∷ rs) qs old mid new xs ys (m, first, others, one, more, whole) b = (
  m,
  first,
  others ++ ys,
  one,
  tells_records window gaps rs qs m mid new others ys more b,
  ap (λ (ls : List ReplayEvent). ls ++ ys) whole ∙ append_assoc first others ys,
)

-- a record alone
pub tells_alone : (window : ℕ) (gaps : Bool) (r : TimedRecord) (old new : List History)
    (xs : List ReplayEvent) → EmitsRecord window gaps r.what old xs new
    → Emits window gaps (map what_of (r ∷ [])) old xs new
tells_alone window gaps r old new xs e = (new, xs, [], e, (refl, refl), sym (append-nil xs))

-- a rule that is never followed isn't After
pub never_after : (ms : ℕ) → Never ≡ After ms → ⊥
never_after ms e = absurd (cc)

-- what stands after a record, by what stood before it
pub standing_same : (window venue : ℕ) (time : Option ℕ) (place : ℕ) (now : Option ℕ)
    (hs : List History) (f g : ℕ → Option StandingGap) → venue ≡ place → time ≡ now
    → ((at : ℕ) → f at ≡ g at) → (at : ℕ)
    → gap_standing_after window venue time hs f at ≡ gap_standing_after window place now hs g at
standing_same window venue None place now hs f g here at_time same at =
    same at ∙ ap (λ (o : Option ℕ). gap_standing_after window place o hs g at) at_time
standing_same window venue (Some time) place now hs f g here at_time same at =
    ap (λ (o : Option StandingGap). if venue == at then stands_then o time (gap_at window hs at)
    else o) (same at)
    ∙ ap (λ (v : ℕ). gap_standing_after window v (Some time) hs g at) here
    ∙ ap (λ (o : Option ℕ). gap_standing_after window place o hs g at) at_time

module _ (config : ReplayConfig) where
  -- more records at the end
  next_longer : (at : ReplayPoint) (rs more : List TimedRecord) (t : TimedRecord)
      (left : List TimedRecord) → IsTakenNext config at rs t left
      → IsTakenNext config at (rs ++ more) t (left ++ more)
  next_longer at [] more t left x = absurd x
  next_longer at (r ∷ rs) more t left (inl x) =
      inl (x.0, ap (λ (xs : List TimedRecord). xs ++ more) x.1)
  next_longer at (r ∷ rs) more t left (inr x) =
      inr (x.0, x.1, ap (λ (xs : List TimedRecord). xs ++ more) x.2)

  pub taken_longer : (rs more ts : List TimedRecord) (old : ReplayPoint) (left : List TimedRecord)
      (new : ReplayPoint) → AreTakenOf config rs old ts left new
      → AreTakenOf config (rs ++ more) old ts (left ++ more) new
  taken_longer rs more [] old left new x = (ap (λ (xs : List TimedRecord). xs ++ more) x.0, x.1)
  taken_longer rs more (t ∷ ts) old left new (others, emitted, mid, next, tells, rest) = (
    others ++ more,
    emitted,
    mid,
    next_longer old rs more t others next,
    tells,
    taken_longer others more ts (point_after config old t mid) left new rest,
  )

  -- one list after another
  pub taken_more : (rs ts us : List TimedRecord) (old : ReplayPoint) (between : List TimedRecord)
      (mid : ReplayPoint) (left : List TimedRecord) (new : ReplayPoint)
      → AreTakenOf config rs old ts between mid → AreTakenOf config between mid us left new
      → AreTakenOf config rs old (ts ++ us) left new
  taken_more rs [] us old between mid left new x y =
      subst (λ (p : ReplayPoint). AreTakenOf config rs p us left new) x.1
      (subst (λ (xs : List TimedRecord). AreTakenOf config xs mid us left new) x.0 y)
  taken_more rs (t ∷ ts) us old ys mid left new (others, emitted, first, next, tells, rest) y = (
    others,
    emitted,
    first,
    next,
    tells,
    taken_more others ts us (point_after config old t first) ys mid left new rest y,
  )

  -- where nothing is put in before any record
  never_before : IsPlain config → (venue : ℕ) (h : History) (p : Content) (put_in : CaptureRecord)
      → PutsBefore config venue h p put_in → ⊥
  never_before plain venue h p (datagram_record place line bytes) x = x
  never_before plain venue h p (renewal_record place name) x =
      absurd (none-some name (subst (λ (l : List NextSession). slice_get (names_after venue l)
      (length h.earlier) ≡ Some name) plain.next x.1.follows))
  never_before plain venue h p (skip_record place number) x =
      subst (λ (rule : SkipRule). SkipsBefore rule config.window h p number) plain.rule x.1
  never_before plain venue h p (self_help_record place on) x = x

  pub never_put : IsPlain config → (at : ReplayPoint) (r : TimedRecord) (put_in : CaptureRecord)
      → PutsIn config at r put_in → ⊥
  never_put plain at r put_in (inl x) =
      subst (λ (rule : SkipRule). GivesUpOverdue rule config.window r.time at put_in) plain.rule x
  never_put plain at r put_in (inr x) =
      never_before plain (record_venue r.what) x.1.before x.1.packet put_in x.1.puts

  -- the records are what is taken
  never_next : IsPlain config → (at : ReplayPoint) (rs : List TimedRecord) (t : TimedRecord)
      (left : List TimedRecord) → IsTakenNext config at rs t left → rs ≡ t ∷ left
  never_next plain at [] t left x = absurd x
  never_next plain at (r ∷ rs) t left (inl x) = absurd (never_put plain at r x.0.0 x.0.1)
  never_next plain at (r ∷ rs) t left (inr x) = cc

  pub never_taken : IsPlain config → (rs ts : List TimedRecord) (old : ReplayPoint)
      (left : List TimedRecord) (new : ReplayPoint) → AreTakenOf config rs old ts left new
      → rs ≡ ts ++ left
  never_taken plain rs [] old left new x = sym x.0
  never_taken plain rs (t ∷ ts) old left new (others, emitted, mid, next, tells, rest) =
      never_next plain old rs t others next
      ∙ ap (λ (xs : List TimedRecord). t ∷ xs)
      (never_taken plain others ts (point_after config old t mid) left new rest)

-- What was taken before a record so far: the venues follow the histories after it, and the gaps
-- that stand are known.
pub record TookSoFar {K : Type 0} (taking : SinkTaking K) (config : ReplayConfig) (r : TimedRecord)
    (at : ReplayPoint) (old new : ReplayState K) (vs : List ReplayVenue) (kept : StandingGaps)
    : Type 0 where
  pub after : ReplayPoint
  pub took : TookSome taking config (r ∷ []) (r ∷ []) at old new after
  pub follow : FollowAll config.window vs after.histories
  pub knows : Knows config kept after

module _ {K : Type 0} {taking : SinkTaking K} (laws : SinkLaws taking) (config : ReplayConfig) where
  pub some_more : {rs between left : List TimedRecord} {old mid new : ReplayPoint}
      {s t u : ReplayState K} → TookSome taking config rs between old s t mid
      → TookSome taking config between left mid t u new → TookSome taking config rs left old s u new
  some_more {rs = rs} {between = between} {left = left} {old = old} {mid = mid} {new = new} x y =
      record {
        taken = x.taken ++ y.taken;
        emitted = x.emitted ++ y.emitted;
        are = taken_more config rs x.taken y.taken old between mid left new x.are y.are;
        emits = tells_records config.window config.gaps x.taken y.taken old.histories
            mid.histories new.histories x.emitted y.emitted x.emits y.emits;
        goes = goes_more laws x.emitted y.emitted x.goes y.goes;
      }

  -- nothing was taken yet
  pub some_none : (rs : List TimedRecord) (at : ReplayPoint) (s : ReplayState K)
      → TookSome taking config rs rs at s s at
  some_none rs at s = record {
    taken = [];
    emitted = [];
    are = (refl, refl);
    emits = (refl, refl);
    goes = goes_none laws s;
  }

  -- one was
  some_one : (r : TimedRecord) (rs : List TimedRecord) (t : TimedRecord) (left : List TimedRecord)
      (at : ReplayPoint) (old new : ReplayState K) (vs : List ReplayVenue)
      → IsTakenNext config at (r ∷ rs) t left
      → (x : EmitsNext taking config.window config.gaps t.what at.histories old new vs (Ok tt))
      → TookSome taking config (r ∷ rs) left at old new (point_after config at t x.after)
  some_one r rs t left at old new vs next x = record {
    taken = t ∷ [];
    emitted = x.emitted;
    are = (left, x.emitted, x.after, next, x.record_tells, (refl, refl));
    emits = tells_alone config.window config.gaps t at.histories x.after x.emitted x.record_tells;
    goes = x.emits;
  }

  -- the next one came to a stop
  next_stopped : (r t : TimedRecord) (left : List TimedRecord) (at : ReplayPoint)
      (old new : ReplayState K) (vs : List ReplayVenue) (stop : PublishStop)
      → IsTakenNext config at (r ∷ []) t left
      → EmitsNext taking config.window config.gaps t.what at.histories old new vs (Err stop)
      → StoppedAt taking config r at old new stop
  next_stopped r t left at old new vs stop next x = record {
    mid = at;
    state = old;
    took = some_none (r ∷ []) at old;
    last = t;
    left = left;
    is_last = next;
    emitted = x.emitted;
    after = x.after;
    last_tells = x.record_tells;
    stopped = x.emits;
  }

  -- the gaps that stand after a record that is waited for
  knows_next : (kept : StandingGaps) (r : TimedRecord) (at : ReplayPoint) (after : List History)
      → Awaits config kept r at → Knows config kept (point_after config at r after)
  knows_next kept r at after waits ms is place =
      let a = waits ms is in
      standing_same config.window (record_venue r.what) r.time kept.venue kept.time after
      at.standing (kept_at kept.gaps) (sym a.venue) (sym a.time) a.kept place

  -- a record before which nothing is put in
  pub record_taken : (r : TimedRecord) (at : ReplayPoint) (old new : ReplayState K)
      (vs : List ReplayVenue) (kept : StandingGaps) (done : Result (Unit {0}) PublishStop)
      → ((put_in : CaptureRecord) → PutsIn config at r put_in → ⊥) → Awaits config kept r at
      → EmitsNext taking config.window config.gaps r.what at.histories old new vs done
      → TakesNext taking config r at old new vs kept done
  record_taken r at old new vs kept (Ok done) none waits x = record {
    after = point_after config at r x.after;
    took = some_one r [] r [] at old new vs (inr (none, refl, refl)) x;
    follow = x.follow;
    knows = knows_next kept r at x.after waits;
  }
  record_taken r at old new vs kept (Err stop) none waits x = next_stopped r r [] at old new vs stop
      (inr (none, refl, refl)) x

  -- a stop after what was put in before it
  pub stopped_after : (r : TimedRecord) (at mid : ReplayPoint) (old state new : ReplayState K)
      (stop : PublishStop) → TookSome taking config (r ∷ []) (r ∷ []) at old state mid
      → StoppedAt taking config r mid state new stop → StoppedAt taking config r at old new stop
  stopped_after r at mid old state new stop x y = record {
    mid = y.mid;
    state = y.state;
    took = some_more x y.took;
    last = y.last;
    left = y.left;
    is_last = y.is_last;
    emitted = y.emitted;
    after = y.after;
    last_tells = y.last_tells;
    stopped = y.stopped;
  }

  -- after what was put in before it
  pub taken_after : (r : TimedRecord) (at mid : ReplayPoint) (old state new : ReplayState K)
      (vs : List ReplayVenue) (kept : StandingGaps) (done : Result (Unit {0}) PublishStop)
      → TookSome taking config (r ∷ []) (r ∷ []) at old state mid
      → TakesNext taking config r mid state new vs kept done
      → TakesNext taking config r at old new vs kept done
  taken_after r at mid old state new vs kept (Ok done) x y = record {
    after = y.after;
    took = some_more x y.took;
    follow = y.follow;
    knows = y.knows;
  }
  taken_after r at mid old state new vs kept (Err stop) x y =
      stopped_after r at mid old state new stop x y

  -- after all that is put in before it
  pub next_taken : (r : TimedRecord) (at : ReplayPoint) (from to : VenueList)
      (old state new : ReplayState K) (kept : StandingGaps)
      (done : Result (Unit {0}) PublishStop)
      → from.gaps ≡ config.gaps → TookPutIn taking config r at old state from.items kept
      → TakesRecord taking from r.what state new to done
      → TakesNext taking config r at old new to.items kept done
  next_taken r at from to old state new kept done gaps x y =
      taken_after r at x.after old state new to.items kept done x.took
      (record_taken r x.after state new to.items kept done x.none x.awaits
      (subst (λ (g : Bool). EmitsNext taking config.window g r.what x.after.histories state new
      to.items done) gaps (y.emitted config.window x.after.histories x.follow)))

  -- nothing was put in yet
  pub none_so_far : (r : TimedRecord) (at : ReplayPoint) (state : ReplayState K)
      (vs : List ReplayVenue) (kept : StandingGaps) → FollowAll config.window vs at.histories
      → Knows config kept at → TookSoFar taking config r at state state vs kept
  none_so_far r at state vs kept f knows = record {
    after = at;
    took = some_none (r ∷ []) at state;
    follow = f;
    knows = knows;
  }

  -- one more record was put in
  pub one_so_far : (r : TimedRecord) (at : ReplayPoint) (old state new : ReplayState K)
      (vs ws : List ReplayVenue) (kept known : StandingGaps)
      → (x : TookSoFar taking config r at old state vs kept)
      → PutOne taking config r x.after state new ws known
      → TookSoFar taking config r at old new ws known
  one_so_far r at old state new vs ws kept known x y = record {
    after = point_after config x.after (timed_record y.put_in r.time) y.emits.after;
    took = some_more x.took (some_one r [] (timed_record y.put_in r.time) (r ∷ []) x.after state new
        ws (inl ((y.put_in, y.is, refl), refl)) y.emits);
    follow = y.emits.follow;
    knows = y.knows;
  }

  -- one came to a stop
  pub put_stopped : (r : TimedRecord) (at : ReplayPoint) (old state new : ReplayState K)
      (vs ws : List ReplayVenue) (kept : StandingGaps) (stop : PublishStop)
      → (x : TookSoFar taking config r at old state vs kept)
      → PutToStop taking config r x.after state new ws stop
      → StoppedAt taking config r at old new stop
  put_stopped r at old state new vs ws kept stop x y = stopped_after r at x.after old state new stop
      x.took (next_stopped r (timed_record y.put_in r.time) (r ∷ []) x.after state new ws stop
      (inl ((y.put_in, y.is, refl), refl)) y.emits)

  -- none is put in any more
  pub all_put_in : (r : TimedRecord) (at : ReplayPoint) (old state new : ReplayState K)
      (vs ws : List ReplayVenue) (kept known : StandingGaps)
      → (x : TookSoFar taking config r at old state vs kept)
      → PutNone config r x.after state new ws known
      → TookPutIn taking config r at old new ws known
  all_put_in r at old state new vs ws kept known x y = record {
    after = x.after;
    took = subst (λ (u : ReplayState K). TookSome taking config (r ∷ []) (r ∷ []) at old u x.after)
        (sym y.same) x.took;
    follow = y.follow;
    awaits = y.awaits;
    none = y.none;
  }

  -- nothing is put in before any record
  pub plain_taken : (r : TimedRecord) (at : ReplayPoint) (state : ReplayState K)
      (vs : List ReplayVenue) (kept : StandingGaps) → IsPlain config
      → FollowAll config.window vs at.histories
      → TookPutIn taking config r at state state vs kept
  plain_taken r at state vs kept plain f = record {
    after = at;
    took = some_none (r ∷ []) at state;
    follow = f;
    awaits = λ ms is. absurd (never_after ms (sym plain.rule ∙ is));
    none = never_put config plain at r;
  }

-- what a record that is put in emits
pub put_emits : {K : Type 0} (taking : SinkTaking K) (config : ReplayConfig) (r : CaptureRecord)
    (at : ReplayPoint) (from to : VenueList) (old new : ReplayState K)
    (done : Result (Unit {0}) PublishStop) → from.gaps ≡ config.gaps
    → FollowAll config.window from.items at.histories → TakesRecord taking from r old new to done
    → EmitsNext taking config.window config.gaps r at.histories old new to.items done
put_emits taking config r at from to old new done gaps f x =
    subst (λ (g : Bool). EmitsNext taking config.window g r at.histories old new to.items done) gaps
    (x.emitted config.window at.histories f)
