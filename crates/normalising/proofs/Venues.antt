-- The venues of a run: one of them takes a record, and the others stay.
use Rattle.std.proofs.Common.{◌≡◌, ◌⊎◌, ℕ, zero, suc, ◌+◌, ◌<◌, Bool, true, false, List, [], ◌∷◌, ◌++◌, length, length-append, append-nil, refl, sym, ap, ap₂, subst, ◌∙◌, inl, inr, arith, Option, Some, None, Result, Ok, Err}
use Rattle.std.specs.Prelude.{⊤, nat_lt, slice_get, slice_set, if◌then◌else◌}
use Rattle.std.proofs.Math.ListN.{length-set}
use Rattle.std.proofs.lemmas.Option.{slice_get_within}
use Rattle.feed_types.specs.ListLaws.{get_within, get_set_same, get_set_other, same_or_not, same_set}
use Rattle.feed_types.specs.declared.item.Numbered.{Numbered}
use Rattle.feed_types.specs.declared.line.LineId.{LineId}
use Rattle.mold_packet.specs.declared.fault.PacketFault.{PacketFault}
use Rattle.mold_packet.specs.Content.{Content, Spells}
use Rattle.mold_packet.specs.Faults.{HasFault}
use Rattle.line_arbiter.specs.Packets.{Input}
use Rattle.line_arbiter.specs.Streams.{front_of}
use Rattle.venue_normaliser.specs.Outputs.{Opening}
use Rattle.venue_normaliser.specs.States.{FitsOpened}
use Rattle.capture_records.specs.Capture.{CaptureRecord, datagram_record, record_venue, self_help_record, skip_record}
use Rattle.event_sinks.specs.declared.event_sink.SinkStop.{SinkStop}
use Rattle.event_sinks.specs.declared.venue_gap.VenueGap.{VenueGap}
use Rattle.itch_book.specs.declared.fault.BookFault.{BookFault}
use Rattle.capture_records.specs.Formats.{TimedRecord, timed_record}
use Rattle.run_settings.specs.declared.skip_rule.SkipRule.TheVariants.{Gaps}
use Rattle.text_out.specs.Devices.{Writing, Wrote}
use Rattle.normalising.specs.Keeping.{FollowHistories, FollowNew, FollowsAt, FollowsNew, FollowsRun, FollowsVenue, GivesNext, IsNoted, IsSameRun, IsSameVenue, PutsInFirst, RunsOn, TakesAtVenue, TakesToo, gap_noted}
use Rattle.normalising.specs.Normalised.{gap_given_up, gap_skipped, inputs_of, IsNewVenue, IsNormalisedNext, IsPacketOfName, MayPutIn, NormalisedHistory, NormalisedPoint, NormalisesAt, NormalisesRecord, time_after}
use Rattle.normalising.specs.Texts.{record_text}
use Rattle.normalising.specs.Writes.{PutsText}
use Rattle.normalising.specs.declared.normalised_feed.NormalisedFeed.{NormalisedFeed}
use Rattle.normalising.specs.declared.normalised_venue.NormalisedVenue.{NormalisedVenue}
use Rattle.normalising.specs.declared.normalised_venues.NormalisedVenues.{NormalisedVenues}
use Rattle.normalising.specs.declared.output_form.OutputForm.{OutputForm}
use Rattle.normalising.specs.declared.output_packets.OutputPackets.{OutputPackets}
use Rattle.normalising.specs.declared.venue_stop.VenueStop.{VenueStop}
use Rattle.normalising.specs.declared.venue_stop.VenueStop.TheVariants.{Book, Sink}
use Rattle.normalising.proofs.Steps.{all_none, all_one, runs_then}
use Rattle.normalising.proofs.Taking.{wrote_longer}
use Rattle.normalising.proofs.Venue.{follows_same, puts_nothing}

-- ---- the venues follow their histories

-- one venue and its history go on
pub follow_set : (feed : NormalisedFeed) (i : ℕ) (vs : List NormalisedVenue)
    (hs : List NormalisedHistory) (v : NormalisedVenue) (h : NormalisedHistory)
    → FollowHistories feed vs hs → FollowsVenue feed i v h
    → FollowHistories feed (slice_set vs i v) (slice_set hs i h)
follow_set feed i vs hs v h f now = record {
  count = length-set vs i v ∙ f.count ∙ sym (length-set hs i h);
  each = λ j w k e g. elim (same_or_not j i) [
    | inl same ↦
        let a : w ≡ v = get_set_same vs i v w
        (subst (λ (n : ℕ). slice_get (slice_set vs i v) n ≡ Some w) same e) in
        let b : k ≡ h = get_set_same hs i h k
        (subst (λ (n : ℕ). slice_get (slice_set hs i h) n ≡ Some k) same g) in
        rw (same, a, b) now
    | inr other ↦ f.each j w k (sym (get_set_other vs i j v other) ∙ e)
        (sym (get_set_other hs i j h other) ∙ g)
  ];
}

-- a list as long as one that has a place has it too
pub history_at : (feed : NormalisedFeed) (vs : List NormalisedVenue)
    (hs : List NormalisedHistory) (i : ℕ) (v : NormalisedVenue) → FollowHistories feed vs hs
    → slice_get vs i ≡ Some v
    → (h : NormalisedHistory) × (slice_get hs i ≡ Some h) × FollowsVenue feed i v h
history_at feed vs hs i v f at =
    let within = slice_get_within vs i v at in
    let n = f.count in
    let h = get_within hs i (omega arith) in
    (h.0, h.1, f.each i v h.0 at h.1)

-- a venue whose normaliser is the same follows its history
pub follow_same : (feed : NormalisedFeed) (vs : List NormalisedVenue)
    (hs : List NormalisedHistory) (i : ℕ) (v w : NormalisedVenue) → FollowHistories feed vs hs
    → slice_get vs i ≡ Some v → IsSameVenue v w
    → FollowHistories feed (slice_set vs i w) hs
follow_same feed vs hs i v w f at same =
    let h = history_at feed vs hs i v f at in
    subst (λ (ks : List NormalisedHistory). FollowHistories feed (slice_set vs i w) ks)
    (same_set hs i h.0 h.1)
    (follow_set feed i vs hs w h.0 f
    (follows_same feed i v w h.0 same.normaliser same.ready h.2))

pub slice_get_push : {X : Type 0} (xs : List X) (y : X) (i : ℕ) (x : X)
    → slice_get (xs ++ y ∷ []) i ≡ Some x → (slice_get xs i ≡ Some x) ⊎ ((i ≡ length xs) × (x ≡ y))
slice_get_push [] y zero x e = inr (refl, cc)
slice_get_push [] y (suc i) x e = absurd cc
slice_get_push (z ∷ xs) y zero x e = inl e
slice_get_push (z ∷ xs) y (suc i) x e = elim (slice_get_push xs y i x e) [
  | inl a ↦ inl a
  | inr b ↦ inr (ap suc b.0, b.1)
]

follow_push : (feed : NormalisedFeed) (vs : List NormalisedVenue) (hs : List NormalisedHistory)
    (v : NormalisedVenue) (h : NormalisedHistory) → FollowHistories feed vs hs
    → FollowsVenue feed (length hs) v h
    → FollowHistories feed (vs ++ v ∷ []) (hs ++ h ∷ [])
follow_push feed vs hs v h f now = record {
  count = length-append vs (v ∷ []) ∙ ap (λ (n : ℕ). n + 1) f.count
      ∙ sym (length-append hs (h ∷ []));
  each = λ i w k e g. elim (slice_get_push vs v i w e) [
    | inl a ↦ elim (slice_get_push hs h i k g) [
      | inl b ↦ f.each i w k a b
      | inr b ↦ let past = slice_get_within vs i w a in let n = f.count
          in absurd (omega (arith, b.0))
    ]
    | inr a ↦ elim (slice_get_push hs h i k g) [
      | inl b ↦ let past = slice_get_within hs i k b in let n = f.count
          in absurd (omega (arith, a.0))
      | inr b ↦ rw (b.0, a.1, b.1) now
    ]
  ];
}

-- no venue yet
pub follow_none : (feed : NormalisedFeed) → FollowNew feed []
follow_none feed = record {
  histories = [];
  follow = record { count = refl; each = λ i v h e g. absurd cc };
  each = λ i h e. absurd cc;
}

-- one more venue, to which nothing was given
pub follow_next : (feed : NormalisedFeed) (vs : List NormalisedVenue) (v : NormalisedVenue)
    → FollowNew feed vs → FollowsNew feed (length vs) v → FollowNew feed (vs ++ v ∷ [])
follow_next feed vs v f now = record {
  histories = f.histories ++ now.history ∷ [];
  follow = follow_push feed vs f.histories v now.history f.follow
      (subst (λ (n : ℕ). FollowsVenue feed n v now.history) f.follow.count now.follows);
  each = λ i h e. elim (slice_get_push f.histories now.history i h e) [
    | inl before ↦ f.each i h before
    | inr here ↦
        subst (λ (n : ℕ). IsNewVenue feed n h) (f.follow.count ∙ sym here.0)
        (subst (λ (k : NormalisedHistory). IsNewVenue feed (length vs) k) (sym here.1) now.is_new)
  ];
}

-- ---- times

-- the time of a record is the latest one after it, too
pub time_again : (latest : ℕ) (time : Option ℕ)
    → time_after (time_after latest time) time ≡ time_after latest time
time_again latest None = refl
time_again latest (Some time) = by_test (nat_lt time 4294967296000000000)
  where
    by_test : (b : Bool) → (if b then time else (if b then time else latest))
        ≡ (if b then time else latest)
    by_test true = refl
    by_test false = refl

-- ---- one record

abbrev pub point_with : NormalisedPoint → CaptureRecord → (latest : ℕ)
    → (before after : NormalisedHistory) → NormalisedPoint
point_with at r latest before after = record {
  venues = slice_set at.venues (record_venue r) after;
  latest = latest;
  given_up = at.given_up ++ gap_given_up r before after;
}

module _ {W : Type 0} (writing : Writing W) (adds_none : (s : W) → writing.adds s [] s)
    (feed : NormalisedFeed) (r : CaptureRecord) (t : TimedRecord) (records left : List TimedRecord)
    (at : NormalisedPoint) (time : ℕ) (v w : NormalisedVenue) (vs : List NormalisedVenue)
    (from to : W) (waited waits : List ℕ)
    (f : FollowHistories feed vs at.venues)
    (here : slice_get vs (record_venue r) ≡ Some v)
    (is : t.what ≡ r) (next : IsNormalisedNext feed records t left)
    (time_is : time ≡ time_after at.latest t.time) where
  abbrev before_it : NormalisedHistory
  before_it = (history_at feed vs at.venues (record_venue r) v f here).0

  abbrev after_it : NormalisedHistory → NormalisedPoint
  after_it after = point_with at r time before_it after

  of_record : (rest : List Numbered) (text : List ℕ) (after : NormalisedHistory)
      → NormalisesAt feed time r before_it rest text after
      → NormalisesRecord feed t at rest text (after_it after)
  of_record rest text after n =
      let h = history_at feed vs at.venues (record_venue r) v f here in
      subst (λ (what : CaptureRecord). NormalisesRecord feed (record t { what = what }) at rest text
      (after_it after)) (sym is) (record {
        before = h.0;
        after = after;
        at = h.1;
        normalises = subst (λ (now : ℕ). NormalisesAt feed now r before_it rest text after)
            time_is n;
        venues = refl;
        latest = time_is;
        given_up = refl;
      })

  -- a venue's record is one of the run
  pub venue_next : {A : Type 0} (IsAfter : NormalisedPoint → Type 0) (result : Result A VenueStop)
      → TakesAtVenue writing feed time (record_venue r) r before_it w from to waited waits
      result
      → ((after : NormalisedHistory) → FollowsVenue feed (record_venue r) w after
      → FollowHistories feed (slice_set vs (record_venue r) w)
      (slice_set at.venues (record_venue r) after) → IsAfter (after_it after))
      → RunsOn writing feed records at (λ l. l ≡ left) IsAfter from to waited waits result
  venue_next IsAfter (Ok done) took lead = record {
    taken = t ∷ [];
    text = took.text;
    left = left;
    after = after_it took.after;
    normalises = all_one feed records at t took.text left (after_it took.after)
        next (of_record [] took.text took.after took.normalises);
    is_left = refl;
    is_after = lead took.after took.follows
        (follow_set feed (record_venue r) vs at.venues w took.after f took.follows);
    puts = took.puts;
  }
  venue_next IsAfter (Err (Sink stop)) took lead = record {
    taken = [];
    text = [];
    left = records;
    after = at;
    normalises = all_none feed records at;
    more = took.text;
    within = inr (
      t,
      left,
      took.rest,
      after_it took.after,
      next,
      of_record took.rest took.text took.after took.normalises,
    );
    wrote = took.wrote;
    failed = took.failed;
  }
  venue_next IsAfter (Err (Book fault)) took lead = record {
    taken = [];
    text = [];
    left = records;
    after = at;
    normalises = all_none feed records at;
    is_left = tt;
    is_after = tt;
    puts = rw (took.0, took.1) (puts_nothing writing adds_none from waited);
  }

-- ---- calls of a run

pub runs_weaker : {W A : Type 0} (writing : Writing W) (feed : NormalisedFeed)
    (records : List TimedRecord) (at : NormalisedPoint) (IsLeft : List TimedRecord → Type 0)
    (IsMid IsAfter : NormalisedPoint → Type 0) (from to : W) (waited waits : List ℕ)
    → ((p : NormalisedPoint) → IsMid p → IsAfter p) → (result : Result A VenueStop)
    → RunsOn writing feed records at IsLeft IsMid from to waited waits result
    → RunsOn writing feed records at IsLeft IsAfter from to waited waits result
runs_weaker writing feed records at IsLeft IsMid IsAfter from to waited waits lead (Ok done) x =
    record {
      taken = x.taken;
      text = x.text;
      left = x.left;
      after = x.after;
      normalises = x.normalises;
      is_left = x.is_left;
      is_after = lead x.after x.is_after;
      puts = x.puts;
    }
runs_weaker writing feed records at IsLeft IsMid IsAfter from to waited waits lead
    (Err (Sink stop)) x = x
runs_weaker writing feed records at IsLeft IsMid IsAfter from to waited waits lead
    (Err (Book fault)) x = x

-- a stop is one whatever the answer would be
pub stop_runs : {W : Type 0} (A B : Type 0) (writing : Writing W) (feed : NormalisedFeed)
    (records : List TimedRecord) (at : NormalisedPoint)
    (IsLeft IsOther : List TimedRecord → Type 0) (IsMid IsAfter : NormalisedPoint → Type 0)
    (from to : W) (waited waits : List ℕ) (stop : VenueStop)
    → RunsOn {A = A} writing feed records at IsLeft IsMid from to waited waits (Err stop)
    → RunsOn {A = B} writing feed records at IsOther IsAfter from to waited waits (Err stop)
stop_runs A B writing feed records at IsLeft IsOther IsMid IsAfter from to waited waits
    (Sink stop) x = x
stop_runs A B writing feed records at IsLeft IsOther IsMid IsAfter from to waited waits
    (Book fault) x = x

-- a venue's record, whichever is the next one
pub gives_next : {W A : Type 0} (writing : Writing W) → ((s : W) → writing.adds s [] s)
    → (r : CaptureRecord) (old new : NormalisedVenues) (v w : NormalisedVenue) (from to : W)
    (result : Result A VenueStop)
    → slice_get old.venues.items (record_venue r) ≡ Some v
    → new.venues.items ≡ slice_set old.venues.items (record_venue r) w
    → new.settings ≡ old.settings → new.latest ≡ old.latest
    → new.output.page.form ≡ old.output.page.form
    → ((feed : NormalisedFeed) (h : NormalisedHistory)
    → FollowsVenue feed (record_venue r) v h → old.output.page.form ≡ feed.form
    → TakesAtVenue writing feed old.latest (record_venue r) r h w from to
    old.output.page.page new.output.page.page result)
    → ((feed : NormalisedFeed) (h after : NormalisedHistory)
    → FollowsVenue feed (record_venue r) v h → FollowsVenue feed (record_venue r) w after
    → new.given_up.items ≡ old.given_up.items ++ gap_given_up r h after)
    → GivesNext writing r old new from to result
gives_next writing adds_none r old new v w from to result here set settings latest form takes
    gaps =
    λ t records left at f is next.
    let h = history_at old.settings old.venues.items at.venues (record_venue r) v f.venues here in
    venue_next writing adds_none old.settings r t records left at old.latest v w old.venues.items
    from to old.output.page.page new.output.page.page f.venues here is next f.latest
    (FollowsAt new t.time) result (takes old.settings h.0 h.2 f.form)
    (λ after it follows. (
      record {
        venues = subst (λ (feed : NormalisedFeed). FollowHistories feed new.venues.items
            (slice_set at.venues (record_venue r) after)) (sym settings)
            (subst (λ (vs : List NormalisedVenue). FollowHistories old.settings vs
            (slice_set at.venues (record_venue r) after)) (sym set) follows);
        latest = latest ∙ f.latest ∙ sym (time_again at.latest t.time)
            ∙ ap (λ (l : ℕ). time_after l t.time) (sym f.latest);
        form = form ∙ f.form ∙ ap (λ (feed : NormalisedFeed). feed.form) (sym settings);
        given_up = gaps old.settings h.0 after h.2 it
            ∙ ap (λ (l : List VenueGap). l ++ gap_given_up r h.0 after) f.given_up;
      },
      sym latest,
    ))

-- a stop at a venue is one of the run, whatever the run would be after it
pub gives_stop : {W : Type 0} (writing : Writing W) → ((s : W) → writing.adds s [] s)
    → (r : CaptureRecord) (old : NormalisedVenues) (v : NormalisedVenue) (from to : W)
    (waits : List ℕ) (stop : VenueStop)
    → slice_get old.venues.items (record_venue r) ≡ Some v
    → ((feed : NormalisedFeed) (h : NormalisedHistory)
    → FollowsVenue feed (record_venue r) v h → old.output.page.form ≡ feed.form
    → TakesAtVenue {A = Unit {0}} writing feed old.latest (record_venue r) r h v from to
    old.output.page.page waits (Err stop))
    → (t : TimedRecord) (records left : List TimedRecord) (at : NormalisedPoint)
    → FollowsRun old t.time at → t.what ≡ r → IsNormalisedNext old.settings records t left
    → RunsOn {A = Unit {0}} writing old.settings records at (λ l. l ≡ left) (λ p. ⊤) from to
    old.output.page.page waits (Err stop)
gives_stop writing adds_none r old v from to waits stop here takes =
    λ t records left at f is next.
    let h = history_at old.settings old.venues.items at.venues (record_venue r) v f.venues here in
    venue_next writing adds_none old.settings r t records left at old.latest v v old.venues.items
    from to old.output.page.page waits f.venues here is next f.latest {A = Unit {0}} (λ p. ⊤)
    (Err stop) (takes old.settings h.0 h.2 f.form) (λ after it follows. tt)

-- the gap that a skip gives up of a venue is noted
pub skip_gaps : (old new : List VenueGap) (v w : NormalisedVenue) (venue number : ℕ)
    (gap : Option VenueGap) → new ≡ old ++ gap_noted gap
    → ((opening : Opening) (packets : List Input) → FitsOpened v.normaliser opening packets
    → gap_noted gap ≡ gap_skipped v.normaliser.lines.venue number (front_of packets)
    v.normaliser.has_given_up w.normaliser.has_given_up)
    → (feed : NormalisedFeed) (h after : NormalisedHistory) → FollowsVenue feed venue v h
    → FollowsVenue feed venue w after
    → new ≡ old ++ gap_given_up (skip_record venue number) h after
skip_gaps old new v w venue number gap put says feed h after f g =
    let front = front_of (inputs_of h) in
    put ∙ ap (λ (l : List VenueGap). old ++ l)
    (says h.opening (inputs_of h) f.fits
    ∙ ap (λ (n : ℕ). gap_skipped n number front v.normaliser.has_given_up
    w.normaliser.has_given_up) f.venue
    ∙ ap₂ (λ (before now : Bool). gap_skipped venue number front before now) f.fits.given_up
    g.fits.given_up)

-- memory was refused before the record was given
pub gives_none : {W : Type 0} (A : Type 0) (writing : Writing W)
    → ((s : W) → writing.adds s [] s) → (r : CaptureRecord) (old new : NormalisedVenues) (w : W)
    (fault : BookFault) → new.output ≡ old.output
    → GivesNext {A = A} writing r old new w w (Err (Book fault))
gives_none A writing adds_none r old new w fault output = λ t records left at f is next. record {
  taken = [];
  text = [];
  left = records;
  after = at;
  normalises = all_none old.settings records at;
  is_left = tt;
  is_after = tt;
  puts = rw output (puts_nothing writing adds_none w old.output.page.page);
}

-- a record that is put in is the next one before another
pub put_in_first : {W A : Type 0} (writing : Writing W) (r : TimedRecord)
    (put_in : CaptureRecord) (old new : NormalisedVenues) (from to : W)
    (result : Result A VenueStop) → MayPutIn old.settings r put_in
    → GivesNext writing put_in old new from to result
    → PutsInFirst writing r old new from to result
put_in_first writing r put_in old new from to result may gives = λ at f.
    runs_weaker writing old.settings (r ∷ []) at (λ l. l ≡ r ∷ []) (FollowsAt new r.time)
    (FollowsRun new r.time) from to old.output.page.page new.output.page.page (λ p x. x.0) result
    (gives (timed_record put_in r.time) (r ∷ []) (r ∷ []) at f refl
    (inl ((put_in, may, refl), refl)))

-- a record is the next one where nothing more is put in
pub takes_itself : {W A : Type 0} (writing : Writing W) (r : TimedRecord)
    (old new : NormalisedVenues) (from to : W) (result : Result A VenueStop)
    → GivesNext writing r.what old new from to result
    → TakesToo writing r old new from to result
takes_itself writing r old new from to result gives = λ at f.
    gives r (r ∷ []) [] at f refl (inr (refl, refl))

-- nothing is put in
pub first_none : {W A : Type 0} (writing : Writing W) → ((s : W) → writing.adds s [] s)
    → (r : TimedRecord) (run : NormalisedVenues) (w : W) (a : A)
    → PutsInFirst writing r run run w w (Ok a)
first_none writing adds_none r run w a = λ at f. record {
  taken = [];
  text = [];
  left = r ∷ [];
  after = at;
  normalises = all_none run.settings (r ∷ []) at;
  is_left = refl;
  is_after = f;
  puts = puts_nothing writing adds_none w run.output.page.page;
}

module _ {W : Type 0} (writing : Writing W)
    (adds_more : (s t u : W) (xs ys : List ℕ) → writing.adds s xs t → writing.adds t ys u
    → writing.adds s (xs ++ ys) u)
    (r : TimedRecord) (old mid new : NormalisedVenues) (from between to : W)
    (same : IsSameRun old mid) where
  -- one call puts in after another
  pub first_then : {A B : Type 0} (a : A) (result : Result B VenueStop)
      → PutsInFirst writing r old mid from between (Ok a)
      → PutsInFirst writing r mid new between to result
      → PutsInFirst writing r old new from to result
  first_then a result x y = λ at f.
      let one = x at f in
      runs_then writing adds_more old.settings (r ∷ []) at (λ l. l ≡ r ∷ []) (λ l. l ≡ r ∷ [])
      (FollowsRun mid r.time) (FollowsRun new r.time) from between to old.output.page.page
      mid.output.page.page new.output.page.page result one
      (subst (λ (feed : NormalisedFeed). RunsOn writing feed one.left one.after
      (λ l. l ≡ r ∷ []) (FollowsRun new r.time) between to mid.output.page.page
      new.output.page.page result) same.settings
      (subst (λ (l : List TimedRecord). RunsOn writing mid.settings l one.after
      (λ l. l ≡ r ∷ []) (FollowsRun new r.time) between to mid.output.page.page
      new.output.page.page result) (sym one.is_left) (y one.after one.is_after)))

  -- a record is taken after what is put in
  pub takes_then : {A B : Type 0} (a : A) (result : Result B VenueStop)
      → PutsInFirst writing r old mid from between (Ok a)
      → TakesToo writing r mid new between to result
      → TakesToo writing r old new from to result
  takes_then a result x y = λ at f.
      let one = x at f in
      runs_then writing adds_more old.settings (r ∷ []) at (λ l. l ≡ r ∷ []) (λ l. l ≡ [])
      (FollowsRun mid r.time) (FollowsAt new r.time) from between to old.output.page.page
      mid.output.page.page new.output.page.page result one
      (subst (λ (feed : NormalisedFeed). RunsOn writing feed one.left one.after
      (λ l. l ≡ []) (FollowsAt new r.time) between to mid.output.page.page
      new.output.page.page result) same.settings
      (subst (λ (l : List TimedRecord). RunsOn writing mid.settings l one.after
      (λ l. l ≡ []) (FollowsAt new r.time) between to mid.output.page.page
      new.output.page.page result) (sym one.is_left) (y one.after one.is_after)))

-- an answer of what is put in is one whatever it is
pub answer_first : {W A B : Type 0} (writing : Writing W) (r : TimedRecord)
    (old new : NormalisedVenues) (from to : W) (a : A) (b : B)
    → PutsInFirst writing r old new from to (Ok a) → PutsInFirst writing r old new from to (Ok b)
answer_first writing r old new from to a b x = x

-- a note after what was put in
pub first_noted : {W A B : Type 0} (writing : Writing W) (r : TimedRecord)
    (old mid new : NormalisedVenues) (from to : W) (a : A) (b : B) → IsNoted mid new
    → PutsInFirst writing r old mid from to (Ok a) → PutsInFirst writing r old new from to (Ok b)
first_noted {A = A} {B = B} writing r old mid new from to a b noted x = λ at f.
    subst (λ (o : OutputPackets). RunsOn {A = B} writing old.settings (r ∷ []) at (λ l. l ≡ r ∷ [])
    (FollowsRun new r.time) from to old.output.page.page o.page.page (Ok b)) (sym noted.output)
    (runs_weaker writing old.settings (r ∷ []) at (λ l. l ≡ r ∷ []) (FollowsRun mid r.time)
    (FollowsRun new r.time) from to old.output.page.page mid.output.page.page
    (λ p g. noted.follows r.time p g) (Ok a) (x at f))

-- a note after a record that was given
pub next_noted : {W A B : Type 0} (writing : Writing W) (r : CaptureRecord)
    (old mid new : NormalisedVenues) (from to : W) (a : A) (b : B) → IsNoted mid new
    → GivesNext writing r old mid from to (Ok a) → GivesNext writing r old new from to (Ok b)
next_noted {A = A} {B = B} writing r old mid new from to a b noted x =
    λ t records left at f is next.
    subst (λ (o : OutputPackets). RunsOn {A = B} writing old.settings records at (λ l. l ≡ left)
    (FollowsAt new t.time) from to old.output.page.page o.page.page (Ok b)) (sym noted.output)
    (runs_weaker writing old.settings records at (λ l. l ≡ left) (FollowsAt mid t.time)
    (FollowsAt new t.time) from to old.output.page.page mid.output.page.page
    (λ p g. (noted.follows t.time p g.0, g.1 ∙ sym noted.latest)) (Ok a)
    (x t records left at f is next))

-- a note after a record that was taken, at its time
pub too_noted : {W A B : Type 0} (writing : Writing W) (r : TimedRecord)
    (old mid new : NormalisedVenues) (from to : W) (a : A) (b : B) → IsNoted mid new
    → TakesToo writing r old mid from to (Ok a) → TakesToo writing r old new from to (Ok b)
too_noted {A = A} {B = B} writing r old mid new from to a b noted x = λ at f.
    subst (λ (o : OutputPackets). RunsOn {A = B} writing old.settings (r ∷ []) at (λ l. l ≡ [])
    (FollowsAt new r.time) from to old.output.page.page o.page.page (Ok b)) (sym noted.output)
    (runs_weaker writing old.settings (r ∷ []) at (λ l. l ≡ []) (FollowsAt mid r.time)
    (FollowsAt new r.time) from to old.output.page.page mid.output.page.page
    (λ p g. (noted.follows r.time p g.0, g.1 ∙ sym noted.latest)) (Ok a) (x at f))

pub is_same : (old : NormalisedVenues) → IsSameRun old old
is_same old = record { settings = refl; count = refl }

pub same_then : (old mid new : NormalisedVenues) → IsSameRun old mid → IsSameRun mid new
    → IsSameRun old new
same_then old mid new a b =
    record { settings = b.settings ∙ a.settings; count = b.count ∙ a.count }

-- a note at a venue
pub noted_at : (old new : NormalisedVenues) (place : ℕ) (v w : NormalisedVenue)
    → slice_get old.venues.items place ≡ Some v
    → new.venues.items ≡ slice_set old.venues.items place w → new.settings ≡ old.settings
    → new.latest ≡ old.latest → new.output ≡ old.output
    → new.given_up.items ≡ old.given_up.items → IsSameVenue v w → IsNoted old new
noted_at old new place v w here set settings latest output gaps same = record {
  same = record {
    settings = settings;
    count = ap length set ∙ length-set old.venues.items place w;
  };
  latest = latest;
  output = output;
  follows = λ time at f. record {
    venues = subst (λ (feed : NormalisedFeed). FollowHistories feed new.venues.items at.venues)
        (sym settings)
        (subst (λ (vs : List NormalisedVenue). FollowHistories old.settings vs at.venues)
        (sym set) (follow_same old.settings old.venues.items at.venues place v w f.venues here
        same));
    latest = latest ∙ f.latest;
    form = ap (λ (o : OutputPackets). o.page.form) output ∙ f.form
        ∙ ap (λ (feed : NormalisedFeed). feed.form) (sym settings);
    given_up = gaps ∙ f.given_up;
  };
}

-- ---- what changes no history

-- a record that leaves its venue's history as it is: the run follows the same point, later
module _ {W : Type 0} (writing : Writing W) (old new : NormalisedVenues)
    (r : CaptureRecord) (from to : W) (text : List ℕ)
    (within : record_venue r < length old.venues.items)
    (items : new.venues.items ≡ old.venues.items) (settings : new.settings ≡ old.settings)
    (latest : new.latest ≡ old.latest)
    (form : new.output.page.form ≡ old.output.page.form)
    (gaps : new.given_up.items ≡ old.given_up.items)
    (none : (h : NormalisedHistory) → gap_given_up r h h ≡ [])
    (at_venue : (h : NormalisedHistory) → old.output.page.form ≡ old.settings.form
    → NormalisesAt old.settings old.latest r h [] text h) where
  kept_next : (t : TimedRecord) (at : NormalisedPoint) → FollowsRun old t.time at → t.what ≡ r
      → (after : NormalisedPoint) × NormalisesRecord old.settings t at [] text after
      × FollowsAt new t.time after
  kept_next t at f is =
      let n = f.venues.count in
      let h = get_within at.venues (record_venue r) (omega (arith, n, within)) in (
        point_with at r old.latest h.0 h.0,
        subst (λ (what : CaptureRecord). NormalisesRecord old.settings (record t { what = what }) at
            [] text (point_with at r old.latest h.0 h.0)) (sym is) (record {
              before = h.0;
              after = h.0;
              at = h.1;
              normalises = subst (λ (now : ℕ). NormalisesAt old.settings now r h.0 [] text h.0)
                  f.latest (at_venue h.0 f.form);
              venues = refl;
              latest = f.latest;
              given_up = refl;
            }),
        (
          record {
            venues = subst (λ (feed : NormalisedFeed). FollowHistories feed new.venues.items
                (slice_set at.venues (record_venue r) h.0)) (sym settings)
                (subst (λ (vs : List NormalisedVenue). FollowHistories old.settings vs
                (slice_set at.venues (record_venue r) h.0)) (sym items)
                (subst (λ (hs : List NormalisedHistory). FollowHistories old.settings
                old.venues.items hs) (sym (same_set at.venues (record_venue r) h.0 h.1)) f.venues));
            latest = latest ∙ f.latest ∙ sym (time_again at.latest t.time)
                ∙ ap (λ (l : ℕ). time_after l t.time) (sym f.latest);
            form = form ∙ f.form ∙ ap (λ (feed : NormalisedFeed). feed.form) (sym settings);
            given_up = gaps ∙ f.given_up ∙ sym (append-nil at.given_up)
                ∙ ap (λ (l : List VenueGap). at.given_up ++ l) (sym (none h.0));
          },
          sym latest,
        ),
      )

  pub kept_gives : {A : Type 0} (a : A)
      → PutsText writing from to old.output.page.page text new.output.page.page
      → GivesNext writing r old new from to (Ok a)
  kept_gives a puts = λ t records left at f is next.
      let k = kept_next t at f is in
      record {
        taken = t ∷ [];
        text = text;
        left = left;
        after = k.0;
        normalises = all_one old.settings records at t text left k.0 next k.1;
        is_left = refl;
        is_after = k.2;
        puts = puts;
      }

  pub kept_fails : (A : Type 0) (stop : SinkStop)
      → Wrote writing.adds from (old.output.page.page ++ text) to
      → writing.failures to ≡ writing.failures from + 1
      → GivesNext {A = A} writing r old new from to (Err (Sink stop))
  kept_fails A stop wrote failed = λ t records left at f is next.
      let k = kept_next t at f is in
      record {
        taken = [];
        text = [];
        left = records;
        after = at;
        normalises = all_none old.settings records at;
        more = text;
        within = inr (t, left, [], k.0, next, k.1);
        wrote = wrote;
        failed = failed;
      }

help_at : (old : NormalisedVenues) (venue : ℕ) (on : Bool) (h : NormalisedHistory)
    → old.output.page.form ≡ old.settings.form
    → NormalisesAt old.settings old.latest (self_help_record venue on) h []
    (record_text old.output.page.form (self_help_record venue on)) h
help_at old venue on h form = record {
  same = refl;
  text_is = ap (λ (o : OutputForm). record_text o (self_help_record venue on)) form;
}

pub passed_next : {W : Type 0} (writing : Writing W) (old new : NormalisedVenues) (venue : ℕ)
    (on : Bool) (from to : W) (a : Unit {0}) → venue < length old.venues.items
    → new.venues.items ≡ old.venues.items → new.settings ≡ old.settings
    → new.latest ≡ old.latest → new.output.page.form ≡ old.output.page.form
    → new.given_up.items ≡ old.given_up.items
    → PutsText writing from to old.output.page.page
    (record_text old.output.page.form (self_help_record venue on)) new.output.page.page
    → GivesNext writing (self_help_record venue on) old new from to (Ok a)
passed_next writing old new venue on from to a within items settings latest form gaps puts =
    kept_gives writing old new (self_help_record venue on) from to
    (record_text old.output.page.form (self_help_record venue on)) within items settings latest
    form gaps (λ h. refl) (help_at old venue on) a puts

pub passing_failed : {W : Type 0} (writing : Writing W) (old new : NormalisedVenues) (venue : ℕ)
    (on : Bool) (from to : W) (stop : SinkStop) → venue < length old.venues.items
    → new.venues.items ≡ old.venues.items → new.settings ≡ old.settings
    → new.latest ≡ old.latest → new.output.page.form ≡ old.output.page.form
    → new.given_up.items ≡ old.given_up.items
    → Wrote writing.adds from old.output.page.page to
    → writing.failures to ≡ writing.failures from + 1
    → GivesNext {A = Unit {0}} writing (self_help_record venue on) old new from to
    (Err (Sink stop))
passing_failed writing old new venue on from to stop within items settings latest form gaps part
    failed =
    kept_fails writing old new (self_help_record venue on) from to
    (record_text old.output.page.form (self_help_record venue on)) within items settings latest
    form gaps (λ h. refl) (help_at old venue on) (Unit {0}) stop
    (wrote_longer writing.adds from to old.output.page.page
    (record_text old.output.page.form (self_help_record venue on)) part) failed

-- a datagram that is no packet
pub bad_taken : {W : Type 0} (writing : Writing W) → ((s : W) → writing.adds s [] s)
    → (old new : NormalisedVenues) (venue : ℕ) (line : LineId) (bytes : List ℕ)
    (fault : PacketFault) (w : W) (a : Unit {0}) → venue < length old.venues.items
    → HasFault bytes fault → IsNoted old new
    → GivesNext writing (datagram_record venue line bytes) old new w w (Ok a)
bad_taken writing adds_none old new venue line bytes fault w a within has noted =
    next_noted writing (datagram_record venue line bytes) old old new w w a a noted
    (kept_gives writing old old (datagram_record venue line bytes) w w [] within refl refl refl
    refl refl (λ h. refl)
    (λ h form. inl (record {
      fault = fault;
      has = has;
      leaves = record { same = refl; none = refl };
    }))
    a (puts_nothing writing adds_none w old.output.page.page))

-- a skip by the rule for gaps
pub gaps_may : {old run : NormalisedVenues} (number : ℕ) (r : TimedRecord) (venue : ℕ)
    → old.settings.skips ≡ Gaps → IsSameRun old run → venue ≡ record_venue r.what
    → MayPutIn run.settings r (skip_record venue number)
gaps_may {old = old} {run = run} number r venue rule same is =
    rw (ap (λ (feed : NormalisedFeed). feed.skips) same.settings ∙ rule) is

-- a stop of what is put in is one of the record
pub stop_first : {W : Type 0} (A B : Type 0) (writing : Writing W) (r : TimedRecord)
    (old new : NormalisedVenues) (from to : W) (stop : VenueStop)
    → PutsInFirst {A = A} writing r old new from to (Err stop)
    → TakesToo {A = B} writing r old new from to (Err stop)
stop_first A B writing r old new from to stop x = λ at f.
    stop_runs A B writing old.settings (r ∷ []) at (λ l. l ≡ r ∷ []) (λ l. l ≡ [])
    (FollowsRun new r.time) (FollowsAt new r.time) from to old.output.page.page
    new.output.page.page stop (x at f)

-- the latest time is that of a record, and the run follows the same point
pub follows_later : (old new : NormalisedVenues) (time : Option ℕ) (at : NormalisedPoint)
    → new.venues.items ≡ old.venues.items → new.settings ≡ old.settings → new.output ≡ old.output
    → new.latest ≡ time_after old.latest time → new.given_up.items ≡ old.given_up.items
    → FollowsRun old None at → FollowsRun new time at
follows_later old new time at venues settings output latest gaps f = record {
  venues = subst (λ (feed : NormalisedFeed). FollowHistories feed new.venues.items at.venues)
      (sym settings)
      (subst (λ (vs : List NormalisedVenue). FollowHistories old.settings vs at.venues)
      (sym venues) f.venues);
  latest = latest ∙ ap (λ (l : ℕ). time_after l time) f.latest;
  form = ap (λ (o : OutputPackets). o.page.form) output ∙ f.form
      ∙ ap (λ (feed : NormalisedFeed). feed.form) (sym settings);
  given_up = gaps ∙ f.given_up;
}

-- a record was taken at its time, and the run follows the point after it
pub timed_taken : {W A : Type 0} (writing : Writing W) (r : TimedRecord)
    (old start new : NormalisedVenues) (from to : W) (result : Result A VenueStop)
    → start.venues.items ≡ old.venues.items → start.settings ≡ old.settings
    → start.output ≡ old.output → start.latest ≡ time_after old.latest r.time
    → start.given_up.items ≡ old.given_up.items
    → TakesToo writing r start new from to result
    → (at : NormalisedPoint) → FollowsRun old None at
    → RunsOn writing old.settings (r ∷ []) at (λ l. l ≡ []) (FollowsRun new None) from to
    old.output.page.page new.output.page.page result
timed_taken writing r old start new from to result venues settings output latest gaps takes at f =
    subst (λ (feed : NormalisedFeed). RunsOn writing feed (r ∷ []) at (λ l. l ≡ [])
    (FollowsRun new None) from to old.output.page.page new.output.page.page result) settings
    (subst (λ (o : OutputPackets). RunsOn writing start.settings (r ∷ []) at (λ l. l ≡ [])
    (FollowsRun new None) from to o.page.page new.output.page.page result) output
    (runs_weaker writing start.settings (r ∷ []) at (λ l. l ≡ []) (FollowsAt new r.time)
    (FollowsRun new None) from to start.output.page.page new.output.page.page
    (λ p x. record {
      venues = x.0.venues;
      latest = sym x.1;
      form = x.0.form;
      given_up = x.0.given_up;
    }) result
    (takes at (follows_later old start r.time at venues settings output latest gaps f))))

-- a stop at a record that was given is one whatever the answer would be
pub next_stop : {W : Type 0} (A B : Type 0) (writing : Writing W) (r : CaptureRecord)
    (old new : NormalisedVenues) (from to : W) (stop : VenueStop)
    → GivesNext {A = A} writing r old new from to (Err stop)
    → GivesNext {A = B} writing r old new from to (Err stop)
next_stop A B writing r old new from to stop x = λ t records left at f is next.
    stop_runs A B writing old.settings records at (λ l. l ≡ left) (λ l. l ≡ left)
    (FollowsAt new t.time) (FollowsAt new t.time) from to old.output.page.page
    new.output.page.page stop (x t records left at f is next)

pub next_answer : {W A B : Type 0} (writing : Writing W) (r : CaptureRecord)
    (old new : NormalisedVenues) (from to : W) (a : A) (b : B)
    → GivesNext writing r old new from to (Ok a) → GivesNext writing r old new from to (Ok b)
next_answer writing r old new from to a b x = x

-- the record that a run takes is the next one
pub takes_record : {W A : Type 0} (writing : Writing W) (r : TimedRecord) (what : CaptureRecord)
    (old new : NormalisedVenues) (from to : W) (result : Result A VenueStop) → r.what ≡ what
    → GivesNext writing what old new from to result
    → TakesToo writing r old new from to result
takes_record writing r what old new from to result is gives =
    takes_itself writing r old new from to result
    (subst (λ (c : CaptureRecord). GivesNext writing c old new from to result) (sym is) gives)

-- a datagram that is a packet is one of its session's name
pub named_packet : (r : TimedRecord) (venue : ℕ) (line : LineId) (bytes : List ℕ)
    (packet : Content) (more : List ℕ) → r.what ≡ datagram_record venue line bytes
    → Spells bytes packet more → IsPacketOfName r.what venue packet.session
named_packet r venue line bytes packet more is spells = record {
  line = line;
  bytes = bytes;
  is = is;
  packet = packet;
  more = more;
  spells = spells;
  session = refl;
}
