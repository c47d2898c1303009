-- What a venue takes.
use Rattle.std.proofs.Common.{◌≡◌, ℕ, ◌+◌, ◌<◌, ◌≤◌, ◌||◌, Bool, true, false, List, [], ◌∷◌, ◌++◌, length, refl, sym, ap, ap₂, subst, ◌∙◌, inr, arith, append-nil, append_assoc, None, Option, Some, Result, Ok, Err, IfErr, OnOk}
use Rattle.std.specs.Prelude.{flat_map, nat_lt, slice_index_or}
use Rattle.std.proofs.lemmas.Bool.{false≢true}
use Rattle.std.proofs.lemmas.Bool.Decides.{nat_tests}
use Rattle.std.proofs.lemmas.List.{map-append}
use Rattle.feed_types.specs.declared.item.Numbered.{Numbered}
use Rattle.feed_types.specs.declared.line.LineId.{LineId}
use Rattle.mold_packet.specs.Content.{Content, Spells}
use Rattle.line_arbiter.specs.declared.faults.RenewFault.{RenewFault}
use Rattle.line_arbiter.specs.declared.faults.SkipFault.{SkipFault}
use Rattle.line_arbiter.specs.declared.outcome.LineFault.{LineFault}
use Rattle.line_arbiter.specs.declared.outcome.Outcome.{Outcome}
use Rattle.line_arbiter.specs.Histories.{Begun, History, after_input, after_renewal, all_begun, names_of, new_session}
use Rattle.line_arbiter.specs.Outcomes.{IsOutcome}
use Rattle.line_arbiter.specs.Packets.{Arrived, Input, Skip, arrival_of, end_of}
use Rattle.line_arbiter.specs.Renewals.{IsRenewal}
use Rattle.line_arbiter.specs.Skips.{IsSkip, MaySkip}
use Rattle.line_arbiter.specs.Streams.{front_of}
use Rattle.line_arbiter.specs.States.{IsRenewed, KeepsItsSession}
use Rattle.capture_records.specs.Capture.{CaptureRecord, datagram_record, renewal_record, skip_record}
use Rattle.event_sinks.specs.declared.event_sink.SinkStop.{SinkStop}
use Rattle.event_sinks.specs.declared.venue_gap.VenueGap.{VenueGap}
use Rattle.text_out.specs.Devices.{Writing, Wrote}
use Rattle.venue_normaliser.specs.declared.end_number.EndNumber.{EndNumber}
use Rattle.venue_normaliser.specs.Brought.{has_skip_past}
use Rattle.venue_normaliser.specs.Ends.{read_as}
use Rattle.venue_normaliser.specs.Outputs.{AreShown, IsPutOutFrom, Opening, from_start, opened_at, put_first}
use Rattle.venue_normaliser.specs.Snapshots.{SnapshotContent}
use Rattle.venue_normaliser.specs.States.{FitsOpened, FitsPackets, IsNewNormaliser, KeepsItsBook, NormaliserState, PutsOutFrom, Resumes, opening_of}
use Rattle.item_packets.specs.Openings.{first_put}
use Rattle.normalising.specs.Carried.{AreWritten, RunsFrom, last_put}
use Rattle.normalising.specs.Keeping.{FollowsNew, FollowsVenue, SkippedWhere, TakesAtVenue, gap_noted}
use Rattle.normalising.specs.Normalised.{BeginsWith, NormalisedHistory, NormalisesAt, NormalisesRenewal, PutsOutMore, RenewsBy, gap_skipped, inputs_of, new_normalised, quoted_keys, snapshot_at}
use Rattle.normalising.specs.Texts.{datagram_text, record_text}
use Rattle.normalising.specs.Writes.{PutsPackets, PutsText, StopsPut, origin_of, text_of}
use Rattle.normalising.specs.declared.normalised_feed.NormalisedFeed.{NormalisedFeed}
use Rattle.normalising.specs.declared.normalised_venue.NormalisedVenue.{NormalisedVenue}
use Rattle.normalising.specs.declared.output_form.OutputForm.{OutputForm}
use Rattle.normalising.specs.declared.venue_stop.VenueStop.{VenueStop}
use Rattle.normalising.specs.declared.venue_stop.VenueStop.TheVariants.{Book, Sink}
use Rattle.item_packets.specs.laws.Opened.{begins_any, begins_more, begins_opened, rest_runs, shown_messages, starts}
use Rattle.normalising.proofs.Taking.{wrote_longer}

-- what a venue was given is one input more of its present session
abbrev pub after_given : NormalisedHistory → Input → List Numbered → NormalisedHistory
after_given h given ready =
    record {
      history = after_input h.history given;
      opening = h.opening;
      output = h.output ++ ready;
    }

pub same_names : (h : History) (x : Input) → names_of (after_input h x) ≡ names_of h
same_names h x =
    map-append (λ (s : Begun). s.name) h.earlier
    (record h.present { packets = h.present.packets ++ x ∷ [] } ∷ [])
    ∙ sym (map-append (λ (s : Begun). s.name) h.earlier (h.present ∷ []))

-- The normaliser of a venue was given something, and these items are ready.
pub record WasGiven (feed : NormalisedFeed) (place : ℕ) (form : OutputForm)
    (h : NormalisedHistory) (before : NormalisedVenue) (mid : NormaliserState)
    (after : NormalisedVenue) (given : Input) (ready : List Numbered) : Type 0 where
  pub follows : FollowsVenue feed place before h
  pub form_is : form ≡ feed.form
  pub session : KeepsItsSession before.normaliser.lines mid.lines
  pub book : KeepsItsBook before.normaliser mid
  pub same : after.normaliser ≡ mid
  pub fits : FitsOpened mid h.opening (inputs_of h ++ given ∷ [])
  pub put_out : IsPutOutFrom (quoted_keys feed) h.opening (inputs_of h ++ given ∷ [])
      (h.output ++ ready)

-- what is ready goes on in a row
pub given_row : {feed : NormalisedFeed} {place : ℕ} {form : OutputForm} {h : NormalisedHistory}
    {before : NormalisedVenue} {mid : NormaliserState} {after : NormalisedVenue} {given : Input}
    {ready : List Numbered} → WasGiven feed place form h before mid after given ready
    → RunsFrom (first_put h.opening + length h.output) ready
given_row {feed = feed} {h = h} {given = given} {ready = ready} w =
    rest_runs (quoted_keys feed) h.opening (inputs_of h ++ given ∷ []) h.output ready
    w.follows.opens (begins_more h.opening.number (inputs_of h) given w.follows.begins) w.put_out

-- it begins with a number
pub given_one : {feed : NormalisedFeed} {place : ℕ} {form : OutputForm} {h : NormalisedHistory}
    {before : NormalisedVenue} {mid : NormaliserState} {after : NormalisedVenue} {given : Input}
    {ready : List Numbered} → WasGiven feed place form h before mid after given ready
    → 1 ≤ first_put h.opening + length h.output
given_one w = let places = w.follows.opens.places in omega (arith, places)

pub given_follows : {feed : NormalisedFeed} {place : ℕ} {form : OutputForm}
    {h : NormalisedHistory} {before : NormalisedVenue} {mid : NormaliserState}
    {after : NormalisedVenue} {given : Input} {ready : List Numbered}
    → WasGiven feed place form h before mid after given ready → after.ready.items ≡ []
    → FollowsVenue feed place after (after_given h given ready)
given_follows {feed = feed} {h = h} {mid = mid} {after = after} {given = given} {ready = ready}
    w none = record {
      fits = subst (λ (n : NormaliserState). FitsOpened n h.opening (inputs_of h ++ given ∷ []))
          (sym w.same) w.fits;
      opens = w.follows.opens;
      begins = begins_more h.opening.number (inputs_of h) given w.follows.begins;
      put_out = subst (λ (xs : List Numbered).
          IsPutOutFrom (quoted_keys feed) h.opening (inputs_of h ++ given ∷ []) xs)
          (sym (ap (λ (xs : List Numbered). (h.output ++ ready) ++ xs) none
          ∙ append-nil (h.output ++ ready))) w.put_out;
      venue = of (λ n. n.lines.venue) ∙ w.session.venue ∙ w.follows.venue;
      session = of (λ n. n.lines.session) ∙ w.session.session ∙ w.follows.session;
      sessions = of (λ n. n.lines.sessions) ∙ w.session.sessions ∙ w.follows.sessions
          ∙ sym (same_names h.history given);
      window = of (λ n. n.lines.window) ∙ w.session.window ∙ w.follows.window;
      keys = of (λ n. n.book.keys) ∙ w.book.keys ∙ w.follows.keys;
      end_number = of (λ n. n.end_number) ∙ w.book.end_number ∙ w.follows.end_number;
    }
  where
    of : {X : Type 0} (field : NormaliserState → X) → field after.normaliser ≡ field mid
    of field = ap field w.same

module _ {feed : NormalisedFeed} {place : ℕ} {form : OutputForm} {h : NormalisedHistory}
    {before : NormalisedVenue} {mid : NormaliserState} {after : NormalisedVenue} {given : Input}
    {ready : List Numbered} (w : WasGiven feed place form h before mid after given ready)
    (time : ℕ) where
  given_text : (datagrams : List (List ℕ)) → text_of form (origin_of mid time) datagrams
      ≡ flat_map (datagram_text feed.form place time) datagrams
  given_text datagrams =
      ap₂ (λ (f : OutputForm) (v : ℕ). flat_map (datagram_text f v time) datagrams) w.form_is
      (w.session.venue ∙ w.follows.venue)

  pub given_more : (carried rest : List Numbered) (datagrams : List (List ℕ))
      → ready ≡ carried ++ rest
      → AreWritten mid.lines.session (last_put h.opening (inputs_of h ++ given ∷ [])) carried
      datagrams
      → PutsOutMore feed time place given h rest (text_of form (origin_of mid time) datagrams)
      (after_given h given ready)
  given_more carried rest datagrams is written = record {
    carried = carried;
    datagrams = datagrams;
    history = refl;
    opening = refl;
    output = ap (λ (z : List Numbered). h.output ++ z) is;
    put_out = w.put_out;
    written = subst (λ (name : List ℕ).
        AreWritten name (last_put h.opening (inputs_of h ++ given ∷ [])) carried datagrams)
        (w.session.session ∙ w.follows.session) written;
    text_is = given_text datagrams;
  }

  module _ {W A : Type 0} (writing : Writing W) (r : CaptureRecord) (from to : W)
      (waited waits : List ℕ)
      (at : (rest : List Numbered) (text : List ℕ)
      → PutsOutMore feed time place given h rest text (after_given h given ready)
      → NormalisesAt feed time r h rest text (after_given h given ready)) where
    -- what is ready was written, or the writer failed within it
    pub given_takes : (result : Result A VenueStop)
        → OnOk result (PutsPackets writing form (origin_of mid time)
        (last_put h.opening (inputs_of h ++ given ∷ [])) ready from to waited waits)
        → IfErr result (StopsPut writing form (origin_of mid time)
        (last_put h.opening (inputs_of h ++ given ∷ [])) ready from to waited waits)
        → OnOk result (after.ready.items ≡ [])
        → TakesAtVenue writing feed time place r h after from to waited waits result
    given_takes (Ok done) put stopped none = record {
      after = after_given h given ready;
      text = text_of form (origin_of mid time) put.datagrams;
      normalises = at [] (text_of form (origin_of mid time) put.datagrams)
          (given_more ready [] put.datagrams (sym (append-nil ready)) put.written);
      puts = put.text;
      follows = given_follows w none;
    }
    given_takes (Err (Sink stop)) put stopped none = record {
      after = after_given h given ready;
      rest = stopped.rest;
      text = text_of form (origin_of mid time) stopped.datagrams;
      normalises = at stopped.rest (text_of form (origin_of mid time) stopped.datagrams)
          (given_more stopped.front stopped.rest stopped.datagrams stopped.is stopped.written);
      wrote = stopped.wrote;
      failed = stopped.failed;
    }
    given_takes (Err (Book fault)) put stopped none = stopped

-- what is put out after what was put out before
pub ready_put_out : (keys : List ℕ) (opening : Opening) (packets later : List Input)
    (output start ready : List Numbered) → PutsOutFrom keys opening packets later start ready
    → IsPutOutFrom keys opening packets (output ++ start)
    → IsPutOutFrom keys opening later (output ++ ready)
ready_put_out keys opening packets later output start ready puts out =
    subst (λ (z : List Numbered). IsPutOutFrom keys opening later z)
    (append_assoc output start puts.more
    ∙ ap (λ (z : List Numbered). output ++ z) (sym puts.appended))
    (puts.whole (output ++ start) out)

-- a stop is one whatever the answer would be
pub stop_takes : {W : Type 0} (A B : Type 0) (writing : Writing W) (feed : NormalisedFeed)
    (time place : ℕ) (r : CaptureRecord) (old : NormalisedHistory) (v w : NormalisedVenue)
    (from to : W) (waited waits : List ℕ) (stop : VenueStop)
    → TakesAtVenue {A = A} writing feed time place r old v from to waited waits (Err stop)
    → TakesAtVenue {A = B} writing feed time place r old w from to waited waits (Err stop)
stop_takes A B writing feed time place r old v w from to waited waits (Sink stop) x = x
stop_takes A B writing feed time place r old v w from to waited waits (Book fault) x = x

-- ---- a packet

-- what the normaliser says of a packet, of a venue that follows a history
pub packet_given : (feed : NormalisedFeed) (place : ℕ) (form : OutputForm)
    (h : NormalisedHistory) (before : NormalisedVenue) (mid : NormaliserState)
    (after : NormalisedVenue) (line : LineId) (p : Content) (answer : Result Outcome LineFault)
    (ready : List Numbered) → (f : FollowsVenue feed place before h) → form ≡ feed.form
    → KeepsItsSession before.normaliser.lines mid.lines → KeepsItsBook before.normaliser mid
    → after.normaliser ≡ mid
    → ((opening : Opening) (packets : List Input) → FitsOpened before.normaliser opening packets
    → FitsOpened mid opening
    (packets ++ arrival_of line (read_as before.normaliser.end_number p) answer ∷ []))
    → ((opening : Opening) (packets : List Input) → FitsOpened before.normaliser opening packets
    → PutsOutFrom before.normaliser.book.keys opening packets
    (packets ++ arrival_of line (read_as before.normaliser.end_number p) answer ∷ [])
    before.ready.items ready)
    → WasGiven feed place form h before mid after
    (arrival_of line (read_as feed.normaliser.end_number p) answer) ready
packet_given feed place form h before mid after line p answer ready f form_is session book same
    fits output = record {
      follows = f;
      form_is = form_is;
      session = session;
      book = book;
      same = same;
      fits = subst (λ (e : EndNumber). FitsOpened mid h.opening (inputs_of h ++ given e ∷ []))
          f.end_number (fits h.opening (inputs_of h) f.fits);
      put_out = subst (λ (e : EndNumber).
          IsPutOutFrom (quoted_keys feed) h.opening (inputs_of h ++ given e ∷ [])
          (h.output ++ ready)) f.end_number
          (ready_put_out (quoted_keys feed) h.opening (inputs_of h)
          (inputs_of h ++ given before.normaliser.end_number ∷ []) h.output before.ready.items
          ready
          (subst (λ (keys : List ℕ). PutsOutFrom keys h.opening (inputs_of h)
          (inputs_of h ++ given before.normaliser.end_number ∷ []) before.ready.items ready)
          f.keys (output h.opening (inputs_of h) f.fits))
          f.put_out);
    }
  where
    given : EndNumber → Input
    given e = arrival_of line (read_as e p) answer

pub packet_at : (feed : NormalisedFeed) (time place : ℕ) (h : NormalisedHistory)
    (before : NormalisedVenue) (line : LineId) (bytes more : List ℕ) (p : Content)
    (answer : Result Outcome LineFault) (after : NormalisedHistory)
    → (f : FollowsVenue feed place before h) → Spells bytes p more
    → IsOutcome before.normaliser.lines.session before.normaliser.lines.window
    before.normaliser.lines.sent (inputs_of h) (read_as before.normaliser.end_number p) answer
    → (rest : List Numbered) (text : List ℕ)
    → PutsOutMore feed time place
    (arrival_of line (read_as feed.normaliser.end_number p) answer) h rest text after
    → NormalisesAt feed time (datagram_record place line bytes) h rest text after
packet_at feed time place h before line bytes more p answer after f spells outcome rest text puts =
    inr (record {
      packet = p;
      more = more;
      spells = spells;
      sent = before.normaliser.lines.sent;
      all_sent = f.fits.all_sent;
      answer = answer;
      outcome = subst (λ (name : List ℕ). IsOutcome name feed.normaliser.window
          before.normaliser.lines.sent (inputs_of h) (read_as feed.normaliser.end_number p)
          answer) f.session
          (subst (λ (width : ℕ). IsOutcome before.normaliser.lines.session width
          before.normaliser.lines.sent (inputs_of h) (read_as feed.normaliser.end_number p)
          answer) f.window
          (subst (λ (e : EndNumber). IsOutcome before.normaliser.lines.session
          before.normaliser.lines.window before.normaliser.lines.sent (inputs_of h)
          (read_as e p) answer) f.end_number outcome));
      puts = puts;
    })

-- ---- a skip

pub puts_nothing : {W : Type 0} (writing : Writing W) → ((s : W) → writing.adds s [] s) → (w : W)
    (waits : List ℕ) → PutsText writing w w waits [] waits
puts_nothing writing adds_none w waits =
    record { shown = []; wrote = adds_none w; all = append-nil waits; kept = refl }

pub skip_given : (feed : NormalisedFeed) (place : ℕ) (form : OutputForm)
    (h : NormalisedHistory) (before : NormalisedVenue) (mid : NormaliserState)
    (after : NormalisedVenue) (number : ℕ) (ready : List Numbered)
    → (f : FollowsVenue feed place before h) → form ≡ feed.form
    → KeepsItsSession before.normaliser.lines mid.lines → KeepsItsBook before.normaliser mid
    → after.normaliser ≡ mid → FitsOpened mid h.opening (inputs_of h ++ Skip number ∷ [])
    → PutsOutFrom before.normaliser.book.keys h.opening (inputs_of h)
    (inputs_of h ++ Skip number ∷ []) before.ready.items ready
    → WasGiven feed place form h before mid after (Skip number) ready
skip_given feed place form h before mid after number ready f form_is session book same fits
    output = record {
      follows = f;
      form_is = form_is;
      session = session;
      book = book;
      same = same;
      fits = fits;
      put_out = ready_put_out (quoted_keys feed) h.opening (inputs_of h)
          (inputs_of h ++ Skip number ∷ []) h.output before.ready.items ready
          (subst (λ (keys : List ℕ). PutsOutFrom keys h.opening (inputs_of h)
          (inputs_of h ++ Skip number ∷ []) before.ready.items ready) f.keys output)
          f.put_out;
    }

pub skip_at : (feed : NormalisedFeed) (time place number : ℕ) (h : NormalisedHistory)
    (before : NormalisedVenue) (after : NormalisedHistory)
    → (f : FollowsVenue feed place before h)
    → IsSkip (inputs_of h) before.normaliser.lines.sent number (Ok tt)
    → (rest : List Numbered) (text : List ℕ)
    → PutsOutMore feed time place (Skip number) h rest text after
    → NormalisesAt feed time (skip_record place number) h rest text after
skip_at feed time place number h before after f is rest text puts = record {
  sent = before.normaliser.lines.sent;
  all_sent = f.fits.all_sent;
  answer = Ok tt;
  is = is;
  does = puts;
}

or_true : (b : Bool) → (b || true) ≡ true
or_true true = refl
or_true false = refl

-- a skip past a number that comes last is one
skip_last : (from : ℕ) (packets : List Input) (n : ℕ) → nat_lt from n ≡ true
    → has_skip_past from (packets ++ Skip n ∷ []) ≡ true
skip_last from [] n past = ap (λ (b : Bool). b || false) past
skip_last from (Arrived a ∷ packets) n past = skip_last from packets n past
skip_last from (Skip k ∷ packets) n past =
    ap (λ (b : Bool). nat_lt from k || b) (skip_last from packets n past) ∙ or_true (nat_lt from k)

-- a gap was given up by a skip that may be
pub skipped_here : (opening : Opening) (packets : List Input) (number : ℕ)
    (old new : NormaliserState) → FitsOpened old opening packets
    → FitsOpened new opening (packets ++ Skip number ∷ []) → MaySkip packets number
    → SkippedWhere packets number old new true
skipped_here opening packets number old new fits after may =
    let begins = fits.from.1 in
    let past = may.past in
    let test : nat_lt opening.number number ≡ true = grind (arith, nat_tests) in
    (may, after.given_up ∙ skip_last opening.number packets number test)

none_skipped : (venue number front : ℕ) (before : Bool)
    → gap_skipped venue number front before false ≡ []
none_skipped venue number front true = refl
none_skipped venue number front false = refl

none_between : (venue number front : ℕ) (before : Bool)
    → gap_skipped venue number front before before ≡ []
none_between venue number front true = refl
none_between venue number front false = refl

-- the gap that is returned of a skip is the one that the skip gives up
pub skip_gap : (packets : List Input) (venue number front : ℕ) (old new : NormaliserState)
    (before is_given_up : Bool) (gap : Option VenueGap)
    → SkippedWhere packets number old new is_given_up → front ≡ front_of packets
    → before ≡ old.has_given_up
    → ((is_given_up ≡ true → front + 1 < number)
    → gap_noted gap ≡ gap_skipped venue number front before is_given_up)
    → gap_noted gap
    ≡ gap_skipped venue number (front_of packets) old.has_given_up new.has_given_up
skip_gap packets venue number front old new before true gap skipped same was put =
    put (λ e. let past = skipped.0.past in omega (arith, past, same))
    ∙ ap (λ (n : ℕ). gap_skipped venue number n before true) same
    ∙ ap₂ (λ (b c : Bool). gap_skipped venue number (front_of packets) b c) was (sym skipped.1)
skip_gap packets venue number front old new before false gap skipped same was put =
    put (λ e. absurd (false≢true e)) ∙ none_skipped venue number front before
    ∙ sym (ap (λ (s : NormaliserState).
    gap_skipped venue number (front_of packets) old.has_given_up s.has_given_up) skipped
    ∙ none_between venue number (front_of packets) old.has_given_up)

-- a venue whose normaliser is the same, and of which the same is ready, follows its history
pub follows_same : (feed : NormalisedFeed) (place : ℕ) (v w : NormalisedVenue)
    (h : NormalisedHistory) → w.normaliser ≡ v.normaliser → w.ready.items ≡ v.ready.items
    → FollowsVenue feed place v h → FollowsVenue feed place w h
follows_same feed place v w h same ready f = record {
  fits = subst (λ (n : NormaliserState). FitsOpened n h.opening (inputs_of h)) (sym same) f.fits;
  opens = f.opens;
  begins = f.begins;
  put_out = subst (λ (xs : List Numbered).
      IsPutOutFrom (quoted_keys feed) h.opening (inputs_of h) (h.output ++ xs)) (sym ready)
      f.put_out;
  venue = ap (λ (n : NormaliserState). n.lines.venue) same ∙ f.venue;
  session = ap (λ (n : NormaliserState). n.lines.session) same ∙ f.session;
  sessions = ap (λ (n : NormaliserState). n.lines.sessions) same ∙ f.sessions;
  window = ap (λ (n : NormaliserState). n.lines.window) same ∙ f.window;
  keys = ap (λ (n : NormaliserState). n.book.keys) same ∙ f.keys;
  end_number = ap (λ (n : NormaliserState). n.end_number) same ∙ f.end_number;
}

-- nothing was given up
pub no_skip : {W A : Type 0} (writing : Writing W) → ((s : W) → writing.adds s [] s)
    → (feed : NormalisedFeed) (time place number : ℕ) (h : NormalisedHistory)
    (before after : NormalisedVenue) (fault : SkipFault) (w : W) (waits : List ℕ) (done : A)
    → (f : FollowsVenue feed place before h)
    → IsSkip (inputs_of h) before.normaliser.lines.sent number (Err fault)
    → after.normaliser ≡ before.normaliser → after.ready.items ≡ before.ready.items
    → TakesAtVenue writing feed time place (skip_record place number) h after w w waits waits
    (Ok done)
no_skip writing adds_none feed time place number h before after fault w waits done f is same
    ready = record {
      after = h;
      text = [];
      normalises = record {
        sent = before.normaliser.lines.sent;
        all_sent = f.fits.all_sent;
        answer = Err fault;
        is = is;
        does = record { same = refl; none = refl };
      };
      puts = puts_nothing writing adds_none w waits;
      follows = follows_same feed place before after h same ready f;
    }

-- ---- a renewal

renewed_names : (h : History) (name : List ℕ)
    → names_of (after_renewal h name) ≡ names_of h ++ name ∷ []
renewed_names h name = map-append (λ (s : Begun). s.name) (all_begun h) (new_session name ∷ [])

renewal_is : (feed : NormalisedFeed) (place : ℕ) (name : List ℕ) (h : NormalisedHistory)
    (before : NormalisedVenue) (answer : Result ℕ RenewFault) (text : List ℕ)
    (after : NormalisedHistory) → (f : FollowsVenue feed place before h)
    → IsRenewal before.normaliser.lines.sessions before.normaliser.lines.end
    before.normaliser.lines.sent name answer
    → RenewsBy feed place name h text after answer
    → NormalisesRenewal feed place name h text after
renewal_is feed place name h before answer text after f is does = record {
  sent = before.normaliser.lines.sent;
  all_sent = f.fits.all_sent;
  answer = answer;
  is = subst (λ (names : List (List ℕ)). IsRenewal names (end_of (inputs_of h))
      before.normaliser.lines.sent name answer) f.sessions
      (subst (λ (e : Option ℕ). IsRenewal before.normaliser.lines.sessions e
      before.normaliser.lines.sent name answer) f.fits.lines.end is);
  does = does;
}

abbrev pub after_begun : NormalisedHistory → List ℕ → NormalisedHistory
after_begun h name =
    record { history = after_renewal h.history name; opening = from_start; output = [] }

pub no_renewal : {W A : Type 0} (writing : Writing W) → ((s : W) → writing.adds s [] s)
    → (feed : NormalisedFeed) (time place : ℕ) (name : List ℕ) (h : NormalisedHistory)
    (before after : NormalisedVenue) (fault : RenewFault) (w : W) (waits : List ℕ) (done : A)
    → (f : FollowsVenue feed place before h)
    → IsRenewal before.normaliser.lines.sessions before.normaliser.lines.end
    before.normaliser.lines.sent name (Err fault)
    → after.normaliser ≡ before.normaliser → after.ready.items ≡ before.ready.items
    → TakesAtVenue writing feed time place (renewal_record place name) h after w w waits waits
    (Ok done)
no_renewal writing adds_none feed time place name h before after fault w waits done f is same
    ready = record {
      after = h;
      text = [];
      normalises = renewal_is feed place name h before (Err fault) [] h f is
          (record { same = refl; none = refl });
      puts = puts_nothing writing adds_none w waits;
      follows = follows_same feed place before after h same ready f;
    }

-- ---- a new venue

pub nothing_put_out : (keys : List ℕ) → IsPutOutFrom keys from_start [] []
nothing_put_out keys = record {
  one = omega arith;
  items = [];
  made = record { count = refl; each = λ k d lt. absurd (omega (arith, lt)) };
  is = refl;
}

module _ {W : Type 0} (writing : Writing W) (feed : NormalisedFeed) (time place : ℕ)
    (name : List ℕ) (h : NormalisedHistory) (before after : NormalisedVenue) (ordinal : ℕ)
    (form : OutputForm) (from to : W) (waited waits : List ℕ)
    (f : FollowsVenue feed place before h) (form_is : form ≡ feed.form)
    (is : IsRenewal before.normaliser.lines.sessions before.normaliser.lines.end
    before.normaliser.lines.sent name (Ok ordinal))
  where
    renewal_text : record_text form (renewal_record place name)
        ≡ record_text feed.form (renewal_record place name)
    renewal_text = ap (λ (o : OutputForm). record_text o (renewal_record place name)) form_is

    begins : NormalisesRenewal feed place name h
        (record_text form (renewal_record place name)) (after_begun h name)
    begins = renewal_is feed place name h before (Ok ordinal) _ (after_begun h name) f is
        (record { history = refl; opening = refl; output = refl; text_is = renewal_text })

    pub renewal_begun : {A : Type 0} (done : A) → FitsPackets after.normaliser []
        → IsRenewed before.normaliser.lines after.normaliser.lines name
        → KeepsItsBook before.normaliser after.normaliser → after.ready.items ≡ []
        → PutsText writing from to waited (record_text form (renewal_record place name)) waits
        → TakesAtVenue writing feed time place (renewal_record place name) h after from to waited
        waits (Ok done)
    renewal_begun done fits renewed book none puts = record {
      after = after_begun h name;
      text = record_text form (renewal_record place name);
      normalises = begins;
      puts = puts;
      follows = record {
        fits = fits;
        opens = starts;
        begins = begins_any [];
        put_out = subst (λ (xs : List Numbered).
            IsPutOutFrom (quoted_keys feed) from_start [] xs) (sym none)
            (nothing_put_out (quoted_keys feed));
        venue = renewed.venue ∙ f.venue;
        session = renewed.begun.session;
        sessions = renewed.sessions ∙ ap (λ (ns : List (List ℕ)). ns ++ name ∷ []) f.sessions
            ∙ sym (renewed_names h.history name);
        window = renewed.window ∙ f.window;
        keys = book.keys ∙ f.keys;
        end_number = book.end_number ∙ f.end_number;
      };
    }

    pub renewal_failed : (A : Type 0) (stop : SinkStop)
        → Wrote writing.adds from waited to
        → writing.failures to ≡ writing.failures from + 1
        → TakesAtVenue {A = A} writing feed time place (renewal_record place name) h after from to
        waited waits (Err (Sink stop))
    renewal_failed A stop part failed = record {
      after = after_begun h name;
      rest = [];
      text = record_text form (renewal_record place name);
      normalises = begins;
      wrote = wrote_longer writing.adds from to waited
          (record_text form (renewal_record place name)) part;
      failed = failed;
    }

-- a venue whose session begins with its first message
pub new_follows : (feed : NormalisedFeed) (place : ℕ) (name : List ℕ) (v : NormalisedVenue)
    → slice_index_or feed.sessions.now place [] ≡ name
    → snapshot_at feed.snapshots.now place ≡ None → FitsPackets v.normaliser []
    → IsNewNormaliser v.normaliser place name (quoted_keys feed) feed.normaliser.window
    feed.normaliser.end_number → v.ready.items ≡ [] → FollowsNew feed place v
new_follows feed place name v named plain fits made none = record {
  history = new_normalised name from_start;
  is_new = record {
    opening = from_start;
    begins = subst (λ (s : Option SnapshotContent). BeginsWith (quoted_keys feed) s from_start)
        (sym plain) refl;
    is = ap (λ (n : List ℕ). new_normalised n from_start) (sym named);
  };
  follows = record {
    fits = fits;
    opens = starts;
    begins = begins_any [];
    put_out = subst (λ (xs : List Numbered). IsPutOutFrom (quoted_keys feed) from_start [] xs)
        (sym none) (nothing_put_out (quoted_keys feed));
    venue = made.lines.venue;
    session = made.lines.begun.session;
    sessions = made.lines.sessions;
    window = made.lines.window;
    keys = made.keys;
    end_number = made.end_number;
  };
}

-- a venue whose session begins with a snapshot
pub resumed_follows : (feed : NormalisedFeed) (place : ℕ) (name : List ℕ)
    (old new : NormalisedVenue) (snapshot : SnapshotContent)
    → slice_index_or feed.sessions.now place [] ≡ name
    → snapshot_at feed.snapshots.now place ≡ Some snapshot → old.ready.items ≡ []
    → IsNewNormaliser old.normaliser place name (quoted_keys feed) feed.normaliser.window
    feed.normaliser.end_number
    → Resumes snapshot old.normaliser new.normaliser old.ready.items new.ready.items
    → KeepsItsSession old.normaliser.lines new.normaliser.lines
    → KeepsItsBook old.normaliser new.normaliser
    → ((keys : List ℕ) (opening : Opening) → 1 ≤ opening.number
    → IsPutOutFrom keys opening (opened_at opening.number) (put_first opening))
    → FollowsNew feed place new
resumed_follows feed place name old new snapshot named has none made resumes session book shows =
    record {
      history = new_normalised name opening;
      is_new = record {
        opening = opening;
        begins = subst (λ (s : Option SnapshotContent). BeginsWith (quoted_keys feed) s opening)
            (sym has) (
              resumes.shown,
              subst (λ (keys : List ℕ). AreShown keys snapshot.messages resumes.shown) made.keys
                  resumes.are,
              resumes.places,
              refl,
            );
        is = ap (λ (n : List ℕ). new_normalised n opening) (sym named);
      };
      follows = record {
        fits = resumes.fits;
        opens = record {
          messages = shown_messages old.normaliser.book.keys snapshot.messages resumes.shown
              resumes.are;
          places = resumes.places;
        };
        begins = begins_opened snapshot.number;
        put_out = subst (λ (xs : List Numbered).
            IsPutOutFrom (quoted_keys feed) opening (opened_at snapshot.number) xs)
            (sym (resumes.put ∙ ap (λ (xs : List Numbered). xs ++ put_first opening) none))
            (shows (quoted_keys feed) opening (let p = resumes.places in omega (arith, p)));
        venue = session.venue ∙ made.lines.venue;
        session = session.session ∙ made.lines.begun.session;
        sessions = session.sessions ∙ made.lines.sessions;
        window = session.window ∙ made.lines.window;
        keys = book.keys ∙ made.keys;
        end_number = book.end_number ∙ made.end_number;
      };
    }
  where
    opening : Opening
    opening = opening_of snapshot resumes.shown
