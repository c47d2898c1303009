-- What a venue's steps leave, in terms of plain states.
use Rattle.std.proofs.Common.{◌≡◌, ℕ, ◌+◌, ◌-◌, arith, Bool, true, false, List, [], ◌∷◌, ◌++◌, length, refl, sym, ap, subst, ◌∙◌, append-nil, length-append, inl, inr}
use Rattle.std.specs.Prelude.{Result, Ok, Err, OnOk, drop, map}
use Rattle.std.proofs.lemmas.Result.{on_ok_weaker}
use Rattle.feed_types.specs.declared.item.Numbered.{Numbered}
use Rattle.feed_types.specs.declared.line.LineId.{LineId}
use Rattle.feed_types.specs.declared.line.LineId.TheVariants.{A, B, Recovery}
use Rattle.mold_packet.specs.declared.fault.PacketFault.{PacketFault}
use Rattle.mold_packet.specs.Content.{Content, Spells}
use Rattle.mold_packet.specs.Faults.{HasFault}
use Rattle.line_arbiter.specs.declared.outcome.Outcome.{Outcome}
use Rattle.line_arbiter.specs.declared.outcome.LineFault.{LineFault}
use Rattle.line_arbiter.specs.declared.faults.RenewFault.{RenewFault}
use Rattle.line_arbiter.specs.declared.faults.SkipFault.{SkipFault}
use Rattle.line_arbiter.specs.Packets.{Arrival, Arrived, Input, Skip, arrival_of, end_of, first_of}
use Rattle.line_arbiter.specs.Streams.{closed_of, front_of, opens_of, place_of, sent_of, stream_of, gap_of}
use Rattle.line_arbiter.specs.Histories.{History, after_input, all_begun, history_after, items_of, names_of, new_history, skip_after, streams_of, wins_in}
use Rattle.line_arbiter.specs.Outcomes.{IsOutcome}
use Rattle.line_arbiter.specs.Renewals.{IsRenewal}
use Rattle.line_arbiter.specs.Skips.{IsSkip}
use Rattle.line_arbiter.specs.Counts.{shown}
use Rattle.line_arbiter.specs.States.{State, KeepsItsPlace, KeepsItsSession, IsNew, IsRenewed, IsSkipped}
use Rattle.line_arbiter.specs.Fits.{Fits, cursors_of}
use Rattle.line_arbiter.specs.laws.Bringing.{first_of-push, opens_same}
use Rattle.line_arbiter.specs.laws.Fronts.{first_most, front_is}
use Rattle.line_arbiter.specs.laws.Histories.{items_push}
use Rattle.line_arbiter.specs.laws.Placing.{place_same, place_skip, sent_back}
use Rattle.line_arbiter.specs.laws.StreamGrowth.{closed_same, closed_skip}
use Rattle.line_arbiter.specs.laws.FitsHistory.{fits_new, fits_packet, fits_push, fits_renewal, keeping_its_session_is_transitive, outcome_in, renewal_in, shown_more}
use Rattle.feed_text.specs.declared.replay_sink.PublishStop.{PublishStop}
use Rattle.capture_records.specs.Capture.{datagram_record, renewal_record, skip_record}
use Rattle.event_sinks.specs.SinkEvents.{told_last}
use Rattle.feed_text.specs.ReplayEvents.{ReplayEvent, packet_answered, packet_refused, item_taken, renewal_answered, skip_answered}
use Rattle.line_arbiter.specs.LastSent.{last_sent}
use Rattle.feed_text.specs.Emitted.{items_emitted, gap_event, gap_emitted, EmitsAt}
use Rattle.feed_text.specs.Tellings.{last_told}
use Rattle.feed_text.specs.ReplayStates.{SinkTaking, ReplayState, EmitsInto}
use Rattle.feed_text.specs.Following.{ReplayVenue, Follows, SendsReady, EmitsOutcome, EmitsOne, Renews, GivesUp}
use Rattle.feed_text.specs.Rules.{HasSentAll}
use Rattle.line_arbiter.specs.laws.LastSent.{last_counted}
use Rattle.feed_text.proofs.Tales.{SinkLaws, tells_more, tells_stop, tells_as}

streams_more : (h : History) → length (streams_of h) ≡ length (items_of h.earlier) + length
    (stream_of h.present.packets)
streams_more h = ap length (items_push h.earlier h.present)
    ∙ length-append (items_of h.earlier) (stream_of h.present.packets)

-- the number of the last item sent is that of the last one that was taken
sent_is : {width place : ℕ} {v : ReplayVenue} (h : History) → Follows width place v h
    → v.arbiter.sent ≡ last_sent h
sent_is h f = sym (sent_back f.history.present) ∙ ap (sent_of h.present.packets) f.sent
    ∙ last_counted h

-- so it has sent all that is ready
pub all_sent : {width place : ℕ} {v : ReplayVenue} (h : History) → Follows width place v h
    → HasSentAll width v.arbiter h
all_sent h f = record { history = f.history; width = f.window; sent = sent_is h f }

-- the cursors and the gap of an arbiter that has are the history's
pub cursors_shown : {width : ℕ} {s : State} (h : History) → HasSentAll width s h
    → cursors_of s.sent h.present.packets ≡ cursors_of (last_sent h) h.present.packets
cursors_shown h f = ap (λ (n : ℕ). cursors_of n h.present.packets) f.sent

pub gap_shown : {width : ℕ} {s : State} (h : History) → HasSentAll width s h
    → gap_of s.session s.window s.sent h.present.packets ≡ gap_of h.present.name width
    (last_sent h) h.present.packets
gap_shown {width = width} {s = s} h f =
    let packets = h.present.packets in
    ap (λ (name : List ℕ). gap_of name s.window s.sent packets) f.history.session
    ∙ ap (λ (n : ℕ). gap_of h.present.name n s.sent packets) f.width
    ∙ ap (λ (n : ℕ). gap_of h.present.name width n packets) f.sent

-- how many items of all sessions were sent
pub sent_all : {width place : ℕ} {v : ReplayVenue} (h : History) → Follows width place v h → (n : ℕ)
    → n ≡ shown (v.sent_before + (v.arbiter.sent - v.opens_after))
    → n ≡ shown (length (streams_of h))
sent_all {v = v} h f n e =
    let before : ℕ = length (items_of h.earlier) + length (closed_of h.present.packets) in
    let sent = f.sent in
    let opens = f.opens_after in
    let whole = streams_more h in
    let all : before + (v.arbiter.sent - v.opens_after) ≡ length (streams_of h) = omega arith in
    e ∙ shown_more v.sent_before before (v.arbiter.sent - v.opens_after) f.sent_before
    ∙ ap shown all

pub last_is : (h : History) (place number sent a b recovery : ℕ) → number ≡ place
    → sent ≡ shown (length (streams_of h))
    → a ≡ shown (wins_in (all_begun h) A) → b ≡ shown (wins_in (all_begun h) B)
    → recovery ≡ shown (wins_in (all_begun h) Recovery)
    → told_last number sent a b recovery ≡ last_told place h
last_is h place number sent a b recovery e s x y z = rw (e, s, x, y, z) refl

pub on_ok : {T E : Type 0} (r : Result T E) {P : Type 0} → P → OnOk r P
on_ok (Ok x) p = p
on_ok (Err e) p = tt

-- a packet's datagram, where no gap is asked for
pub packet_told : {K : Type 0} {taking : SinkTaking K}
    → (width place : ℕ) (h : History) (v : ReplayVenue) (line : LineId) (bytes rest : List ℕ)
    (p : Content) (t0 t1 : ReplayState K) (done : Result (Unit {0}) PublishStop)
    → Spells bytes p rest → EmitsOutcome taking width place line p (length bytes) h t0 t1 v done
    → EmitsOne taking width false (datagram_record place line bytes) h t0 t1 v done
packet_told {K} {taking} width place h v line bytes rest p t0 t1 done spells x =
    let Q : List Input = h.present.packets ++ arrival_of line p x.answer ∷ [] in
    record {
      emitted = packet_answered place line p.number (length p.messages) (length bytes) x.answer
          ∷ items_emitted place h Q ++ [];
      after = after_input h (arrival_of line p x.answer);
      at = inr (record {
        packet = p;
        rest = rest;
        answer = x.answer;
        spells = spells;
        taken =
            record { right = x.outcome; is = refl };
        emitted_is = refl;
      });
      emits = tells_as taking t0 t1 done (ap (λ (hs : List ReplayEvent). packet_answered place line
          p.number (length p.messages) (length bytes) x.answer ∷ hs)
          (sym (append-nil (items_emitted place h Q)))) x.emits;
      follows = x.follows;
    }

-- a datagram that is no packet
pub fault_told : {K : Type 0} {taking : SinkTaking K}
    → (width place : ℕ) (h : History) (v : ReplayVenue) (line : LineId) (bytes : List ℕ)
    (fault : PacketFault) (t0 t1 : ReplayState K) (done : Result (Unit {0}) PublishStop)
    → HasFault bytes fault → EmitsInto taking t0 (packet_refused place line fault ∷ []) t1 done
    → Follows width place v h
    → EmitsOne taking width false (datagram_record place line bytes) h t0 t1 v done
fault_told {K} {taking} width place h v line bytes fault t0 t1 done has emits f = record {
  emitted = packet_refused place line fault ∷ [];
  after = h;
  at = inl (record { fault = fault; has = has; same = refl; emitted_is = refl });
  emits = emits;
  follows = on_ok done f;
}

-- the events of a datagram where gaps are asked for, too
gap_at : (width place : ℕ) (gaps : Bool) (line : LineId) (bytes : List ℕ) (h after : History)
    (emitted : List ReplayEvent)
    → EmitsAt width false (datagram_record place line bytes) h emitted after
    → EmitsAt width gaps (datagram_record place line bytes) h (emitted
    ++ gap_emitted width gaps place after) after
gap_at width place gaps line bytes h after emitted (inl a) =
    inl (record {
      fault = a.fault;
      has = a.has;
      same = a.same;
      emitted_is =
          ap (λ (hs : List ReplayEvent). hs ++ gap_emitted width gaps place after) a.emitted_is;
    })
gap_at width place gaps line bytes h after emitted (inr a) =
    let G : List ReplayEvent = gap_emitted width gaps place after in
    let items : List ReplayEvent = items_emitted place h after.present.packets in
    inr (record {
      packet = a.packet;
      rest = a.rest;
      answer = a.answer;
      spells = a.spells;
      taken = a.taken;
      emitted_is = ap (λ (hs : List ReplayEvent). hs ++ G) a.emitted_is
          ∙ ap (λ (hs : List ReplayEvent). packet_answered place line a.packet.number
          (length a.packet.messages) (length bytes) a.answer ∷ hs ++ G) (append-nil items);
    })

-- and then the gap was emitted
pub gap_added : {K : Type 0} {taking : SinkTaking K} → SinkLaws taking
    → (width place : ℕ) (h : History) (v : ReplayVenue) (line : LineId) (bytes : List ℕ)
    (t0 t1 t2 : ReplayState K) (done : Result (Unit {0}) PublishStop)
    → EmitsOne taking width false (datagram_record place line bytes) h t0 t1 v (Ok tt)
    → ((P : List Input) → Fits v.arbiter P
    → EmitsInto taking t1 (gap_event place (gap_of v.arbiter.session v.arbiter.window
    v.arbiter.sent P)) t2 done)
    → EmitsOne taking width true (datagram_record place line bytes) h t0 t2 v done
gap_added {K} {taking} laws width place h v line bytes t0 t1 t2 done x gap =
    let f : Follows width place v x.after = x.follows in
    let G : List ReplayEvent = gap_event place (gap_of x.after.present.name width
    (last_sent x.after) x.after.present.packets) in
    let there : EmitsInto taking t1 G t2 done = rw (
      ← f.history.session,
      ← f.window,
      ← sent_is x.after f,
    ) (gap x.after.present.packets f.history.present) in
    record {
      emitted = x.emitted ++ G;
      after = x.after;
      at = gap_at width place true line bytes h x.after x.emitted x.at;
      emits = tells_more laws t2 x.emitted G done x.emits there;
      follows = on_ok done f;
    }

-- a stop came before
pub gap_never : {K : Type 0} {taking : SinkTaking K} → (width place : ℕ) (gaps : Bool) (h : History)
    (v : ReplayVenue) (line : LineId) (bytes : List ℕ) (t0 t1 : ReplayState K) (stop : PublishStop)
    → EmitsOne taking width false (datagram_record place line bytes) h t0 t1 v (Err stop)
    → EmitsOne taking width gaps (datagram_record place line bytes) h t0 t1 v (Err stop)
gap_never {K} {taking} width place gaps h v line bytes t0 t1 stop x = record {
  emitted = x.emitted ++ gap_emitted width gaps place x.after;
  after = x.after;
  at = gap_at width place gaps line bytes h x.after x.emitted x.at;
  emits = tells_stop taking t0 t1 x.emitted (gap_emitted width gaps place x.after) stop x.emits;
  follows = tt;
}

pub renewal_told : {K : Type 0} {taking : SinkTaking K}
    → (width place : ℕ) (gaps : Bool) (h : History) (v : ReplayVenue) (name : List ℕ)
    (answer : Result ℕ RenewFault) (t0 t1 : ReplayState K) (done : Result (Unit {0}) PublishStop)
    → Renews width place name h v answer
    → EmitsInto taking t0 (renewal_answered place answer ∷ []) t1 done
    → EmitsOne taking width gaps (renewal_record place name) h t0 t1 v done
renewal_told {K} {taking} width place gaps h v name answer t0 t1 done x emits = record {
  emitted = renewal_answered place answer ∷ [];
  after = history_after h name answer;
  at = record { answer = answer; renewed = record { right = x.is; is = refl }; emitted_is = refl };
  emits = emits;
  follows = on_ok done x.follows;
}

-- what a venue is after a packet and all that it made ready
pub record Left (v : ReplayVenue) (Q : List Input) (new : State) : Type 0 where
  pub fits : Fits new Q
  pub sent : place_of Q new.sent ≡ length (stream_of Q)
  pub stays : KeepsItsSession v.arbiter new

-- all that the packet made ready was sent
pub left_ready : (v : ReplayVenue) (Q : List Input) (mid new : State)
    (done : Result (Unit {0}) PublishStop)
    → Fits mid Q → KeepsItsSession v.arbiter mid → OnOk done (SendsReady mid new)
    → OnOk done (Left v Q new)
left_ready v Q mid new done fits kept sends =
    let left : SendsReady mid new → Left v Q new = λ s.
    record {
      fits = (s.fits Q fits).0;
      sent = (s.fits Q fits).1;
      stays =
          keeping_its_session_is_transitive kept s.kept.session;
    } in
    on_ok_weaker done left sends

left_follows : (width place : ℕ) (h : History) (v : ReplayVenue) (new : State) (a : Arrival)
    → Follows width place v h → Left v (h.present.packets ++ Arrived a ∷ []) new
    → Follows width place (record {
      arbiter = new;
      sent_before = v.sent_before;
      opens_after =
          v.opens_after;
    }) (after_input h (Arrived a))
left_follows width place h v new a f x = record {
  history = fits_packet h (Arrived a) f.history x.stays x.fits;
  number = x.stays.venue ∙ f.number;
  window = x.stays.window ∙ f.window;
  sent = x.sent;
  sent_before = f.sent_before
      ∙ ap (λ (xs : List Numbered). shown (length (items_of h.earlier) + length xs))
      (sym (closed_same h.present.packets a));
  opens_after = f.opens_after ∙ sym (opens_same h.present.packets a);
}

-- a packet was answered, and the items that it made ready were emitted after it
pub outcome_told : {K : Type 0} {taking : SinkTaking K}
    → (width place : ℕ) (h : History) (v : ReplayVenue) (new : State) (line : LineId) (p : Content)
    (bytes : ℕ) (answer : Result Outcome LineFault) (t0 t1 : ReplayState K)
    (done : Result (Unit {0}) PublishStop)
    → Follows width place v h
    → IsOutcome v.arbiter.session v.arbiter.window v.arbiter.sent h.present.packets p answer
    → EmitsInto taking t0 (packet_answered place line p.number (length p.messages) bytes answer
    ∷ map (item_taken place) (drop (place_of h.present.packets v.arbiter.sent)
    (stream_of (h.present.packets ++ arrival_of line p answer ∷ [])))) t1 done
    → OnOk done (Left v (h.present.packets ++ arrival_of line p answer ∷ []) new)
    → EmitsOutcome taking width place line p bytes h t0 t1 (record {
      arbiter = new;
      sent_before =
          v.sent_before;
      opens_after = v.opens_after;
    }) done
outcome_told {K} {taking} width place h v new line p bytes answer t0 t1 done f outcome emits left =
    let Q = h.present.packets ++ arrival_of line p answer ∷ [] in
    record {
      answer = answer;
      outcome = rw (← f.window, ← sent_is h f) (outcome_in h p answer f.history outcome);
      emits = tells_as taking t0 t1 done (ap (λ (n : ℕ). packet_answered place line p.number
          (length p.messages) bytes answer ∷ map (item_taken place) (drop n (stream_of Q))) f.sent)
          emits;
      follows = on_ok_weaker done (left_follows width place h v new
          (record { line = line; packet = p; answer = answer }) f) left;
    }

-- a packet was answered, and then everything that is ready was emitted
pub answered_told : {K : Type 0} {taking : SinkTaking K}
    → (width place : ℕ) (h : History) (v : ReplayVenue) (mid new : State) (line : LineId)
    (p : Content) (bytes : ℕ) (answer : Result Outcome LineFault) (t0 t1 : ReplayState K)
    (done : Result (Unit {0}) PublishStop)
    → Follows width place v h
    → ((packets : List Input) → Fits v.arbiter packets → IsOutcome v.arbiter.session
    v.arbiter.window v.arbiter.sent packets p answer)
    → ((packets : List Input) → Fits v.arbiter packets
    → Fits mid (packets ++ arrival_of line p answer ∷ []))
    → KeepsItsPlace v.arbiter mid
    → ((packets : List Input) → Fits mid packets → EmitsInto taking t0 (packet_answered place line
    p.number (length p.messages) bytes answer
    ∷ map (item_taken place) (drop (place_of packets mid.sent) (stream_of packets))) t1 done)
    → OnOk done (SendsReady mid new)
    → EmitsOutcome taking width place line p bytes h t0 t1 (record {
      arbiter = new;
      sent_before =
          v.sent_before;
      opens_after = v.opens_after;
    }) done
answered_told {K} {taking} width place h v mid new line p bytes answer t0 t1 done f outcome
    fits kept emits sends =
    let Q = h.present.packets ++ arrival_of line p answer ∷ [] in
    outcome_told width place h v new line p bytes answer t0 t1 done f
    (outcome h.present.packets f.history.present)
    (tells_as taking t0 t1 done (ap (λ (n : ℕ). packet_answered place line p.number
    (length p.messages) bytes answer ∷ map (item_taken place) (drop n (stream_of Q)))
    (ap (place_of Q) kept.sent ∙ place_same h.present.packets (record {
      line = line;
      packet = p;
      answer = answer;
    }) v.arbiter.sent))
    (emits Q (fits h.present.packets f.history.present)))
    (left_ready v Q mid new done (fits h.present.packets f.history.present) kept.session sends)

-- the next session began
pub renewed_follows : (width place : ℕ) (h : History) (v : ReplayVenue) (new : State)
    (name : List ℕ) (ordinal sent : ℕ)
    → Follows width place v h
    → IsRenewal v.arbiter.sessions v.arbiter.end v.arbiter.sent name (Ok ordinal)
    → IsRenewed v.arbiter new name
    → Fits new []
    → sent ≡ shown (length (streams_of h))
    → Renews width place name h (record { arbiter = new; sent_before = sent; opens_after = 0 })
    (Ok ordinal)
renewed_follows width place h v new name ordinal sent f is renewed fits count = record {
  is = subst (λ (n : ℕ). IsRenewal (names_of h) (end_of h.present.packets) n name (Ok ordinal))
      (sent_is h f) (renewal_in h name (Ok ordinal) f.history is);
  follows = record {
    history = fits_renewal h name f.history renewed fits;
    number = renewed.venue ∙ f.number;
    window = renewed.window ∙ f.window;
    sent = ap (place_of []) renewed.begun.sent;
    sent_before = count ∙ ap shown (omega arith);
    opens_after = refl;
  };
}

pub not_renewed : (width place : ℕ) (h : History) (v : ReplayVenue)
    (name : List ℕ) (fault : RenewFault)
    → Follows width place v h → IsRenewal v.arbiter.sessions v.arbiter.end v.arbiter.sent name
    (Err fault) → Renews width place name h v (Err fault)
not_renewed width place h v name fault f is = record {
  is = subst (λ (n : ℕ). IsRenewal (names_of h) (end_of h.present.packets) n name (Err fault))
      (sent_is h f) (renewal_in h name (Err fault) f.history is);
  follows = f;
}

-- what is missing was given up, and nothing of the part that opens there was sent
pub given_up : (width place : ℕ) (h : History) (v : ReplayVenue) (new : State)
    (number sent opens_after : ℕ)
    → Follows width place v h
    → IsSkip h.present.packets v.arbiter.sent number (Ok tt)
    → IsSkipped v.arbiter new number
    → Fits new (h.present.packets ++ Skip number ∷ [])
    → sent ≡ shown (length (streams_of h)) → opens_after ≡ new.sent
    → GivesUp width place number h (record {
      arbiter = new;
      sent_before = sent;
      opens_after = opens_after;
    }) (Ok tt)
given_up width place h v new number sent opens_after f is skipped fits count last_is =
    let P : List Input = h.present.packets in
    let past = is.1.past in
    let whole : length (streams_of h) ≡ length (items_of h.earlier) + length
    (closed_of (P ++ Skip number ∷ [])) =
    streams_more h ∙ ap (λ (xs : List Numbered). length (items_of h.earlier) + length xs)
    (sym (closed_skip P number)) in
    let most = first_most P (front_of P) (front_is P) in
    let first : first_of (P ++ Skip number ∷ []) ≡ number =
    omega (arith, first_of-push P (Skip number)) in
    let last = skipped.sent in
    let opens : opens_after + 1 ≡ opens_of (P ++ Skip number ∷ []) = omega arith in
    record {
      is = subst (λ (n : ℕ). IsSkip P n number (Ok tt)) (sent_is h f) is;
      sent = record {
        history = fits_packet h (Skip number) f.history (record {
          venue = skipped.venue;
          sessions =
              skipped.sessions;
          session = skipped.session;
          window = skipped.window;
          earlier =
              skipped.earlier;
        }) fits;
        number = skipped.venue ∙ f.number;
        window = skipped.window ∙ f.window;
        sent = place_skip P number new.sent is.1 skipped.sent;
        sent_before = count ∙ ap shown whole;
        opens_after = opens;
      };
    }

pub not_given_up : (width place : ℕ) (h : History) (v : ReplayVenue)
    (number : ℕ) (fault : SkipFault)
    → Follows width place v h → IsSkip h.present.packets v.arbiter.sent number (Err fault)
    → GivesUp width place number h v (Err fault)
not_given_up width place h v number fault f is = record {
  is = subst (λ (n : ℕ). IsSkip h.present.packets n number (Err fault)) (sent_is h f) is;
  sent = f;
}

-- a skip was answered, and the items that it made ready were emitted after it
pub skip_told : {K : Type 0} {taking : SinkTaking K} → (width place : ℕ) (gaps : Bool) (h : History)
    (number : ℕ) (v : ReplayVenue) (new : State) (answer : Result (Unit {0}) SkipFault)
    (t0 t1 : ReplayState K) (done : Result (Unit {0}) PublishStop)
    → GivesUp width place number h v answer
    → ((P : List Input) → Fits v.arbiter P → EmitsInto taking t0 (skip_answered place number answer
    ∷ map (item_taken place) (drop (place_of P v.arbiter.sent) (stream_of P))) t1 done)
    → OnOk done (SendsReady v.arbiter new)
    → EmitsOne taking width gaps (skip_record place number) h t0 t1
    (record { arbiter = new; sent_before = v.sent_before; opens_after = v.opens_after }) done
skip_told {K} {taking} width place gaps h number v new answer t0 t1 done x emits sends =
    let k : History = skip_after h number answer in
    let P : List Input = k.present.packets in
    let fits : Fits v.arbiter P = x.sent.history.present in
    let follows : SendsReady v.arbiter new
    → Follows width place (record {
      arbiter = new;
      sent_before = v.sent_before;
      opens_after =
          v.opens_after;
    }) k = λ s. record {
      history = fits_push k x.sent.history s.kept (s.fits P fits).0;
      number = s.kept.session.venue ∙ x.sent.number;
      window = s.kept.session.window ∙ x.sent.window;
      sent = (s.fits P fits).1;
      sent_before = x.sent.sent_before;
      opens_after = x.sent.opens_after;
    } in
    record {
      emitted = skip_answered place number answer ∷ items_emitted place h P;
      after = k;
      at = record {
        answer = answer;
        skipped = record { right = x.is; is = refl };
        emitted_is =
            refl;
      };
      emits = tells_as taking t0 t1 done (ap (λ (n : ℕ). skip_answered place number answer
          ∷ map (item_taken place) (drop n (stream_of P))) x.sent.sent) (emits P fits);
      follows = on_ok_weaker done follows sends;
    }

-- a venue to which nothing came
pub new_follows : (width place : ℕ) (s : State) (session : List ℕ) → IsNew s place session width
    → Fits s [] → Follows width place (record { arbiter = s; sent_before = 0; opens_after = 0 })
    (new_history session)
new_follows width place s session new fits = record {
  history = fits_new new fits;
  number = new.venue;
  window = new.window;
  sent = ap (place_of []) new.begun.sent;
  sent_before = refl;
  opens_after = refl;
}
