-- What a venue's moves leave, in terms of plain states.
use Rattle.std.proofs.Common.{◌≡◌, ℕ, zero, suc, ◌+◌, ◌-◌, ◌≤◌, Bool, true, false, List, [], ◌∷◌, ◌++◌, length, drop, Option, Some, None, Result, Ok, Err, refl, sym, ap, subst, ◌∙◌, arith, length-append, append_assoc, append-nil}
use Rattle.std.proofs.lemmas.List.{drop-append-le}
use Rattle.std.specs.Prelude.{slice_get, OnErr, OnOk}
use Rattle.feed_types.specs.declared.item.Numbered.{Numbered}
use Rattle.feed_types.specs.declared.line.LineId.{LineId}
use Rattle.mold_packet.specs.Content.{Content, Spells}
use Rattle.line_arbiter.specs.declared.outcome.Outcome.{Outcome}
use Rattle.line_arbiter.specs.declared.outcome.LineFault.{LineFault}
use Rattle.line_arbiter.specs.declared.faults.RenewFault.{RenewFault}
use Rattle.line_arbiter.specs.declared.faults.SkipFault.{SkipFault}
use Rattle.line_arbiter.specs.Packets.{Arrival, Arrived, Skip, arrival_of, end_of}
use Rattle.line_arbiter.specs.Streams.{IsComplete, place_of, sent_of, stream_of}
use Rattle.line_arbiter.specs.Renewals.{IsRenewal}
use Rattle.line_arbiter.specs.Skips.{IsSkip}
use Rattle.line_arbiter.specs.Outcomes.{IsOutcome}
use Rattle.line_arbiter.specs.States.{State, IsAdvanced, IsNew, IsRenewed, IsSkipped, KeepsItsPlace, KeepsItsSession}
use Rattle.line_arbiter.specs.Fits.{Fits}
use Rattle.line_arbiter.specs.Histories.{all_begun, items_of, names_of, streams_of, after_input, after_renewal}
use Rattle.feed_steps.specs.declared.event.Done.{Done}
use Rattle.feed_steps.specs.declared.event.Done.TheVariants as done
use Rattle.feed_core.specs.Worlds.{Lane, empty_lane, inside, is_full, new_venue, Venue, session_sent}
use Rattle.feed_core.specs.Steps.{next_in}
use Rattle.feed_steps.specs.Steps.{packet_done, push_next, renewal_done, skip_done, AppliesTo}
use Rattle.feed_core.specs.Fitting.{VenueView, FitsVenue, LeftAnswered, LeftPushed, LeftRenewed, LeftSkipped, ShowsLane}
use Rattle.line_arbiter.specs.laws.Histories.{items_push}
use Rattle.feed_steps.specs.laws.Counts.{place_all}
use Rattle.line_arbiter.specs.laws.Placing.{place_next, place_same, place_skip, sent_back}
use Rattle.line_arbiter.specs.laws.FitsHistory.{fits_new, fits_packet, fits_push, fits_renewal, outcome_in, renewal_in}

-- the number of the last item sent is that of the count
sent_is : {window place : ℕ} {c : VenueView} {v : Venue} → FitsVenue window place c v
    → c.arbiter.sent ≡ session_sent v
sent_is {c = c} {v = v} f = sym (sent_back f.history.present)
    ∙ ap (sent_of v.history.present.packets) f.sent

-- one more packet
packet_fits : (window place : ℕ) (old new : State) (lane : Lane Numbered) (v : Venue) (a : Arrival)
    → FitsVenue window place (record { arbiter = old; lane = lane }) v → KeepsItsPlace old new
    → Fits new (v.history.present.packets ++ Arrived a ∷ [])
    → FitsVenue window place (record { arbiter = new; lane = lane })
    (record v { history = after_input v.history (Arrived a) })
packet_fits window place old new lane v a f kept fits = record {
  history = fits_packet v.history (Arrived a) f.history kept.session fits;
  number = kept.session.venue ∙ f.number;
  width = kept.session.window ∙ f.width;
  sent = place_same v.history.present.packets a new.sent
      ∙ ap (place_of v.history.present.packets) kept.sent ∙ f.sent;
  begun = f.begun;
  lane = f.lane;
  within = f.within;
}

pub answered_so : (window place : ℕ) (old new : State) (lane : Lane Numbered) (v : Venue)
    (line : LineId) (bytes rest : List ℕ) (p : Content) (answer : Result Outcome LineFault)
    (d : Done)
    → FitsVenue window place (record { arbiter = old; lane = lane }) v → Spells bytes p rest
    → KeepsItsPlace old new → IsOutcome old.session old.window old.sent
    v.history.present.packets p answer
    → Fits new (v.history.present.packets ++ arrival_of line p answer ∷ []) → d ≡ packet_done answer
    → LeftAnswered window place v line bytes d (record { arbiter = new; lane = lane })
answered_so window place old new lane v line bytes rest p answer d f spells kept
    right fits e = record {
      packet = p;
      rest = rest;
      spells = spells;
      answer = answer;
      history = after_input v.history (arrival_of line p answer);
      taken = record { right = moved; is = refl };
      outcome_is = e;
      fits = packet_fits window place old new lane v (record {
        line = line;
        packet = p;
        answer = answer;
      }) f kept fits;
    }
  where
    moved : IsOutcome v.history.present.name window (session_sent v)
        v.history.present.packets p answer
    moved = subst (λ (w : ℕ). IsOutcome v.history.present.name w (session_sent v)
        v.history.present.packets p answer) f.width
        (subst (λ (s : ℕ). IsOutcome v.history.present.name old.window s v.history.present.packets p
        answer) (sent_is f) (outcome_in v.history p answer f.history right))

-- a venue to which nothing came
pub new_fits : (window place : ℕ) (s : State) (session : List ℕ) → IsNew s place session window
    → Fits s []
    → FitsVenue window place (record { arbiter = s; lane = empty_lane }) (new_venue session)
new_fits window place s session new fits = record {
  history = fits_new new fits;
  number = new.venue;
  width = new.window;
  sent = ap (place_of []) new.begun.sent;
  begun = omega arith;
  lane = refl;
  within = omega arith;
}

-- the next session
renewed_so : (window place : ℕ) (old new : State) (lane : Lane Numbered) (v : Venue)
    (name : List ℕ) (ordinal : ℕ)
    → FitsVenue window place (record { arbiter = old; lane = lane }) v
    → IsRenewal old.sessions old.end old.sent name (Ok ordinal)
    → IsRenewed old new name → Fits new []
    → IsComplete v.history.present.packets
    × (place_of v.history.present.packets old.sent ≡ length (stream_of v.history.present.packets))
    → LeftRenewed window place v name (done.Renewed ordinal) (record { arbiter = new; lane = lane })
renewed_so window place old new lane v name ordinal f right renewed fits whole = record {
  answer = Ok ordinal;
  history = after_renewal v.history name;
  renewed = record {
    right = subst (λ (n : ℕ). IsRenewal (names_of v.history)
        (end_of v.history.present.packets) n name (Ok ordinal)) (sent_is f)
        (renewal_in v.history name
        (Ok ordinal) f.history right);
    is = refl;
  };
  outcome_is = refl;
  fits = record {
    history = fits_renewal v.history name f.history renewed fits;
    number = renewed.venue ∙ f.number;
    width = renewed.window ∙ f.width;
    sent = ap (place_of []) renewed.begun.sent ∙ (let b = all_sent in omega arith);
    begun = (let b = all_sent in omega arith);
    lane = f.lane;
    within = f.within;
  };
}
  where
    -- all items of the sessions so far were sent
    all_sent : length (items_of (all_begun v.history)) ≡ length v.lane.sent
    all_sent =
        let stream = stream_of v.history.present.packets in
        let e = ap length (items_push v.history.earlier v.history.present)
        ∙ length-append (items_of v.history.earlier) stream in
        let a = f.sent in
        let b = f.begun in
        let c = whole.1 in
        omega arith

not_renewed : (window place : ℕ) (s : State) (lane : Lane Numbered) (v : Venue)
    (name : List ℕ) (fault : RenewFault)
    → FitsVenue window place (record { arbiter = s; lane = lane }) v
    → IsRenewal s.sessions s.end s.sent name (Err fault)
    → LeftRenewed window place v name (renewal_done (Err fault))
    (record { arbiter = s; lane = lane })
not_renewed window place s lane v name fault f right = record {
  answer = Err fault;
  history = v.history;
  renewed = record {
    right = subst (λ (n : ℕ). IsRenewal (names_of v.history)
        (end_of v.history.present.packets) n name (Err fault)) (sent_is f)
        (renewal_in v.history name
        (Err fault) f.history right);
    is = refl;
  };
  outcome_is = refl;
  fits = f;
}

pub renewal_left : (window place : ℕ) (old new : State) (lane : Lane Numbered) (v : Venue)
    (name : List ℕ) (answer : Result ℕ RenewFault)
    → FitsVenue window place (record { arbiter = old; lane = lane }) v
    → IsRenewal old.sessions old.end old.sent name answer → OnOk answer (IsRenewed old new name)
    → OnOk answer (Fits new [])
    → OnOk answer (IsComplete v.history.present.packets
    × (place_of v.history.present.packets old.sent ≡ length (stream_of v.history.present.packets)))
    → OnErr answer (new ≡ old) → LeftRenewed window place v name (renewal_done answer)
    (record { arbiter = new; lane = lane })
renewal_left window place old new lane v name (Ok ordinal) f right renewed fits whole same =
    renewed_so window place old new lane v name ordinal f right renewed fits whole
renewal_left window place old new lane v name (Err fault) f right renewed fits whole same =
    subst (λ (s : State). LeftRenewed window place v name (renewal_done (Err fault))
    (record { arbiter = s; lane = lane })) (sym same) (not_renewed window place old
    lane v name fault f right)

-- what a skip leaves of a venue
skip_keeps : {old new : State} {number : ℕ} → IsSkipped old new number → KeepsItsSession old new
skip_keeps s = record {
  venue = s.venue;
  sessions = s.sessions;
  session = s.session;
  window =
      s.window;
  earlier = s.earlier;
}

skipped_so : (window place : ℕ) (old new : State) (lane : Lane Numbered) (v : Venue) (number : ℕ)
    → FitsVenue window place (record { arbiter = old; lane = lane }) v
    → IsSkip v.history.present.packets old.sent number (Ok tt) → IsSkipped old new number
    → Fits new (v.history.present.packets ++ Skip number ∷ [])
    → LeftSkipped window place v number (done.Skipped number)
    (record { arbiter = new; lane = lane })
skipped_so window place old new lane v number f right skipped fits = record {
  answer = Ok tt;
  history = after_input v.history (Skip number);
  skipped = record {
    right = subst (λ (n : ℕ). IsSkip v.history.present.packets n number (Ok tt))
        (sent_is f) right;
    is = refl;
  };
  outcome_is = refl;
  fits = record {
    history = fits_packet v.history (Skip number) f.history (skip_keeps skipped) fits;
    number = skipped.venue ∙ f.number;
    width = skipped.window ∙ f.width;
    sent = place_skip v.history.present.packets number new.sent right.1 skipped.sent
        ∙ sym (place_all v.history.present.packets old.sent f.history.present.opened right.0)
        ∙ f.sent;
    begun = f.begun;
    lane = f.lane;
    within = f.within;
  };
}

not_skipped : (window place : ℕ) (s : State) (lane : Lane Numbered) (v : Venue) (number : ℕ)
    (fault : SkipFault) → FitsVenue window place (record { arbiter = s; lane = lane }) v
    → IsSkip v.history.present.packets s.sent number (Err fault)
    → LeftSkipped window place v number (skip_done number (Err fault))
    (record { arbiter = s; lane = lane })
not_skipped window place s lane v number fault f right = record {
  answer = Err fault;
  history = v.history;
  skipped = record {
    right = subst (λ (n : ℕ). IsSkip v.history.present.packets n number
        (Err fault)) (sent_is f) right;
    is = refl;
  };
  outcome_is = refl;
  fits = f;
}

pub skip_left : (window place : ℕ) (old new : State) (lane : Lane Numbered) (v : Venue) (number : ℕ)
    (answer : Result (Unit {0}) SkipFault)
    → FitsVenue window place (record { arbiter = old; lane = lane }) v
    → IsSkip v.history.present.packets old.sent number answer
    → OnOk answer (IsSkipped old new number)
    → OnOk answer (Fits new (v.history.present.packets ++ Skip number ∷ []))
    → OnErr answer (new ≡ old)
    → LeftSkipped window place v number (skip_done number answer)
    (record { arbiter = new; lane = lane })
skip_left window place old new lane v number (Ok _) f right skipped fits same = skipped_so window
    place old new lane v number f right skipped fits
skip_left window place old new lane v number (Err fault) f right skipped fits same =
    subst (λ (s : State). LeftSkipped window place v number (skip_done number (Err fault))
    (record { arbiter = s; lane = lane })) (sym same) (not_skipped window place old lane
    v number fault f right)

get_past : {X : Type 0} (xs ys : List X) (n : ℕ) → length xs ≤ n
    → slice_get (xs ++ ys) n ≡ slice_get ys (n - length xs)
get_past [] ys n h = ap (slice_get ys) (omega arith)
get_past (x ∷ xs) ys zero h = absurd (omega arith)
get_past (x ∷ xs) ys (suc n) h = get_past xs ys n (omega arith) ∙ ap (slice_get ys) (omega arith)

-- the next item of the streams is that of the present one
pub next_is : (window place : ℕ) (c : VenueView) (v : Venue) → FitsVenue window place c v
    → next_in (streams_of v.history) v.lane ≡ slice_get (stream_of v.history.present.packets)
    (place_of v.history.present.packets c.arbiter.sent)
next_is window place c v f =
    ap (λ (l : List Numbered). slice_get l (length v.lane.sent))
    (items_push v.history.earlier v.history.present)
    ∙ get_past (items_of v.history.earlier) (stream_of v.history.present.packets)
    (length v.lane.sent) f.begun
    ∙ ap (slice_get (stream_of v.history.present.packets)) (sym f.sent)

fits_same : {window place : ℕ} {c : VenueView} {v : Venue} → FitsVenue window place c v
    → FitsVenue window place c (record v { lane = record v.lane { sent = c.lane.sent } })
fits_same {window = window} {place = place} {c = c} {v = v} f =
    subst (λ (xs : List Numbered). FitsVenue window place c
    (record v { lane = record v.lane { sent = xs } }))
    (ap (λ (l : Lane Numbered). l.sent) (sym f.lane)) f

module _ (window place capacity : ℕ) (v : Venue) (c : VenueView) (f : FitsVenue window place c v)
  where
    sent_same : c.lane.sent ≡ v.lane.sent
    sent_same = ap (λ (l : Lane Numbered). l.sent) f.lane

    pub push_none : None ≡ slice_get (stream_of v.history.present.packets)
        (place_of v.history.present.packets c.arbiter.sent)
        → LeftPushed window place capacity v done.NothingReady c
    push_none e = record {
      comes = subst (λ (o : Option Numbered). AppliesTo (push_next (is_full capacity v.lane) o
          v.lane.sent) v.lane.sent done.NothingReady c.lane.sent) (e
          ∙ sym (next_is window place c v f)) (refl, sent_same);
      fits = fits_same f;
    }

    pub push_full : (x : Numbered) → Some x ≡ slice_get (stream_of v.history.present.packets)
        (place_of v.history.present.packets c.arbiter.sent) → is_full capacity c.lane ≡ true
        → LeftPushed window place capacity v done.LaneFull c
    push_full x e full = record {
      comes = subst (λ (o : Option Numbered). AppliesTo (push_next (is_full capacity v.lane) o
          v.lane.sent) v.lane.sent done.LaneFull c.lane.sent) (e ∙ sym (next_is window place c v f))
          (subst (λ (b : Bool). AppliesTo (push_next b (Some x) v.lane.sent)
          v.lane.sent done.LaneFull
          c.lane.sent) (sym (ap (is_full capacity) (sym f.lane) ∙ full)) (refl, sent_same));
      fits = fits_same f;
    }

    pub push_one : (x : Numbered) (new : State) (lane : Lane Numbered)
        → Some x ≡ slice_get (stream_of v.history.present.packets)
        (place_of v.history.present.packets
        c.arbiter.sent) → is_full capacity c.lane ≡ false → lane ≡ record c.lane {
          sent = c.lane.sent
              ++ x ∷ [];
        } → IsAdvanced c.arbiter new → Fits new v.history.present.packets
        → LeftPushed window place capacity v (done.Pushed x.number)
        (record { arbiter = new; lane = lane })
    push_one x new lane e room is advanced fits =
        let sent : lane.sent ≡ v.lane.sent ++ x ∷ [] = ap (λ (l : Lane Numbered). l.sent) is
        ∙ ap (λ (xs : List Numbered). xs ++ x ∷ []) sent_same in
        let len : length lane.sent ≡ length v.lane.sent + 1 = ap length sent
        ∙ length-append v.lane.sent (x ∷ []) in
        record {
          comes = subst (λ (o : Option Numbered). AppliesTo (push_next (is_full capacity v.lane) o
              v.lane.sent) v.lane.sent (done.Pushed x.number) lane.sent) (e
              ∙ sym (next_is window place c v f))
              (subst (λ (b : Bool). AppliesTo (push_next b (Some x) v.lane.sent) v.lane.sent
              (done.Pushed x.number) lane.sent) (sym (ap (is_full capacity) (sym f.lane) ∙ room))
              (refl, sent));
          fits = record {
            history = fits_push v.history f.history advanced.kept fits;
            number = advanced.kept.session.venue ∙ f.number;
            width = advanced.kept.session.window ∙ f.width;
            sent = ap (place_of v.history.present.packets) advanced.sent
                ∙ place_next f.history.present ∙ (let b = f.sent in let d = f.begun in omega arith);
            begun = (let d = f.begun in omega arith);
            lane = lane_is is (ap (λ (l : Lane Numbered). l.received) f.lane);
            within = (let d = f.within in omega arith);
          };
        }
      where
        lane_is : lane ≡ record c.lane { sent = c.lane.sent ++ x ∷ [] }
            → c.lane.received ≡ v.lane.received → lane ≡ record v.lane { sent = lane.sent }
        lane_is e r = ap (λ (received : List Numbered). record {
          sent = lane.sent;
          received =
              received;
        }) (ap (λ (l : Lane Numbered). l.received) e ∙ r)

drop_past : {X : Type 0} (xs ys : List X) (n : ℕ) → length xs ≤ n
    → drop n (xs ++ ys) ≡ drop (n - length xs) ys
drop_past [] ys n h = ap (λ (k : ℕ). drop k ys) (omega arith)
drop_past (x ∷ xs) ys zero h = absurd (omega arith)
drop_past (x ∷ xs) ys (suc n) h = drop_past xs ys n (omega arith)
    ∙ ap (λ (k : ℕ). drop k ys) (omega arith)

-- once what is ready is put in after what was pushed, the lane shows the venue
pub shown : (window place : ℕ) (c : VenueView) (v : Venue) (lane : Lane Numbered)
    → FitsVenue window place c v
    → lane ≡ record c.lane {
      sent = c.lane.sent
          ++ drop (place_of v.history.present.packets c.arbiter.sent)
          (stream_of v.history.present.packets);
    } → ShowsLane lane v
shown window place c v lane f is =
    let more = drop (place_of v.history.present.packets c.arbiter.sent)
    (stream_of v.history.present.packets) in
    let whole : lane ≡ record v.lane { sent = v.lane.sent ++ more } = is
    ∙ ap (λ (l : Lane Numbered). record l { sent = l.sent ++ more }) f.lane in
    record {
      consumed = ap (λ (l : Lane Numbered). l.received) whole;
      waiting =
          ap (λ (l : Lane Numbered). inside l) whole
          ∙ drop-append-le (length v.lane.received) v.lane.sent more f.within
          ∙ ap (λ (l : List Numbered). inside v.lane ++ l) (sym rest);
    }
  where
    rest : drop (length v.lane.sent) (streams_of v.history) ≡ drop
        (place_of v.history.present.packets c.arbiter.sent) (stream_of v.history.present.packets)
    rest =
        ap (drop (length v.lane.sent)) (items_push v.history.earlier v.history.present)
        ∙ drop_past (items_of v.history.earlier) (stream_of v.history.present.packets)
        (length v.lane.sent) f.begun
        ∙ ap (λ (n : ℕ). drop n (stream_of v.history.present.packets)) (sym f.sent)

-- one ready item more, and none
next_drop : (xs : List Numbered) (old new : ℕ) (x : Numbered) → Some x ≡ slice_get xs old
    → new ≡ old + 1 → drop old xs ≡ x ∷ drop new xs
next_drop [] old new x e is = absurd cc
next_drop (y ∷ ys) zero zero x e is = absurd (omega arith)
next_drop (y ∷ ys) zero (suc m) x e is = let none : m ≡ 0 = omega arith
    in ap (λ (k : ℕ). y ∷ drop k ys) (sym none)
    ∙ (let same : y ≡ x = cc in ap (λ (z : Numbered). z ∷ drop m ys) same)
next_drop (y ∷ ys) (suc n) zero x e is = absurd (omega arith)
next_drop (y ∷ ys) (suc n) (suc m) x e is = next_drop ys n m x e (omega arith)

pub drain_more : (xs : List Numbered) (old new : ℕ) (lane more all : Lane Numbered) (x : Numbered)
    → Some x ≡ slice_get xs old → new ≡ old + 1 → more ≡ record lane { sent = lane.sent ++ x ∷ [] }
    → record lane { sent = lane.sent ++ drop old xs } ≡ all
    → record more { sent = more.sent ++ drop new xs } ≡ all
drain_more xs old new lane more all x e is grown same =
    ap (λ (l : Lane Numbered). record l { sent = l.sent ++ drop new xs }) grown
    ∙ ap (λ (l : List Numbered). record lane { sent = l }) (append_assoc lane.sent (x ∷ [])
    (drop new xs) ∙ ap (λ (l : List Numbered). lane.sent ++ l) (sym (next_drop xs old new x e is)))
    ∙ same

none_left : (xs : List Numbered) (n : ℕ) → None ≡ slice_get xs n → drop n xs ≡ []
none_left [] zero e = refl
none_left [] (suc n) e = refl
none_left (y ∷ ys) zero e = absurd cc
none_left (y ∷ ys) (suc n) e = none_left ys n e

pub drain_done : (xs : List Numbered) (n : ℕ) (lane all : Lane Numbered) → None ≡ slice_get xs n
    → record lane { sent = lane.sent ++ drop n xs } ≡ all → lane ≡ all
drain_done xs n lane all e same = ap (λ (l : List Numbered). record lane { sent = l })
    (sym (append-nil lane.sent) ∙ ap (λ (l : List Numbered). lane.sent ++ l)
    (sym (none_left xs n e))) ∙ same
