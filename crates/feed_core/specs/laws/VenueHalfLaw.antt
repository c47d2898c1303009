-- The venue half: what each venue keeps through a run, from the empty world on.
use Rattle.std.proofs.Common.{◌≡◌, ℕ, zero, suc, ◌+◌, ◌<◌, ◌≤◌, List, [], ◌∷◌, ◌++◌, length, map, Some, Result, Ok, Err, refl, sym, ap, subst, ◌∙◌, arith, append_assoc, length-append}
use Rattle.std.specs.Prelude.{◌≢◌, slice_get, Contains}
use Rattle.std.specs.List.{AllByRecursion, AllPairs}
use Rattle.std.proofs.lemmas.List.Elements.{All-contains_itself, Contains-get_or, recursion_from_All}
use Rattle.std.proofs.lemmas.List.Quantifiers.{all_pairs_push}
use Rattle.feed_types.specs.declared.item.Numbered.{Numbered}
use Rattle.feed_types.specs.declared.line.LineId.{LineId}
use Rattle.feed_types.specs.Sessions.{Session}
use Rattle.mold_packet.specs.Content.{Content, Spells}
use Rattle.line_arbiter.specs.declared.outcome.Outcome.{Outcome}
use Rattle.line_arbiter.specs.declared.outcome.LineFault.{LineFault}
use Rattle.line_arbiter.specs.declared.faults.RenewFault.{RenewFault}
use Rattle.line_arbiter.specs.declared.faults.SkipFault.{SkipFault}
use Rattle.line_arbiter.specs.Packets.{Input, Arrived, Skip, arrival_of, end_of}
use Rattle.feed_types.specs.Prefix.{IsPrefix}
use Rattle.line_arbiter.specs.Streams.{IsComplete, closed_of, part_of, stream_of}
use Rattle.line_arbiter.specs.Answered.{IsAnswered, AreAnswered}
use Rattle.line_arbiter.specs.Renewals.{HasEnded}
use Rattle.line_arbiter.specs.Histories.{Begun, History, new_session, after_input, all_begun, items_of, names_of, streams_of}
use Rattle.line_arbiter.specs.OfSession.{IsOfSession, AreOfSession, GivesSession, SkipsWithin, session_parts}
use Rattle.line_arbiter.specs.laws.Histories.{items_push, names_next, names_same}
use Rattle.line_arbiter.specs.laws.Arrivals.{all_map, all_push}
use Rattle.line_arbiter.specs.laws.Below.{answered_grows, all_sent}
use Rattle.line_arbiter.specs.laws.StreamGrowth.{closed_same, closed_skip}
use Rattle.line_arbiter.specs.laws.AnsweredHistories.{IsSessionOver, IsAnsweredThroughout, new_answered, answered_arrival, sessions_in_sequence}
use Rattle.line_arbiter.specs.laws.Giving.{gives_session}
use Rattle.line_arbiter.specs.laws.Fronts.{front_is}
use Rattle.feed_steps.specs.declared.event.Event.{Event}
use Rattle.feed_steps.specs.declared.event.Event.TheVariants as event
use Rattle.feed_steps.specs.declared.event.Done.{Done}
use Rattle.feed_core.specs.Worlds.{Venue, session_count, session_sent, World, Setting, new_venue, new_world}
use Rattle.line_arbiter.specs.Additions.{AddsArrival, AddsRenewal, AddsSkip}
use Rattle.feed_core.specs.Runs.{IsRun}
use Rattle.feed_core.specs.VenueHalf.{BringsOnly, BringOnly, IsAmong, IsBegunAs, AreBegunAs, AreSession, VenueHalf}
use Rattle.feed_steps.specs.SessionParts.{parts_of_sessions}
use Rattle.feed_steps.specs.laws.Counts.{place_back}
use Rattle.feed_steps.specs.laws.Lists.{begins_self, begins_len, begins_all}
use Rattle.feed_core.specs.laws.Lanes.{Serves, serve_in, serve_out, serve_more, serve_all}
use Rattle.feed_core.specs.laws.KeptVenues.{KeepsVenueStep, EachVenue, run_keeps}

-- What a venue keeps: its lane serves its streams, all items of the sessions that are over and of
-- the parts that skips closed were sent, and all that came was answered by the definitions.
pub record ServesItsStreams (window : ℕ) (v : Venue) : Type 0 where
  pub serves : Serves v.lane (streams_of v.history)
  pub begun : length (items_of v.history.earlier) + length (closed_of v.history.present.packets)
      ≤ length v.lane.sent
  pub answered : IsAnsweredThroughout window v.history

grown : (earlier : List Begun) (b c : Begun) → IsPrefix (stream_of b.packets) (stream_of c.packets)
    → IsPrefix (items_of (earlier ++ b ∷ [])) (items_of (earlier ++ c ∷ []))
grown earlier b c g = record {
  rest = g.rest;
  is =
      items_push earlier c ∙ ap (λ (xs : List Numbered). items_of earlier ++ xs) g.is
      ∙ sym (append_assoc (items_of earlier) (stream_of b.packets) g.rest)
      ∙ ap (λ (xs : List Numbered). xs ++ g.rest) (sym (items_push earlier b));
}

-- the present session has ended: all of it came, and all was sent
ended : (window : ℕ) (v : Venue) → ServesItsStreams window v
    → HasEnded (end_of v.history.present.packets) (session_sent v)
    → IsComplete v.history.present.packets × (v.lane.sent ≡ streams_of v.history)
ended window v k has =
    let stream = stream_of v.history.present.packets in
    let items = items_of v.history.earlier in
    let from = k.begun in
    let to = begins_len k.serves.sent in
    let all : length (streams_of v.history) ≡ length items + length stream =
    ap length (items_push v.history.earlier v.history.present) ∙ length-append items stream in
    let back = place_back v.history.present.packets (session_count v) (omega arith) in
    let sent =
    all_sent v.history.present.name window (session_sent v) v.history.present.packets
    k.answered.answered (omega (arith, back)) has in
    let whole = sent.1 in
    (sent.0, begins_all k.serves.sent (omega (arith, back)))

renewed : (window : ℕ) (v : Venue) (name : List ℕ) (answer : Result ℕ RenewFault) (h : History)
    → AddsRenewal (session_sent v) name v.history answer h → ServesItsStreams window v
    → ServesItsStreams window (record v { history = h })
renewed window v name (Err fault) h r k =
    subst (λ (x : History). ServesItsStreams window (record v { history = x })) (sym r.is) k
renewed window v name (Ok ordinal) h r k =
    let e = ended window v k r.right.0 in
    let next : History = record { earlier = all_begun v.history; present = new_session name } in
    subst (λ (x : History). ServesItsStreams window (record v { history = x })) (sym r.is) (record {
      serves =
          serve_more v.lane (streams_of v.history) (streams_of next)
          (record { rest = []; is = items_push (all_begun v.history) (new_session name) }) k.serves;
      begun = (let all = ap length e.1 in omega arith);
      answered = record {
        over = all_push (IsSessionOver window) v.history.earlier v.history.present k.answered.over
            (record { answered = k.answered.answered; complete = e.0 });
        answered = tt;
      };
    })

arrived : (window : ℕ) (v : Venue) (line : LineId) (bytes : List ℕ) (p : Content) (rest : List ℕ)
    (answer : Result Outcome LineFault) (h : History) → Spells bytes p rest
    → AddsArrival window (session_sent v) line p v.history answer h → ServesItsStreams window v
    → ServesItsStreams window (record v { history = h })
arrived window v line bytes p rest answer h spells taken k =
    let a : Input = arrival_of line p answer in
    let b : Begun = v.history.present in
    let one : IsAnswered b.name window b.packets a =
    record { content = spells.content; sent = session_sent v; outcome = taken.right } in
    subst (λ (x : History). ServesItsStreams window (record v { history = x }))
    (sym taken.is) (record {
      serves =
          serve_more v.lane (streams_of v.history) _
          (grown v.history.earlier b (record b { packets = b.packets ++ a ∷ [] })
          (answered_grows b.name window b.packets a k.answered.answered one)) k.serves;
      begun =
          (let closed = ap length (closed_same b.packets (record {
            line = line;
            packet = p;
            answer = answer;
          })) in
          let before = k.begun in
          omega arith);
      answered = answered_arrival window v.history k.answered a one;
    })

skipped : (window : ℕ) (v : Venue) (number : ℕ) (answer : Result (Unit {0}) SkipFault) (h : History)
    → AddsSkip (session_sent v) number v.history answer h → ServesItsStreams window v
    → ServesItsStreams window (record v { history = h })
skipped window v number (Err fault) h r k =
    subst (λ (x : History). ServesItsStreams window (record v { history = x })) (sym r.is) k
skipped window v number (Ok _) h r k =
    let b : Begun = v.history.present in
    let next : Begun = record b { packets = b.packets ++ Skip number ∷ [] } in
    let all = r.right.0 in
    let before = k.begun in
    let closed = ap length (closed_skip b.packets number) in
    let stream = length-append (closed_of b.packets) (part_of b.packets) in
    subst (λ (x : History). ServesItsStreams window (record v { history = x })) (sym r.is) (record {
      serves =
          serve_more v.lane (streams_of v.history) _
          (grown v.history.earlier b next
          (answered_grows b.name window b.packets (Skip number) k.answered.answered r.right.1))
          k.serves;
      begun = omega arith;
      answered = answered_arrival window v.history k.answered (Skip number) r.right.1;
    })

pub moves : (s : Setting)
    → KeepsVenueStep s (λ e. Unit {0}) (λ place v. ServesItsStreams s.window v)
moves s = record {
  packet =
      λ place v line bytes p rest answer h may spells taken k. arrived s.window v line bytes.now p
      rest answer h spells taken k;
  renew = λ place v name answer h r k. renewed s.window v name answer h r k;
  skip = λ place v number answer h may r k. skipped s.window v number answer h r k;
  push =
      λ place v x e k. record {
        serves =
            serve_in v.lane (streams_of v.history) x k.serves e;
        begun = (let before = k.begun in let more = length-append v.lane.sent (x ∷ [])
            in omega arith);
        answered = k.answered;
      };
  consume =
      λ place v x e k. record {
        serves =
            serve_out v.lane (streams_of v.history) x k.serves e;
        begun = k.begun;
        answered =
            k.answered;
      };
}

pub new_kept : (window : ℕ) (session : List ℕ) → ServesItsStreams window (new_venue session)
new_kept window session =
    record {
      serves = record { sent = record { rest = []; is = refl }; received = begins_self [] };
      begun = omega arith;
      answered = new_answered window session;
    }

pub new_at : (Q : ℕ → Venue → Type 0) (sessions : List (List ℕ))
    → ((i : ℕ) (name : List ℕ) → Q i (new_venue name)) → (i : ℕ) (v : Venue)
    → slice_get (map new_venue sessions) i ≡ Some v → Q i v
new_at Q [] f i v e = absurd cc
new_at Q (name ∷ names) f zero v e =
    subst (Q 0) (let same : new_venue name ≡ v = cc in same) (f 0 name)
new_at Q (name ∷ names) f (suc i) v e = new_at (λ j. Q (suc j)) names (λ j n. f (suc j) n) i v e

pub none_asked : (events : List Event) → AllByRecursion (λ e. Unit {0}) events
none_asked [] = tt
none_asked (e ∷ es) = (tt, none_asked es)

pub kept_through : (s : Setting) (events : List Event) (ds : List Done) (w : World)
    → IsRun s (new_world s) events ds w → EachVenue (λ place v. ServesItsStreams s.window v) w
kept_through s events ds w run =
    run_keeps s (λ e. Unit {0}) (λ place v. ServesItsStreams s.window v) (moves s)
    (new_world s) events ds w
    (none_asked events) (new_at (λ place v. ServesItsStreams s.window v) s.sessions
    (λ i name. new_kept s.window name)) run

-- ---- with a session

-- of what came, each packet of the session's name is of it
IsArrivalOf : Session → Input → Type 0
IsArrivalOf s (Arrived a) = a.packet.session ≡ s.name → IsOfSession s a.packet
IsArrivalOf s (Skip n) = Unit {0}

record IsOnly (s : Session) (h : History) : Type 0 where
  pub earlier : AllByRecursion (λ b. AllByRecursion (IsArrivalOf s) b.packets) h.earlier
  pub present : AllByRecursion (IsArrivalOf s) h.present.packets

-- with skips that go on within the session, it is all of the session
of_session : (s : Session) (packets : List Input) → AllByRecursion (IsArrivalOf s) packets
    → AllByRecursion (SkipsWithin s) packets → AreOfSession s packets
unfolding IsArrivalOf
of_session s [] only within = tt
of_session s (Arrived a ∷ packets) only within =
    (only.0, of_session s packets only.1 within.1)
of_session s (Skip n ∷ packets) only within =
    (within.0, of_session s packets only.1 within.1)

module _ (setting : Setting) (at : ℕ) (s : Session) where
  taken_only : (window sent : ℕ) (line : LineId) (p : Content) (old : History)
      (answer : Result Outcome LineFault) (new : History) → (p.session ≡ s.name → IsOfSession s p)
      → AddsArrival window sent line p old answer new → IsOnly s old → IsOnly s new
  unfolding IsArrivalOf
  taken_only window sent line p old answer new may taken k =
      subst (IsOnly s) (sym taken.is)
      (record {
        earlier = k.earlier;
        present =
            all_push (IsArrivalOf s) old.present.packets (arrival_of line p answer) k.present may;
      })

  renewed_only : (sent : ℕ) (name : List ℕ) (old : History) (answer : Result ℕ RenewFault)
      (new : History) → AddsRenewal sent name old answer new → IsOnly s old → IsOnly s new
  renewed_only sent name old (Ok ordinal) new r k =
      subst (IsOnly s) (sym r.is)
      (record {
        earlier =
            all_push (λ b. AllByRecursion (IsArrivalOf s) b.packets)
            old.earlier old.present k.earlier
            k.present;
        present = tt;
      })
  renewed_only sent name old (Err fault) new r k = subst (IsOnly s) (sym r.is) k

  skipped_only : (sent number : ℕ) (old : History) (answer : Result (Unit {0}) SkipFault)
      (new : History) → AddsSkip sent number old answer new → IsOnly s old → IsOnly s new
  unfolding IsArrivalOf
  skipped_only sent number old (Ok _) new r k =
      subst (IsOnly s) (sym r.is)
      (record {
        earlier = k.earlier;
        present = all_push (IsArrivalOf s) old.present.packets (Skip number) k.present tt;
      })
  skipped_only sent number old (Err fault) new r k = subst (IsOnly s) (sym r.is) k

  only_moves : KeepsVenueStep setting (BringsOnly at s) (λ place v. place ≡ at → IsOnly s v.history)
  only_moves = record {
    packet =
        λ place v line bytes p rest answer h may spells taken k here. taken_only setting.window
        (session_sent v) line p v.history answer h (may here p rest spells) taken (k here);
    renew =
        λ place v name answer h r k here. renewed_only (session_sent v) name v.history answer h r
        (k here);
    skip =
        λ place v number answer h may r k here. skipped_only (session_sent v)
        number v.history answer
        h r (k here);
    push = λ place v x e k. k;
    consume = λ place v x e k. k;
  }

  only_through : (events : List Event) (ds : List Done) (w : World) → BringOnly at events s
      → IsRun setting (new_world setting) events ds w → (v : Venue) → slice_get w.venues at ≡ Some v
      → IsOnly s v.history
  only_through events ds w may run v there =
      run_keeps setting (BringsOnly at s) (λ place v. place ≡ at → IsOnly s v.history) only_moves
      (new_world setting) events ds w may
      (new_at (λ place v. place ≡ at → IsOnly s v.history) setting.sessions
      (λ i name here. record { earlier = tt; present = tt })) run at v there refl

gives : (window : ℕ) (s : Session) (b : Begun) → AreAnswered b.name window b.packets
    → AllByRecursion (IsArrivalOf s) b.packets → IsBegunAs s b → GivesSession s b.packets
gives window s b answered only named =
    gives_session s window b.packets
    (subst (λ (n : List ℕ). AreAnswered n window b.packets) named.name answered)
    (of_session s b.packets only named.within)

are_session : (window : ℕ) (s : Session) (v : Venue)
    → ServesItsStreams window v → IsOnly s v.history
    → AreSession s v.history
are_session window s v k only =
    all_push (λ b. IsBegunAs s b → GivesSession s b.packets) v.history.earlier v.history.present
    (each v.history.earlier k.answered.over only.earlier)
    (λ named. gives window s v.history.present k.answered.answered only.present named)
  where
    each : (bs : List Begun) → AllByRecursion (IsSessionOver window) bs
        → AllByRecursion (λ b. AllByRecursion (IsArrivalOf s) b.packets) bs
        → AllByRecursion (λ b. IsBegunAs s b → GivesSession s b.packets) bs
    each [] over all = tt
    each (b ∷ bs) over all =
        (λ named. gives window s b over.0.answered all.0 named, each bs over.1 all.1)

-- ---- session by session

-- what is known of a session that was brought: what came under its name is its parts
Known : Session → List Begun → Type 0
Known s bs = AllByRecursion (λ b. IsBegunAs s b → stream_of b.packets ≡ session_parts s b.packets)
    bs

by_session : (Brought : Session → Type 0) (ss : List Session) (bs : List Begun)
    → ((s : Session) → Brought s → Known s bs) → AreBegunAs ss bs → AllByRecursion Brought ss
    → items_of bs ≡ parts_of_sessions ss bs
unfolding Known
by_session Brought [] [] known named all = refl
by_session Brought [] (b ∷ bs) known named all = absurd named
by_session Brought (s ∷ ss) [] known named all = absurd named
by_session Brought (s ∷ ss) (b ∷ bs) known named all =
    ap (λ (xs : List Numbered). xs ++ items_of bs) ((known s all.0).0 named.0)
    ∙ ap (λ (xs : List Numbered). session_parts s b.packets ++ xs)
    (by_session Brought ss bs (λ u h. (known u h).1) named.1 all.1)

known_of : (s : Session) (h : History) → AreSession s h → Known s (all_begun h)
unfolding Known
known_of s h are =
    all_map (λ (b : Begun) (gives : IsBegunAs s b → GivesSession s b.packets).
    λ named. (gives named).stream) (all_begun h) are

-- ---- what was given up

-- each skip of the venue is one of the events
record AreAmong (events : List Event) (place : ℕ) (h : History) : Type 0 where
  pub earlier : AllByRecursion (λ b. AllByRecursion (IsAmong events place) b.packets) h.earlier
  pub present : AllByRecursion (IsAmong events place) h.present.packets

module _ (events : List Event) (place : ℕ) where
  among_more : (old : History) (x : Input) → IsAmong events place x → AreAmong events place old
      → AreAmong events place (after_input old x)
  among_more old x one k = record {
    earlier = k.earlier;
    present = all_push (IsAmong events place) old.present.packets x k.present one;
  }

  among_renewed : (sent : ℕ) (name : List ℕ) (old : History) (answer : Result ℕ RenewFault)
      (new : History) → AddsRenewal sent name old answer new → AreAmong events place old
      → AreAmong events place new
  among_renewed sent name old (Ok ordinal) new r k =
      subst (AreAmong events place) (sym r.is) (record {
        earlier =
            all_push (λ b. AllByRecursion (IsAmong events place) b.packets) old.earlier old.present
            k.earlier k.present;
        present = tt;
      })
  among_renewed sent name old (Err fault) new r k = subst (AreAmong events place) (sym r.is) k

  among_skipped : (sent number : ℕ) (old : History) (answer : Result (Unit {0}) SkipFault)
      (new : History) → Contains events (event.Skip place number)
      → AddsSkip sent number old answer new → AreAmong events place old → AreAmong events place new
  among_skipped sent number old (Ok _) new is r k =
      subst (AreAmong events place) (sym r.is) (among_more old (Skip number) is k)
  among_skipped sent number old (Err fault) new is r k =
      subst (AreAmong events place) (sym r.is) k

among_moves : (s : Setting) (events : List Event)
    → KeepsVenueStep s (Contains events) (λ place v. AreAmong events place v.history)
among_moves s events = record {
  packet = λ place v line bytes p rest answer h may spells taken k.
      subst (AreAmong events place) (sym taken.is)
      (among_more events place v.history (arrival_of line p answer) tt k);
  renew = λ place v name answer h r k.
      among_renewed events place (session_sent v) name v.history answer h r k;
  skip = λ place v number answer h may r k.
      among_skipped events place (session_sent v) number v.history answer h may r k;
  push = λ place v x e k. k;
  consume = λ place v x e k. k;
}

among_through : (s : Setting) (events : List Event) (ds : List Done) (w : World)
    → IsRun s (new_world s) events ds w
    → EachVenue (λ place v. AreAmong events place v.history) w
among_through s events ds w run =
    run_keeps s (Contains events) (λ place v. AreAmong events place v.history)
    (among_moves s events)
    (new_world s) events ds w
    (recursion_from_All (Contains events) events (All-contains_itself events))
    (new_at (λ place v. AreAmong events place v.history) s.sessions
    (λ i name. record { earlier = tt; present = tt })) run

-- ---- the sessions' names

abbrev AreDistinct : History → Type 0
AreDistinct h = AllPairs (λ x y. x ≢ y) (names_of h)

distinct_renewed : (sent : ℕ) (name : List ℕ) (old : History) (answer : Result ℕ RenewFault)
    (new : History) → AddsRenewal sent name old answer new → AreDistinct old → AreDistinct new
distinct_renewed sent name old (Ok ordinal) new r k =
    let names = names_of old in
    subst (λ (x : History). AreDistinct x) (sym r.is)
    (subst (λ (xs : List (List ℕ)). AllPairs (λ x y. x ≢ y) xs) (sym (names_next old name))
    (all_pairs_push (λ x y. x ≢ y) names name k (λ j d within same.
    r.right.1 (subst (λ (x : List ℕ). Contains names x) same
    (Contains-get_or names j d within)))))
distinct_renewed sent name old (Err fault) new r k =
    subst (λ (x : History). AreDistinct x) (sym r.is) k

distinct_more : (old : History) (x : Input) → AreDistinct old → AreDistinct (after_input old x)
distinct_more old x k =
    subst (λ (xs : List (List ℕ)). AllPairs (λ x y. x ≢ y) xs) (names_same old x) k

distinct_skipped : (sent number : ℕ) (old : History) (answer : Result (Unit {0}) SkipFault)
    (new : History) → AddsSkip sent number old answer new → AreDistinct old → AreDistinct new
distinct_skipped sent number old (Ok _) new r k =
    subst (λ (x : History). AreDistinct x) (sym r.is) (distinct_more old (Skip number) k)
distinct_skipped sent number old (Err fault) new r k =
    subst (λ (x : History). AreDistinct x) (sym r.is) k

distinct_moves : (s : Setting)
    → KeepsVenueStep s (λ e. Unit {0}) (λ place v. AreDistinct v.history)
distinct_moves s = record {
  packet = λ place v line bytes p rest answer h may spells taken k.
      subst (λ (x : History). AreDistinct x) (sym taken.is)
      (distinct_more v.history (arrival_of line p answer) k);
  renew = λ place v name answer h r k.
      distinct_renewed (session_sent v) name v.history answer h r k;
  skip = λ place v number answer h may r k.
      distinct_skipped (session_sent v) number v.history answer h r k;
  push = λ place v x e k. k;
  consume = λ place v x e k. k;
}

distinct_through : (s : Setting) (events : List Event) (ds : List Done) (w : World)
    → IsRun s (new_world s) events ds w → EachVenue (λ place v. AreDistinct v.history) w
distinct_through s events ds w run =
    run_keeps s (λ e. Unit {0}) (λ place v. AreDistinct v.history) (distinct_moves s)
    (new_world s) events ds w (none_asked events)
    (new_at (λ place v. AreDistinct v.history) s.sessions
    (λ i name j k d before within. let one : k < 1 = within in absurd (omega arith))) run

-- ---- the half

pub venue_half : (s : Setting) (events : List Event) (ds : List Done) (w : World)
    → IsRun s (new_world s) events ds w → (place : ℕ) (v : Venue)
    → slice_get w.venues place ≡ Some v → VenueHalf events place v
venue_half s events ds w run place v at =
    let k = kept_through s events ds w run place v at in
    let items = serve_all v.lane (streams_of v.history) k.serves in
    let among = among_through s events ds w run place v at in
    let are : (t : Session) → BringOnly place events t → AreSession t v.history =
    λ t may. are_session s.window t v k (only_through s place t events ds w may run v at) in
    record {
      items = items;
      sequence =
          sessions_in_sequence s.window v.history k.answered
          (distinct_through s events ds w run place v at);
      skips =
          all_push (λ b. AllByRecursion (IsAmong events place) b.packets) v.history.earlier
          v.history.present among.earlier among.present;
      session = are;
      sessions = λ began named all. items
          ∙ by_session (BringOnly place events) began (all_begun v.history)
          (λ t may. known_of t v.history (are t may)) named all;
      taken = (front_is v.history.present.packets).all;
      gap = (front_is v.history.present.packets).next;
    }
