-- A packet that needed no place in the window, and its items emitted one after the other.
use Rattle.std.proofs.Common.{◌≡◌, ℕ, ◌+◌, List, [], ◌∷◌, ◌++◌, length, sym, ap, subst, ◌∙◌}
use Rattle.std.specs.Prelude.{drop, map, Result, Ok, Err, OnOk}
use Rattle.std.proofs.lemmas.List.{map-append}
use Rattle.feed_types.specs.declared.item.Numbered.{Numbered}
use Rattle.feed_types.specs.declared.line.LineId.{LineId}
use Rattle.feed_types.specs.Sessions.{numbered_from}
use Rattle.mold_packet.specs.Content.{Content, last_number}
use Rattle.quote_payload.specs.Payload.{item_of}
use Rattle.line_arbiter.specs.declared.outcome.Outcome.{Outcome}
use Rattle.line_arbiter.specs.Packets.{Input, arrival_of}
use Rattle.line_arbiter.specs.Streams.{place_of, stream_of}
use Rattle.line_arbiter.specs.Histories.{History}
use Rattle.line_arbiter.specs.Outcomes.{IsOutcome}
use Rattle.line_arbiter.specs.States.{State, KeepsItsSession}
use Rattle.line_arbiter.specs.InOrder.{BringsNext, SendsPacket, outcome_of_next}
use Rattle.line_arbiter.specs.Fits.{Fits}
use Rattle.line_arbiter.specs.laws.Placing.{place_same}
use Rattle.feed_text.specs.declared.replay_sink.PublishStop.{PublishStop}
use Rattle.feed_text.specs.ReplayEvents.{ReplayEvent, packet_answered, item_taken}
use Rattle.feed_text.specs.ReplayStates.{SinkTaking, ReplayState, GoesOn, EmitsInto}
use Rattle.feed_text.specs.Following.{ReplayVenue, Follows, SendsReady, EmitsOutcome}
use Rattle.feed_text.proofs.Tales.{SinkLaws, goes_more, tells_more, tells_stop, tells_as}
use Rattle.feed_text.proofs.VenueSteps.{left_ready, outcome_told}

-- the items of a packet from this number on, one by one
pub one_more : (venue n k : ℕ) (m : List ℕ) (now rest : List (List ℕ)) → n + 1 ≡ k → now ≡ m ∷ rest
    → map (item_taken venue) (numbered_from n (map item_of now))
    ≡ (item_taken venue (record { number = n; item = item_of m }) ∷ [])
    ++ map (item_taken venue) (numbered_from k (map item_of rest))
one_more venue n k m now rest e is =
    ap (λ (xs : List (List ℕ)). map (item_taken venue) (numbered_from n (map item_of xs))) is
    ∙ ap (λ (j : ℕ). item_taken venue (record { number = n; item = item_of m })
    ∷ map (item_taken venue) (numbered_from j (map item_of rest))) e

-- the packet, its items and what is ready after them are the stream's
pub passed_all : {K : Type 0} {taking : SinkTaking K} → SinkLaws taking
    → (venue from to : ℕ) (items stream : List Numbered) (answered : ReplayEvent)
    (t0 t1 t2 t3 : ReplayState K) (done : Result (Unit {0}) PublishStop)
    → drop from stream ≡ items ++ drop to stream
    → GoesOn taking t0 (answered ∷ []) t1
    → GoesOn taking t1 (map (item_taken venue) items) t2
    → EmitsInto taking t2 (map (item_taken venue) (drop to stream)) t3 done
    → EmitsInto taking t0 (answered ∷ map (item_taken venue) (drop from stream)) t3 done
passed_all {K} {taking} laws venue from to items stream answered t0 t1 t2 t3 done
    sends head first last =
    tells_as taking t0 t3 done
    (ap (λ (hs : List ReplayEvent). answered ∷ hs)
    (sym (map-append (item_taken venue) items (drop to stream))
    ∙ ap (map (item_taken venue)) (sym sends)))
    (tells_more laws t3 (answered ∷ map (item_taken venue) items)
    (map (item_taken venue) (drop to stream)) done
    (goes_more laws (answered ∷ []) (map (item_taken venue) items) head first) last)

-- a stop within the packet's items
pub passed_part : {K : Type 0} {taking : SinkTaking K} → SinkLaws taking
    → (venue from to : ℕ) (items stream : List Numbered) (answered : ReplayEvent)
    (t0 t1 t2 : ReplayState K) (stop : PublishStop)
    → drop from stream ≡ items ++ drop to stream
    → GoesOn taking t0 (answered ∷ []) t1
    → EmitsInto taking t1 (map (item_taken venue) items) t2 (Err stop)
    → EmitsInto taking t0 (answered ∷ map (item_taken venue) (drop from stream)) t2 (Err stop)
passed_part {K} {taking} laws venue from to items stream answered t0 t1 t2 stop sends head first =
    tells_as taking t0 t2 (Err stop)
    (ap (λ (hs : List ReplayEvent). answered ∷ hs)
    (sym (map-append (item_taken venue) items (drop to stream))
    ∙ ap (map (item_taken venue)) (sym sends)))
    (tells_more laws t2 (answered ∷ []) (map (item_taken venue) items ++ map (item_taken venue)
    (drop to stream)) (Err stop) head
    (tells_stop taking t1 t2 (map (item_taken venue) items)
    (map (item_taken venue) (drop to stream)) stop first))

-- a next packet was taken, and then everything that is ready was emitted
pub passed_told : {K : Type 0} {taking : SinkTaking K}
    → (width place : ℕ) (h : History) (v : ReplayVenue) (mid new : State) (line : LineId)
    (p : Content) (bytes : ℕ) (o : Outcome) (t0 t1 : ReplayState K)
    (done : Result (Unit {0}) PublishStop)
    → Follows width place v h
    → ((packets : List Input) → Fits v.arbiter packets → BringsNext v.arbiter.session
    v.arbiter.window v.arbiter.sent packets line p)
    → o ≡ outcome_of_next p
    → ((packets : List Input) → Fits v.arbiter packets
    → Fits mid (packets ++ arrival_of line p (Ok o) ∷ []))
    → mid.sent ≡ last_number p
    → KeepsItsSession v.arbiter mid
    → ((from : ℕ) (packets : List Input) → Fits mid packets → SendsPacket from mid.sent p packets
    → EmitsInto taking t0 (packet_answered place line p.number (length p.messages) bytes (Ok o)
    ∷ map (item_taken place) (drop (place_of packets from) (stream_of packets))) t1 done)
    → OnOk done (SendsReady mid new)
    → EmitsOutcome taking width place line p bytes h t0 t1 (record {
      arbiter = new;
      sent_before =
          v.sent_before;
      opens_after = v.opens_after;
    }) done
passed_told {K} {taking} width place h v mid new line p bytes o t0 t1 done f brings is fits
    sent kept emits ready =
    let P = h.present.packets in
    let Q = P ++ arrival_of line p (Ok o) ∷ [] in
    let b = brings P f.history.present in
    let there = fits P f.history.present in
    let sends : SendsPacket v.arbiter.sent mid.sent p Q =
    subst (λ (n : ℕ). SendsPacket v.arbiter.sent n p Q) (sym sent)
    (subst (λ (x : Outcome). SendsPacket v.arbiter.sent (last_number p) p (P
    ++ arrival_of line p (Ok x) ∷ [])) (sym is) b.items) in
    let outcome : IsOutcome v.arbiter.session v.arbiter.window v.arbiter.sent P p (Ok o) =
    subst (λ (x : Outcome). IsOutcome v.arbiter.session v.arbiter.window v.arbiter.sent P p (Ok x))
    (sym is) b.answer in
    outcome_told width place h v new line p bytes (Ok o) t0 t1 done f outcome
    (tells_as taking t0 t1 done (ap (λ (n : ℕ). packet_answered place line p.number
    (length p.messages) bytes (Ok o) ∷ map (item_taken place) (drop n (stream_of Q)))
    (place_same P (record { line = line; packet = p; answer = Ok o }) v.arbiter.sent))
    (emits v.arbiter.sent Q there sends))
    (left_ready v Q mid new done there kept ready)
