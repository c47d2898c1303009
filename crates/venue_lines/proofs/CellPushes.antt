-- What a push leaves of a venue's cell, alone and of a packet whose message is the next item.
use Rattle.std.proofs.Common.{◌≡◌, ℕ, zero, suc, ◌+◌, ◌≤◌, Option, List, [], ◌∷◌, ◌++◌, length, map, take, drop, Some, None, Ok, Err, refl, sym, ap, subst, ◌∙◌, arith, append_assoc, length-append}
use Rattle.std.specs.Prelude.{◌-◌, slice_get}
use Rattle.std.proofs.lemmas.List.{take-append-drop}
use Rattle.feed_types.specs.declared.item.Numbered.{Numbered}
use Rattle.feed_types.specs.declared.line.LineId.{LineId}
use Rattle.feed_types.specs.Prefix.{IsPrefix}
use Rattle.feed_types.specs.SequenceLaws.{prefix_in_sequence}
use Rattle.mold_packet.specs.Content.{Content, last_number}
use Rattle.line_arbiter.specs.declared.outcome.Outcome.{Outcome}
use Rattle.line_arbiter.specs.declared.outcome.Outcome.TheVariants.{Taken}
use Rattle.line_arbiter.specs.Packets.{Input, arrival_of}
use Rattle.line_arbiter.specs.Streams.{closed_of, end_at, front_of, part_of, place_of, stream_of}
use Rattle.line_arbiter.specs.laws.Lengths.{length-stream}
use Rattle.std.proofs.lemmas.Option.{slice_get_past}
use Rattle.line_arbiter.specs.Outcomes.{IsOutcome}
use Rattle.line_arbiter.specs.InOrder.{BringsNext, IsNext, outcome_of_next}
use Rattle.feed_types.specs.declared.item.Item.{Item}
use Rattle.feed_types.specs.Sessions.{numbered_from}
use Rattle.quote_payload.specs.Payload.{item_of}
use Rattle.line_arbiter.specs.Histories.{History, items_of, streams_of, after_input}
use Rattle.line_arbiter.specs.States.{State, KeepsItsSession, IsAdvanced}
use Rattle.line_arbiter.specs.Fits.{Fits}
use Rattle.fifo_lane.specs.Lane.{LaneEnd, with_items, HasFilled}
use Rattle.line_arbiter.specs.laws.Histories.{items_push}
use Rattle.line_arbiter.specs.laws.FitsHistory.{fits_packet, fits_push, outcome_in}
use Rattle.line_arbiter.specs.laws.Placing.{place_next, place_same, place_within}
use Rattle.feed_types.specs.declared.genuine.Genuine.{Ghosts as Genuine}
use Rattle.feed_steps.specs.Premises.{AreInSequence}
use Rattle.feed_steps.specs.Lanes.{FeedLanes}
use Rattle.feed_types.specs.declared.per_line.PerLine.{PerLine}
use Rattle.feed_types.specs.PerLines.{on_line}
use Rattle.venue_lines.specs.Brought.{Brought, brought_after}
use Rattle.venue_lines.specs.Cells.{CellState, CellFitsHistory, AreGivenFrom, VenueLockInvariant}
use Rattle.venue_lines.specs.Sections.{TakesPacket, TakesAndPushes, PushesOne}
use Rattle.feed_steps.specs.declared.unsent.Unsent.TheVariants as unsent
use Rattle.feed_steps.specs.laws.Lists.{take_same}
use Rattle.venue_lines.proofs.Histories.{take_next, get_sent}
use Rattle.venue_lines.specs.laws.Given.{streams_sequence}
use Rattle.venue_lines.proofs.CellPackets.{accepted_more, came, takes}

-- ---- a push

-- the items that were sent are a prefix of the streams
module _ (items : List Numbered) (sent : ℕ) (h : History)
    (is : items ≡ items_of h.earlier ++ take sent (stream_of h.present.packets)) where
  -- the next item of all streams is that of the present one
  pub next_is : sent ≤ length (stream_of h.present.packets)
      → slice_get (streams_of h) (length items) ≡ slice_get (stream_of h.present.packets) sent
  next_is le =
      ap (λ (xs : List Numbered). slice_get xs (length items)) (items_push h.earlier h.present)
      ∙ get_sent (items_of h.earlier) (stream_of h.present.packets) items sent is le

  sent_more : (x : Numbered) (n : ℕ) → n ≡ sent + 1
      → Some x ≡ slice_get (stream_of h.present.packets) sent
      → items ++ x ∷ [] ≡ items_of h.earlier ++ take n (stream_of h.present.packets)
  sent_more x n one e =
      ap (λ (xs : List Numbered). xs ++ x ∷ []) is
      ∙ append_assoc (items_of h.earlier) (take sent (stream_of h.present.packets)) (x ∷ [])
      ∙ ap (λ (xs : List Numbered). items_of h.earlier ++ xs)
      (sym (take_next (stream_of h.present.packets) sent n x one e))

  -- it may be sent
  pub may_push : {S : Type 0} (premise : Genuine S) (venue window : ℕ) (x : Numbered)
      → AreGivenFrom premise venue window 1 h.earlier h.present
      → Some x ≡ slice_get (stream_of h.present.packets) sent
      → AreInSequence premise venue (items ++ x ∷ [])
  may_push premise venue window x given e =
      let stream = stream_of h.present.packets in
      let n = sent + 1 in
      let whole : streams_of h ≡ (items_of h.earlier ++ take n stream) ++ drop n stream =
      items_push h.earlier h.present ∙ ap (λ (xs : List Numbered). items_of h.earlier ++ xs)
      (sym (take-append-drop n stream))
      ∙ sym (append_assoc (items_of h.earlier) (take n stream) (drop n stream)) in
      let all : AreInSequence premise venue ((items_of h.earlier ++ take n stream)
      ++ drop n stream) =
      subst (λ (xs : List Numbered). AreInSequence premise venue xs) whole
      (streams_sequence premise venue window h given) in
      subst (λ (xs : List Numbered). AreInSequence premise venue xs) (sym (sent_more x n refl e))
      (prefix_in_sequence premise.carries premise.ends venue (items_of h.earlier
      ++ take n stream) (drop n stream)
      all)

module _ (c : CellState) (h : History) (f : CellFitsHistory c h) where
  abbrev place : ℕ
  place = place_of h.present.packets c.arbiter.sent

  pub next_of_cell : slice_get (streams_of h) (length c.lane.items) ≡ slice_get
      (stream_of h.present.packets) place
  next_of_cell = next_is c.lane.items place h f.sent (place_within f.history.present)

  pub push_fits : (new : CellState) (x : Numbered)
      → Some x ≡ slice_get (stream_of h.present.packets) place
      → new.lane ≡ with_items c.lane (c.lane.items ++ x ∷ []) → new.brought ≡ c.brought
      → IsAdvanced c.arbiter new.arbiter → Fits new.arbiter h.present.packets
      → CellFitsHistory new h
  push_fits new x e lane brought advanced fits = record {
    history = fits_push h f.history advanced.kept fits;
    sent = ap (λ (e : LaneEnd Numbered). e.items) lane
        ∙ sent_more c.lane.items place h f.sent x (place_of h.present.packets new.arbiter.sent)
        (ap (place_of h.present.packets) advanced.sent ∙ place_next f.history.present) e;
    accepted = λ l. ap (λ (b : PerLine Brought). (on_line l b).accepted) brought ∙ f.accepted l;
  }

  pub pushes : (new : CellState) (x : Numbered) (number : ℕ)
      → Some x ≡ slice_get (stream_of h.present.packets) place → number ≡ x.number
      → new.lane ≡ with_items c.lane (c.lane.items ++ x ∷ []) → CellFitsHistory new h
      → PushesOne (Ok number) h c new
  pushes new x number e is lane fits = record {
    full = λ t. absurd cc;
    comes = rw (next_of_cell, ← e, is) (refl, ap (λ (e : LaneEnd Numbered). e.items) lane);
    fits = fits;
  }

  pub push_nothing : None ≡ slice_get (stream_of h.present.packets) place
      → PushesOne (Err unsent.Nothing) h c c
  push_nothing e = record {
    full = λ t. absurd cc;
    comes = rw (next_of_cell, ← e) (refl, refl);
    fits = f;
  }

  pub push_full : (x : Numbered)
      → Some x ≡ slice_get (stream_of h.present.packets) place → HasFilled c.lane
      → PushesOne (Err unsent.LaneFull) h c c
  push_full x e was = record {
    full = λ t. was;
    comes = rw (next_of_cell, ← e) (refl, refl);
    fits = f;
  }

  -- where all that is in sequence was sent and no end is announced, nothing is ready
  pub nothing_next : c.arbiter.front ≤ c.arbiter.sent → c.arbiter.end ≡ None
      → slice_get (streams_of h) (length c.lane.items) ≡ None
  nothing_next whole unended =
      let present = f.history.present in
      let packets = h.present.packets in
      let ending = ap (λ (e : Option ℕ). length (end_at e (front_of packets + 1)))
      (sym present.end ∙ unended) in
      next_of_cell ∙ slice_get_past (stream_of packets) place (omega (
        arith,
        length-append (closed_of packets) (part_of packets),
        length-stream packets (front_of packets),
        ending,
        present.front,
        whole,
      ))

pub push_kept : {S : Type 0} (premise : Genuine S) (lanes : FeedLanes)
    (old new : CellState) (x : Numbered)
    (k : VenueLockInvariant premise lanes old)
    → new.lane ≡ with_items old.lane (old.lane.items ++ x ∷ []) → IsAdvanced old.arbiter new.arbiter
    → CellFitsHistory new k.history → VenueLockInvariant premise lanes new
push_kept premise lanes old new x k lane advanced fits =
    let kept = advanced.kept.session in
    record {
      history = k.history;
      fits = fits;
      given = subst (λ (x : ℕ × ℕ). AreGivenFrom premise x.0 x.1 1
          k.history.earlier k.history.present)
          (λ i. (sym kept.venue i, sym kept.window i)) k.given;
      named = subst (λ (x : ℕ × (List (List ℕ) × List ℕ)). premise.sessions
          x.0 (length x.1.0) x.1.1)
          (λ i. (sym kept.venue i, (sym kept.sessions i, sym kept.session i))) k.named;
      tag = ap (λ (e : LaneEnd Numbered). e.tag) lane ∙ k.tag ∙ sym kept.venue;
      lane = ap (slice_get lanes.venues) kept.venue ∙ k.lane
          ∙ ap (λ (e : LaneEnd Numbered). Some e.lane) (sym lane);
      window = kept.window ∙ k.window;
      capacity = ap (λ (e : LaneEnd Numbered). e.capacity) lane ∙ k.capacity;
    }

-- ---- a packet whose message is the next item, and its push

-- What such a packet brings: it is answered as new, the stream stays as it is up to there, and its
-- item is there.
pub record BringsOne (session : List ℕ) (window sent : ℕ) (packets : List Input)
    (line : LineId) (p : Content)
    (x : Numbered) : Type 0 where
  pub answer : IsOutcome session window sent packets p (Ok (Taken 1 0))
  pub grows : IsPrefix (stream_of packets) (stream_of (packets ++ arrival_of line p (Ok (Taken 1 0))
      ∷ []))
  pub item : Some x ≡ slice_get (stream_of (packets ++ arrival_of line p (Ok (Taken 1 0)) ∷ []))
      (place_of (packets ++ arrival_of line p (Ok (Taken 1 0)) ∷ []) sent)

get_drop : {X : Type 0} (n : ℕ) (xs ys : List X) (x : X) → drop n xs ≡ x ∷ ys
    → Some x ≡ slice_get xs n
get_drop zero [] ys x e = absurd cc
get_drop zero (z ∷ zs) ys x e = cc
get_drop (suc n) [] ys x e = absurd cc
get_drop (suc n) (z ∷ zs) ys x e = get_drop n zs ys x e

pub has_one : (n : ℕ) (x : Numbered) (ms : List (List ℕ)) → x
    ∷ [] ≡ numbered_from n (map item_of ms) → length ms ≡ 1
has_one n x [] e = absurd cc
has_one n x (m ∷ []) e = refl
has_one n x (m ∷ k ∷ ms) e = absurd cc

pub first_number : (n : ℕ) (x : Numbered) (xs : List Item) → x
    ∷ [] ≡ numbered_from n xs → x.number ≡ n
first_number n x [] e = absurd cc
first_number n x (y ∷ ys) e = cc

module _ (s : State) (packets : List Input) (p : Content) (x : Numbered)
    (item : x ∷ [] ≡ numbered_from p.number (map item_of p.messages)) where
  one_message : length p.messages ≡ 1
  one_message = has_one p.number x p.messages item

  pub brings_one : (line : LineId) → BringsNext s.session s.window s.sent packets line p
      → BringsOne s.session s.window s.sent packets line p x
  brings_one line b =
      let one = one_message in
      let added : ℕ → List Input = λ n. packets ++ arrival_of line p (Ok (Taken n 0)) ∷ [] in
      let all = added (length p.messages) in
      let rest = drop (place_of all (last_number p)) (stream_of all) in
      record {
        answer = subst (λ (n : ℕ). IsOutcome s.session s.window s.sent packets p (Ok (Taken n 0)))
            one b.answer;
        grows = subst (λ (n : ℕ). IsPrefix (stream_of packets) (stream_of (added n))) one b.grows;
        item = subst (λ (n : ℕ). Some x ≡ slice_get (stream_of (added n))
            (place_of (added n) s.sent)) one
            (get_drop (place_of all s.sent) (stream_of all) rest x
            (b.items ∙ ap (λ (xs : List Numbered). xs ++ rest) (sym item)));
      }

  pub taken_one : (o : Outcome) → o ≡ outcome_of_next p → o ≡ Taken 1 0
  taken_one o e = e ∙ ap (λ (n : ℕ). Taken n 0) one_message

  pub sent_one : (to : ℕ) → IsNext s p → to ≡ last_number p → to ≡ s.sent + 1
  sent_one to next e =
      let first = next.first in
      let one = one_message in
      omega arith

module _ (old : CellState) (h : History) (line : LineId) (p : Content) (x : Numbered)
    (f : CellFitsHistory old h)
    (brings : BringsOne old.arbiter.session old.arbiter.window old.arbiter.sent
    h.present.packets line p x) where
  abbrev passed : Input
  passed = arrival_of line p (Ok (Taken 1 0))

  abbrev packets : List Input
  packets = h.present.packets ++ passed ∷ []

  abbrev more : List Numbered
  more = stream_of packets

  -- the packet moves no place
  places_stay : (n : ℕ) → place_of packets n ≡ place_of h.present.packets n
  places_stay n = place_same h.present.packets (came line p (Ok (Taken 1 0))) n

  next_place : place_of packets (old.arbiter.sent + 1) ≡ place_of packets old.arbiter.sent + 1
  next_place = places_stay (old.arbiter.sent + 1) ∙ place_next f.history.present
      ∙ ap (λ (n : ℕ). n + 1) (sym (places_stay old.arbiter.sent))

  -- the items that were sent are a prefix with the packet, too
  sent_before : old.lane.items ≡ items_of h.earlier ++ take (place_of packets old.arbiter.sent) more
  sent_before = f.sent ∙ ap (λ (xs : List Numbered). items_of h.earlier ++ xs)
      (sym (take_same (stream_of h.present.packets) more (place_of h.present.packets
      old.arbiter.sent) brings.grows
      (place_within f.history.present))
      ∙ ap (λ (n : ℕ). take n more) (sym (places_stay old.arbiter.sent)))

  is_there : place_of packets old.arbiter.sent ≤ length more
  is_there =
      let le = place_within f.history.present in
      let stay = places_stay old.arbiter.sent in
      let e : length more ≡ length (stream_of h.present.packets) + length brings.grows.rest =
      ap length brings.grows.is
      ∙ length-append (stream_of h.present.packets) brings.grows.rest in
      omega arith

  pub may_pass : {S : Type 0} (premise : Genuine S) (venue window : ℕ)
      → AreGivenFrom premise venue window 1 h.earlier (after_input h passed).present
      → AreInSequence premise venue (old.lane.items ++ x ∷ [])
  may_pass premise venue window given = may_push old.lane.items (place_of packets old.arbiter.sent)
      (after_input h passed) sent_before premise venue window x given brings.item

  module _ (new : CellState) (outcome : Outcome) (one : outcome ≡ Taken 1 0)
      (lane : new.lane ≡ with_items old.lane (old.lane.items ++ x ∷ []))
      (sent : new.arbiter.sent ≡ old.arbiter.sent + 1)
      (kept : KeepsItsSession old.arbiter new.arbiter)
      (fits : Fits new.arbiter (h.present.packets ++ arrival_of line p (Ok outcome) ∷ []))
      (brought : new.brought ≡ brought_after line p (Ok outcome) old.brought) where
    pub pass_fits : CellFitsHistory new (after_input h passed)
    pass_fits = record {
      history = fits_packet h passed f.history kept (subst
          (λ (o : Outcome). Fits new.arbiter (h.present.packets ++ arrival_of line p (Ok o) ∷ []))
          one fits);
      sent = ap (λ (e : LaneEnd Numbered). e.items) lane
          ∙ sent_more old.lane.items (place_of packets old.arbiter.sent)
          (after_input h passed) sent_before x
          (place_of packets new.arbiter.sent) (ap (place_of packets) sent ∙ next_place) brings.item;
      accepted = accepted_more old new.brought h line p (Ok (Taken 1 0)) f
          (subst (λ (o : Outcome). new.brought ≡ brought_after line p (Ok o) old.brought) one
          brought);
    }

    abbrev takes_one : TakesPacket line p (Ok (Taken 1 0)) h old new
    takes_one = record {
      after = after_input h passed;
      taken = record { right = outcome_in h p (Ok (Taken 1 0)) f.history brings.answer; is = refl };
      fits = pass_fits;
    }

    pub pass_takes : TakesPacket line p (Ok outcome) h old new
    pass_takes = subst (λ (o : Outcome). TakesPacket line p (Ok o) h old new) (sym one) takes_one

    pub passes : x.number ≡ p.number → TakesAndPushes line p outcome h old new
    passes number = subst (λ (o : Outcome). TakesAndPushes line p o h old new) (sym one) (record {
      takes = takes_one;
      comes = rw (
        next_is old.lane.items (place_of packets old.arbiter.sent)
            (after_input h passed) sent_before is_there,
        ← brings.item,
        ← number,
      ) (refl, ap (λ (e : LaneEnd Numbered). e.items) lane);
    })
