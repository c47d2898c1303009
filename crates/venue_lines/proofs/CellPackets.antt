-- What a packet leaves of a venue's cell, said of plain states.
use Rattle.std.proofs.Common.{◌≡◌, ℕ, ◌+◌, List, [], ◌∷◌, ◌++◌, length, take, Some, Result, Ok, Err, refl, sym, ap, subst, ◌∙◌, append-nil}
use Rattle.std.specs.Prelude.{◌-◌, slice_get}
use Rattle.std.proofs.lemmas.Grind.{flat_map-append}
use Rattle.feed_types.specs.declared.item.Numbered.{Numbered}
use Rattle.feed_types.specs.declared.line.LineId.{LineId}
use Rattle.feed_types.specs.declared.line.LineId.TheVariants.{A, B, Recovery}
use Rattle.feed_types.specs.Prefix.{IsPrefix}
use Rattle.mold_packet.specs.Content.{Content, IsContent}
use Rattle.line_arbiter.specs.declared.outcome.Outcome.{Outcome}
use Rattle.line_arbiter.specs.declared.outcome.LineFault.{LineFault}
use Rattle.line_arbiter.specs.Packets.{Arrival, Input, arrival_of}
use Rattle.line_arbiter.specs.Streams.{place_of, stream_of}
use Rattle.line_arbiter.specs.Outcomes.{IsOutcome}
use Rattle.line_arbiter.specs.Histories.{History, all_begun, items_of, after_input}
use Rattle.line_arbiter.specs.States.{ordinal_of, KeepsItsPlace, KeepsItsSession}
use Rattle.line_arbiter.specs.Fits.{Fits}
use Rattle.fifo_lane.specs.Lane.{LaneEnd}
use Rattle.line_arbiter.specs.laws.FitsHistory.{fits_packet, ordinal_is, outcome_in}
use Rattle.line_arbiter.specs.laws.Placing.{place_same, place_within}
use Rattle.feed_types.specs.declared.genuine.Genuine.{Ghosts as Genuine}
use Rattle.feed_steps.specs.Premises.{IsGenuinePacket}
use Rattle.feed_steps.specs.Lanes.{FeedLanes}
use Rattle.feed_types.specs.declared.per_line.PerLine.{PerLine}
use Rattle.feed_types.specs.PerLines.{on_line, with_line}
use Rattle.venue_lines.specs.declared.accepted_packet.AcceptedPacket.{AcceptedPacket}
use Rattle.venue_lines.specs.declared.faults.TakeFault.{TakeFault}
use Rattle.venue_lines.specs.Brought.{Brought, accepted_as, accepted_in, accepted_on, brought_after, nothing_brought, refused_on_line, with_answer, with_packet}
use Rattle.venue_lines.specs.Cells.{CellState, CellFitsHistory, AreGivenFrom, VenueLockInvariant, arrivals_of}
use Rattle.venue_lines.specs.Sections.{TakesPacket}
use Rattle.feed_steps.specs.laws.Lists.{take_same}
use Rattle.venue_lines.proofs.Histories.{arrivals_more, given_more, present_more}

-- ---- what the lines brought

-- a packet that came
abbrev pub came : LineId → Content → Result Outcome LineFault → Arrival
came line p answer = record { line = line; packet = p; answer = answer }

-- an answer adds to what was accepted what it adds to nothing
answer_adds : (p : Content) (answer : Result Outcome LineFault) (b : Brought)
    → (with_answer p answer b).accepted ≡ b.accepted
    ++ (with_answer p answer nothing_brought).accepted
answer_adds p (Ok outcome) b = refl
answer_adds p (Err fault) b = sym (append-nil b.accepted)

-- what was accepted on this line goes on by the packet, that on others stays
adds_on : (line l : LineId) (p : Content) (answer : Result Outcome LineFault) (b : PerLine Brought)
    → (on_line l (brought_after line p answer b)).accepted
    ≡ (on_line l b).accepted ++ accepted_in l (came line p answer)
adds_on A A p answer b = answer_adds p answer b.a
adds_on A B p answer b = sym (append-nil b.b.accepted)
adds_on A Recovery p answer b = sym (append-nil b.recovery.accepted)
adds_on B A p answer b = sym (append-nil b.a.accepted)
adds_on B B p answer b = answer_adds p answer b.b
adds_on B Recovery p answer b = sym (append-nil b.recovery.accepted)
adds_on Recovery A p answer b = sym (append-nil b.a.accepted)
adds_on Recovery B p answer b = sym (append-nil b.b.accepted)
adds_on Recovery Recovery p answer b = answer_adds p answer b.recovery

pub no_more : (line : LineId) (p : Content) (fault : LineFault) (b : PerLine Brought)
    → brought_after line p (Err fault) b ≡ b
no_more A p fault b = refl
no_more B p fault b = refl
no_more Recovery p fault b = refl

-- one packet more, as it is counted on the line
pub counted_on : (line l : LineId) (p : Content) (outcome : Outcome) (x : AcceptedPacket)
    (old new : PerLine Brought)
    → new ≡ with_line l (with_packet x (on_line l old)) old → x ≡ accepted_as p outcome → l ≡ line
    → new ≡ brought_after line p (Ok outcome) old
counted_on line l p outcome x old new counted named same =
    counted ∙ (λ i. with_line (same i) (with_packet (named i) (on_line (same i) old)) old)

-- with one more packet what was accepted is that of all packets
pub accepted_more : (old : CellState) (brought : PerLine Brought) (h : History)
    (line : LineId) (p : Content)
    (answer : Result Outcome LineFault) → CellFitsHistory old h
    → brought ≡ brought_after line p answer old.brought
    → (l : LineId) → (on_line l brought).accepted ≡ accepted_on l (arrivals_of
    (all_begun (after_input h (arrival_of line p answer))))
accepted_more old brought h line p answer f is l =
    ap (λ (b : PerLine Brought). (on_line l b).accepted) is
    ∙ adds_on line l p answer old.brought
    ∙ ap (λ (xs : List AcceptedPacket). xs ++ accepted_in l (came line p answer)) (f.accepted l)
    ∙ ap (λ (xs : List AcceptedPacket). accepted_on l (arrivals_of (all_begun h)) ++ xs)
    (sym (append-nil (accepted_in l (came line p answer))))
    ∙ sym (flat_map-append (accepted_in l) (arrivals_of (all_begun h)) (came line p answer ∷ []))
    ∙ ap (accepted_on l) (sym (arrivals_more h (arrival_of line p answer)))

-- a refusal that is counted leaves what was accepted
refusal_leaves : (line l : LineId) (fault : TakeFault) (b : PerLine Brought)
    → (on_line l (refused_on_line line fault b)).accepted ≡ (on_line l b).accepted
refusal_leaves A A fault b = refl
refusal_leaves A B fault b = refl
refusal_leaves A Recovery fault b = refl
refusal_leaves B A fault b = refl
refusal_leaves B B fault b = refl
refusal_leaves B Recovery fault b = refl
refusal_leaves Recovery A fault b = refl
refusal_leaves Recovery B fault b = refl
refusal_leaves Recovery Recovery fault b = refl

-- the cell keeps what it keeps
pub refusal_kept : {S : Type 0} (premise : Genuine S) (lanes : FeedLanes)
    (line : LineId) (fault : TakeFault)
    (old : CellState) → VenueLockInvariant premise lanes old
    → VenueLockInvariant premise lanes
    (record old { brought = refused_on_line line fault old.brought })
refusal_kept premise lanes line fault old k = record {
  history = k.history;
  fits = record {
    history = k.fits.history;
    sent = k.fits.sent;
    accepted = λ l. refusal_leaves line l fault old.brought ∙ k.fits.accepted l;
  };
  given = k.given;
  named = k.named;
  tag = k.tag;
  lane = k.lane;
  window = k.window;
  capacity = k.capacity;
}

-- ---- a packet

module _ (old new : CellState) (h : History) (line : LineId) (p : Content)
    (answer : Result Outcome LineFault)
    (f : CellFitsHistory old h) (lane : new.lane ≡ old.lane)
    (kept : KeepsItsPlace old.arbiter new.arbiter)
    (fits : Fits new.arbiter (h.present.packets ++ arrival_of line p answer ∷ []))
    (grows : IsPrefix (stream_of h.present.packets) (stream_of (h.present.packets
    ++ arrival_of line p answer ∷ [])))
    (brought : new.brought ≡ brought_after line p answer old.brought) where
  abbrev a : Input
  a = arrival_of line p answer

  same_place : place_of (h.present.packets ++ a ∷ []) new.arbiter.sent
      ≡ place_of h.present.packets old.arbiter.sent
  same_place = place_same h.present.packets (came line p answer) new.arbiter.sent
      ∙ ap (place_of h.present.packets) kept.sent

  pub packet_fits : CellFitsHistory new (after_input h a)
  packet_fits = record {
    history = fits_packet h a f.history kept.session fits;
    sent =
        ap (λ (e : LaneEnd Numbered). e.items) lane ∙ f.sent
        ∙ ap (λ (xs : List Numbered). items_of h.earlier ++ xs)
        (sym (take_same (stream_of h.present.packets) (stream_of (h.present.packets ++ a ∷ []))
        (place_of h.present.packets old.arbiter.sent) grows (place_within f.history.present))
        ∙ ap (λ (n : ℕ). take n (stream_of (h.present.packets ++ a ∷ []))) (sym same_place));
    accepted = accepted_more old new.brought h line p answer f brought;
  }

  right_at : IsOutcome old.arbiter.session old.arbiter.window old.arbiter.sent
      h.present.packets p answer
      → IsOutcome h.present.name old.arbiter.window old.arbiter.sent h.present.packets p answer
  right_at o = outcome_in h p answer f.history o

  pub takes : IsOutcome old.arbiter.session old.arbiter.window old.arbiter.sent
      h.present.packets p answer
      → TakesPacket line p answer h old new
  takes o = record {
    after = after_input h a;
    taken = record { right = right_at o; is = refl };
    fits = packet_fits;
  }

-- what was given, with one more packet
pub given_after : {S : Type 0} (premise : Genuine S) (lanes : FeedLanes) (old : CellState)
    (line : LineId) (p : Content)
    (answer : Result Outcome LineFault) (k : VenueLockInvariant premise lanes old) → IsContent p
    → IsOutcome old.arbiter.session old.arbiter.window old.arbiter.sent
    k.history.present.packets p answer
    → IsGenuinePacket premise old.arbiter.venue p
    → AreGivenFrom premise old.arbiter.venue old.arbiter.window 1 k.history.earlier
    (after_input k.history (arrival_of line p answer)).present
given_after premise lanes old line p answer k content o genuine =
    let h = k.history in
    let f = k.fits in
    let venue = old.arbiter.venue in
    let window = old.arbiter.window in
    let right = outcome_in h p answer f.history o in
    let ordinal : ordinal_of old.arbiter ≡ 1 + length h.earlier = ordinal_is h f.history in
    let named : premise.sessions venue (1 + length h.earlier) h.present.name =
    subst (λ (x : ℕ × List ℕ). premise.sessions venue x.0 x.1)
    (λ i. (ordinal i, f.history.session i)) k.named in
    present_more premise venue window 1 h.earlier h.present
    (after_input h (arrival_of line p answer)).present
    (given_more premise venue window (1 + length h.earlier) h.present (arrival_of line p answer)
    (λ same. genuine (1 + length h.earlier)
    (subst (λ (n : List ℕ). premise.sessions venue (1 + length h.earlier) n)
    (sym same) named)) (record { content = content; sent = old.arbiter.sent; outcome = right }))
    k.given

-- a cell of the same session, to which one thing more came
module _ {S : Type 0} (premise : Genuine S) (lanes : FeedLanes) (old new : CellState) (x : Input)
    (k : VenueLockInvariant premise lanes old) (kept : KeepsItsSession old.arbiter new.arbiter)
    (tag : new.lane.tag ≡ old.lane.tag) (lane : new.lane.lane ≡ old.lane.lane)
    (capacity : new.lane.capacity ≡ old.lane.capacity) (fits : CellFitsHistory new
    (after_input k.history x))
    (given : AreGivenFrom premise old.arbiter.venue old.arbiter.window 1 k.history.earlier
    (after_input k.history x).present) where
  pub input_kept : VenueLockInvariant premise lanes new
  input_kept = record {
    history = after_input k.history x;
    fits = fits;
    given = subst (λ (y : ℕ × ℕ). AreGivenFrom premise y.0 y.1 1 k.history.earlier
        (after_input k.history x).present) (λ i. (sym kept.venue i, sym kept.window i)) given;
    named = subst (λ (y : ℕ × (List (List ℕ) × List ℕ)). premise.sessions y.0 (length y.1.0) y.1.1)
        (λ i. (sym kept.venue i, (sym kept.sessions i, sym kept.session i))) k.named;
    tag = tag ∙ k.tag ∙ sym kept.venue;
    lane = ap (slice_get lanes.venues) kept.venue ∙ k.lane ∙ ap Some (sym lane);
    window = kept.window ∙ k.window;
    capacity = capacity ∙ k.capacity;
  }

-- a cell of the same session, which was given one more packet
module _ {S : Type 0} (premise : Genuine S) (lanes : FeedLanes) (old new : CellState)
    (line : LineId) (p : Content)
    (answer : Result Outcome LineFault) (k : VenueLockInvariant premise lanes old)
    (kept : KeepsItsSession old.arbiter new.arbiter) (tag : new.lane.tag ≡ old.lane.tag)
    (lane : new.lane.lane ≡ old.lane.lane) (capacity : new.lane.capacity ≡ old.lane.capacity)
    (fits : CellFitsHistory new (after_input k.history (arrival_of line p answer)))
    (content : IsContent p)
    (o : IsOutcome old.arbiter.session old.arbiter.window old.arbiter.sent
    k.history.present.packets p answer)
    (genuine : IsGenuinePacket premise old.arbiter.venue p) where
  pub more_kept : VenueLockInvariant premise lanes new
  more_kept = input_kept premise lanes old new (arrival_of line p answer) k
      kept tag lane capacity fits
      (given_after premise lanes old line p answer k content o genuine)

pub packet_kept : {S : Type 0} (premise : Genuine S) (lanes : FeedLanes)
    (old new : CellState) (line : LineId)
    (p : Content) (answer : Result Outcome LineFault) (k : VenueLockInvariant premise lanes old)
    → new.lane ≡ old.lane → KeepsItsPlace old.arbiter new.arbiter
    → CellFitsHistory new (after_input k.history (arrival_of line p answer)) → IsContent p
    → IsOutcome old.arbiter.session old.arbiter.window old.arbiter.sent
    k.history.present.packets p answer
    → IsGenuinePacket premise old.arbiter.venue p → VenueLockInvariant premise lanes new
packet_kept premise lanes old new line p answer k lane kept fits content o genuine =
    more_kept premise lanes old new line p answer k kept.session
    (ap (λ (e : LaneEnd Numbered). e.tag) lane)
    (ap (λ (e : LaneEnd Numbered). e.lane) lane) (ap (λ (e : LaneEnd Numbered). e.capacity) lane)
    fits content o
    genuine
