-- What a renewal, a skip and the pushes of a section leave of a venue's cell, and a new cell.
use Rattle.std.proofs.Common.{◌≡◌, ◌≢◌, inl, inr, ℕ, zero, suc, ◌+◌, ◌≤◌, ◌<◌, false, Option, List, [], ◌∷◌, ◌++◌, length, take, Some, None, Result, Ok, Err, refl, sym, ap, subst, ◌∙◌, arith, append-nil, length-append}
use Rattle.std.specs.Prelude.{◌⊎◌, ◌-◌, ◌^◌, OnErr, OnOk, slice_get}
use Rattle.feed_types.specs.declared.item.Numbered.{Numbered}
use Rattle.feed_types.specs.declared.line.LineId.{LineId}
use Rattle.feed_types.specs.declared.line.LineId.TheVariants.{A, B, Recovery}
use Rattle.feed_types.specs.Prefix.{IsPrefix}
use Rattle.line_arbiter.specs.Packets.{Input, Skip}
use Rattle.line_arbiter.specs.Streams.{IsComplete, closed_of, part_of, place_of, stream_of}
use Rattle.line_arbiter.specs.Skips.{AllSent, IsSkip, MaySkip}
use Rattle.line_arbiter.specs.declared.faults.SkipFault.{SkipFault}
use Rattle.line_arbiter.specs.declared.faults.SkipFault.TheVariants.{ItemsReady}
use Rattle.line_arbiter.specs.Histories.{History, all_begun, items_of, new_history, new_session, streams_of, after_input}
use Rattle.line_arbiter.specs.States.{State, ordinal_of, KeepsItsSession, IsNew, IsRenewed, IsSkipped}
use Rattle.line_arbiter.specs.Fits.{Fits}
use Rattle.fifo_lane.specs.Lane.{LaneEnd, with_items, HasFilled}
use Rattle.line_arbiter.specs.laws.Histories.{items_push}
use Rattle.line_arbiter.specs.laws.FitsHistory.{fits_new, fits_packet, fits_renewal, keeping_all_but_sent_is_reflexive, keeping_all_but_sent_is_transitive, renewal_in}
use Rattle.line_arbiter.specs.laws.Placing.{place_skip}
use Rattle.feed_types.specs.declared.genuine.Genuine.{Ghosts as Genuine}
use Rattle.feed_steps.specs.Lanes.{FeedLanes}
use Rattle.feed_types.specs.declared.per_line.PerLine.{PerLine}
use Rattle.feed_types.specs.PerLines.{on_line}
use Rattle.venue_lines.specs.Brought.{Brought, accepted_on, nothing_brought}
use Rattle.venue_lines.specs.Cells.{CellState, CellFitsHistory, AreGivenFrom, VenueLockInvariant, IsPossibleCall, MayMeetAnother, IsPossibleAtVenue, arrivals_of, new_cell}
use Rattle.venue_lines.specs.Sections.{HasNoneReady, KeepsButSent, Pushes, PushesOne, RenewsSession, SkipsGap, GoesOnFrom, PushesAndSkips}
use Rattle.feed_steps.specs.declared.event.Done.TheVariants as done
use Rattle.feed_steps.specs.Steps.{AppliesTo, push_next}
use Rattle.feed_steps.specs.laws.Counts.{place_all}
use Rattle.line_arbiter.specs.Renewals.{IsRenewal}
use Rattle.feed_steps.specs.declared.unsent.Unsent.{Unsent}
use Rattle.feed_steps.specs.declared.unsent.Unsent.TheVariants as unsent
use Rattle.feed_steps.specs.laws.Lists.{take_same}
use Rattle.venue_lines.proofs.Histories.{arrivals_push, arrivals_more, given_more, present_more, next_given}
use Rattle.venue_lines.proofs.CellPackets.{input_kept}
use Rattle.venue_lines.proofs.CellPushes.{next_of_cell, pushes}

-- ---- a cell where nothing came yet

nothing : (line : LineId)
    → (on_line line (record {
      a = nothing_brought;
      b = nothing_brought;
      recovery =
          nothing_brought;
    })).accepted ≡ []
nothing A = refl
nothing B = refl
nothing Recovery = refl

pub new_fits : (arbiter : State) (lane : LaneEnd Numbered)
    → IsNew arbiter lane.tag arbiter.session arbiter.window
    → Fits arbiter [] → lane.items ≡ [] → CellFitsHistory (new_cell arbiter lane)
    (new_history arbiter.session)
new_fits arbiter lane new fits empty = record {
  history = fits_new new fits;
  sent = empty ∙ sym (ap (λ (n : ℕ). take (place_of [] n) (stream_of [])) new.begun.sent);
  accepted = nothing;
}

pub new_kept : {S : Type 0} (premise : Genuine S) (lanes : FeedLanes) (arbiter : State)
    (lane : LaneEnd Numbered)
    → IsNew arbiter lane.tag arbiter.session arbiter.window → Fits arbiter [] → lane.items ≡ []
    → premise.sessions lane.tag 1 arbiter.session → slice_get lanes.venues lane.tag ≡ Some lane.lane
    → (arbiter.window ≡ lanes.setting.window) × (lane.capacity ≡ lanes.setting.lane)
    → VenueLockInvariant premise lanes (new_cell arbiter lane)
new_kept premise lanes arbiter lane new fits empty named at sized = record {
  history = new_history arbiter.session;
  fits = new_fits arbiter lane new fits empty;
  given = record { answered = tt; genuine = tt };
  named = subst (λ (x : ℕ × ℕ). premise.sessions x.0 x.1 arbiter.session)
      (λ i. (sym new.venue i, sym (ap length new.sessions) i)) named;
  tag = sym new.venue;
  lane = ap (slice_get lanes.venues) new.venue ∙ at;
  window = sized.0;
  capacity = sized.1;
}

-- ---- a renewal

take_whole : {X : Type 0} (xs : List X) → take (length xs) xs ≡ xs
take_whole [] = refl
take_whole (x ∷ xs) = ap (λ (l : List _). x ∷ l) (take_whole xs)

module _ (old new : CellState) (h : History) (name : List ℕ) (f : CellFitsHistory old h)
    (begun : IsRenewed old.arbiter new.arbiter name) (fits : Fits new.arbiter [])
    (whole : IsComplete h.present.packets
    × (place_of h.present.packets old.arbiter.sent ≡ length (stream_of h.present.packets)))
    (lane : new.lane ≡ old.lane) (brought : new.brought ≡ old.brought) where
  pub renewed_fits : CellFitsHistory new
      (record { earlier = all_begun h; present = new_session name })
  renewed_fits = record {
    history = fits_renewal h name f.history begun fits;
    sent =
        ap (λ (e : LaneEnd Numbered). e.items) lane ∙ f.sent
        ∙ ap (λ (n : ℕ). items_of h.earlier ++ take n (stream_of h.present.packets)) whole.1
        ∙ ap (λ (xs : List Numbered). items_of h.earlier ++ xs)
        (take_whole (stream_of h.present.packets))
        ∙ sym (items_push h.earlier h.present)
        ∙ sym (append-nil (items_of (all_begun h)))
        ∙ ap (λ (n : ℕ). items_of (all_begun h) ++ take (place_of [] n) (stream_of []))
        (sym begun.begun.sent);
    accepted = λ l. ap (λ (b : PerLine Brought). (on_line l b).accepted) brought ∙ f.accepted l
        ∙ ap (accepted_on l) (sym (arrivals_push (all_begun h) (new_session name)
        ∙ append-nil (arrivals_of (all_begun h))));
  }

  pub renewed_kept : {S : Type 0} (premise : Genuine S) (lanes : FeedLanes)
      (k : VenueLockInvariant premise lanes old)
      → k.history ≡ h → premise.sessions old.arbiter.venue (ordinal_of old.arbiter + 1) name
      → VenueLockInvariant premise lanes new
  renewed_kept premise lanes k is named =
      let given = subst (λ (x : History). AreGivenFrom premise old.arbiter.venue
      old.arbiter.window 1 x.earlier
      x.present) is k.given in
      record {
        history = record { earlier = all_begun h; present = new_session name };
        fits = renewed_fits;
        given = subst (λ (x : ℕ × ℕ). AreGivenFrom premise x.0 x.1 1
            (all_begun h) (new_session name))
            (λ i. (sym begun.venue i, sym begun.window i))
            (next_given premise old.arbiter.venue old.arbiter.window 1 h.earlier
            h.present name whole.0 given);
        named = subst (λ (x : ℕ × (ℕ × List ℕ)). premise.sessions x.0 x.1.0 x.1.1)
            (λ i. (sym begun.venue i, (sym ordinal i, sym begun.begun.session i))) named;
        tag = ap (λ (e : LaneEnd Numbered). e.tag) lane ∙ k.tag ∙ sym begun.venue;
        lane = ap (slice_get lanes.venues) begun.venue ∙ k.lane
            ∙ ap (λ (e : LaneEnd Numbered). Some e.lane) (sym lane);
        window = begun.window ∙ k.window;
        capacity = ap (λ (e : LaneEnd Numbered). e.capacity) lane ∙ k.capacity;
      }
    where
      ordinal : ordinal_of new.arbiter ≡ ordinal_of old.arbiter + 1
      ordinal = ap length begun.sessions ∙ length-append old.arbiter.sessions (name ∷ [])

  pub renews : (ordinal : ℕ) → IsRenewal old.arbiter.sessions old.arbiter.end
      old.arbiter.sent name (Ok ordinal)
      → RenewsSession name (Ok ordinal) h old new
  renews ordinal right = record {
    after = record { earlier = all_begun h; present = new_session name };
    renewed = record { right = renewal_in h name (Ok ordinal) f.history right; is = refl };
    fits = renewed_fits;
  }

-- ---- a skip

skip_keeps : {old new : State} {number : ℕ} → IsSkipped old new number → KeepsItsSession old new
skip_keeps s = record {
  venue = s.venue;
  sessions = s.sessions;
  session = s.session;
  window = s.window;
  earlier = s.earlier;
}

module _ (old new : CellState) (h : History) (number : ℕ)
    (f : CellFitsHistory old h) (done : Unit {0})
    (right : IsSkip h.present.packets old.arbiter.sent number (Ok done))
    (skipped : IsSkipped old.arbiter new.arbiter number)
    (fits : Fits new.arbiter (h.present.packets ++ Skip number ∷ []))
    (grows : IsPrefix (stream_of h.present.packets)
    (stream_of (h.present.packets ++ Skip number ∷ [])))
    (lane : new.lane ≡ old.lane) (brought : new.brought ≡ old.brought) where
  abbrev stream : List Numbered
  stream = stream_of h.present.packets

  abbrev with_skip : List Input
  with_skip = h.present.packets ++ Skip number ∷ []

  pub skipped_fits : CellFitsHistory new (after_input h (Skip number))
  skipped_fits = record {
    history = fits_packet h (Skip number) f.history (skip_keeps skipped) fits;
    sent =
        ap (λ (e : LaneEnd Numbered). e.items) lane ∙ f.sent
        ∙ ap (λ (xs : List Numbered). items_of h.earlier ++ xs)
        (ap (λ (n : ℕ). take n stream)
        (place_all h.present.packets old.arbiter.sent f.history.present.opened right.0)
        ∙ sym (take_same stream (stream_of with_skip) (length stream) grows (omega arith))
        ∙ ap (λ (n : ℕ). take n (stream_of with_skip))
        (sym (place_skip h.present.packets number new.arbiter.sent right.1 skipped.sent)));
    accepted = λ l. ap (λ (b : PerLine Brought). (on_line l b).accepted) brought ∙ f.accepted l
        ∙ ap (accepted_on l) (sym (arrivals_more h (Skip number)
        ∙ append-nil (arrivals_of (all_begun h))));
  }

  pub skips : SkipsGap number (Ok done) h old new
  skips = record {
    after = after_input h (Skip number);
    skipped = record { right = right; is = refl };
    fits = skipped_fits;
  }

pub skip_kept : {S : Type 0} (premise : Genuine S) (lanes : FeedLanes)
    (old new : CellState) (number : ℕ)
    (k : VenueLockInvariant premise lanes old) → MaySkip k.history.present.packets number
    → IsSkipped old.arbiter new.arbiter number → new.lane ≡ old.lane
    → CellFitsHistory new (after_input k.history (Skip number))
    → VenueLockInvariant premise lanes new
skip_kept premise lanes old new number k may skipped lane fits =
    let h = k.history in
    let venue = old.arbiter.venue in
    let window = old.arbiter.window in
    input_kept premise lanes old new (Skip number) k (skip_keeps skipped)
    (ap (λ (e : LaneEnd Numbered). e.tag) lane) (ap (λ (e : LaneEnd Numbered). e.lane) lane)
    (ap (λ (e : LaneEnd Numbered). e.capacity) lane) fits
    (present_more premise venue window 1 h.earlier h.present (after_input h (Skip number)).present
    (given_more premise venue window (1 + length h.earlier) h.present (Skip number) tt may) k.given)

past_end : {X : Type 0} (xs : List X) (n : ℕ) → slice_get xs n ≡ None → length xs ≤ n
past_end [] n e = omega arith
past_end (x ∷ xs) zero e = absurd cc
past_end (x ∷ xs) (suc n) e = let h = past_end xs n e in omega arith

-- where no item is ready, all were sent
none_unsent : (c : CellState) (h : History) → CellFitsHistory c h
    → slice_get (streams_of h) (length c.lane.items) ≡ None
    → AllSent h.present.packets c.arbiter.sent
none_unsent c h f none =
    let packets = h.present.packets in
    let past = past_end (stream_of packets) (place_of packets c.arbiter.sent)
    (sym (next_of_cell c h f) ∙ none) in
    let whole = length-append (closed_of packets) (part_of packets) in
    let opened = f.history.present.opened in
    let sent = f.history.present.sent in
    omega arith

-- after all pushes, a skip finds an item ready only where the lane was full
pub unsent_where_full : {S : Type 0} (premise : Genuine S) (lanes : FeedLanes)
    (most first number : ℕ) (answer : Result (Unit {0}) SkipFault)
    (old before between : CellState) → VenueLockInvariant premise lanes before
    → Pushes most first old before
    → ((h : History) → CellFitsHistory before h → SkipsGap number answer h before between)
    → answer ≡ Err ItemsReady → (first ≡ most) ⊎ HasFilled before.lane
unsent_where_full premise lanes most first number answer old before between k pushes skips is =
    elim pushes.over [
      | inl all ↦ inl all
      | inr (inl full) ↦ inr full
      | inr (inr none) ↦ absurd (ready (skips k.history k.fits).skipped.right
          (none_unsent before k.history k.fits (none k.history k.fits)))
    ]
  where
    ready : IsSkip k.history.present.packets before.arbiter.sent number answer
        → AllSent k.history.present.packets before.arbiter.sent → ⊥
    ready right = subst (λ (a : Result (Unit {0}) SkipFault).
        IsSkip k.history.present.packets before.arbiter.sent number a) is right

-- what was done in the section of a skip
pub skips_at : {S : Type 0} (premise : Genuine S) (lanes : FeedLanes)
    (venue number first pushed : ℕ)
    (answer : Result (Unit {0}) SkipFault) (old before between new : CellState)
    → VenueLockInvariant premise lanes old → old.arbiter.venue ≡ venue
    → Pushes (2 ^ 64 - 1) first old before → VenueLockInvariant premise lanes before
    → ((h : History) → CellFitsHistory before h → SkipsGap number answer h before between)
    → OnOk answer (GoesOnFrom number before between) → OnErr answer (between ≡ before)
    → Pushes (2 ^ 64 - 1) pushed between new → VenueLockInvariant premise lanes new
    → IsPossibleAtVenue premise lanes venue (PushesAndSkips number answer)
skips_at premise lanes venue number first pushed answer old before between new kept is
    sends ready skips on refused
    pushes keeps = record {
      old = old;
      kept = kept;
      venue_is = is;
      new = new;
      keeps = keeps;
      leads = record {
        before = before;
        first = first;
        sends = sends;
        between = between;
        skips = skips;
        on = on;
        refused = refused;
        full = unsent_where_full premise lanes (2 ^ 64 - 1) first number answer old before
            between ready sends skips;
        pushed = pushed;
        pushes = pushes;
      };
    }

-- ---- Push, again and again

none_ready : (sent after : List Numbered) (next : Option Numbered)
    → AppliesTo (push_next false next sent) sent done.NothingReady after → next ≡ None
none_ready sent after None e = refl
none_ready sent after (Some x) e = absurd (let h = e.0 in cc)

-- Pushes of a section so far.
pub record PushesSoFar (pushed : ℕ) (old new : CellState) : Type 0 where
  pub sent : length new.lane.items ≡ length old.lane.items + pushed
  pub others : KeepsButSent old new

-- no push changes nothing
pub no_push : (c : CellState) → PushesSoFar 0 c c
no_push c = record {
  sent = omega arith;
  others = record {
    arbiter = keeping_all_but_sent_is_reflexive;
    lane = refl;
    others = refl;
  };
}

module _ (pushed : ℕ) (old between new : CellState) (r : PushesSoFar pushed old between) where
  -- one push more
  pub one_push : KeepsButSent between new → length new.lane.items ≡ length between.lane.items + 1
      → PushesSoFar (pushed + 1) old new
  one_push next longer =
      let before = r.sent in
      record {
        sent = omega (arith, longer, before);
        others = record {
          arbiter = keeping_all_but_sent_is_transitive r.others.arbiter next.arbiter;
          lane = next.lane
              ∙ ap (λ (e : LaneEnd Numbered). with_items e new.lane.items) r.others.lane;
          others = next.others
              ∙ ap (λ (s : CellState). record s { arbiter = new.arbiter; lane = new.lane })
              r.others.others;
        };
      }

  pub pushed_most : Pushes pushed pushed old between
  pushed_most = record { few = omega arith; sent = r.sent; others = r.others; over = inl refl }

  -- a push that was refused
  pub push_refused : {S : Type 0} (premise : Genuine S) (lanes : FeedLanes)
      (most : ℕ) (why : Unsent) → pushed ≤ most
      → ((h : History) → CellFitsHistory between h → PushesOne (Err why) h between new)
      → new ≡ between → VenueLockInvariant premise lanes new
      → Pushes most pushed old new
  push_refused premise lanes most why few one same k =
      subst (λ (c : CellState). Pushes most pushed old c) (sym same) (record {
        few = few;
        sent = r.sent;
        others = r.others;
        over = inr (by_why why one);
      })
    where
      fits : CellFitsHistory between k.history
      fits = subst (λ (c : CellState). CellFitsHistory c k.history) same k.fits

      by_why : (u : Unsent)
          → ((h : History) → CellFitsHistory between h → PushesOne (Err u) h between new)
          → HasFilled between.lane ⊎ HasNoneReady between
      by_why unsent.Nothing all = inr (λ h f. none_ready between.lane.items new.lane.items
          (slice_get (streams_of h) (length between.lane.items)) (all h f).comes)
      by_why unsent.LaneFull all = inl ((all k.history fits).full refl)

-- ---- a section under a venue's lock

module _ {S : Type 0} (premise : Genuine S) (lanes : FeedLanes) (venue : ℕ)
    (section : CellState → CellState → Type 0) (answer : Type 0) where
  -- what was done under it
  pub at_venue : (old new : CellState) → VenueLockInvariant premise lanes old
      → old.arbiter.venue ≡ venue → VenueLockInvariant premise lanes new → section old new
      → IsPossibleCall premise lanes venue section answer
  at_venue old new kept is keeps leads =
      inl (record {
        old = old;
        kept = kept;
        venue_is = is;
        new = new;
        keeps =
            keeps;
        leads = leads;
      })

  -- it was another venue's
  pub at_another : (cell : CellState) → VenueLockInvariant premise lanes cell
      → cell.arbiter.venue ≢ venue → answer → IsPossibleCall premise lanes venue section answer
  at_another cell kept other is =
      inr (inr (record { cell = cell; kept = kept; other = other }), is)

  -- there is such a venue
  pub at_one : IsPossibleCall premise lanes venue section answer → venue < length lanes.venues
      → IsPossibleAtVenue premise lanes venue section
      ⊎ (MayMeetAnother premise lanes venue × answer)
  at_one (inl done) below = inl done
  at_one (inr ((inl past), is)) below = absurd (omega arith)
  at_one (inr ((inr other), is)) below = inr (other, is)
