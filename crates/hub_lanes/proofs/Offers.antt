-- What one more notice leaves of a section, in terms of plain states.
use Rattle.std.proofs.Common.{◌≡◌, ◌≢◌, ℕ, zero, suc, ◌+◌, ◌≤◌, ◌<◌, Bool, true, false, List, [], ◌∷◌, ◌++◌, length, Option, Some, None, Ok, Err, refl, sym, ap, subst, ◌∙◌, arith, append-nil, length-append, inl, inr}
use Rattle.std.specs.Prelude.{IfSome, MatchBool, ◌||◌, slice_get, slice_set, sum_by, ◌⊎◌}
use Rattle.std.proofs.lemmas.List.{length-map}
use Rattle.std.proofs.lemmas.Option.{slice_get-map}
use Rattle.feed_types.specs.declared.journal.Notice.{Notice}
use Rattle.line_arbiter.specs.Counts.{shown}
use Rattle.filter_terms.specs.declared.terms.Terms.{Terms}
use Rattle.journal_book.specs.declared.cursor.Cursor.{Cursor}
use Rattle.journal_book.specs.CursorLaws.{get_set}
use Rattle.journal_book.specs.Journals.{JournalState, changes, terms_at}
use Rattle.journal_book.specs.Wanted.{wanted_of}
use Rattle.fifo_lane.specs.Lane.{LaneEnd, HasFilled, with_items}
use Rattle.feed_types.specs.ListLaws.{get_within}
use Rattle.feed_steps.specs.declared.event.Done.TheVariants as done
use Rattle.feed_steps.specs.Steps.{AppliesTo, is_lane_full, offer_next}
use Rattle.feed_steps.specs.declared.unsent.Unsent.{Unsent}
use Rattle.feed_steps.specs.declared.unsent.Unsent.TheVariants as unsent
use Rattle.hub_lanes.specs.Hubs.{HubState}
use Rattle.hub_lanes.specs.Sections.{KeepsButOffers, KeepsButOffersTo, HubOffersOne, LooksOn, offer_done}
use Rattle.hub_lanes.specs.Offers.{HasNoOffer, IsPartSeen, IsUnfinished, Offers, OffersAll, OffersCount, OffersUpTo, SendsNotices}
use Rattle.feed_steps.specs.laws.Lists.{put_same}
use Rattle.hub_lanes.proofs.LaneEnds.{end_grows, get_other, sum_put}
use Rattle.feed_steps.specs.laws.Counts.{shown_sum}

-- ---- the answer to Offer

module _ (old after : List Notice) where
  notice_sent : (next : Option Notice) (number : ℕ)
      → AppliesTo (offer_next false next old) old (done.Offered number) after
      → (n : Notice) × (after ≡ old ++ n ∷ [])
  notice_sent None number e = absurd (let h = e.0 in cc)
  notice_sent (Some n) number e = (n, e.1)

  none_wanted : (next : Option Notice)
      → AppliesTo (offer_next false next old) old done.NothingWanted after
      → (next ≡ None) × (after ≡ old)
  none_wanted None e = (refl, e.1)
  none_wanted (Some n) e = absurd (let h = e.0 in cc)

  none_taken : (next : Option Notice)
      → AppliesTo (offer_next true next old) old done.LaneFull after → after ≡ old
  none_taken None e = absurd (let h = e.0 in cc)
  none_taken (Some n) e = e.1

-- ---- what stays

pub count_stays : (old new : HubState) → KeepsButOffers old new
    → length new.journal.cursors ≡ length old.journal.cursors
count_stays old new kept =
    sym (length-map new.journal.cursors (λ (c : Cursor). c.terms)) ∙ ap length kept.terms
    ∙ length-map old.journal.cursors (λ (c : Cursor). c.terms)

terms_stay : (old new : HubState) (id : ℕ) → KeepsButOffers old new
    → terms_at new.journal id ≡ terms_at old.journal id
terms_stay old new id kept =
    sym (slice_get-map (λ (c : Cursor). c.terms) new.journal.cursors id)
    ∙ ap (λ (terms : List Terms). slice_get terms id) kept.terms
    ∙ slice_get-map (λ (c : Cursor). c.terms) old.journal.cursors id

kept_itself : (s : HubState) → KeepsButOffers s s
kept_itself s = record { journal = refl; terms = refl; others = refl }

kept_on : (a b c : HubState) → KeepsButOffers a b → KeepsButOffers b c → KeepsButOffers a c
kept_on a b c first next = record {
  journal = next.journal
      ∙ ap (λ (j : JournalState). record j { cursors = c.journal.cursors }) first.journal;
  terms = next.terms ∙ first.terms;
  others = next.others
      ∙ ap (λ (s : HubState). record s { journal = c.journal; senders = c.senders }) first.others;
}

-- and of a section for one subscriber
to_itself : (id : ℕ) (s : HubState) → KeepsButOffersTo id s s
to_itself id s = record { kept = kept_itself s; cursors = λ k apart. refl }

to_on : (id : ℕ) (a b c : HubState) → KeepsButOffersTo id a b → KeepsButOffersTo id b c
    → KeepsButOffersTo id a c
to_on id a b c first next = record {
  kept = kept_on a b c first.kept next.kept;
  cursors = λ k apart. next.cursors k apart ∙ first.cursors k apart;
}

-- to whom no notice can be sent, none can be sent after a section that sent it none
stays_over : (id : ℕ) (old new : HubState) → KeepsButOffers old new
    → slice_get new.senders id ≡ slice_get old.senders id → HasNoOffer id old → HasNoOffer id new
stays_over id old new kept same h = record {
  lane = h.lane;
  at = same ∙ h.at;
  terms = h.terms;
  terms_is = terms_stay old new id kept ∙ h.terms_is;
  why = elim h.why [
    | inl full ↦ inl full
    | inr none ↦ inr (ap (λ (j : JournalState).
        slice_get (wanted_of j.symbols h.terms j.entries) (length h.lane.items)) kept.journal
        ∙ none)
  ];
}

-- ---- one subscriber

-- no notice was sent yet
pub no_notices : (id : ℕ) (s : HubState) → id < length s.senders → SendsNotices id 0 s s
no_notices id s below =
    let there = get_within s.senders id below in
    let lane = there.0 in
    record {
      notices = [];
      counted = refl;
      lane = lane;
      at = there.1;
      sent = sym (ap (λ (l : List Notice). slice_set s.senders id (with_items lane l))
          (append-nil lane.items) ∙ put_same s.senders id lane there.1);
      kept = to_itself id s;
    }

module _ (id pushed : ℕ) (old between new : HubState)
    (r : SendsNotices id pushed old between) (kept : KeepsButOffersTo id between new) where
  -- one more was
  pub one_notice : (number more : ℕ) → HubOffersOne id (Ok number) between new
      → more ≡ shown (pushed + 1) → SendsNotices id more old new
  one_notice number more one is =
      let found = notice_sent one.lane.items one.sent
      (slice_get (wanted_of between.journal.symbols one.terms between.journal.entries)
      (length one.lane.items)) number one.comes in
      let n = found.0 in
      record {
        notices = r.notices ++ n ∷ [];
        counted = is ∙ ap (λ (k : ℕ). shown (k + 1)) r.counted ∙ shown_sum (length r.notices) 1
            ∙ ap shown (sym (length-append r.notices (n ∷ [])));
        lane = r.lane;
        at = r.at;
        sent = end_grows old.senders between.senders new.senders id r.lane one.lane r.notices n r.at
            one.at r.sent (one.sent_is
            ∙ ap (λ (l : List Notice). slice_set between.senders id (with_items one.lane l))
            found.1);
        kept = to_on id old between new r.kept kept;
      }

  -- none was
  module _ (why : Unsent) (one : HubOffersOne id (Err why) between new) where
    none_sent : new.senders ≡ between.senders
    none_sent =
        one.sent_is
        ∙ ap (λ (l : List Notice). slice_set between.senders id (with_items one.lane l))
        (by_why why one.comes) ∙ put_same between.senders id one.lane one.at
      where
        next : Option Notice
        next = slice_get (wanted_of between.journal.symbols one.terms between.journal.entries)
            (length one.lane.items)

        by_why : (u : Unsent)
            → AppliesTo (offer_next (is_lane_full (Err u)) next one.lane.items) one.lane.items
            (offer_done (Err u)) one.sent
            → one.sent ≡ one.lane.items
        by_why unsent.Nothing comes = (none_wanted one.lane.items one.sent next comes).1
        by_why unsent.LaneFull comes = none_taken one.lane.items one.sent next comes

    pub no_notice : SendsNotices id pushed old new
    no_notice = record {
      notices = r.notices;
      counted = r.counted;
      lane = r.lane;
      at = r.at;
      sent = none_sent ∙ r.sent;
      kept = to_on id old between new r.kept kept;
    }

-- and none can be
module _ (id pushed : ℕ) (why : Unsent) (old between new : HubState)
    (r : SendsNotices id pushed old between) (kept : KeepsButOffersTo id between new)
    (one : HubOffersOne id (Err why) between new) where
  no_offer : HasNoOffer id between
  no_offer = record {
    lane = one.lane;
    at = one.at;
    terms = one.terms;
    terms_is = one.terms_is;
    why = by_why why one.comes one.full;
  }
    where
      next : Option Notice
      next = slice_get (wanted_of between.journal.symbols one.terms between.journal.entries)
          (length one.lane.items)

      by_why : (u : Unsent)
          → AppliesTo (offer_next (is_lane_full (Err u)) next one.lane.items) one.lane.items
          (offer_done (Err u)) one.sent
          → (is_lane_full (Err u) ≡ true → HasFilled one.lane)
          → HasFilled one.lane ⊎ (next ≡ None)
      by_why unsent.Nothing comes full =
          inr (none_wanted one.lane.items one.sent next comes).0
      by_why unsent.LaneFull comes full = inl (full refl)

  pub offered : Offers id pushed old new
  offered = record {
    sends = no_notice id pushed old between new r kept why one;
    over = stays_over id between new kept.kept (ap (λ (l : List (LaneEnd Notice)). slice_get l id)
        (none_sent id pushed old between new r kept why one)) no_offer;
  }

-- the changes up to a number were looked at, and there are more
pub looked_on : (id to pushed : ℕ) (old between new : HubState) → SendsNotices id pushed old between
    → KeepsButOffersTo id between new → LooksOn id to between new
    → OffersUpTo id to pushed true old new
looked_on id to pushed old between new r kept looks =
    let passes = looks.passes in
    let past : Cursor = record passes.cursor { seen = passes.cursor.seen + looks.most } in
    let same = ap (λ (j : JournalState). length (changes j)) passes.moved in
    let more = passes.more in
    record {
      sends = record {
        notices = r.notices;
        counted = r.counted;
        lane = r.lane;
        at = r.at;
        sent = ap (λ (s : HubState). s.senders) looks.others ∙ r.sent;
        kept = to_on id old between new r.kept kept;
      };
      over = record {
        cursor = past;
        at = ap (λ (j : JournalState). slice_get j.cursors id) passes.moved
            ∙ get_set between.journal.cursors id past passes.cursor passes.at;
        seen = looks.up_to;
        more = omega (arith, same, more);
      };
    }

-- a subscriber was offered what it wants
pub offered_up_to : (id to pushed : ℕ) (old new : HubState) → Offers id pushed old new
    → OffersUpTo id to pushed false old new
offered_up_to id to pushed old new r = record { sends = r.sends; over = r.over }

changes_stay : (old new : HubState) → KeepsButOffers old new
    → length (changes new.journal) ≡ length (changes old.journal)
changes_stay old new kept = ap (λ (j : JournalState). length (changes j)) kept.journal

-- all changes were looked at
pub all_looked_at : (id to pushed : ℕ) (unfinished : Bool) (old new : HubState)
    → OffersUpTo id to pushed unfinished old new → to ≡ length (changes old.journal)
    → Offers id pushed old new
all_looked_at id to pushed false old new r all = record { sends = r.sends; over = r.over }
all_looked_at id to pushed true old new r all =
    let same = changes_stay old new r.sends.kept.kept in
    let seen = r.over.seen in
    let more = r.over.more in
    absurd (omega (arith, same, seen, more, all))

-- ---- one subscriber after the other

counts_of : (id pushed : ℕ) (old new : HubState) → SendsNotices id pushed old new
    → OffersCount pushed old new
counts_of id pushed old new r = record {
  more = length r.notices;
  total = ap (λ (l : List (LaneEnd Notice)). sum_by (λ (e : LaneEnd Notice). length e.items) l)
      r.sent
      ∙ sum_put old.senders id (length r.notices) r.lane
      (with_items r.lane (r.lane.items ++ r.notices))
      r.at (length-append r.lane.items r.notices);
  counted = r.counted;
  kept = r.kept.kept;
}

both_shown : (m n : ℕ) → shown (shown m + shown n) ≡ shown (m + n)
both_shown m n = grind (arith)

pub before_or_at : (m n : ℕ) → m < n + 1 → (m < n) ⊎ (m ≡ n)
before_or_at zero zero h = inr refl
before_or_at zero (suc n) h = inl (omega arith)
before_or_at (suc m) zero h = absurd (omega arith)
before_or_at (suc m) (suc n) h = elim (before_or_at m n (omega arith)) [
  | inl less ↦ inl (omega arith)
  | inr same ↦ inr (ap suc same)
]

-- who is unfinished is so after a section for another one
still_unfinished : (id k : ℕ) (old between new : HubState) → KeepsButOffersTo id between new
    → k ≢ id → IsUnfinished k old between → IsUnfinished k old new
still_unfinished id k old between new kept apart part =
    let same = changes_stay between new kept.kept in
    let more = part.part.more in
    record {
      cursor = part.cursor;
      at = part.at;
      part = record {
        cursor = part.part.cursor;
        at = kept.cursors k apart ∙ part.part.at;
        seen = part.part.seen;
        more = omega (arith, same, more);
      };
    }

-- Notices were offered to the subscribers below this id, and no change was looked at for the
-- others.
pub record OffersBelow (id answer : ℕ) (unfinished : Bool) (old new : HubState) : Type 0 where
  pub counts : OffersCount answer old new
  pub each : (k : ℕ) → k < id → HasNoOffer k new ⊎ IsUnfinished k old new
  pub over : MatchBool unfinished ((k : ℕ) × (k < id) × IsUnfinished k old new)
      ((k : ℕ) → k < id → HasNoOffer k new)
  pub others : (k : ℕ) → id ≤ k
      → slice_get new.journal.cursors k ≡ slice_get old.journal.cursors k

pub none_yet : (s : HubState) → OffersBelow 0 0 false s s
none_yet s = record {
  counts = record { more = 0; total = omega arith; counted = refl; kept = kept_itself s };
  each = λ k below. absurd (omega arith);
  over = λ k below. absurd (omega arith);
  others = λ k past. refl;
}

-- and to the next one
module _ (id to : ℕ) (old between new : HubState) (cursor : Cursor)
    (at : slice_get old.journal.cursors id ≡ Some cursor) (limit : to ≡ cursor.seen + 1024) where
  its_part : IsPartSeen id to new → IsUnfinished id old new
  its_part part = record {
    cursor = cursor;
    at = at;
    part = subst (λ (n : ℕ). IsPartSeen id n new) limit part;
  }

  module _ (answer pushed : ℕ) where
    its_end : (cut : Bool) → OffersUpTo id to pushed cut between new
        → HasNoOffer id new ⊎ IsUnfinished id old new
    its_end true next = inr (its_part next.over)
    its_end false next = inl next.over

    still_none : (cut : Bool) → OffersUpTo id to pushed cut between new → (k : ℕ) → k < id
        → HasNoOffer k between → HasNoOffer k new
    still_none cut next k less none =
        stays_over k between new next.sends.kept.kept
        (ap (λ (l : List (LaneEnd Notice)). slice_get l k) next.sends.sent
        ∙ get_other between.senders id k (with_items next.sends.lane (next.sends.lane.items
        ++ next.sends.notices))
        (omega arith))
        none

    still_each : (left cut : Bool) → OffersBelow id answer left old between
        → OffersUpTo id to pushed cut between new → (k : ℕ) → k < id + 1
        → HasNoOffer k new ⊎ IsUnfinished k old new
    still_each left cut r next k below = elim (before_or_at k id below) [
      | inl less ↦ elim (r.each k less) [
        | inl none ↦ inl (still_none cut next k less none)
        | inr part ↦ inr (still_unfinished id k old between new next.sends.kept (omega arith) part)
      ]
      | inr same ↦ subst (λ (n : ℕ). HasNoOffer n new ⊎ IsUnfinished n old new) (sym same)
          (its_end cut next)
    ]

    still_over : (left cut : Bool) → OffersBelow id answer left old between
        → OffersUpTo id to pushed cut between new
        → MatchBool (left || cut) ((k : ℕ) × (k < id + 1) × IsUnfinished k old new)
        ((k : ℕ) → k < id + 1 → HasNoOffer k new)
    still_over true cut r next =
        let less = r.over.1 in (
          r.over.0,
          omega arith,
          still_unfinished id r.over.0 old between new next.sends.kept (omega arith) r.over.2,
        )
    still_over false true r next = (id, omega arith, its_part next.over)
    still_over false false r next = λ k below. elim (before_or_at k id below) [
      | inl less ↦ still_none false next k less (r.over k less)
      | inr same ↦ subst (λ (n : ℕ). HasNoOffer n new) (sym same) next.over
    ]

pub one_offered : (id at to answer pushed sum : ℕ) (left cut : Bool) (old between new : HubState)
    → at ≡ id → id < length between.journal.cursors
    → OffersBelow id answer left old between → OffersUpTo at to pushed cut between new
    → IfSome (slice_get between.journal.cursors at) (λ cursor. to ≡ cursor.seen + 1024)
    → sum ≡ shown (answer + pushed) → OffersBelow (id + 1) sum (left || cut) old new
one_offered id at to answer pushed sum left cut old between new at_is below r found limit is =
    let next = subst (λ (n : ℕ). OffersUpTo n to pushed cut between new) at_is found in
    let there = get_within between.journal.cursors id below in
    let cursor = there.0 in
    let up_to : to ≡ cursor.seen + 1024 =
    subst (λ (o : Option Cursor). IfSome o (λ c. to ≡ c.seen + 1024))
    (ap (slice_get between.journal.cursors) at_is ∙ there.1) limit in
    let was : slice_get old.journal.cursors id ≡ Some cursor =
    sym (r.others id (omega arith)) ∙ there.1 in
    let counts = counts_of id pushed between new next.sends in
    let first = r.counts.total in
    let second = counts.total in
    record {
      counts = record {
        more = r.counts.more + counts.more;
        total = omega (arith, first, second);
        counted = is ∙ (λ i. shown (r.counts.counted i + counts.counted i))
            ∙ both_shown r.counts.more counts.more;
        kept = kept_on old between new r.counts.kept counts.kept;
      };
      each = still_each id to old between new cursor was up_to answer pushed left cut r next;
      over = still_over id to old between new cursor was up_to answer pushed left cut r next;
      others = λ k past. next.sends.kept.cursors k (omega arith) ∙ r.others k (omega arith);
    }

-- and so to all of them
pub all_offered : (count answer : ℕ) (unfinished : Bool) (old new : HubState)
    → OffersBelow count answer unfinished old new → length old.journal.cursors ≤ count
    → OffersAll answer unfinished old new
all_offered count answer unfinished old new r few = record {
  counts = r.counts;
  each = λ id below. r.each id (omega (arith, stays));
  over = over unfinished r.over;
}
  where
    stays : length new.journal.cursors ≡ length old.journal.cursors
    stays = count_stays old new r.counts.kept

    over : (b : Bool) → MatchBool b ((k : ℕ) × (k < count) × IsUnfinished k old new)
        ((k : ℕ) → k < count → HasNoOffer k new)
        → MatchBool b ((id : ℕ) × IsUnfinished id old new)
        ((id : ℕ) → id < length new.journal.cursors → HasNoOffer id new)
    over true one = (one.0, one.2)
    over false none = λ id below. none id (omega (arith, stays))
