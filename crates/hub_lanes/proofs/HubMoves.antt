-- What a consumed item and an offered notice leave of the consolidator's cell, said of plain
-- states.
use Rattle.std.proofs.Common.{◌≡◌, ◌≢◌, ℕ, zero, suc, ◌+◌, ◌≤◌, ◌<◌, Bool, true, false, List, [], ◌∷◌, ◌++◌, length, map, filter, take, drop, Some, None, Result, Ok, Err, refl, sym, ap, subst, ◌∙◌, arith, append-nil, length-append, inl, inr}
use Rattle.std.specs.Prelude.{slice_get, slice_set, nat_le, ◌⊎◌, AllPairs}
use Rattle.std.specs.Option.{option_map}
use Rattle.std.proofs.lemmas.List.Elements.{filter-append}
use Rattle.std.proofs.lemmas.List.{take-append-drop}
use Rattle.std.proofs.lemmas.Bool.Decides.{nat_tests}
use Rattle.std.proofs.Math.ListN.{length-set}
use Rattle.feed_types.specs.declared.item.Numbered.{Numbered}
use Rattle.feed_types.specs.declared.journal.Entry.{Entry}
use Rattle.feed_types.specs.declared.journal.Entry.TheVariants as entry
use Rattle.feed_types.specs.declared.journal.Notice.{Notice}
use Rattle.filter_terms.specs.declared.terms.Terms.{Terms}
use Rattle.filter_terms.specs.Terms.{meets}
use Rattle.journal_book.specs.declared.cursor.Cursor.{Cursor}
use Rattle.journal_book.specs.Changes.{changes_of}
use Rattle.journal_book.specs.Journals.{JournalState, changes, offered_of, Declares, Journals, Reserves, terms_at}
use Rattle.journal_book.specs.declared.fault.JournalFault.{JournalFault}
use Rattle.journal_book.specs.declared.fault.JournalFault.TheVariants.{NoMemory, JournalFull, UnknownVenue, AlreadySo, TooManySubscribers, SubscriberBehind, TooLate}
use Rattle.journal_book.specs.Cursors.{PassesUnwanted}
use Rattle.journal_book.specs.Places.{IsNextPlace}
use Rattle.journal_book.specs.PlaceLaws.{next_of_wanted, one_more_wanted}
use Rattle.journal_book.specs.Wanted.{wanted_of}
use Rattle.journal_book.specs.Growth.{changes_begin}
use Rattle.journal_book.specs.Rising.{wanted_rise, pairs_rise}
use Rattle.fifo_lane.specs.Lane.{LaneEnd, HasFilled, with_items}
use Rattle.fifo_lane.specs.Rising.{AllPairs-prefix}
use Rattle.feed_steps.specs.laws.Lists.{begins_len, found_within, get_after_set, get_push, put_same, take_same}
use Rattle.feed_types.specs.declared.genuine.Genuine.{Ghosts as Genuine}
use Rattle.feed_steps.specs.Premises.{AreInSequence}
use Rattle.hub_lanes.specs.declared.spare.SpareLane.{SpareLane}
use Rattle.feed_steps.specs.Lanes.{FeedLanes}
use Rattle.journal_book.specs.ItemsIn.{items_in}
use Rattle.journal_book.specs.ItemLaws.{items_put, items_here, items_there}
use Rattle.hub_lanes.specs.Hubs.{HubState, IsConsumed, HubLockInvariant, IsOffered, IsSpare}
use Rattle.hub_lanes.specs.Sections.{Consumes, ConsumesOne, HubOffersOne, KeepsButOffersTo, hub_intake}
use Rattle.feed_steps.specs.declared.unsent.Unsent.TheVariants as unsent
use Rattle.hub_lanes.proofs.LaneEnds.{get_other}

-- ---- cursors

-- a cursor that goes on keeps its terms
terms_put : (xs : List Cursor) (i to : ℕ) (c : Cursor) → slice_get xs i ≡ Some c
    → map (λ (x : Cursor). x.terms) (slice_set xs i (record c { seen = to })) ≡ map
    (λ (x : Cursor). x.terms) xs
terms_put [] i to c e = refl
terms_put (x ∷ xs) zero to c e = let same : x ≡ c = cc in
    ap (λ (y : Cursor). y.terms ∷ map (λ (z : Cursor). z.terms) xs) (sym same)
terms_put (x ∷ xs) (suc i) to c e = ap (λ (l : List Terms). x.terms ∷ l) (terms_put xs i to c e)

-- ---- one more entry

-- what was sent to a subscriber stays what it was offered
offered_still : (lanes : FeedLanes) (j : JournalState) (e : Entry) (ready : Bool)
    (id : ℕ) (l : LaneEnd Notice)
    → IsOffered lanes j id l
    → IsOffered lanes (record j { entries = j.entries ++ e ∷ []; ready = ready }) id l
offered_still lanes j e ready id l o = record {
  tag = o.tag;
  lane = o.lane;
  capacity = o.capacity;
  items = λ cursor at.
      let grows = changes_begin j.symbols j.entries (e ∷ []) in
      let were = o.items cursor at in
      let more = begins_len grows in
      let seen = were.0 in (
        omega arith,
        were.1 ∙ ap (filter (meets cursor.terms))
            (sym (take_same (changes_of j.symbols j.entries)
            (changes_of j.symbols (j.entries ++ e ∷ []))
            cursor.seen grows were.0)),
      );
}

-- an entry of self-help changes no venue's items
pub declares : {S : Type 0} (premise : Genuine S) (lanes : FeedLanes) (s : HubState)
    (k : ℕ) (on ready : Bool)
    → HubLockInvariant premise lanes s
    → HubLockInvariant premise lanes (record s {
      journal =
          record s.journal {
            entries = s.journal.entries
                ++ entry.SelfHelp k on ∷ [];
            ready = ready;
          };
    })
declares premise lanes s k on ready h = record {
  venues = h.venues;
  count = h.count;
  few = h.few;
  symbols = h.symbols;
  size = h.size;
  kept = h.kept;
  subscribers = h.subscribers;
  many = h.many;
  consumed = λ v e at.
      let o = h.consumed v e at in
      let same : items_in (s.journal.entries ++ entry.SelfHelp k on ∷ [])
      v ≡ items_in s.journal.entries v =
      items_put v s.journal.entries (entry.SelfHelp k on)
      ∙ append-nil (items_in s.journal.entries v) in
      record {
        tag = o.tag;
        lane = o.lane;
        items = o.items ∙ sym same;
        sequence = subst (λ (l : List Numbered). AreInSequence premise v l) (sym same) o.sequence;
      };
  offered = λ id e at. offered_still lanes s.journal (entry.SelfHelp k on) ready
      id e (h.offered id e at);
  spare = h.spare;
}

pub consumes : {S : Type 0} (premise : Genuine S) (lanes : FeedLanes) (s : HubState)
    (k : ℕ) (r : LaneEnd Numbered)
    (x : Numbered) (ready : Bool) → HubLockInvariant premise lanes s
    → slice_get s.receivers k ≡ Some r
    → AreInSequence premise r.tag (r.items ++ x ∷ [])
    → HubLockInvariant premise lanes (record s {
      journal =
          record s.journal {
            entries = s.journal.entries
                ++ entry.Consumed k x ∷ [];
            ready = ready;
          };
      receivers = slice_set s.receivers k (with_items r (r.items ++ x ∷ []));
    })
consumes premise lanes s k r x ready h at may = record {
  venues = length-set s.receivers k w ∙ h.venues;
  count = h.count;
  few = h.few;
  symbols = h.symbols;
  size = h.size;
  kept = h.kept;
  subscribers = h.subscribers;
  many = h.many;
  consumed = λ v e got. elim (get_after_set s.receivers k v w e got) [
    | inl here ↦ subst (λ (y : ℕ × LaneEnd Numbered). IsConsumed premise lanes entries y.0 y.1)
        (λ i. (sym here.0 i, sym here.1 i)) this
    | inr there ↦ other v e there.0 there.1
  ];
  offered = λ id e got. offered_still lanes s.journal (entry.Consumed k x) ready id
      e (h.offered id e got);
  spare = h.spare;
}
  where
    w : LaneEnd Numbered
    w = with_items r (r.items ++ x ∷ [])

    entries : List Entry
    entries = s.journal.entries ++ entry.Consumed k x ∷ []

    this : IsConsumed premise lanes entries k w
    this =
        let mine = h.consumed k r at in
        let items : r.items ++ x ∷ [] ≡ items_in entries k =
        ap (λ (l : List Numbered). l ++ x ∷ []) mine.items
        ∙ sym (items_here k k s.journal.entries x refl) in
        record {
          tag = mine.tag;
          lane = mine.lane;
          items = items;
          sequence = subst (λ (y : ℕ × List Numbered). AreInSequence premise y.0 y.1)
              (λ i. (mine.tag i, items i)) may;
        }

    other : (v : ℕ) (e : LaneEnd Numbered) → v ≢ k → slice_get s.receivers v ≡ Some e
        → IsConsumed premise lanes entries v e
    other v e apart got =
        let o = h.consumed v e got in
        let same : items_in entries v ≡ items_in s.journal.entries v = items_there v k
        s.journal.entries x apart in
        record {
          tag = o.tag;
          lane = o.lane;
          items = o.items ∙ sym same;
          sequence = subst (λ (l : List Numbered). AreInSequence premise v l) (sym same) o.sequence;
        }

-- ---- one more notice, or none

-- the cursor is at a place, and what was sent is what was wanted up to there
pub moves : {S : Type 0} (premise : Genuine S) (lanes : FeedLanes)
    (s : HubState) (id : ℕ) (c : Cursor)
    (l : LaneEnd Notice) (place : ℕ) (sent : List Notice) → HubLockInvariant premise lanes s
    → slice_get s.journal.cursors id ≡ Some c → slice_get s.senders id ≡ Some l
    → place ≤ length (changes s.journal)
    → sent ≡ filter (meets c.terms) (take place (changes s.journal))
    → HubLockInvariant premise lanes (record s {
      journal =
          record s.journal { cursors = slice_set s.journal.cursors id (record c { seen = place }) };
      senders = slice_set s.senders id (with_items l sent);
    })
moves premise lanes s id c l place sent h at from within is = record {
  venues = h.venues;
  count = h.count;
  few = h.few;
  symbols = h.symbols;
  size = h.size;
  kept = h.kept;
  many = ap (λ (n : ℕ). n + length s.spare) (length-set s.journal.cursors id
      (record c { seen = place })) ∙ h.many;
  subscribers = length-set s.senders id (with_items l sent) ∙ h.subscribers
      ∙ sym (length-set s.journal.cursors id (record c { seen = place }));
  consumed = h.consumed;
  offered = λ j e got. elim (get_after_set s.senders id j (with_items l sent) e got) [
    | inl here ↦ subst (λ (y : ℕ × LaneEnd Notice). IsOffered lanes after y.0 y.1)
        (λ i. (sym here.0 i, sym here.1 i))
        this
    | inr there ↦ other j e there.0 there.1
  ];
  spare = λ k x got. subst (λ (n : ℕ). IsSpare lanes (n + k) x)
      (sym (length-set s.journal.cursors id (record c { seen = place }))) (h.spare k x got);
}
  where
    after : JournalState
    after = record s.journal {
      cursors = slice_set s.journal.cursors id
          (record c { seen = place });
    }

    here_items : (cursor : Cursor) → ((id ≡ id) × (cursor ≡ record c { seen = place }))
        ⊎ ((id ≢ id) × (slice_get s.journal.cursors id ≡ Some cursor))
        → (cursor.seen ≤ length (changes s.journal))
        × (sent ≡ offered_of (changes s.journal) cursor)
    here_items cursor (inl here) = subst (λ (y : Cursor). (y.seen ≤ length (changes s.journal))
        × (sent ≡ offered_of (changes s.journal) y)) (sym here.1) (within, is)
    here_items cursor (inr there) = absurd (there.0 refl)

    this : IsOffered lanes after id (with_items l sent)
    this =
        let mine = h.offered id l from in
        record {
          tag = mine.tag;
          lane = mine.lane;
          capacity = mine.capacity;
          items = λ cursor got. here_items cursor (get_after_set s.journal.cursors id id
              (record c { seen = place }) cursor
              got);
        }

    other : (j : ℕ) (e : LaneEnd Notice) → j ≢ id → slice_get s.senders j ≡ Some e
        → IsOffered lanes after j e
    other j e apart got =
        let o = h.offered j e got in
        record {
          tag = o.tag;
          lane = o.lane;
          capacity = o.capacity;
          items = λ cursor here. elim (get_after_set s.journal.cursors id j
              (record c { seen = place }) cursor here)
              [ inl same ↦ absurd (apart same.0) | inr there ↦ o.items cursor there.1 ];
        }

-- the cursor is past changes that aren't wanted
pub passes_kept : {S : Type 0} (premise : Genuine S) (lanes : FeedLanes)
    (s : HubState) (id most : ℕ)
    (l : LaneEnd Notice) (j : JournalState) → HubLockInvariant premise lanes s
    → slice_get s.senders id ≡ Some l
    → PassesUnwanted s.journal id most j → HubLockInvariant premise lanes (record s { journal = j })
passes_kept premise lanes s id most l j h from passes =
    let c = passes.cursor in
    let more = passes.more in
    subst (λ (y : JournalState × List (LaneEnd Notice)). HubLockInvariant premise lanes
    (record s { journal = y.0; senders = y.1 }))
    (λ i. (sym passes.moved i, put_same s.senders id l from i))
    (moves premise lanes s id c l (c.seen + most) l.items h passes.at from (omega arith)
    (((h.offered id l from).items c passes.at).1 ∙ sym passes.unwanted))

-- what was wanted up to a place, and more of it, are numbered rising
pub may_offer : (symbols : List (List ℕ)) (terms : Terms) (es : List Entry) (place : ℕ)
    → AllPairs (λ (x y : Notice). x.number < y.number)
    (filter (meets terms) (take place (changes_of symbols es)))
may_offer symbols terms es place =
    let notices = changes_of symbols es in
    let whole : filter (meets terms) notices ≡ filter (meets terms) (take place notices)
    ++ filter (meets terms)
    (drop place notices) =
    ap (filter (meets terms)) (sym (take-append-drop place notices))
    ∙ filter-append (meets terms) (take place notices) (drop place notices) in
    AllPairs-prefix (λ (x y : Notice). x.number < y.number)
    (filter (meets terms) (take place notices))
    (filter (meets terms) (drop place notices))
    (subst (λ (l : List Notice). AllPairs (λ (x y : Notice). x.number < y.number) l) whole
    (pairs_rise 0 (wanted_of symbols terms es) (wanted_rise symbols terms es)))

-- ---- consume

full_is : (m n : ℕ) → m ≤ n → nat_le m n ≡ true
full_is m n h = grind (arith, nat_tests)

room_is : (m n : ℕ) → n < m → nat_le m n ≡ false
room_is m n h = grind (arith, nat_tests)

pub ready_still : {S : Type 0} (premise : Genuine S) (lanes : FeedLanes)
    (s : HubState) (j : JournalState)
    → HubLockInvariant premise lanes s → j ≡ record s.journal { ready = true }
    → HubLockInvariant premise lanes (record s { journal = j })
ready_still premise lanes s j h is = subst (λ (x : JournalState). HubLockInvariant premise lanes
    (record s { journal = x })) (sym is) (record {
      venues = h.venues;
      count = h.count;
      few = h.few;
      symbols = h.symbols;
      size = h.size;
      kept = h.kept;
      subscribers = h.subscribers;
      many = h.many;
      consumed = h.consumed;
      offered = λ id e at. (let o = h.offered id e at in record {
        tag = o.tag;
        lane = o.lane;
        capacity = o.capacity;
        items = o.items;
      });
      spare = h.spare;
    })

module _ (venue : ℕ) (s : HubState) (r : LaneEnd Numbered)
    (at : slice_get s.receivers venue ≡ Some r) where
  pub consume_refused : (fault : JournalFault) (j : JournalState) → Reserves s.journal (Err fault) j
      → Consumes venue (Err fault) s (record s { journal = j })
  consume_refused JournalFull j e = record {
    lane = r;
    at = at;
    popped = None;
    after = hub_intake r s.journal;
    comes = rw (full_is s.journal.journal (length s.journal.entries) e.0) (refl, refl);
    received = sym (put_same s.receivers venue r at);
    entries = ap (λ (x : JournalState). x.entries) e.1;
  }
  consume_refused NoMemory j e = (ap (λ (x : JournalState). record s { journal = x }) e.1, e.2)
  consume_refused SubscriberBehind j e = (
    ap (λ (x : JournalState). record s { journal = x }) e.1,
    e.2,
  )
  consume_refused UnknownVenue j e = absurd e
  consume_refused AlreadySo j e = absurd e
  consume_refused TooManySubscribers j e = absurd e
  consume_refused TooLate j e = absurd e

  module _ (j : JournalState) (w : LaneEnd Numbered)
      (room : length s.journal.entries < s.journal.journal)
      (is : j ≡ record s.journal { ready = true }) where
    pub consume_none : w ≡ r → ConsumesOne venue (Ok None) s
        (record s { journal = j; receivers = slice_set s.receivers venue w })
    consume_none same = record {
      lane = r;
      at = at;
      popped = None;
      after = hub_intake r s.journal;
      comes = rw (room_is s.journal.journal (length s.journal.entries) room) (refl, refl);
      received = ap (slice_set s.receivers venue) same;
      entries = ap (λ (x : JournalState). x.entries) is;
    }

    pub consume_none_kept : {S : Type 0} (premise : Genuine S) (lanes : FeedLanes)
        → HubLockInvariant premise lanes s
        → w ≡ r → HubLockInvariant premise lanes
        (record s { journal = j; receivers = slice_set s.receivers venue w })
    consume_none_kept premise lanes h same =
        subst (λ (x : List (LaneEnd Numbered)). HubLockInvariant premise lanes
        (record s { journal = j; receivers = x }))
        (sym (ap (slice_set s.receivers venue) same ∙ put_same s.receivers venue r at))
        (ready_still premise lanes s j h is)

    module _ (x : Numbered) (k : JournalState) (position : ℕ)
        (grown : w ≡ with_items r (r.items ++ x ∷ []))
        (journals : Journals j (entry.Consumed venue x) k) where
      k_is : k ≡ record s.journal {
        entries = s.journal.entries ++ entry.Consumed venue x
            ∷ [];
        ready = k.ready;
      }
      k_is = journals ∙ ap (λ (y : JournalState). record y {
        entries = y.entries ++ entry.Consumed venue x ∷ [];
        ready = k.ready;
      }) is

      pub consume_one : position ≡ length k.entries → ConsumesOne venue (Ok (Some position)) s
          (record s { journal = k; receivers = slice_set s.receivers venue w })
      consume_one counted =
          let entries = ap (λ (y : JournalState). y.entries) k_is in
          let number : position ≡ length s.journal.entries + 1 = counted ∙ ap length entries
          ∙ length-append s.journal.entries (entry.Consumed venue x ∷ []) in
          record {
            lane = r;
            at = at;
            popped = Some x;
            after = record {
              received = r.items ++ x ∷ [];
              entries = s.journal.entries
                  ++ entry.Consumed venue x ∷ [];
            };
            comes = rw (room_is s.journal.journal (length s.journal.entries) room, number)
                (refl, refl);
            received = ap (slice_set s.receivers venue) grown;
            entries = entries;
          }

      pub consume_one_kept : {S : Type 0} (premise : Genuine S) (lanes : FeedLanes)
          → HubLockInvariant premise lanes s
          → AreInSequence premise r.tag w.items
          → HubLockInvariant premise lanes
          (record s { journal = k; receivers = slice_set s.receivers venue w })
      consume_one_kept premise lanes h may =
          subst (λ (y : JournalState × LaneEnd Numbered). HubLockInvariant premise lanes
          (record s { journal = y.0; receivers = slice_set s.receivers venue y.1 }))
          (λ i. (sym k_is i, sym grown i))
          (consumes premise lanes s venue r x k.ready h at
          (subst (λ (e : LaneEnd Numbered). AreInSequence premise r.tag e.items) grown may))

-- ---- offer

-- nothing but the subscriber's cursor and its lane has changed
pub offer_keeps : (s : HubState) (id to : ℕ) (c : Cursor) (j : JournalState)
    (senders : List (LaneEnd Notice))
    → slice_get s.journal.cursors id ≡ Some c
    → j ≡ record s.journal { cursors = slice_set s.journal.cursors id (record c { seen = to }) }
    → KeepsButOffersTo id s (record s { journal = j; senders = senders })
offer_keeps s id to c j senders at is = record {
  kept = record {
    journal = is ∙ ap (λ (x : JournalState). record s.journal { cursors = x.cursors }) (sym is);
    terms = ap (λ (x : JournalState). map (λ (y : Cursor). y.terms) x.cursors) is
        ∙ terms_put s.journal.cursors id to c at;
    others = refl;
  };
  cursors = λ k apart. ap (λ (x : JournalState). slice_get x.cursors k) is
      ∙ get_other s.journal.cursors id k (record c { seen = to }) apart;
}

module _ {S : Type 0} (premise : Genuine S) (lanes : FeedLanes) (s : HubState) (id place : ℕ)
    (h : HubLockInvariant premise lanes s) (l : LaneEnd Notice)
    (from : slice_get s.senders id ≡ Some l)
    (c : Cursor) (at : slice_get s.journal.cursors id ≡ Some c)
    (found : IsNextPlace (meets c.terms) (changes s.journal) c.seen place) where
  items_are : l.items ≡ filter (meets c.terms) (take c.seen (changes s.journal))
  items_are = ((h.offered id l from).items c at).1

  wanted_next : slice_get (wanted_of s.journal.symbols c.terms s.journal.entries) (length l.items)
      ≡ slice_get (changes s.journal) place
  wanted_next = ap (λ (xs : List Notice). slice_get (wanted_of s.journal.symbols c.terms
      s.journal.entries) (length xs))
      items_are ∙ sym (next_of_wanted (meets c.terms) (changes s.journal) c.seen place found)

  terms_here : terms_at s.journal id ≡ Some c.terms
  terms_here = ap (option_map (λ (x : Cursor). x.terms)) at

  pub looks_kept : (j : JournalState) (w : LaneEnd Notice)
      → j ≡ record s.journal {
        cursors = slice_set s.journal.cursors id
            (record c { seen = place });
      } → w ≡ l
      → HubLockInvariant premise lanes
      (record s { journal = j; senders = slice_set s.senders id w })
  looks_kept j w is same =
      subst (λ (y : JournalState × LaneEnd Notice). HubLockInvariant premise lanes
      (record s { journal = y.0; senders = slice_set s.senders id y.1 }))
      (λ i. (sym is i, sym same i))
      (moves premise lanes s id c l place l.items h at from found.within
      (items_are ∙ sym found.passed))

  pub looks_only : (j : JournalState) → j ≡ record s.journal
      { cursors = slice_set s.journal.cursors id (record c { seen = place }) }
      → HubLockInvariant premise lanes (record s { journal = j })
  looks_only j is = subst (λ (x : List (LaneEnd Notice)). HubLockInvariant premise lanes
      (record s { journal = j; senders = x })) (put_same s.senders id l from)
      (looks_kept j l is refl)

  pub offers_kept : (j : JournalState) (w : LaneEnd Notice) (n : Notice)
      → Some n ≡ slice_get (changes s.journal) place
      → j ≡ record s.journal {
        cursors = slice_set s.journal.cursors id
            (record c { seen = place + 1 });
      }
      → w ≡ with_items l (l.items ++ n ∷ []) → HubLockInvariant premise lanes
      (record s { journal = j; senders = slice_set s.senders id w })
  offers_kept j w n here is grown =
      let below = found_within (changes s.journal) place n here in
      subst (λ (y : JournalState × LaneEnd Notice). HubLockInvariant premise lanes
      (record s { journal = y.0; senders = slice_set s.senders id y.1 }))
      (λ i. (sym is i, sym grown i))
      (moves premise lanes s id c l (place + 1) (l.items ++ n ∷ []) h at from (omega arith)
      (ap (λ (xs : List Notice). xs ++ n ∷ []) items_are
      ∙ sym (one_more_wanted (meets c.terms) (changes s.journal) c.seen place found n (sym here))))

  pub offer_may : (n : Notice) → Some n ≡ slice_get (changes s.journal) place
      → AllPairs (λ (x y : Notice). x.number < y.number) (l.items ++ n ∷ [])
  offer_may n here =
      subst (λ (xs : List Notice). AllPairs (λ (x y : Notice). x.number < y.number) xs)
      (one_more_wanted (meets c.terms) (changes s.journal) c.seen place found n (sym here)
      ∙ ap (λ (xs : List Notice). xs ++ n ∷ []) (sym items_are))
      (may_offer s.journal.symbols c.terms s.journal.entries (place + 1))

  module _ (j : JournalState) where
    pub offer_nothing : None ≡ slice_get (changes s.journal) place
        → HubOffersOne id (Err unsent.Nothing) s (record s { journal = j })
    offer_nothing none = record {
      lane = l;
      at = from;
      terms = c.terms;
      terms_is = terms_here;
      full = λ t. absurd cc;
      sent = l.items;
      comes = rw (wanted_next, ← none) (refl, refl);
      sent_is = sym (put_same s.senders id l from);
    }

    pub offer_full : (n : Notice) (w : LaneEnd Notice)
        → Some n ≡ slice_get (changes s.journal) place → w ≡ l
        → HasFilled l → HubOffersOne id (Err unsent.LaneFull) s
        (record s { journal = j; senders = slice_set s.senders id w })
    offer_full n w here same was = record {
      lane = l;
      at = from;
      terms = c.terms;
      terms_is = terms_here;
      full = λ t. was;
      sent = l.items;
      comes = rw (wanted_next, ← here) (refl, refl);
      sent_is = ap (slice_set s.senders id) same;
    }

    pub offer_one : (n : Notice) (w : LaneEnd Notice) (number : ℕ)
        → Some n ≡ slice_get (changes s.journal) place
        → number ≡ n.number → w ≡ with_items l (l.items ++ n ∷ [])
        → HubOffersOne id (Ok number) s
        (record s { journal = j; senders = slice_set s.senders id w })
    offer_one n w number here is grown = record {
      lane = l;
      at = from;
      terms = c.terms;
      terms_is = terms_here;
      full = λ t. absurd cc;
      sent = l.items ++ n ∷ [];
      comes = rw (wanted_next, ← here, is) (refl, refl);
      sent_is = ap (slice_set s.senders id) grown;
    }

-- ---- declare

pub declare_kept : {S : Type 0} (premise : Genuine S) (lanes : FeedLanes) (s : HubState)
    (venue : ℕ) (on : Bool)
    (answer : Result ℕ JournalFault) (j : JournalState) → HubLockInvariant premise lanes s
    → Declares s.journal venue on answer j
    → HubLockInvariant premise lanes (record s { journal = j })
declare_kept premise lanes s venue on answer j h d = by_answer answer d
  where
    stays : j ≡ s.journal → HubLockInvariant premise lanes (record s { journal = j })
    stays is = subst (λ (x : JournalState). HubLockInvariant premise lanes
        (record s { journal = x })) (sym is) h

    by_answer : (a : Result ℕ JournalFault) → Declares s.journal venue on a j
        → HubLockInvariant premise lanes (record s { journal = j })
    by_answer (Err UnknownVenue) e = stays e.1
    by_answer (Err AlreadySo) e = stays e.2
    by_answer (Err JournalFull) e = stays e.3
    by_answer (Err NoMemory) e = stays e.2.1
    by_answer (Err SubscriberBehind) e = stays e.2.1
    by_answer (Err TooManySubscribers) e = absurd e
    by_answer (Err TooLate) e = absurd e
    by_answer (Ok position) e = subst (λ (x : JournalState). HubLockInvariant premise lanes
        (record s { journal = x }))
        (sym e.3.0) (declares premise lanes s venue on j.ready h)

-- ---- subscribe

-- one more subscriber, with the first of the lanes that were left
pub subscribes : {S : Type 0} (premise : Genuine S) (lanes : FeedLanes)
    (s : HubState) (x : SpareLane)
    (rest : List SpareLane) (j : JournalState) (senders : List (LaneEnd Notice)) (terms : Terms)
    → HubLockInvariant premise lanes s
    → s.spare ≡ x ∷ rest → j ≡ record s.journal {
      cursors = s.journal.cursors ++ record {
        terms = terms;
        seen = 0;
      } ∷ [];
    } → senders ≡ s.senders ++ x.sender ∷ []
    → HubLockInvariant premise lanes (record s { journal = j; senders = senders; spare = rest })
subscribes premise lanes s x rest j senders terms h first is more =
    subst (λ (y : JournalState × List (LaneEnd Notice)). HubLockInvariant premise lanes
    (record s { journal = y.0; senders = y.1; spare = rest })) (λ i. (sym is i, sym more i))
    (record {
      venues = h.venues;
      count = h.count;
      few = h.few;
      symbols = h.symbols;
      size = h.size;
      kept = h.kept;
      subscribers = length-append s.senders (x.sender ∷ []) ∙ ap (λ (n : ℕ). n + 1) h.subscribers
          ∙ sym count;
      many = (let m = h.many in let f = ap length first in let n = count in omega arith);
      consumed = h.consumed;
      offered = λ id e at. elim (get_push s.senders id x.sender e at) [
        | inl here ↦ subst (λ (y : ℕ × LaneEnd Notice). IsOffered lanes after y.0 y.1)
            (λ i. (sym (here.0 ∙ h.subscribers) i, sym here.1 i)) this
        | inr there ↦ other id e there.0 there.1
      ];
      spare = λ k y at. subst (λ (n : ℕ). IsSpare lanes n y) (let n = count in omega arith)
          (h.spare (suc k) y (ap (λ (l : List SpareLane). slice_get l (suc k)) first ∙ at));
    })
  where
    new : Cursor
    new = record { terms = terms; seen = 0 }

    after : JournalState
    after = record s.journal {
      cursors = s.journal.cursors ++ record { terms = terms; seen = 0 }
          ∷ [];
    }

    count : length (s.journal.cursors ++ record { terms = terms; seen = 0 }
        ∷ []) ≡ length s.journal.cursors + 1
    count = length-append s.journal.cursors (record { terms = terms; seen = 0 } ∷ [])

    spare_is : IsSpare lanes (length s.journal.cursors + 0) x
    spare_is = h.spare 0 x (ap (λ (l : List SpareLane). slice_get l 0) first)

    here_items : (cursor : Cursor) → ((length s.journal.cursors ≡ length s.journal.cursors)
        × (cursor ≡ record { terms = terms; seen = 0 }))
        ⊎ ((length s.journal.cursors < length s.journal.cursors)
        × (slice_get s.journal.cursors (length s.journal.cursors) ≡ Some cursor))
        → (cursor.seen ≤ length (changes s.journal))
        × (x.sender.items ≡ offered_of (changes s.journal) cursor)
    here_items cursor (inl here) = subst (λ (y : Cursor). (y.seen ≤ length (changes s.journal))
        × (x.sender.items ≡ offered_of (changes s.journal) y)) (sym here.1)
        (omega arith, spare_is.items)
    here_items cursor (inr there) = absurd (let h = there.0 in omega arith)

    this : IsOffered lanes after (length s.journal.cursors) x.sender
    this =
        let zero_more : length s.journal.cursors + 0 ≡ length s.journal.cursors = omega arith in
        record {
          tag = spare_is.tag ∙ zero_more;
          lane = ap (slice_get lanes.subscribers) (sym zero_more) ∙ spare_is.lane;
          capacity = spare_is.capacity;
          items = λ cursor at. here_items cursor (get_push s.journal.cursors
              (length s.journal.cursors)
              (record { terms = terms; seen = 0 }) cursor at);
        }

    other : (id : ℕ) (e : LaneEnd Notice) → id < length s.senders → slice_get s.senders id ≡ Some e
        → IsOffered lanes after id e
    other id e below at =
        let o = h.offered id e at in
        let same = h.subscribers in
        record {
          tag = o.tag;
          lane = o.lane;
          capacity = o.capacity;
          items = λ cursor got. elim (get_push s.journal.cursors id
              (record { terms = terms; seen = 0 }) cursor got) [
                | inl here ↦ absurd (let k = here.0 in omega arith)
                | inr there ↦
                    o.items cursor there.1
              ];
        }

pub spare_end : {S : Type 0} (premise : Genuine S) (lanes : FeedLanes)
    (s : HubState) (x : SpareLane)
    (rest : List SpareLane) → HubLockInvariant premise lanes s → s.spare ≡ x ∷ rest
    → (x.receiver ≡ x.sender) × (x.receiver.tag ≡ length s.journal.cursors)
    × (x.receiver.items ≡ [])
    × (slice_get lanes.subscribers (length s.journal.cursors) ≡ Some x.receiver.lane)
    × (x.receiver.capacity ≡ lanes.setting.lane)
spare_end premise lanes s x rest h first =
    let i = h.spare 0 x (ap (λ (l : List SpareLane). slice_get l 0) first) in
    let zero_more : length s.journal.cursors + 0 ≡ length s.journal.cursors = omega arith in (
      i.same,
      ap (λ (e : LaneEnd Notice). e.tag) i.same ∙ i.tag ∙ zero_more,
      ap (λ (e : LaneEnd Notice). e.items) i.same
          ∙ i.items,
      ap (slice_get lanes.subscribers) (sym zero_more) ∙ i.lane
          ∙ ap (λ (e : LaneEnd Notice). Some e.lane) (sym i.same),
      ap (λ (e : LaneEnd Notice). e.capacity) i.same
          ∙ i.capacity,
    )
