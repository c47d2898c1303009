-- The naming of the sessions that follow a venue's first one, in terms of plain states.
use Rattle.std.proofs.Common.{◌≡◌, inl, inr, ℕ, zero, suc, List, [], ◌∷◌, ◌++◌, drop, length, map, take, Option, Some, None, true, refl, sym, ap, subst, ◌∙◌, arith}
use Rattle.std.specs.Prelude.{◌==◌, slice_get, slice_set, if◌then◌else◌}
use Rattle.std.specs.Option.{option_map}
use Rattle.std.proofs.lemmas.Bool.Decides.{nat_tests}
use Rattle.std.proofs.lemmas.List.{append-nil, drop_all, length-set, map-set, take_all}
use Rattle.feed_types.specs.declared.item.Numbered.{Numbered}
use Rattle.journal_book.specs.Journals.{JournalState}
use Rattle.fifo_lane.specs.Lane.{LaneEnd}
use Rattle.feed_steps.specs.Lanes.{FeedLanes, FeedSetting}
use Rattle.feed_steps.specs.laws.Lists.{get_after_set}
use Rattle.venue_lines.specs.Starts.{AreStarts, StartState, followed_at, followed_by, names_by_venue, put_start}
use Rattle.hub_lanes.specs.declared.spare.SpareLane.{SpareLane}
use Rattle.live_feed.specs.feed.Feeds.{IsClosed, lanes_of}

-- nothing is put where there is no venue
none_put : (starts : List StartState) (venue : ℕ) (names : List (List ℕ))
    → slice_get starts venue ≡ None
    → slice_set (names_by_venue starts) venue names ≡ names_by_venue starts
none_put [] venue names none = refl
none_put (s ∷ starts) zero names none = absurd cc
none_put (s ∷ starts) (suc venue) names none =
    ap (λ (l : List (List (List ℕ))). s.next ∷ l) (none_put starts venue names none)

-- the sessions of a venue at its own start
own_next : (s : StartState) (venue : ℕ) (names : List (List ℕ)) → s.arbiter.venue ≡ venue
    → (followed_by s venue names).next ≡ names
own_next s venue names of =
    let is : (venue == s.arbiter.venue) ≡ true = grind (arith, nat_tests) in rw is refl

module _ (window lane : ℕ) (receivers : List (LaneEnd Numbered)) (venue : ℕ)
    (names : List (List ℕ)) where
  next_put : (found : Option StartState) (starts : List StartState)
      → slice_get starts venue ≡ found → AreStarts window lane starts receivers
      → names_by_venue (put_start (option_map (λ s. followed_by s venue names) found) venue starts)
      ≡ slice_set (names_by_venue starts) venue names
  next_put None starts none h = sym (none_put starts venue names none)
  next_put (Some s) starts at h =
      map-set (λ (x : StartState). x.next) starts venue (followed_by s venue names)
      ∙ ap (slice_set (names_by_venue starts) venue) (own_next s venue names (h.of venue s at))

  starts_put : (found : Option StartState) (starts : List StartState)
      → slice_get starts venue ≡ found → AreStarts window lane starts receivers
      → AreStarts window lane
      (put_start (option_map (λ s. followed_by s venue names) found) venue starts) receivers
  starts_put None starts none h = h
  starts_put (Some s) starts at h = record {
    count = length-set starts venue (followed_by s venue names) ∙ h.count;
    of = λ k y there. elim (get_after_set starts venue k (followed_by s venue names) y there) [
      | inl here ↦ ap (λ (x : StartState). x.arbiter.venue) here.1 ∙ h.of venue s at ∙ sym here.0
      | inr other ↦ h.of k y other.1
    ];
    same = λ k y there. elim (get_after_set starts venue k (followed_by s venue names) y there) [
      | inl here ↦ ap (slice_get receivers) here.0 ∙ h.same venue s at
          ∙ ap (λ (x : StartState). Some x.lane) (sym here.1)
      | inr other ↦ h.same k y other.1
    ];
    new = h.new;
    sized = λ k y there. elim (get_after_set starts venue k (followed_by s venue names) y there) [
      | inl here ↦ subst (λ (x : StartState). (x.arbiter.window ≡ window)
          × (x.lane.capacity ≡ lane)) (sym here.1) (h.sized venue s at)
      | inr other ↦ h.sized k y other.1
    ];
  }

-- the venue's names are set, and those of the others stay
next_followed : (setting : FeedSetting) (starts : List StartState)
    (receivers : List (LaneEnd Numbered)) (journal : JournalState) (spare : List SpareLane)
    (venue : ℕ) (names : List (List ℕ)) → IsClosed setting starts receivers journal spare
    → names_by_venue (followed_at starts venue names)
    ≡ slice_set (names_by_venue starts) venue names
next_followed setting starts receivers journal spare venue names h =
    next_put setting.window setting.lane receivers venue names (slice_get starts venue) starts refl
    h.begun

-- the feed is closed as before
pub closed_followed : (setting : FeedSetting) (starts : List StartState)
    (receivers : List (LaneEnd Numbered)) (journal : JournalState) (spare : List SpareLane)
    (venue : ℕ) (names : List (List ℕ)) → IsClosed setting starts receivers journal spare
    → IsClosed setting (followed_at starts venue names) receivers journal spare
closed_followed setting starts receivers journal spare venue names h = record {
  begun = starts_put setting.window setting.lane receivers venue names (slice_get starts venue)
      starts refl h.begun;
  venues = h.venues;
  few = h.few;
  entries = h.entries;
  cursors = h.cursors;
  unused = h.unused;
  many = h.many;
  symbols = h.symbols;
  size = h.size;
  kept = h.kept;
}

length_put : (found : Option StartState) (starts : List StartState) (venue : ℕ)
    → length (put_start found venue starts) ≡ length starts
length_put None starts venue = refl
length_put (Some s) starts venue = length-set starts venue s

-- the starts as they are written back
pub put_back : (starts slice after : List StartState) (count venue : ℕ) (names : List (List ℕ))
    → count ≡ length starts → slice ≡ starts → after ≡ followed_at slice venue names
    → take count (after ++ drop (length after) starts) ≡ followed_at starts venue names
put_back starts slice after count venue names all same followed =
    let is : after ≡ followed_at starts venue names =
    followed ∙ ap (λ (l : List StartState). followed_at l venue names) same in
    let long : length after ≡ length starts = ap length is
    ∙ length_put (option_map (λ s. followed_by s venue names) (slice_get starts venue)) starts
    venue in
    ap (λ (l : List StartState). take count (after ++ l))
    (drop_all (length after) starts (omega (arith, long)))
    ∙ ap (take count) (append-nil after) ∙ take_all count after (omega (arith, long, all)) ∙ is

-- the feed is seen as it was, but for the names
pub named : (setting : FeedSetting) (starts after : List StartState)
    (receivers : List (LaneEnd Numbered)) (journal : JournalState) (spare : List SpareLane)
    (lanes : FeedLanes) (venue : ℕ) (names : List (List ℕ))
    → IsClosed setting starts receivers journal spare
    → lanes_of receivers spare setting starts ≡ lanes → after ≡ followed_at starts venue names
    → lanes_of receivers spare setting after
    ≡ record lanes { next = slice_set lanes.next venue names }
named setting starts after receivers journal spare lanes venue names h seen followed =
    let all = lanes_of receivers spare setting starts in
    ap (λ (l : List StartState). record all { next = names_by_venue l }) followed
    ∙ ap (λ (l : List (List (List ℕ))). record all { next = l })
    (next_followed setting starts receivers journal spare venue names h)
    ∙ ap (λ (l : FeedLanes). record l { next = slice_set l.next venue names }) seen
