-- The opening of a feed, in terms of plain states.
use Rattle.std.proofs.Common.{◌≡◌, ℕ, zero, suc, ◌+◌, List, [], ◌∷◌, length, map, Some, sym, ap, subst, ◌∙◌, arith, get_or, All}
use Rattle.std.specs.Prelude.{slice_get}
use Rattle.std.proofs.lemmas.Option.{slice_get-get_or}
use Rattle.std.proofs.lemmas.List.{length-map}
use Rattle.feed_types.specs.declared.item.Numbered.{Numbered}
use Rattle.feed_types.specs.declared.journal.Entry.{Entry}
use Rattle.journal_book.specs.Journals.{JournalState}
use Rattle.fifo_lane.specs.Lane.{LaneEnd}
use Rattle.feed_types.specs.declared.genuine.Genuine.{Ghosts as Genuine}
use Rattle.feed_steps.specs.Premises.{AreInSequence}
use Rattle.hub_lanes.specs.declared.spare.SpareLane.{SpareLane}
use Rattle.feed_steps.specs.Lanes.{FeedLanes, FeedSetting}
use Rattle.venue_lines.specs.Starts.{StartState, HasItsLane}
use Rattle.live_feed.specs.feed.Feeds.{lanes_of, IsClosed}
use Rattle.journal_book.specs.ItemsIn.{items_in}
use Rattle.hub_lanes.specs.Hubs.{HubLockInvariant}

get_map : {X Y : Type 0} (f : X → Y) (xs : List X) (k : ℕ) (x : X) → slice_get xs k ≡ Some x
    → slice_get (map f xs) k ≡ Some (f x)
get_map f [] k x e = absurd cc
get_map f (z ∷ xs) zero x e = let same : z ≡ x = cc in ap (λ (y : _). Some (f y)) same
get_map f (z ∷ xs) (suc k) x e = get_map f xs k x e

module _ (starts : List StartState) (receivers : List (LaneEnd Numbered)) (journal : JournalState)
    (spare : List SpareLane) (setting : FeedSetting) (lanes : FeedLanes)
    (h : IsClosed setting starts receivers journal spare)
    (e : lanes_of receivers spare setting starts ≡ lanes) where
  setting_is : setting ≡ lanes.setting
  setting_is = ap (λ (l : FeedLanes). l.setting) e

  lane_at : (k : ℕ) (r : LaneEnd Numbered) → slice_get receivers k ≡ Some r
      → slice_get lanes.venues k ≡ Some r.lane
  lane_at k r at = ap (λ (l : FeedLanes). slice_get l.venues k) (sym e)
      ∙ get_map (λ (x : LaneEnd Numbered). x.lane) receivers k r at

  no_cursors : length journal.cursors ≡ 0
  no_cursors = ap length h.cursors

  lanes_count : length lanes.venues ≡ length receivers
  lanes_count = ap (λ (l : FeedLanes). length l.venues) (sym e)
      ∙ length-map receivers (λ (x : LaneEnd Numbered). x.lane)

  -- there are as many venues as lanes for them
  pub starts_count : length starts ≡ length lanes.venues
  starts_count = h.begun.count ∙ sym lanes_count

  -- an empty journal with these lanes
  pub fresh : {S : Type 0} (premise : Genuine S) → HubLockInvariant premise lanes (record {
    journal = journal;
    receivers = receivers;
    senders = [];
    spare = spare;
  })
  fresh premise = record {
    venues = h.venues;
    count = lanes_count ∙ h.venues;
    few = h.few;
    symbols = h.symbols ∙ ap (λ (s : FeedSetting). s.symbols) setting_is;
    size = h.size ∙ ap (λ (s : FeedSetting). s.journal) setting_is;
    kept = h.kept ∙ ap (λ (s : FeedSetting). s.kept) setting_is;
    subscribers = sym (ap length h.cursors);
    consumed = λ v r at.
        let none : items_in journal.entries v ≡ [] =
        ap (λ (es : List Entry). items_in es v) h.entries in
        let new = h.begun.new v r at in
        record {
          tag = new.0;
          lane = lane_at v r at;
          items = new.1 ∙ sym none;
          sequence = subst (λ (l : List Numbered). AreInSequence premise v l) (sym none) tt;
        };
    offered = λ id x at. absurd cc;
    many = (let none = no_cursors in let all = h.many in omega arith);
    spare = λ k x at.
        let u = h.unused k x at in
        let none : k ≡ length journal.cursors + k = (let count = no_cursors in omega arith) in
        record {
          tag = u.tag ∙ none;
          lane = ap (slice_get lanes.subscribers) (sym none)
              ∙ ap (λ (l : FeedLanes). slice_get l.subscribers k) (sym e)
              ∙ get_map (λ (s : SpareLane). s.sender.lane) spare k x at;
          capacity = u.capacity_is ∙ ap (λ (s : FeedSetting). s.lane) setting_is;
          items = u.items;
          same = u.same;
        };
  }

  -- each venue has its lane
  pub have_lanes : All (HasItsLane lanes) starts
  have_lanes k d lt =
      let s = get_or starts k d in
      let at = slice_get-get_or starts k d lt in
      let there = h.begun.same k s at in
      let sized = h.begun.sized k s at in
      record {
        lane = ap (slice_get lanes.venues) (h.begun.new k s.lane there).0 ∙ lane_at k s.lane there;
        window = sized.0 ∙ ap (λ (s : FeedSetting). s.window) setting_is;
        capacity = sized.1 ∙ ap (λ (s : FeedSetting). s.lane) setting_is;
        next = ap (slice_get lanes.next) (h.begun.of k s at)
            ∙ ap (λ (l : FeedLanes). slice_get l.next k) (sym e)
            ∙ get_map (λ (x : StartState). x.next) starts k s at;
      }
