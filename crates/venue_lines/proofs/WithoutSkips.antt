-- Where nothing was given up, no item says so.
use Rattle.std.proofs.Common.{◌≡◌, ◌≢◌, ℕ, zero, suc, ◌+◌, ◌-◌, ◌≤◌, Bool, true, false, List, [], ◌∷◌, ◌++◌, map, drop, Option, Some, None, sym, ap, subst, ◌∙◌, arith}
use Rattle.std.specs.Prelude.{unwrap_or, ◌==◌, if◌then◌else◌}
use Rattle.std.specs.List.{AllByRecursion, range_with_len}
use Rattle.std.proofs.lemmas.Bool.{le-ltb}
use Rattle.feed_types.specs.declared.item.Item.{Item}
use Rattle.feed_types.specs.declared.item.Item.TheVariants as items
use Rattle.feed_types.specs.declared.item.Numbered.{Numbered}
use Rattle.feed_types.specs.Sequence.{SkipsNothing}
use Rattle.feed_types.specs.Sessions.{end_item}
use Rattle.line_arbiter.specs.Packets.{Input, carried, end_of, first_of}
use Rattle.line_arbiter.specs.Streams.{end_at, front_of, item_in, item_numbered, opens_of, place_of, stream_of}
use Rattle.line_arbiter.specs.Skips.{IsArrival}
use Rattle.line_arbiter.specs.Histories.{Begun, History, all_begun, items_of}
use Rattle.line_arbiter.specs.laws.OfSession.{skipped_below}
use Rattle.line_arbiter.specs.laws.Parts.{first_one, one_part}
use Rattle.venue_lines.specs.Cells.{CellFitsHistory, CellState}
use Rattle.venue_lines.proofs.Histories.{sent_begins}

-- ---- lists

both_skip_nothing : (xs ys : List Numbered) → SkipsNothing xs → SkipsNothing ys
    → SkipsNothing (xs ++ ys)
both_skip_nothing [] ys front back = back
both_skip_nothing (x ∷ xs) ys front back = (front.0, both_skip_nothing xs ys front.1 back)

front_skips_nothing : (xs ys : List Numbered) → SkipsNothing (xs ++ ys) → SkipsNothing xs
front_skips_nothing [] ys all = tt
front_skips_nothing (x ∷ xs) ys all = (all.0, front_skips_nothing xs ys all.1)

-- ---- one session

none_at_end : (end : Option ℕ) (m : ℕ) → SkipsNothing (end_at end m)
none_at_end None m = tt
none_at_end (Some e) m = by_test (e == m)
  where
    by_test : (b : Bool) → SkipsNothing (if b then end_item m ∷ [] else [])
    by_test true = (λ is. absurd cc, tt)
    by_test false = tt

pub skipped_was_carried : (o : Option Item) → unwrap_or o items.Other ≡ items.Skipped
    → o ≡ Some items.Skipped
skipped_was_carried None is = absurd cc
skipped_was_carried (Some x) is = ap (λ (y : Item). Some y) is

module _ (packets : List Input) (arrived : AllByRecursion IsArrival packets) where
  no_skip_at : (m : ℕ) → 1 ≤ m → item_in packets m ≢ items.Skipped
  no_skip_at m one is =
      let first = first_one packets arrived in
      let taken : unwrap_or (carried packets m) items.Other ≡ items.Skipped =
      sym (ap (λ (b : Bool). if b then items.Skipped else unwrap_or (carried packets m) items.Other)
      (le-ltb m (first_of packets) (omega arith))) ∙ is in
      let below = skipped_below packets m (skipped_was_carried (carried packets m) taken) in
      absurd (omega arith)

  no_skip_from : (m n : ℕ) → 1 ≤ m → SkipsNothing (map (item_numbered packets) (range_with_len m n))
  no_skip_from m zero one = tt
  no_skip_from m (suc n) one = (no_skip_at m one, no_skip_from (m + 1) n (omega arith))

  stream_skips_nothing : SkipsNothing (stream_of packets)
  stream_skips_nothing =
      let n = front_of packets in
      let from = opens_of packets in
      subst (λ (xs : List Numbered). SkipsNothing xs) (sym (one_part packets arrived))
      (both_skip_nothing (map (item_numbered packets) (range_with_len from (n + 1 - from)))
      (end_at (end_of packets) (n + 1)) (no_skip_from from (n + 1 - from) (omega arith))
      (none_at_end (end_of packets) (n + 1)))

-- ---- all sessions

items_skip_nothing : (bs : List Begun) → AllByRecursion (λ b. AllByRecursion IsArrival b.packets) bs
    → SkipsNothing (items_of bs)
items_skip_nothing [] arrived = tt
items_skip_nothing (b ∷ bs) arrived = both_skip_nothing (stream_of b.packets) (items_of bs)
    (stream_skips_nothing b.packets arrived.0) (items_skip_nothing bs arrived.1)

pub sent_skips_nothing : (c : CellState) (h : History) → CellFitsHistory c h
    → AllByRecursion (λ b. AllByRecursion IsArrival b.packets) (all_begun h)
    → SkipsNothing c.lane.items
sent_skips_nothing c h f arrived =
    front_skips_nothing c.lane.items
    (drop (place_of h.present.packets c.arbiter.sent) (stream_of h.present.packets))
    (subst (λ (xs : List Numbered). SkipsNothing xs) (sent_begins c h f)
    (items_skip_nothing (all_begun h) arrived))
