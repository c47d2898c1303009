-- The number that a cell's present part goes on from is the same in each history that the cell
-- represents.
use Rattle.std.proofs.Common.{◌≡◌, ℕ, ◌+◌, ◌-◌, ◌<◌, ◌≤◌, Bool, List, ◌++◌, length, map, take, drop, Some, None, refl, sym, ap, ◌∙◌, arith, length-append, inl, inr}
use Rattle.std.specs.Prelude.{nat_le, nat_lt, slice_get, unwrap_or, if◌then◌else◌}
use Rattle.std.specs.List.{range_with_len}
use Rattle.std.proofs.lemmas.Bool.{cases_lt, le-ltb, lt-leb, lt-ltb}
use Rattle.std.proofs.lemmas.List.FromFn.{get_or-map-range_with_len, length-map-range_with_len}
use Rattle.std.proofs.lemmas.Option.{same_Some, slice_get-get_or}
use Rattle.feed_types.specs.declared.item.Item.TheVariants as items
use Rattle.feed_types.specs.declared.item.Numbered.{Numbered}
use Rattle.line_arbiter.specs.Packets.{Input, carried, end_of, first_of}
use Rattle.line_arbiter.specs.Streams.{closed_of, end_at, front_of, item_in, item_numbered, opens_of, part_of, place_of, stream_of}
use Rattle.line_arbiter.specs.Holding.{held_at}
use Rattle.line_arbiter.specs.States.{State, held_of}
use Rattle.line_arbiter.specs.Fits.{Fits}
use Rattle.line_arbiter.specs.Histories.{History, items_of}
use Rattle.line_arbiter.specs.laws.Fronts.{first_most, front_is}
use Rattle.line_arbiter.specs.laws.Histories.{items_push}
use Rattle.line_arbiter.specs.laws.OfSession.{first_least, skipped_below}
use Rattle.line_arbiter.specs.laws.Placing.{place_within}
use Rattle.venue_lines.specs.Cells.{CellFitsHistory, CellState}
use Rattle.venue_lines.proofs.Histories.{get_after, get_before, length_take, sent_begins}
use Rattle.venue_lines.proofs.WithoutSkips.{skipped_was_carried}

-- where a message of the present part stands in it
part_at : (packets : List Input) (m : ℕ) → opens_of packets ≤ m → m ≤ front_of packets
    → slice_get (part_of packets) (m - opens_of packets) ≡ Some (item_numbered packets m)
part_at packets m opens le =
    let o = opens_of packets in
    let n = front_of packets + 1 - opens_of packets in
    let run = map (item_numbered packets) (range_with_len o n) in
    let long = length-map-range_with_len (item_numbered packets) o n in
    get_before run (end_at (end_of packets) (front_of packets + 1)) (m - o) (omega arith)
    ∙ slice_get-get_or run (m - o) (item_numbered packets m) (omega arith)
    ∙ ap (λ (x : Numbered). Some x)
    (get_or-map-range_with_len (item_numbered packets) o n (m - o) m (item_numbered packets m)
    (omega arith) (omega arith))

module _ (c : CellState) (h : History) (f : CellFitsHistory c h) where
  -- where one that was sent stands among the items that were
  sent_at : (m : ℕ) → opens_of h.present.packets ≤ m → m ≤ front_of h.present.packets
      → m ≤ c.arbiter.sent
      → slice_get c.lane.items (length c.lane.items + m - (c.arbiter.sent + 1))
      ≡ Some (item_numbered h.present.packets m)
  sent_at m opens front sent =
      let packets = h.present.packets in
      let stream = stream_of packets in
      let place = place_of packets c.arbiter.sent in
      let i = length c.lane.items + m - (c.arbiter.sent + 1) in
      let j = length (closed_of packets) + (m - opens_of packets) in
      let opened = f.history.present.opened in
      let long : length c.lane.items ≡ length (items_of h.earlier) + place =
      ap length f.sent ∙ length-append (items_of h.earlier) (take place stream)
      ∙ ap (λ (n : ℕ). length (items_of h.earlier) + n)
      (length_take stream place (place_within f.history.present)) in
      sym (get_before c.lane.items (drop place stream) i (omega arith))
      ∙ ap (λ (xs : List Numbered). slice_get xs i)
      (sym (sent_begins c h f) ∙ items_push h.earlier h.present)
      ∙ get_after (items_of h.earlier) stream j i (omega arith)
      ∙ get_after (closed_of packets) (part_of packets) (m - opens_of packets) j refl
      ∙ part_at packets m opens front

-- what is held next is what was taken next
held_next : {s : State} (packets : List Input) → Fits s packets
    → held_at (held_of s) (s.sent + 1) ≡ carried packets (s.sent + 1)
held_next {s} packets f =
    f.held (s.sent + 1)
    ∙ ap (λ (b : Bool). if b then None else carried packets (s.sent + 1))
    (lt-leb (s.sent + 1) s.sent (omega arith))

module _ (c : CellState) (w h : History) (k : CellFitsHistory c w) (f : CellFitsHistory c h) where
  abbrev ws : List Input
  ws = w.present.packets

  abbrev hs : List Input
  hs = h.present.packets

  -- the last number that was given up in the one history was given up in the other: it is held, or
  -- was sent
  given_up_too : first_of hs < first_of ws → carried hs (first_of ws - 1) ≡ Some items.Skipped
  given_up_too below = elim (cases_lt (c.arbiter.sent + 1) (first_of ws)) [
    | inl held ↦
        let least = first_least hs in
        let opened = k.history.present.opened in
        let is : c.arbiter.sent + 1 ≡ first_of ws - 1 = omega arith in
        ap (carried hs) (sym is)
        ∙ sym (held_next hs f.history.present) ∙ held_next ws k.history.present
        ∙ k.history.present.skipped held
    | inr sent ↦
        let least = first_least hs in
        let most = first_most ws (front_of ws) (front_is ws) in
        let front : front_of ws ≡ front_of hs =
        sym k.history.present.front ∙ f.history.present.front in
        let m = first_of ws - 1 in
        let both : Some (item_numbered ws m) ≡ Some (item_numbered hs m) =
        sym (sent_at c w k m (omega arith) (omega arith) (omega arith))
        ∙ sent_at c h f m (omega arith) (omega arith) (omega arith) in
        let same : item_in ws m ≡ item_in hs m =
        ap (λ (x : Numbered). x.item)
        (same_Some (item_numbered ws m) (item_numbered hs m) both) in
        skipped_was_carried (carried hs m)
        (sym (ap (λ (b : Bool). if b then items.Skipped else
        unwrap_or (carried hs m) items.Other) (le-ltb m (first_of hs) (omega arith)))
        ∙ sym same
        ∙ ap (λ (b : Bool). if b then items.Skipped else
        unwrap_or (carried ws m) items.Other) (lt-ltb m (first_of ws) (omega arith)))
  ]

  pub one_first : first_of ws ≤ first_of hs
  one_first = elim (cases_lt (first_of hs) (first_of ws)) [
    | inl below ↦
        let least = first_least hs in
        let given = skipped_below hs (first_of ws - 1) (given_up_too below) in
        absurd (omega arith)
    | inr le ↦ le
  ]
