-- The stream: the items in sequence up to the first gap, part by part, the gap, and the lines that
-- brought them first.
use Rattle.std.specs.Prelude.{◌≡◌, ℕ, ◌+◌, ◌-◌, ◌≤◌, Bool, true, false, nat_lt, ◌==◌, List, [], ◌∷◌, ◌++◌, map, count_by, length, max, min, Option, Some, None, IsSome, is_some, is_none, unwrap_or, if◌then◌else◌}
use Rattle.std.specs.List.{range_with_len, prefix_len}
use Rattle.std.specs.Option.{option_map_or}
use Rattle.feed_types.specs.declared.item.Item.{Item}
use Rattle.feed_types.specs.declared.item.Item.TheVariants as items
use Rattle.feed_types.specs.declared.item.Numbered.{Numbered}
use Rattle.feed_types.specs.declared.line.LineId.{LineId}
use Rattle.feed_types.specs.declared.line.LineId.TheVariants.{A, B, Recovery}
use Rattle.feed_types.specs.Sessions.{end_item}
use Rattle.mold_packet.specs.declared.request.Request.{Request}
use Rattle.line_arbiter.specs.Packets.{Input, Arrived, Skip, bringer, carried, first_of, top_of, end_of, known_of}

-- the numbers 1 to n were all taken or given up
abbrev pub AreTaken : List Input → ℕ → Type 0
AreTaken packets n = (m : ℕ) → 1 ≤ m → m ≤ n → IsSome (carried packets m)

-- how far the session is whole: how many of the numbers 1, 2, .. were taken or given up before the
-- first that wasn't
abbrev pub front_of : List Input → ℕ
front_of packets = prefix_len (λ m. is_some (carried packets m)) (range_with_len 1 (top_of packets))

-- the item of a number: below the number that the present part goes on from Skipped, else what was
-- taken
abbrev pub item_in : List Input → ℕ → Item
item_in packets m =
    if nat_lt m (first_of packets) then items.Skipped else unwrap_or (carried packets m) items.Other

-- the item of a number, with it
abbrev pub item_numbered : List Input → ℕ → Numbered
item_numbered packets m = record { number = m; item = item_in packets m }

-- the End item, where the end is announced at this number
abbrev pub end_at : Option ℕ → ℕ → List Numbered
end_at None m = []
end_at (Some e) m = if e == m then end_item m ∷ [] else []

-- The number at which the present part opens: 1; after a skip that of its item Skipped, the last
-- one that was given up.
abbrev pub opens_of : List Input → ℕ
opens_of packets = max 1 (first_of packets - 1)

-- the present part up to the number n: its items in a row, and then End where it is the next number
abbrev pub stream_to : List Input → ℕ → List Numbered
stream_to packets n =
    map (item_numbered packets) (range_with_len (opens_of packets) (n + 1 - opens_of packets))
    ++ end_at (end_of packets) (n + 1)

-- the present part: from where it opens up to the first gap, and End where it follows
abbrev pub part_of : List Input → List Numbered
part_of packets = stream_to packets (front_of packets)

-- the parts that each skip closed, one after another, after what came before
abbrev pub closed_after : List Input → List Input → List Numbered
closed_after before [] = []
closed_after before (Arrived a ∷ rest) = closed_after (before ++ Arrived a ∷ []) rest
closed_after before (Skip n ∷ rest) = part_of before ++ closed_after (before ++ Skip n ∷ []) rest

abbrev pub closed_of : List Input → List Numbered
closed_of packets = closed_after [] packets

-- the items in sequence: part by part, each up to the gap that was given up, the present one up to
-- the first gap, and End where it follows
abbrev pub stream_of : List Input → List Numbered
stream_of packets = closed_of packets ++ part_of packets

-- how many items of the stream were sent, where `sent` is the number of the last one
abbrev pub place_of : List Input → ℕ → ℕ
place_of packets sent = length (closed_of packets) + (sent + 1 - opens_of packets)

-- the number of the last item sent, where `count` of the stream were: `place_of` the other way
abbrev pub sent_of : List Input → ℕ → ℕ
sent_of packets count = count + (opens_of packets - 1) - length (closed_of packets)

-- the session is over: its end follows its last message
abbrev pub IsComplete : List Input → Type 0
IsComplete packets = end_of packets ≡ Some (front_of packets + 1)

-- how many numbers from the front on are missing, as far as the window and what is known of go
abbrev pub missing_count : ℕ → ℕ → List Input → ℕ
missing_count window sent packets =
    prefix_len (λ m. is_none (carried packets m))
    (range_with_len (front_of packets + 1)
    (min (known_of packets) (sent + window) - front_of packets))

-- the run of messages to ask for
abbrev pub gap_of : List ℕ → ℕ → ℕ → List Input → Option Request
gap_of session window sent packets =
    if missing_count window sent packets == 0 then None
    else Some (record {
      session = session;
      number = front_of packets + 1;
      count = missing_count window sent packets;
    })

-- how many taken messages are still to be sent, with the Skipped of a skip
abbrev pub held_count : ℕ → List Input → ℕ
held_count sent packets =
    count_by (λ m. is_some (carried packets m)) (range_with_len (sent + 1) (top_of packets - sent))

-- the lines are the same
abbrev pub is_same_line : LineId → LineId → Bool
is_same_line A A = true
is_same_line B B = true
is_same_line Recovery Recovery = true
is_same_line l m = false

abbrev pub is_on : LineId → Input → Bool
is_on line (Arrived a) = is_same_line a.line line
is_on line (Skip n) = false

-- how many numbers came first on the line
abbrev pub wins_of : List Input → LineId → ℕ
wins_of packets line =
    count_by (λ m. option_map_or (λ x. is_on line x) (bringer packets m) false)
    (range_with_len 1 (top_of packets))
