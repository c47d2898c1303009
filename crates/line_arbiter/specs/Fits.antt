-- An arbiter, the packets that it was given in the present session, and its venue's history.
use Rattle.std.specs.Prelude.{◌≡◌, ℕ, ◌+◌, ◌<◌, ◌≤◌, nat_le, List, length, Some, None, if◌then◌else◌}
use Rattle.feed_types.specs.declared.item.Item.TheVariants as items
use Rattle.feed_types.specs.declared.line.LineId.{LineId}
use Rattle.line_arbiter.specs.Packets.{Input, carried, end_of, first_of, known_of}
use Rattle.line_arbiter.specs.Streams.{front_of, opens_of, part_of, held_count, wins_of}
use Rattle.line_arbiter.specs.Histories.{History, names_of, wins_in}
use Rattle.feed_types.specs.PerLines.{on_line}
use Rattle.line_arbiter.specs.Counts.{shown}
use Rattle.line_arbiter.specs.Holding.{held_at}
use Rattle.line_arbiter.specs.States.{State, held_of}
use Rattle.line_arbiter.specs.declared.arbiter.ArbiterStatus.{ArbiterStatus}

-- The state is that after these packets and skips: its cursors are theirs; the last item sent is of
-- the present part, or the part before was all sent; it holds what was taken past the last item
-- sent; and each line has won what it brought first, beside what it had won in earlier sessions.
pub record Fits (s : State) (packets : List Input) : Type 0 where
  pub front : s.front ≡ front_of packets
  pub known : s.known ≡ known_of packets
  pub end : s.end ≡ end_of packets
  pub opened : opens_of packets ≤ s.sent + 1
  pub skipped : s.sent + 1 < first_of packets → carried packets (s.sent + 1) ≡ Some items.Skipped
  pub sent : s.sent + 1 ≤ opens_of packets + length (part_of packets)
  pub held : (m : ℕ) → held_at (held_of s) m ≡ (if nat_le m s.sent then None else carried packets m)
  pub wins : (line : LineId)
      → on_line line s.wins ≡ shown (on_line line s.earlier + wins_of packets line)

-- The state is that after this history: its present session is the history's, the sessions have the
-- history's names, and each line had won what it brought first in the earlier ones.
pub record FitsHistory (s : State) (h : History) : Type 0 where
  pub present : Fits s h.present.packets
  pub names : s.sessions ≡ names_of h
  pub session : s.session ≡ h.present.name
  pub earlier : (line : LineId) → on_line line s.earlier ≡ shown (wins_in h.earlier line)

-- the cursors over these packets, once `sent` items were sent
abbrev pub cursors_of : ℕ → List Input → ArbiterStatus
cursors_of sent packets = record {
  sent = sent;
  front = front_of packets;
  known = known_of packets;
  end = end_of packets;
  held = held_count sent packets;
}
