-- An arbiter that fits its packets, with its front as a fact about each number.
use Rattle.std.proofs.Common.{◌≡◌, ℕ, ◌+◌, ◌<◌, ◌≤◌, List, length, Some, None, sym, subst}
use Rattle.std.specs.Prelude.{nat_le, if◌then◌else◌}
use Rattle.feed_types.specs.declared.item.Item.TheVariants as items
use Rattle.feed_types.specs.declared.line.LineId.{LineId}
use Rattle.line_arbiter.specs.Packets.{Input, carried, end_of, first_of, known_of}
use Rattle.line_arbiter.specs.Streams.{front_of, opens_of, stream_to, wins_of}
use Rattle.line_arbiter.specs.Holding.{held_at}
use Rattle.line_arbiter.specs.States.{State, held_of}
use Rattle.feed_types.specs.PerLines.{on_line}
use Rattle.line_arbiter.specs.Counts.{shown}
use Rattle.line_arbiter.specs.Fits.{Fits}
use Rattle.line_arbiter.specs.laws.Fronts.{IsFront, front_is, front_unique}

pub record Stands (s : State) (packets : List Input) : Type 0 where
  pub front : IsFront packets s.front
  pub known : s.known ≡ known_of packets
  pub end : s.end ≡ end_of packets
  pub opened : opens_of packets ≤ s.sent + 1
  pub skipped : s.sent + 1 < first_of packets → carried packets (s.sent + 1) ≡ Some items.Skipped
  pub sent : s.sent + 1 ≤ opens_of packets + length (stream_to packets s.front)
  pub held : (m : ℕ) → held_at (held_of s) m ≡ (if nat_le m s.sent then None else carried packets m)
  pub wins : (line : LineId)
      → on_line line s.wins ≡ shown (on_line line s.earlier + wins_of packets line)

pub stands_of : {s : State} {packets : List Input} → Fits s packets → Stands s packets
stands_of {s} {packets} fits = record {
  front = subst (λ (n : ℕ). IsFront packets n) (sym fits.front) (front_is packets);
  known = fits.known;
  end = fits.end;
  opened = fits.opened;
  skipped = fits.skipped;
  sent = subst (λ (n : ℕ). s.sent + 1 ≤ opens_of packets + length (stream_to packets n))
      (sym fits.front) fits.sent;
  held = fits.held;
  wins = fits.wins;
}

pub fits_of : {s : State} {packets : List Input} → Stands s packets → Fits s packets
fits_of {s} {packets} stands =
    let front = front_unique packets s.front (front_of packets) stands.front (front_is packets) in
    record {
      front = front;
      known = stands.known;
      end = stands.end;
      opened = stands.opened;
      skipped = stands.skipped;
      sent = subst (λ (n : ℕ). s.sent + 1 ≤ opens_of packets + length (stream_to packets n)) front
          stands.sent;
      held = stands.held;
      wins = stands.wins;
    }
