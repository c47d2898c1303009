-- Once End was sent: all is sent, and nothing comes after it.
use Rattle.std.proofs.Common.{◌≡◌, ℕ, ◌+◌, ◌<◌, List, length, None, Some, ap, subst, ◌∙◌, arith, inl, inr, length-append}
use Rattle.line_arbiter.specs.Packets.{Input, end_of}
use Rattle.line_arbiter.specs.Streams.{IsComplete, closed_of, front_of, part_of, place_of, stream_of}
use Rattle.line_arbiter.specs.Renewals.{HasEnded}
use Rattle.line_arbiter.specs.Holding.{held_at}
use Rattle.line_arbiter.specs.States.{State, held_of, next_from, next_of}
use Rattle.line_arbiter.specs.Fits.{Fits}
use Rattle.line_arbiter.specs.Steps.{IsSound}
use Rattle.line_arbiter.proofs.Standing.{stands_of}
use Rattle.line_arbiter.specs.laws.Lengths.{length-stream, end_one}
use Rattle.line_arbiter.specs.laws.Fronts.{front_is, opens_most}
use Rattle.line_arbiter.proofs.Cursors.{cursor}
use Rattle.line_arbiter.proofs.Nexts.{past_end}
use Rattle.line_arbiter.proofs.Soundness.{front_before_end, none_past_end}
use Rattle.line_arbiter.specs.laws.StreamGrowth.{EndsPast}

pub ends_past : (s : State) (packets : List Input) → IsSound s → Fits s packets → EndsPast packets
ends_past s packets sound fits e is = subst (λ (n : ℕ). n < e) fits.front
    (front_before_end s sound e (fits.end ∙ is))

-- the session is over, and all of its stream was sent
pub complete : (s : State) (packets : List Input) → IsSound s → Fits s packets
    → HasEnded s.end s.sent → IsComplete packets
    × (place_of packets s.sent ≡ length (stream_of packets))
complete s packets sound fits ended = elim (cursor s packets (stands_of fits)) [
  | inl within ↦ let below = front_before_end s sound s.sent ended in absurd (omega arith)
  | inr over ↦
      let front = fits.front in
      let last : end_of packets ≡ Some (front_of packets + 1) = over.1
      ∙ ap (λ (n : ℕ). Some (n + 1)) fits.front in
      let one = end_one (end_of packets) (front_of packets + 1) last in
      let len = length-stream packets (front_of packets) in
      let whole = length-append (closed_of packets) (part_of packets) in
      let opens = opens_most packets (front_of packets) (front_is packets) in
      let at = over.0 in (
        last,
        omega arith,
      )
]

-- nothing is ready
pub none_after_end : (s : State) → IsSound s → HasEnded s.end s.sent → next_of s ≡ None
none_after_end s sound ended =
    let free : held_at (held_of s) (s.sent + 1) ≡ None = none_past_end s sound ended (s.sent + 1) in
    ap (λ o. next_from (s.sent + 1) o s.end) free
    ∙ ap (λ o. next_from (s.sent + 1) None o) ended
    ∙ past_end (s.sent + 1) s.sent (omega arith)
