-- An arbiter fits its packets after one more of any kind.
use Rattle.std.proofs.Common.{◌≡◌, ℕ, ◌+◌, ◌-◌, ◌<◌, ◌≤◌, false, List, [], ◌∷◌, ◌++◌, Option, Some, None, Result, Ok, Err, refl, sym, ap, subst, ◌∙◌, arith, inl, inr}
use Rattle.std.specs.Prelude.{nat_le, ◌⊎◌, IsSome, if◌then◌else◌}
use Rattle.std.specs.Option.{option_or}
use Rattle.feed_types.specs.declared.item.Item.{Item}
use Rattle.feed_types.specs.declared.line.LineId.{LineId}
use Rattle.mold_packet.specs.declared.packet.Kind.{Kind}
use Rattle.mold_packet.specs.Content.{Content, IsContent, last_number}
use Rattle.line_arbiter.specs.declared.outcome.Outcome.{Outcome}
use Rattle.line_arbiter.specs.declared.outcome.Outcome.TheVariants.{Taken, Heartbeat, Ended, Ahead}
use Rattle.line_arbiter.specs.declared.outcome.LineFault.{LineFault}
use Rattle.line_arbiter.specs.declared.outcome.LineFault.TheVariants.{OtherSession, PastEnd, EndMoved, EndTooEarly, Conflict}
use Rattle.line_arbiter.specs.Packets.{Arrival, Input, Arrived, arrival_of, carried, end_of, is_ended, is_taken}
use Rattle.line_arbiter.specs.Holding.{held_at}
use Rattle.line_arbiter.specs.States.{State, held_of}
use Rattle.feed_types.specs.PerLines.{on_line}
use Rattle.line_arbiter.specs.Counts.{shown}
use Rattle.line_arbiter.specs.Steps.{EndStep, HeartbeatStep, KindStep, PacketStep, MessagesStep}
use Rattle.line_arbiter.proofs.Standing.{Stands}
use Rattle.mold_packet.specs.declared.packet.Kind.TheVariants as kinds
use Rattle.line_arbiter.proofs.LineCounts.{wins_of-untaken}
use Rattle.line_arbiter.specs.laws.Bringing.{carried_same, end_of-push, opens_same}
use Rattle.line_arbiter.specs.laws.Fronts.{opens_most}
use Rattle.line_arbiter.specs.laws.StreamGrowth.{skipped_grows}
use Rattle.line_arbiter.specs.laws.Lengths.{length-stream}
use Rattle.line_arbiter.proofs.Cursors.{open_cursor, stream_len}
use Rattle.line_arbiter.proofs.Known.{known_at_end}
use Rattle.line_arbiter.proofs.Growth.{fits_heard, fits_refused, fits_taken}
use Rattle.line_arbiter.proofs.Answering.{before_is, new_is}

-- messages
messages_fits : (old new : State) (packets : List Input) (line : LineId) (p : Content)
    (answer : Result Outcome LineFault) → 1 ≤ p.number → Stands old packets
    → MessagesStep line old new p answer → Stands new (packets ++ arrival_of line p answer ∷ [])
messages_fits old new packets line p (Err PastEnd) one fits h = fits_refused old new packets
    line p PastEnd h.0 fits
messages_fits old new packets line p (Err Conflict) one fits h = fits_refused old new packets
    line p Conflict h.0 fits
messages_fits old new packets line p (Ok Ahead) one fits h =
    subst (λ (x : State). Stands x (packets ++ arrival_of line p (Ok Ahead) ∷ [])) (sym h.0)
    (fits_heard old packets (record { line = line; packet = p; answer = Ok Ahead }) refl refl fits)
messages_fits old new packets line p (Ok (Taken fresh repeated)) one fits h = fits_taken fresh old
    new packets (record { line = line; packet = p; answer = Ok (Taken fresh repeated) }) one (h.4
    ∙ new_is old packets p fits one (before_is old packets (last_number p) fits h.1))
    refl refl refl h.1 h.0 fits
messages_fits old new packets line p (Ok Heartbeat) one fits h = absurd h
messages_fits old new packets line p (Ok Ended) one fits h = absurd h
messages_fits old new packets line p (Err OtherSession) one fits h = absurd h
messages_fits old new packets line p (Err EndMoved) one fits h = absurd h
messages_fits old new packets line p (Err EndTooEarly) one fits h = absurd h

-- a heartbeat
heartbeat_fits : (old new : State) (packets : List Input) (line : LineId) (p : Content)
    (answer : Result Outcome LineFault) → Stands old packets → HeartbeatStep old new p.number answer
    → Stands new (packets ++ arrival_of line p answer ∷ [])
heartbeat_fits old new packets line p (Err PastEnd) fits h = fits_refused old new packets
    line p PastEnd h.0 fits
heartbeat_fits old new packets line p (Ok Heartbeat) fits h =
    subst (λ (x : State). Stands x (packets ++ arrival_of line p (Ok Heartbeat) ∷ [])) (sym h.0)
    (fits_heard old packets (record { line = line; packet = p; answer = Ok Heartbeat }) refl refl
    fits)
heartbeat_fits old new packets line p (Ok Ended) fits h = absurd h
heartbeat_fits old new packets line p (Ok Ahead) fits h = absurd h
heartbeat_fits old new packets line p (Ok (Taken fresh repeated)) fits h = absurd h
heartbeat_fits old new packets line p (Err OtherSession) fits h = absurd h
heartbeat_fits old new packets line p (Err EndMoved) fits h = absurd h
heartbeat_fits old new packets line p (Err EndTooEarly) fits h = absurd h
heartbeat_fits old new packets line p (Err Conflict) fits h = absurd h

-- the end is announced by the first packet that says so
end_fits : (old new : State) (packets : List Input) (a : Arrival)
    → a.answer ≡ Ok Ended → 1 ≤ a.packet.number
    → ((new ≡ old) × (old.end ≡ Some a.packet.number))
    ⊎ ((new ≡ record old { end = Some a.packet.number; known = a.packet.number - 1 })
    × (old.end ≡ None) × (old.front < a.packet.number)
    × ((m : ℕ) → IsSome (held_at (held_of old) m) → m < a.packet.number))
    → Stands old packets → Stands new (packets ++ Arrived a ∷ [])
end_fits old new packets a ended one h fits =
    let untaken : is_taken a.answer ≡ false = ap is_taken ended in
    let quiet : (m : ℕ) → carried (packets ++ Arrived a ∷ []) m ≡ carried packets m =
    λ m. carried_same packets a m untaken in
    let end : end_of (packets ++ Arrived a ∷ []) ≡ option_or (end_of packets)
    (Some a.packet.number) = end_of-push packets a
    ∙ ap (λ (r : Result Outcome LineFault). option_or (end_of packets)
    (if is_ended r then Some a.packet.number else None)) ended in
    elim h [
      | inl again ↦
          let was : end_of packets ≡ Some a.packet.number = sym fits.end ∙ again.1 in
          let now : end_of (packets ++ Arrived a ∷ []) ≡ Some a.packet.number = end
          ∙ ap (λ (o : Option ℕ). option_or o (Some a.packet.number)) was in
          subst (λ (x : State). Stands x (packets ++ Arrived a ∷ [])) (sym again.0) (record {
            front = record {
              all = λ m h k. rw (quiet m) (fits.front.all m h k);
              next =
                  quiet (old.front + 1) ∙ fits.front.next;
            };
            known = fits.known ∙ known_at_end packets a.packet.number was
                ∙ sym (known_at_end (packets ++ Arrived a ∷ []) a.packet.number now);
            end = fits.end ∙ was ∙ sym now;
            opened = rw (opens_same packets a) fits.opened;
            skipped = skipped_grows packets a (old.sent + 1) fits.skipped;
            sent = let o = opens_same packets a in let l = stream_len packets (packets ++ Arrived a
                ∷ []) old.front o (now ∙ sym was) in let k = fits.sent in omega arith;
            held = λ m. fits.held m
                ∙ ap (λ (o : Option Item). if nat_le m old.sent then None else o) (sym (quiet m));
            wins = λ line. fits.wins line ∙ ap (λ (n : ℕ). shown (on_line line old.earlier + n))
                (sym (wins_of-untaken packets a line untaken));
          })
      | inr first ↦
          let was : end_of packets ≡ None = sym fits.end ∙ first.1 in
          let now : end_of (packets ++ Arrived a ∷ []) ≡ Some a.packet.number = end
          ∙ ap (λ (o : Option ℕ). option_or o (Some a.packet.number)) was in
          subst (λ (x : State). Stands x (packets ++ Arrived a ∷ [])) (sym first.0) (record {
            front = record {
              all = λ m h k. rw (quiet m) (fits.front.all m h k);
              next =
                  quiet (old.front + 1) ∙ fits.front.next;
            };
            known = sym (known_at_end (packets ++ Arrived a ∷ []) a.packet.number now);
            end = sym now;
            opened = rw (opens_same packets a) fits.opened;
            skipped = skipped_grows packets a (old.sent + 1) fits.skipped;
            sent =
                let l = length-stream (packets ++ Arrived a ∷ []) old.front in
                let k = open_cursor old packets fits first.1 in
                let o = opens_most packets old.front fits.front in
                let same = opens_same packets a in
                omega arith;
            held = λ m. fits.held m
                ∙ ap (λ (o : Option Item). if nat_le m old.sent then None else o) (sym (quiet m));
            wins = λ line. fits.wins line ∙ ap (λ (n : ℕ). shown (on_line line old.earlier + n))
                (sym (wins_of-untaken packets a line untaken));
          })
    ]

end_step_fits : (old new : State) (packets : List Input) (line : LineId) (p : Content)
    (answer : Result Outcome LineFault) → 1 ≤ p.number → Stands old packets
    → EndStep old new p.number answer → Stands new (packets ++ arrival_of line p answer ∷ [])
end_step_fits old new packets line p (Err EndMoved) one fits h = fits_refused old new packets
    line p EndMoved h.0 fits
end_step_fits old new packets line p (Err EndTooEarly) one fits h = fits_refused old new packets
    line p EndTooEarly h.0 fits
end_step_fits old new packets line p (Ok Ended) one fits h = end_fits old new packets
    (record { line = line; packet = p; answer = Ok Ended }) refl one h fits
end_step_fits old new packets line p (Ok Heartbeat) one fits h = absurd h
end_step_fits old new packets line p (Ok Ahead) one fits h = absurd h
end_step_fits old new packets line p (Ok (Taken fresh repeated)) one fits h = absurd h
end_step_fits old new packets line p (Err OtherSession) one fits h = absurd h
end_step_fits old new packets line p (Err PastEnd) one fits h = absurd h
end_step_fits old new packets line p (Err Conflict) one fits h = absurd h

kind_fits : (kind : Kind) (old new : State) (packets : List Input) (line : LineId) (p : Content)
    (answer : Result Outcome LineFault) → 1 ≤ p.number → Stands old packets
    → KindStep kind line old new p answer → Stands new (packets ++ arrival_of line p answer ∷ [])
kind_fits kinds.Messages old new packets line p answer one fits h = messages_fits old new packets
    line p answer one fits h
kind_fits kinds.Heartbeat old new packets line p answer one fits h = heartbeat_fits old new
    packets line p answer fits h
kind_fits kinds.End old new packets line p answer one fits h = end_step_fits old new packets
    line p answer one fits h

pub packet_fits : (old new : State) (packets : List Input) (line : LineId) (p : Content)
    (answer : Result Outcome LineFault) → IsContent p → Stands old packets
    → PacketStep line old new p answer → Stands new (packets ++ arrival_of line p answer ∷ [])
packet_fits old new packets line p answer content fits h = elim h [
  | inl other ↦ rw other.1 (fits_refused old new packets line p OtherSession other.2 fits)
  | inr same ↦ kind_fits p.kind old new packets line p answer content.from_one fits same.1
]
