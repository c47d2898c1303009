-- A packet that needs no place in the window: what is said of it beforehand.
use Rattle.std.proofs.Common.{Bool, true, false, List}
use Rattle.std.specs.Prelude.{IsTrue, MatchBool}
use Rattle.std.proofs.lemmas.Bool.{false≢true}
use Rattle.feed_types.specs.declared.line.LineId.{LineId}
use Rattle.mold_packet.specs.Content.{Content, IsContent}
use Rattle.line_arbiter.specs.InOrder.{BringsNext, IsNext, IsNextPacket}
use Rattle.line_arbiter.specs.Packets.{Input}
use Rattle.line_arbiter.specs.States.{State}
use Rattle.line_arbiter.specs.Fits.{Fits}
use Rattle.line_arbiter.proofs.Standing.{stands_of}
use Rattle.line_arbiter.proofs.Passing.{next_brings, next_of_packets, next_packet}

pub is_exact : (s : State) (p : Content) (b : Bool) → IsContent p
    → MatchBool b (IsNext s p) (IsNext s p → ⊥) → (packets : List Input) → Fits s packets
    → MatchBool b (IsNextPacket s.session s.window s.sent packets p)
    (IsNextPacket s.session s.window s.sent packets p → ⊥)
is_exact s p true content is packets fits = next_packet s packets p (stands_of fits) is
is_exact s p false content isnt packets fits = λ by. isnt (next_of_packets s packets p
    (stands_of fits) content by)

pub is_so : (s : State) (p : Content) (b : Bool) → MatchBool b (IsNext s p) (IsNext s p → ⊥)
    → IsTrue b → IsNext s p
is_so s p true is so = is
is_so s p false isnt so = absurd (false≢true so)

pub brings : (s : State) (p : Content) (b : Bool) → IsContent p
    → MatchBool b (IsNext s p) (IsNext s p → ⊥) → (packets : List Input) (line : LineId)
    → Fits s packets → IsTrue b
    → BringsNext s.session s.window s.sent packets line p
brings s p b content is packets line fits so = next_brings line s p packets content
    (is_so s p b is so) (stands_of fits)
