-- Where nothing was given up a session is one part, from its first message on.
use Rattle.std.proofs.Common.{◌≡◌, ℕ, ◌+◌, ◌-◌, List, [], ◌∷◌, ◌++◌, take, ap, refl, ◌∙◌, arith}
use Rattle.std.specs.Prelude.{fold, ◌&&◌, ◌==◌, is_some, length, if◌then◌else◌}
use Rattle.std.specs.List.{AllByRecursion}
use Rattle.feed_types.specs.declared.item.Numbered.{Numbered}
use Rattle.feed_types.specs.Sessions.{Session, end_item, numbered_from}
use Rattle.line_arbiter.specs.Packets.{Input, Arrived, Skip, end_of, first_by, first_of}
use Rattle.line_arbiter.specs.Streams.{closed_after, front_of, part_of, stream_of}
use Rattle.line_arbiter.specs.Skips.{IsArrival, SkipsFrom}
use Rattle.line_arbiter.specs.Answered.{AreAnsweredAfter}
use Rattle.line_arbiter.specs.OfSession.{GivesSession, session_stream}

closed_none : (before rest : List Input) → AllByRecursion IsArrival rest
    → closed_after before rest ≡ []
closed_none before [] all = refl
closed_none before (Arrived a ∷ rest) all = closed_none (before ++ Arrived a ∷ []) rest all.1
closed_none before (Skip n ∷ rest) all = absurd all.0

first_none : (n : ℕ) (packets : List Input) → AllByRecursion IsArrival packets
    → fold (λ n x. first_by n x) n packets ≡ n
first_none n [] all = refl
first_none n (Arrived a ∷ packets) all = first_none n packets all.1
first_none n (Skip k ∷ packets) all = absurd all.0

pub first_one : (packets : List Input) → AllByRecursion IsArrival packets → first_of packets ≡ 1
first_one packets all = first_none 1 packets all

pub one_part : (packets : List Input) → AllByRecursion IsArrival packets
    → stream_of packets ≡ part_of packets
one_part packets all =
    ap (λ (xs : List Numbered). xs ++ part_of packets) (closed_none [] packets all)

-- the session's items from the first to the front, and then End
pub whole_part : (s : Session) (packets : List Input) → AllByRecursion IsArrival packets
    → GivesSession s packets
    → stream_of packets
    ≡ numbered_from 1 (take (front_of packets) s.items)
    ++ (if is_some (end_of packets) && (front_of packets == length s.items)
    then end_item (front_of packets + 1) ∷ [] else [])
whole_part s packets all gives =
    let same : front_of packets + 1 - 1 ≡ front_of packets = omega arith in
    one_part packets all ∙ gives.part
    ∙ ap (λ (n : ℕ). session_stream s n (front_of packets) (end_of packets)) (first_one packets all)
    ∙ ap (λ (n : ℕ). numbered_from 1 (take n s.items)
    ++ (if is_some (end_of packets) && (front_of packets == length s.items)
    then end_item (front_of packets + 1) ∷ [] else [])) same

-- skips that were answered by the definitions could be made
pub skips_of : (session : List ℕ) (window : ℕ) (before rest : List Input)
    → AreAnsweredAfter session window before rest → SkipsFrom before rest
skips_of session window before [] all = tt
skips_of session window before (Arrived a ∷ rest) all =
    skips_of session window (before ++ Arrived a ∷ []) rest all.1
skips_of session window before (Skip n ∷ rest) all =
    (all.0, skips_of session window (before ++ Skip n ∷ []) rest all.1)
