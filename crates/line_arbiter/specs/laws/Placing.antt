-- How many items of a stream were sent: with one item more, one packet more, and after a skip.
use Rattle.std.proofs.Common.{◌≡◌, ℕ, ◌+◌, ◌-◌, ◌≤◌, List, [], ◌∷◌, ◌++◌, length, ap, ◌∙◌, arith, length-append}
use Rattle.feed_types.specs.declared.item.Numbered.{Numbered}
use Rattle.line_arbiter.specs.Packets.{Arrival, Input, Arrived, Skip, first_of}
use Rattle.line_arbiter.specs.Streams.{closed_of, front_of, opens_of, part_of, place_of, sent_of, stream_of}
use Rattle.line_arbiter.specs.Skips.{MaySkip}
use Rattle.line_arbiter.specs.States.{State}
use Rattle.line_arbiter.specs.Fits.{Fits}
use Rattle.line_arbiter.specs.laws.Bringing.{first_of-push, opens_same}
use Rattle.line_arbiter.specs.laws.Fronts.{first_most, front_is}
use Rattle.line_arbiter.specs.laws.StreamGrowth.{closed_same, closed_skip}

-- a packet more sends nothing
pub place_same : (packets : List Input) (a : Arrival) (sent : ℕ)
    → place_of (packets ++ Arrived a ∷ []) sent ≡ place_of packets sent
place_same packets a sent =
    ap (λ (xs : List Numbered). length xs + (sent + 1 - opens_of (packets ++ Arrived a ∷ [])))
    (closed_same packets a)
    ∙ ap (λ (k : ℕ). length (closed_of packets) + (sent + 1 - k)) (opens_same packets a)

-- an item more
pub place_next : {s : State} {packets : List Input} → Fits s packets
    → place_of packets (s.sent + 1) ≡ place_of packets s.sent + 1
place_next {s} {packets} fits = let opened = fits.opened in omega arith

pub place_within : {s : State} {packets : List Input} → Fits s packets
    → place_of packets s.sent ≤ length (stream_of packets)
place_within {s} {packets} fits =
    let opened = fits.opened in
    let sent = fits.sent in
    let whole = length-append (closed_of packets) (part_of packets) in
    omega arith

-- after a skip nothing of the part that it begins was sent
pub place_skip : (packets : List Input) (n sent : ℕ) → MaySkip packets n → sent + 2 ≡ n
    → place_of (packets ++ Skip n ∷ []) sent ≡ length (stream_of packets)
place_skip packets n sent may is =
    let past = may.past in
    let most = first_most packets (front_of packets) (front_is packets) in
    let first : first_of (packets ++ Skip n ∷ []) ≡ n =
    omega (arith, first_of-push packets (Skip n)) in
    let none : sent + 1 - opens_of (packets ++ Skip n ∷ []) ≡ 0 = omega arith in
    ap (λ (k : ℕ). length (closed_of (packets ++ Skip n ∷ [])) + k) none
    ∙ ap (λ (xs : List Numbered). length xs + 0) (closed_skip packets n)
    ∙ omega arith

-- the number of the last item sent, from how many were
pub sent_back : {s : State} {packets : List Input} → Fits s packets
    → sent_of packets (place_of packets s.sent) ≡ s.sent
sent_back {s} {packets} fits = let opened = fits.opened in omega arith
