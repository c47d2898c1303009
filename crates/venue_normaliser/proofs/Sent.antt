-- All that is ready was sent, where nothing more is.
use Rattle.std.proofs.Common.{◌≡◌, ℕ, zero, suc, ◌≤◌, List, [], ◌∷◌, length, None, arith, length-append}
use Rattle.std.specs.Prelude.{slice_get}
use Rattle.line_arbiter.specs.Packets.{Input}
use Rattle.line_arbiter.specs.Streams.{closed_of, part_of, place_of, stream_of}
use Rattle.line_arbiter.specs.Skips.{AllSent}
use Rattle.line_arbiter.specs.States.{State}
use Rattle.line_arbiter.specs.Fits.{Fits}
use Rattle.line_arbiter.specs.laws.Placing.{place_within}

past_end : {X : Type 0} (xs : List X) (k : ℕ) → None ≡ slice_get xs k → length xs ≤ k
past_end [] k e = omega arith
past_end (x ∷ xs) zero e = absurd cc
past_end (x ∷ xs) (suc k) e = let more = past_end xs k e in omega arith

pub all_sent_where_none : (s : State) (packets : List Input) → Fits s packets
    → None ≡ slice_get (stream_of packets) (place_of packets s.sent) → AllSent packets s.sent
all_sent_where_none s packets fits none =
    let past = past_end (stream_of packets) (place_of packets s.sent) none in
    let within = place_within fits in
    let opened = fits.opened in
    let sent = fits.sent in
    omega (arith, length-append (closed_of packets) (part_of packets))
