-- The laws of lists of lines.
use Rattle.std.proofs.Common.{◌≡◌, ℕ, zero, suc, ◌+◌, ◌*◌, ◌/◌, ◌<◌, ◌≤◌, List, [], ◌∷◌, Option, None, Some, length, ap, sym, arith}
use Rattle.std.proofs.lemmas.Option.{same_Some, none-some}
use Rattle.std.specs.declared.net.socket_addr.SocketAddr.{SocketAddr}
use Rattle.run_settings.specs.declared.captured_line.CapturedLine.{CapturedLine}
use Rattle.run_settings.specs.Lists.{AreOfVenues, captured_line_at, lines_from}

-- each line of a list of addresses is of one of its venues
pub lines_of_venues : (from : ℕ) (addresses : List (Option SocketAddr)) (venues : ℕ)
    → from + length addresses ≤ 2 * venues → AreOfVenues venues (lines_from from addresses)
lines_of_venues from [] venues few place line e = absurd (none-some line (sym e))
lines_of_venues from (None ∷ xs) venues few place line e =
    let more : from + 1 + length xs ≤ 2 * venues = omega arith in
    lines_of_venues (from + 1) xs venues more place line e
lines_of_venues from (Some x ∷ xs) venues few zero line e =
    let at : line.venue ≡ from / 2 =
    ap (λ (l : CapturedLine). l.venue) (same_Some line (captured_line_at from x) e) in
    let less : from / 2 < venues = omega arith in
    omega (arith, at, less)
lines_of_venues from (Some x ∷ xs) venues few (suc place) line e =
    let more : from + 1 + length xs ≤ 2 * venues = omega arith in
    lines_of_venues (from + 1) xs venues more place line e
