-- The wins that an arbiter keeps, as a packet comes.
use Rattle.std.proofs.Common.{◌≡◌, ℕ, ◌+◌, ◌≤◌, Bool, true, false, List, [], ◌∷◌, ◌++◌, Option, Some, None, refl, sym, ap, ◌∙◌, arith}
use Rattle.std.specs.Prelude.{◌&&◌, max, count_by, if◌then◌else◌}
use Rattle.std.specs.List.{range_with_len}
use Rattle.std.specs.Option.{option_or, option_map_or}
use Rattle.feed_types.specs.declared.line.LineId.{LineId}
use Rattle.feed_types.specs.declared.line.LineId.TheVariants.{A, B, Recovery}
use Rattle.line_arbiter.specs.Packets.{Arrival, Input, Arrived, bringer, has_number, is_taken, top_of}
use Rattle.mold_packet.specs.Content.{last_number}
use Rattle.line_arbiter.specs.Streams.{is_on, is_same_line, wins_of}
use Rattle.line_arbiter.specs.Outcomes.{new_count}
use Rattle.feed_types.specs.declared.per_line.PerLine.{PerLine}
use Rattle.feed_types.specs.PerLines.{on_all, on_line}
use Rattle.line_arbiter.specs.Counts.{shown}
use Rattle.line_arbiter.specs.Steps.{counted}
use Rattle.line_arbiter.specs.laws.Bringing.{bringer-push, top_of-push}
use Rattle.line_arbiter.proofs.Counting.{count_same}
use Rattle.line_arbiter.proofs.Winning.{wins_of-push}
use Rattle.line_arbiter.specs.laws.Options.{or_none}

-- a packet that is not taken wins nothing
pub wins_of-untaken : (packets : List Input) (a : Arrival) (line : LineId)
    → is_taken a.answer ≡ false → wins_of (packets ++ Arrived a ∷ []) line ≡ wins_of packets line
wins_of-untaken packets a line untaken =
    let top : top_of (packets ++ Arrived a ∷ []) ≡ top_of packets = top_of-push packets (Arrived a)
    ∙ ap (λ (b : Bool). if b then max (top_of packets) (last_number a.packet) else
    top_of packets) untaken in
    let same : (m : ℕ) → bringer (packets ++ Arrived a ∷ []) m ≡ bringer packets m =
    λ m. bringer-push packets (Arrived a) m
    ∙ ap (λ (b : Bool). option_or (bringer packets m) (if b && has_number a.packet m then Some
    (Arrived a) else None)) untaken ∙ or_none (bringer packets m) in
    ap (λ (n : ℕ). count_by (λ m. option_map_or (λ x. is_on line x) (bringer (packets ++ Arrived a
    ∷ []) m) false) (range_with_len 1 n)) top
    ∙ count_same (λ m. option_map_or (λ x. is_on line x) (bringer (packets ++ Arrived a ∷ []) m)
    false) (λ m. option_map_or (λ x. is_on line x) (bringer packets m) false) 1 (top_of packets)
    (λ m low high. ap (λ (o : Option Input). option_map_or (λ x. is_on line x) o false) (same m))

on_line-counted : (line other : LineId) (n : ℕ) (counts : PerLine ℕ)
    → on_line other (counted line n counts) ≡ (if is_same_line line other then shown
    (on_line other counts + n) else on_line other counts)
on_line-counted A A n counts = refl
on_line-counted A B n counts = refl
on_line-counted A Recovery n counts = refl
on_line-counted B A n counts = refl
on_line-counted B B n counts = refl
on_line-counted B Recovery n counts = refl
on_line-counted Recovery A n counts = refl
on_line-counted Recovery B n counts = refl
on_line-counted Recovery Recovery n counts = refl

saturated : (b : Bool) (earlier before n now : ℕ) → now ≡ shown (earlier + before)
    → (if b then shown (now + n) else now) ≡ shown (earlier + (before + (if b then n else 0)))
saturated true earlier before n now e = omega arith
saturated false earlier before n now e = omega arith

-- a packet that is taken wins for its line what was not taken before
pub wins_counted : (packets : List Input) (a : Arrival) (fresh : ℕ) (old earlier : PerLine ℕ)
    → is_taken a.answer ≡ true → 1 ≤ a.packet.number → fresh ≡ new_count packets a.packet
    → ((line : LineId) → on_line line old ≡ shown (on_line line earlier + wins_of packets line))
    → (line : LineId) → on_line line (counted a.line fresh old) ≡ shown
    (on_line line earlier + wins_of (packets ++ Arrived a ∷ []) line)
wins_counted packets a fresh old earlier was_taken one is now line =
    on_line-counted a.line line fresh old
    ∙ saturated (is_same_line a.line line) (on_line line earlier) (wins_of packets line) fresh
    (on_line line old) (now line)
    ∙ ap (λ (n : ℕ). shown
    (on_line line earlier + (wins_of packets line + (if is_same_line a.line line then n else 0))))
    is
    ∙ sym (ap (λ (n : ℕ). shown (on_line line earlier + n)) (wins_of-push packets a line one
    ∙ ap (λ (b : Bool). wins_of packets line + (if b && is_same_line a.line line then new_count
    packets a.packet else 0)) was_taken))

shown_if : (b : Bool) (n now : ℕ) → shown now ≡ now
    → shown (if b then shown (now + n) else now) ≡ (if b then shown (now + n) else now)
shown_if true n now e = omega arith
shown_if false n now e = e

-- a count is shown still when a line wins more
pub counted_shown : (line other : LineId) (n : ℕ) (counts : PerLine ℕ)
    → shown (on_line other counts) ≡ on_line other counts
    → shown (on_line other (counted line n counts)) ≡ on_line other (counted line n counts)
counted_shown line other n counts is = rw on_line-counted (shown_if (is_same_line line other) n
    (on_line other counts) is)

-- nothing more is counted
pub counted_none : (line : LineId) (counts : PerLine ℕ)
    → ((each : LineId) → shown (on_line each counts) ≡ on_line each counts)
    → counts ≡ counted line 0 counts
counted_none A counts is = let same : counts.a ≡ shown (counts.a + 0) = let s = is A in omega arith
    in λ i. record counts { a = same i }
counted_none B counts is = let same : counts.b ≡ shown (counts.b + 0) = let s = is B in omega arith
    in λ i. record counts { b = same i }
counted_none Recovery counts is = let same : counts.recovery ≡ shown (counts.recovery + 0) = let s =
    is Recovery in omega arith in λ i. record counts { recovery = same i }

pub none_shown : (line : LineId) → shown (on_line line (on_all 0)) ≡ on_line line (on_all 0)
none_shown A = refl
none_shown B = refl
none_shown Recovery = refl
