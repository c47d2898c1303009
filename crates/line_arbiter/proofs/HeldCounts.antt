-- As many items are held as were taken and not yet sent.
use Rattle.std.proofs.Common.{◌≡◌, ℕ, ◌+◌, ◌-◌, ◌≤◌, Bool, false, List, length, Option, Some, None, refl, sym, ap, ◌∙◌, arith}
use Rattle.std.specs.Prelude.{is_some, count_by, slice_get}
use Rattle.std.specs.Option.{option_and_then, option_map_or}
use Rattle.std.proofs.lemmas.Option.{slice_get_past}
use Rattle.feed_types.specs.declared.item.Item.{Item}
use Rattle.line_arbiter.specs.Packets.{Input, carried, top_of}
use Rattle.line_arbiter.specs.Streams.{held_count}
use Rattle.line_arbiter.specs.States.{State, held_of}
use Rattle.line_arbiter.specs.Fits.{Fits}
use Rattle.line_arbiter.proofs.Counting.{count_numbers, count_past}
use Rattle.line_arbiter.proofs.Windows.{at_number}
use Rattle.line_arbiter.specs.laws.Fronts.{carried_above}
use Rattle.line_arbiter.proofs.Cursors.{held_is}
use Rattle.line_arbiter.proofs.Standing.{stands_of}

-- the test of a place is that of what it holds
same_test : (o : Option (Option Item)) → option_map_or (λ (place : Option Item). is_some place) o
    false ≡ is_some (option_and_then (λ (place : Option Item). place) o)
same_test None = refl
same_test (Some place) = refl

place_taken : (s : State) (packets : List Input) (k : ℕ) → Fits s packets
    → option_map_or (λ (place : Option Item). is_some place) (slice_get s.places k) false ≡ is_some
    (carried packets (s.sent + 1 + k))
place_taken s packets k fits =
    let number : s.sent + 1 + k - s.sent - 1 ≡ k = omega arith in
    same_test (slice_get s.places k)
    ∙ ap (λ (i : ℕ). is_some (option_and_then (λ (place : Option Item). place)
    (slice_get s.places i))) (sym number)
    ∙ ap (λ (o : Option Item). is_some o)
    (sym (at_number (held_of s) (s.sent + 1 + k) (omega arith)) ∙ held_is s packets (stands_of fits)
    (s.sent + 1 + k) (omega arith))

-- past the last place nothing is held, so nothing was taken
none_past : (s : State) (packets : List Input) (m : ℕ) → Fits s packets
    → s.sent + 1 + length s.places ≤ m → carried packets m ≡ None
none_past s packets m fits h =
    sym (held_is s packets (stands_of fits) m (omega arith)) ∙ at_number (held_of s) m (omega arith)
    ∙ ap (λ (o : Option (Option Item)). option_and_then (λ (place : Option Item). place) o)
    (slice_get_past s.places (m - s.sent - 1) (omega arith))

pub count-held : (s : State) (packets : List Input) → Fits s packets
    → count_by is_some s.places ≡ held_count s.sent packets
count-held s packets fits =
    let taken : ℕ → Bool = λ (m : ℕ). is_some (carried packets m) in
    let both : ℕ = length s.places + (top_of packets - s.sent) in
    count_numbers (λ (place : Option Item). is_some place) taken s.places (s.sent + 1)
    (λ k within. place_taken s packets k fits)
    ∙ count_past taken (s.sent + 1) (length s.places) both (omega arith)
    (λ m past. ap (λ (o : Option Item). is_some o) (none_past s packets m fits past))
    ∙ sym (count_past taken (s.sent + 1) (top_of packets - s.sent) both (omega arith)
    (λ m past. ap (λ (o : Option Item). is_some o) (carried_above packets m (omega arith))))
