-- The number of messages that are missing at the front.
use Rattle.std.proofs.Common.{◌≡◌, ℕ, ◌+◌, ◌-◌, ◌<◌, ◌≤◌, Bool, true, false, List, Option, Some, None, sym, ap, subst, ◌∙◌, arith, inl, inr}
use Rattle.std.specs.Prelude.{◌⊎◌, IsSome, is_none, max, min, ◌==◌, if◌then◌else◌}
use Rattle.std.specs.List.{range_with_len, prefix_len}
use Rattle.std.proofs.lemmas.Bool.{cases_lt, ne_eqb}
use Rattle.std.proofs.lemmas.List.FromFn.{length-range_with_len, get_or-range_with_len}
use Rattle.std.proofs.lemmas.List.Sums.{prefix_len_is}
use Rattle.feed_types.specs.declared.item.Item.{Item}
use Rattle.line_arbiter.specs.Packets.{Input, carried, known_of}
use Rattle.line_arbiter.specs.Streams.{front_of, missing_count, gap_of}
use Rattle.line_arbiter.specs.Holding.{held_at}
use Rattle.line_arbiter.specs.Filling.{IsNextHeld}
use Rattle.line_arbiter.specs.States.{State, held_of}
use Rattle.line_arbiter.specs.Fits.{Fits}
use Rattle.line_arbiter.specs.Steps.{IsSound}
use Rattle.line_arbiter.proofs.Standing.{stands_of}
use Rattle.line_arbiter.specs.laws.Options.{some_not_none}
use Rattle.line_arbiter.proofs.Cursors.{cursor, held_is}
use Rattle.line_arbiter.proofs.Known.{known_at_end}

-- a run of numbers that pass a test, up to the first that doesn't or to the range's end
run_is : (q : ℕ → Bool) (a len n : ℕ) → n ≤ len → ((m : ℕ) → a ≤ m → m < a + n → q m ≡ true)
    → (n < len → q (a + n) ≡ false) → prefix_len q (range_with_len a len) ≡ n
run_is q a len n within all stop = prefix_len_is q (range_with_len a len) n 0
    (omega (arith, length-range_with_len a len))
    (λ k below. ap q (get_or-range_with_len a len k 0 (omega arith))
    ∙ all (a + k) (omega arith) (omega arith))
    (λ more. let inside : n < len = omega (arith, length-range_with_len a len)
    in ap q (get_or-range_with_len a len n 0 inside) ∙ stop inside)

-- past the front the numbers to ask for are past the last item sent too
past_sent : (s : State) (packets : List Input) → Fits s packets
    → s.front < min s.known (s.sent + s.window) → s.sent ≤ s.front
past_sent s packets fits more = elim (cursor s packets (stands_of fits)) [
  | inl within ↦ within
  | inr ended ↦ let to = fits.known in let known = known_at_end packets (s.front + 1) ended.1
      in absurd (omega arith)
]

-- Where nothing is held at the n numbers after the front, up to the last one that is known and in
-- the window or to one where an item is held, n is how many are missing.
missing_count-held : (s : State) (packets : List Input) (n : ℕ) → Fits s packets
    → ((m : ℕ) → s.front < m → m ≤ s.front + n → held_at (held_of s) m ≡ None)
    → s.front + n ≤ max s.front (min s.known (s.sent + s.window))
    → (s.front + n ≡ max s.front (min s.known (s.sent + s.window)))
    ⊎ IsSome (held_at (held_of s) (s.front + n + 1))
    → missing_count s.window s.sent packets ≡ n
missing_count-held s packets n fits none within stop =
    let front = fits.front in
    let known = fits.known in
    let next : s.front + n + 1 ≡ front_of packets + 1 + n = omega arith in
    run_is (λ m. is_none (carried packets m)) (front_of packets + 1)
    (min (known_of packets) (s.sent + s.window) - front_of packets) n
    (omega arith)
    (λ m low high. let sent = past_sent s packets fits (omega arith)
    in ap (λ (o : Option Item). is_none o)
    (sym (held_is s packets (stands_of fits) m (omega arith))
    ∙ none m (omega arith) (omega arith)))
    (λ more. elim stop [
      | inl all ↦ absurd (omega arith)
      | inr found ↦
          let sent = past_sent s packets fits (omega arith) in
          ap (λ (m : ℕ). is_none (carried packets m)) (sym next)
          ∙ ap (λ (o : Option Item). is_none o)
          (sym (held_is s packets (stands_of fits) (s.front + n + 1) (omega arith)))
          ∙ some_not_none (held_at (held_of s) (s.front + n + 1)) found
    ])

-- the run to ask for: up to the last number that is known of and may have a place, or to before the
-- lowest that is held
abbrev pub last_asked : ℕ → Option ℕ → ℕ
last_asked limit None = limit
last_asked limit (Some next) = min limit (next - 1)

pub asked_within : (limit : ℕ) (next : Option ℕ) → last_asked limit next ≤ limit
asked_within limit None = omega arith
asked_within limit (Some next) = omega arith

missing_is : (s : State) (packets : List Input) (next : Option ℕ) (limit n : ℕ) → IsSound s
    → Fits s packets → IsNextHeld (held_of s) s.front next
    → limit ≡ min s.known (s.sent + s.window) → n ≡ last_asked limit next - s.front
    → missing_count s.window s.sent packets ≡ n
missing_is s packets None limit n sound fits is limit_is n_is =
    missing_count-held s packets n fits (λ m past below. is m past)
    (omega arith) (inl (omega arith))
missing_is s packets (Some next) limit n sound fits is limit_is n_is =
    let past = is.past in
    missing_count-held s packets n fits (λ m low below. is.none m low (omega arith)) (omega arith)
    (elim (cases_lt (next - 1) limit) [
      | inl held ↦
          let at : s.front + n + 1 ≡ next = omega arith in
          inr (subst (λ (m : ℕ). IsSome (held_at (held_of s) m)) (sym at) is.here)
      | inr limited ↦ inl (omega arith)
    ])

module _ (s : State) (packets : List Input) (next : Option ℕ) (limit last : ℕ) (sound : IsSound s)
    (fits : Fits s packets) (is : IsNextHeld (held_of s) s.front next)
    (limit_is : limit ≡ min s.known (s.sent + s.window)) (last_is : last ≡ last_asked limit next)
  where
    missing : missing_count s.window s.sent packets ≡ last - s.front
    missing = missing_is s packets next limit (last - s.front) sound fits is limit_is (omega arith)

    pub gap_of-none : last ≤ s.front → None ≡ gap_of s.session s.window s.sent packets
    gap_of-none none =
        let zero : last - s.front ≡ 0 = omega arith in
        sym (ap (λ (k : ℕ). if k == 0 then None else Some (record {
          session = s.session;
          number =
              front_of packets + 1;
          count = k;
        })) (missing ∙ zero))

    pub gap_of-some : s.front < last
        → Some (record {
          session = s.session;
          number = s.front + 1;
          count =
              last - s.front;
        }) ≡ gap_of
        s.session s.window s.sent packets
    gap_of-some some =
        sym (
        ap (λ (k : ℕ). if k == 0 then None else Some (record {
          session = s.session;
          number =
              front_of packets + 1;
          count = k;
        })) missing
        ∙ ap (λ (b : Bool). if b then None else Some (record {
          session = s.session;
          number =
              front_of packets + 1;
          count = last - s.front;
        }))
        (ne_eqb (last - s.front) 0 (λ e. omega arith))
        ∙ ap (λ (k : ℕ). Some (record {
          session = s.session;
          number = k + 1;
          count =
              last - s.front;
        })) (sym fits.front))
