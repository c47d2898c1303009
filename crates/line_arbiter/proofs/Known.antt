-- How far a session is known to go: at its announced end, and when one more packet or skip has
-- come.
use Rattle.std.proofs.Common.{◌≡◌, ℕ, ◌-◌, ◌≤◌, List, [], ◌∷◌, ◌++◌, Option, Some, None, false, refl, ap, ◌∙◌, arith}
use Rattle.std.specs.Prelude.{fold, max}
use Rattle.std.specs.Option.{option_map_or}
use Rattle.std.proofs.lemmas.List.Sums.{fold-append}
use Rattle.line_arbiter.specs.Packets.{Arrival, Input, Arrived, Skip, end_of, heard, is_ended, known_of}
use Rattle.line_arbiter.specs.Steps.{raised}
use Rattle.line_arbiter.specs.laws.Bringing.{end_same, end_of_skip}

-- the session is known to go to before its end
pub known_at_end : (packets : List Input) (e : ℕ) → end_of packets ≡ Some e
    → known_of packets ≡ e - 1
known_at_end packets e is =
    ap (λ (o : Option ℕ). option_map_or (λ x. x - 1) o (fold (λ k x. max k (heard x)) 0 packets)) is

known_more : (packets : List Input) (x : Input) → end_of (packets ++ x ∷ []) ≡ end_of packets
    → known_of (packets ++ x ∷ []) ≡ raised (known_of packets) (end_of packets) (heard x)
known_more packets x same =
    let top : fold (λ k y. max k (heard y)) 0 (packets ++ x ∷ [])
    ≡ max (fold (λ k y. max k (heard y)) 0 packets) (heard x) =
    fold-append (λ k y. max k (heard y)) 0 packets (x ∷ []) in
    ap (λ (o : Option ℕ). option_map_or (λ e. e - 1) o
    (fold (λ k y. max k (heard y)) 0 (packets ++ x ∷ []))) same
    ∙ ap (λ (n : ℕ). option_map_or (λ e. e - 1) (end_of packets) n) top
    ∙ by_end (end_of packets) (fold (λ k y. max k (heard y)) 0 packets) (heard x)
  where
    by_end : (o : Option ℕ) (k n : ℕ)
        → option_map_or (λ e. e - 1) o (max k n) ≡ raised (option_map_or (λ e. e - 1) o k) o n
    by_end None k n = refl
    by_end (Some e) k n = refl

pub known-push : (packets : List Input) (a : Arrival) → is_ended a.answer ≡ false
    → known_of (packets ++ Arrived a ∷ [])
    ≡ raised (known_of packets) (end_of packets) (heard (Arrived a))
known-push packets a unended = known_more packets (Arrived a) (end_same packets a unended)

pub known_skip : (packets : List Input) (n : ℕ)
    → known_of (packets ++ Skip n ∷ []) ≡ raised (known_of packets) (end_of packets) (n - 1)
known_skip packets n = known_more packets (Skip n) (end_of_skip packets n)

-- what is known of only grows
pub raised_from : (known : ℕ) (end : Option ℕ) (to : ℕ) → known ≤ raised known end to
raised_from known None to = omega arith
raised_from known (Some e) to = omega arith

-- it reaches what was heard of, which no announced end precedes
pub raised_to : (known : ℕ) (end : Option ℕ) (to : ℕ) → ((e : ℕ) → end ≡ Some e → to ≤ known)
    → to ≤ raised known end to
raised_to known None to within = omega arith
raised_to known (Some e) to within = within e refl

pub raised_at_end : (known : ℕ) (end : Option ℕ) (to e : ℕ) → end ≡ Some e
    → raised known end to ≡ known
raised_at_end known None to e is = absurd cc
raised_at_end known (Some x) to e is = refl
