-- All forms of the standard, by their types and lengths.
use Rattle.std.specs.Prelude.{ℕ, Bool, List, [], ◌∷◌, ◌++◌, length}
use Rattle.std.specs.List.{list_any}
use Rattle.quote_payload.specs.Payload.{type_at}
use Rattle.itch_messages.specs.Events.{is_form}

-- those that say something of orders: A, F, E, C, X, D, U, R, H, h
abbrev pub telling_forms : List (ℕ × ℕ)
telling_forms =
    (0x41, 36) ∷ (0x46, 40) ∷ (0x45, 31) ∷ (0x43, 36) ∷ (0x58, 23) ∷ (0x44, 19) ∷ (0x55, 35)
    ∷ (0x52, 39) ∷ (0x48, 25) ∷ (0x68, 21) ∷ []

-- those that don't: S, Y, L, V, W, K, J, P, Q, B, I, N, O
abbrev pub silent_forms : List (ℕ × ℕ)
silent_forms =
    (0x53, 12) ∷ (0x59, 20) ∷ (0x4c, 26) ∷ (0x56, 35) ∷ (0x57, 12) ∷ (0x4b, 28) ∷ (0x4a, 35)
    ∷ (0x50, 44) ∷ (0x51, 40) ∷ (0x42, 19) ∷ (0x49, 50) ∷ (0x4e, 20) ∷ (0x4f, 48) ∷ []

-- a message of one of these forms
abbrev pub is_one_of : List (ℕ × ℕ) → List ℕ → Bool
is_one_of forms message =
    list_any (λ (form : ℕ × ℕ). is_form form.0 form.1 (type_at message) (length message)) forms
