-- The blocks of the first i messages, and those of one more.
use Rattle.std.proofs.Common.{◌≡◌, ℕ, ◌+◌, ◌<◌, ◌≤◌, zero, suc, Bor, List, [], ◌∷◌, ◌++◌, length, map, get_or, take, drop, sym, ap, ◌∙◌, arith, length-append}
use Rattle.std.specs.List.{flat_map, AllByRecursion}
use Rattle.std.proofs.lemmas.List.{take_more, map-append, append-nil, take-append-drop}
use Rattle.std.proofs.lemmas.List.Concat.{flat_map-append}
use Rattle.mold_packet.specs.Block.{block, IsMessage}
use Rattle.mold_packet.specs.Body.{lent_bytes}

-- the blocks of the messages that a list makes
abbrev pub blocks_by : {A : Type 0} → (A → List ℕ) → List A → List ℕ
blocks_by f xs = flat_map block (map f xs)

-- the blocks of these slices
abbrev pub blocks_to : List (Bor (List ℕ)) → List ℕ
blocks_to messages = flat_map block (lent_bytes messages)

abbrev pub lent : Bor (List ℕ) → List ℕ
lent message = message.now

abbrev pub nothing : Bor (List ℕ)
nothing = record { ref_ptr = (0, 0); now = [] }

pub blocks_more : {A : Type 0} (f : A → List ℕ) (xs : List A) (i : ℕ) (d : A) → i < length xs
    → blocks_by f (take (i + 1) xs) ≡ blocks_by f (take i xs) ++ block (f (get_or xs i d))
blocks_more f xs i d h =
    ap (blocks_by f) (take_more xs i d h)
    ∙ ap (flat_map block) (map-append f (take i xs) (get_or xs i d ∷ []))
    ∙ flat_map-append block (map f (take i xs)) (f (get_or xs i d) ∷ [])
    ∙ ap (λ (x : List ℕ). blocks_by f (take i xs) ++ x) (append-nil (block (f (get_or xs i d))))

pub length-blocks_more : {A : Type 0} (f : A → List ℕ) (xs : List A) (i : ℕ) (d : A)
    → i < length xs → length (blocks_by f (take (i + 1) xs))
    ≡ length (blocks_by f (take i xs)) + (2 + length (f (get_or xs i d)))
length-blocks_more f xs i d h =
    ap (λ (x : List ℕ). length x) (blocks_more f xs i d h)
    ∙ omega (arith, length-append (blocks_by f (take i xs)) (block (f (get_or xs i d))))

pub message_at : (messages : List (Bor (List ℕ))) (i : ℕ)
    → AllByRecursion IsMessage (lent_bytes messages) → i < length messages
    → IsMessage (get_or messages i nothing).now
message_at [] i each h = omega arith
message_at (m ∷ ms) zero each h = each.0
message_at (m ∷ ms) (suc i) each h = message_at ms i each.1 (omega arith)

pub blocks_within : (messages : List (Bor (List ℕ))) (i : ℕ) → i < length messages
    → length (blocks_to (take i messages)) + (2 + length (get_or messages i nothing).now) ≤ length
    (blocks_to messages)
blocks_within messages i h =
    let front : List (Bor (List ℕ)) = take (i + 1) messages in
    let back : List (Bor (List ℕ)) = drop (i + 1) messages in
    let all : blocks_to messages ≡ blocks_to front ++ blocks_to back =
    ap blocks_to (sym (take-append-drop (i + 1) messages))
    ∙ ap (flat_map block) (map-append (λ (m : Bor (List ℕ)). m.now) front back)
    ∙ flat_map-append block (lent_bytes front) (lent_bytes back) in
    omega (
      arith,
      length-blocks_more lent messages i nothing h,
      ap (λ (x : List ℕ). length x) all,
      length-append
          (blocks_to front) (blocks_to back),
    )
