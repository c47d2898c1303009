-- The header's fields are its bytes, and the bytes are the fields.
use Rattle.std.proofs.Common.{◌≡◌, ℕ, ◌+◌, ◌^◌, ◌<◌, ◌≤◌, List, [], ◌++◌, length, get_or, take, drop, refl, sym, ap, ◌∙◌, inl, inr, append_assoc, length-append, arith}
use Rattle.std.specs.Int.{w16, w64, to_be_bytes, from_be_bytes}
use Rattle.std.proofs.lemmas.Bool.{cases_lt}
use Rattle.std.proofs.lemmas.Nat.{be_bytes_2, be_bytes_8, from_be_bytes-to_be_bytes_2, from_be_bytes-to_be_bytes_8}
use Rattle.std.proofs.lemmas.List.{take_at, drop_at, drop_all, append-nil, take-append-drop, drop-drop, length-take, length-drop, get_or-take, get_or-drop, get_or_past}
use Rattle.mold_packet.specs.Header.{header, session_at, number_at, count_at}

-- a part of bytes holds bytes
pub part_is : (bytes : List ℕ) (from n : ℕ) → ((i : ℕ) → get_or bytes i 0 < 256) → (i : ℕ)
    → get_or (take n (drop from bytes)) i 0 < 256
part_is bytes from n h i =
    elim (cases_lt i n) [
      | inl lt ↦ rw (get_or-take n (drop from bytes) i 0 lt, get_or-drop from bytes i 0)
          (h (from + i))
      | inr le ↦ rw (get_or_past (take n (drop from bytes)) i 0
          (omega (arith, length-take n (drop from bytes)))) (omega arith)
    ]

cut : (bytes : List ℕ) (from n : ℕ)
    → drop from bytes ≡ take n (drop from bytes) ++ drop (from + n) bytes
cut bytes from n =
    sym (take-append-drop n (drop from bytes))
    ∙ ap (λ (x : List ℕ). take n (drop from bytes) ++ x) (drop-drop n from bytes)

header-append : (session : List ℕ) (number count : ℕ) (body : List ℕ)
    → header session number count ++ body
    ≡ session ++ (to_be_bytes w64 number ++ (to_be_bytes w16 count ++ body))
header-append session number count body =
    append_assoc session (to_be_bytes w64 number ++ to_be_bytes w16 count) body
    ∙ ap (λ (x : List ℕ). session ++ x)
    (append_assoc (to_be_bytes w64 number) (to_be_bytes w16 count) body)

pub length-header : (session : List ℕ) (number count : ℕ) → length session ≡ 10
    → length (header session number count) ≡ 20
length-header session number count h =
    omega (arith, length-append session (to_be_bytes w64 number ++ to_be_bytes w16 count))

-- any 20 bytes or more are a header and what follows it
header_is : (bytes : List ℕ) → 20 ≤ length bytes → ((i : ℕ) → get_or bytes i 0 < 256)
    → bytes ≡ header (session_at bytes) (number_at bytes) (count_at bytes) ++ drop 20 bytes
header_is bytes long h =
    let n : to_be_bytes w64 (number_at bytes) ≡ take 8 (drop 10 bytes) =
    be_bytes_8 (take 8 (drop 10 bytes)) (number_at bytes)
    (omega (arith, length-take 8 (drop 10 bytes), length-drop 10 bytes)) (part_is bytes 10 8 h)
    refl in
    let c : to_be_bytes w16 (count_at bytes) ≡ take 2 (drop 18 bytes) =
    be_bytes_2 (take 2 (drop 18 bytes)) (count_at bytes)
    (omega (arith, length-take 2 (drop 18 bytes), length-drop 18 bytes)) (part_is bytes 18 2 h)
    refl in
    let third : drop 18 bytes ≡ to_be_bytes w16 (count_at bytes) ++ drop 20 bytes =
    cut bytes 18 2 ∙ ap (λ (x : List ℕ). x ++ drop 20 bytes) (sym c) in
    let second : drop 10 bytes ≡ to_be_bytes w64 (number_at bytes) ++ drop 18 bytes =
    cut bytes 10 8 ∙ ap (λ (x : List ℕ). x ++ drop 18 bytes) (sym n) in
    sym (take-append-drop 10 bytes)
    ∙ ap (λ (x : List ℕ). take 10 bytes ++ x)
    (second ∙ ap (λ (x : List ℕ). to_be_bytes w64 (number_at bytes) ++ x) third)
    ∙ sym (header-append (session_at bytes) (number_at bytes) (count_at bytes) (drop 20 bytes))

-- the same, with the fields as the code read them
pub header_as_read : (bytes session : List ℕ) (number count : ℕ) (body : List ℕ) → 20 ≤ length bytes
    → ((i : ℕ) → get_or bytes i 0 < 256) → session ≡ session_at bytes → number ≡ number_at bytes
    → count ≡ count_at bytes → drop 20 bytes ≡ body → bytes ≡ header session number count ++ body
header_as_read bytes session number count body long h s n c b =
    header_is bytes long h
    ∙ ap (λ (x : List ℕ). header x (number_at bytes) (count_at bytes) ++ drop 20 bytes) (sym s)
    ∙ ap (λ (x : ℕ). header session x (count_at bytes) ++ drop 20 bytes) (sym n)
    ∙ ap (λ (x : ℕ). header session number x ++ drop 20 bytes) (sym c)
    ∙ ap (λ (x : List ℕ). header session number count ++ x) b

-- what is at the fields' offsets
pub record Parts (bytes session : List ℕ) (number count : ℕ) (body : List ℕ) : Type 0 where
  pub session_is : session_at bytes ≡ session
  pub number_is : number_at bytes ≡ number
  pub count_is : count_at bytes ≡ count
  pub body_is : drop 20 bytes ≡ body

-- a header determines its fields
pub parts : (bytes session : List ℕ) (number count : ℕ) (body : List ℕ) → length session ≡ 10
    → number < 2 ^ 64 → count < 2 ^ 16 → bytes ≡ header session number count ++ body
    → Parts bytes session number count body
parts bytes session number count body ten small few e =
    let all : bytes ≡ session ++ (to_be_bytes w64 number ++ (to_be_bytes w16 count ++ body)) =
    e ∙ header-append session number count body in
    let from_10 : drop 10 bytes ≡ to_be_bytes w64 number ++ (to_be_bytes w16 count ++ body) =
    ap (drop 10) all ∙ drop_at session
    (to_be_bytes w64 number ++ (to_be_bytes w16 count ++ body)) 10 ten in
    let from_18 : drop 18 bytes ≡ to_be_bytes w16 count ++ body =
    sym (drop-drop 8 10 bytes) ∙ ap (drop 8) from_10
    ∙ drop_at (to_be_bytes w64 number) (to_be_bytes w16 count ++ body) 8 refl in
    record {
      session_is =
          ap (take 10) all ∙ take_at session
          (to_be_bytes w64 number ++ (to_be_bytes w16 count ++ body)) 10 ten;
      number_is =
          ap (λ (x : List ℕ). from_be_bytes w64 (take 8 x)) from_10
          ∙ ap (from_be_bytes w64)
          (take_at (to_be_bytes w64 number) (to_be_bytes w16 count ++ body) 8 refl)
          ∙ from_be_bytes-to_be_bytes_8 number small;
      count_is =
          ap (λ (x : List ℕ). from_be_bytes w16 (take 2 x)) from_18
          ∙ ap (from_be_bytes w16) (take_at (to_be_bytes w16 count) body 2 refl)
          ∙ from_be_bytes-to_be_bytes_2 count few;
      body_is =
          sym (drop-drop 2 18 bytes) ∙ ap (drop 2) from_18
          ∙ drop_at (to_be_bytes w16 count) body 2 refl;
    }

-- 20 bytes are a header and nothing else
pub whole_header : (bytes session : List ℕ) (number count : ℕ) → length bytes ≡ 20
    → ((i : ℕ) → get_or bytes i 0 < 256) → session ≡ session_at bytes → number ≡ number_at bytes
    → count ≡ count_at bytes → bytes ≡ header session number count
whole_header bytes session number count exact h s n c =
    header_as_read bytes session number count [] (omega arith) h s n c
    (drop_all 20 bytes (omega arith))
    ∙ append-nil (header session number count)
