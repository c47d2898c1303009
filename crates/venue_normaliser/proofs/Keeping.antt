-- Messages that are kept in slots, by their numbers.
use Rattle.std.proofs.Common.{◌≡◌, ℕ, ◌+◌, ◌-◌, ◌*◌, ◌<◌, ◌≤◌, Bool, true, false, cond, List, [], ◌∷◌, ◌++◌, length, get_or, set, take, Option, Some, None, refl, sym, ap, subst, ◌∙◌, arith, inl, inr, append_assoc, append-nil, length-append}
use Rattle.std.specs.Prelude.{◌⊎◌, ◌%◌, ◌/◌, ◌&&◌, nat_le, nat_lt, is_some, min, unwrap_or, replicate, if◌then◌else◌}
use Rattle.std.specs.Option.{option_and_then, option_or}
use Rattle.std.proofs.lemmas.Bool.{cases_lt, cases_eq, eq-eqb, ne_eqb}
use Rattle.std.proofs.lemmas.Bool.Decides.{nat_tests}
use Rattle.std.proofs.lemmas.Nat.{mod_below}
use Rattle.std.proofs.Math.Nat.{mod-add-div, mul-add, mul-le-mul_left}
use Rattle.std.proofs.lemmas.List.{length-set, get_or-set_same, get_or-set_other, get_or-replicate, length-replicate}
use Rattle.std.proofs.Math.Seq.{get_or-append_seam}
use Rattle.std.proofs.lemmas.Option.{slice_get-get_or}
use Rattle.mold_packet.specs.Content.{Content, last_number}
use Rattle.venue_normaliser.specs.declared.message_slot.MessageSlot.{MessageSlot}
use Rattle.venue_normaliser.specs.Brought.{kept_bytes}
use Rattle.venue_normaliser.specs.Slots.{IsStored, KeepsPacket, bytes_of_slot, stored_at}

-- two numbers of one residue that are less than the modulus apart are one
quotients : (w p q r : ℕ) → r + w * p ≤ r + w * q → r + w * q < r + w * p + w → p ≡ q
quotients w p q r le lt = elim (cases_lt p q) [
  | inl less ↦
      let more = mul-le-mul_left {m = p + 1} {n = q} w (omega arith) in
      let spread = mul-add w p 1 in
      let one : w * 1 ≡ w = omega arith in
      absurd (omega arith)
  | inr ge ↦ elim (cases_lt q p) [
    | inl less ↦
        let more = mul-le-mul_left {m = q + 1} {n = p} w (omega arith) in
        let spread = mul-add w q 1 in
        let one : w * 1 ≡ w = omega arith in
        absurd (omega arith)
    | inr le ↦ omega arith
  ]
]

pub one_of_residue : (w m n : ℕ) → m % w ≡ n % w → m ≤ n → n < m + w → m ≡ n
one_of_residue w m n same le lt =
    let a = mod-add-div m w in
    let b = mod-add-div n w in
    let both : m / w ≡ n / w = quotients w (m / w) (n / w) (n % w) (omega arith) (omega arith) in
    sym a ∙ ap (λ (k : ℕ). k + w * (m / w)) same
    ∙ ap (λ (k : ℕ). n % w + w * k) both ∙ b

-- the slot of a number
slot_at : (slots : List MessageSlot) (m : ℕ) (d : MessageSlot) → 1 ≤ length slots
    → stored_at slots m ≡ bytes_of_slot m (get_or slots (m % length slots) d)
slot_at slots m d some =
    ap (λ (o : Option MessageSlot). option_and_then (bytes_of_slot m) o)
    (slice_get-get_or slots (m % length slots) d (mod_below m (length slots) (omega arith)))

pub stored_has : (slots : List MessageSlot) (m : ℕ) (slot : MessageSlot) → 1 ≤ length slots
    → slot ≡ get_or slots (m % length slots) slot → slot.number ≡ m
    → stored_at slots m ≡ Some (take (min slot.len 50) slot.bytes)
stored_has slots m slot some read is =
    slot_at slots m slot some
    ∙ ap (bytes_of_slot m) (sym read)
    ∙ ap (λ (b : Bool). cond b (Some (take (min slot.len 50) slot.bytes)) None)
    (eq-eqb slot.number m is)

pub stored_not : (slots : List MessageSlot) (m : ℕ) (slot : MessageSlot) → 1 ≤ length slots
    → slot ≡ get_or slots (m % length slots) slot → (slot.number ≡ m → ⊥)
    → stored_at slots m ≡ None
stored_not slots m slot some read not =
    slot_at slots m slot some
    ∙ ap (bytes_of_slot m) (sym read)
    ∙ ap (λ (b : Bool). cond b (Some (take (min slot.len 50) slot.bytes)) None)
    (ne_eqb slot.number m not)

-- the message that is read at a number
pub message_read : (slots : List MessageSlot) (m place len : ℕ) (d : MessageSlot)
    → 1 ≤ length slots → place ≡ m % length slots → (get_or slots place d).number ≡ m
    → len ≡ min (get_or slots place d).len 50
    → take len (get_or slots place d).bytes ≡ unwrap_or (stored_at slots m) []
message_read slots m place len d some is number cut =
    let slot = get_or slots place d in
    ap (λ (k : ℕ). take k slot.bytes) cut
    ∙ sym (ap (λ (o : Option (List ℕ)). unwrap_or o [])
    (slot_at slots m d some
    ∙ ap (λ (k : ℕ). bytes_of_slot m (get_or slots k d)) (sym is)
    ∙ ap (λ (b : Bool). cond b (Some (take (min slot.len 50) slot.bytes)) None)
    (eq-eqb slot.number m number)))

-- a message of at most 50 bytes is kept whole
pub kept_short : (message : List ℕ) → length message ≤ 50 → kept_bytes message ≡ message
kept_short message short =
    ap (λ (b : Bool). if b then message else [])
    (let t : nat_le (length message) 50 ≡ true = grind (arith, nat_tests) in t)

-- empty slots have nothing
pub stored_none : (n : ℕ) (slot : MessageSlot) (m : ℕ) → slot.number ≡ 0 → 0 < m → 1 ≤ n
    → stored_at (replicate n slot) m ≡ None
stored_none n slot m zero past some =
    let len = length-replicate n slot in
    let below = mod_below m n (omega arith) in
    stored_not (replicate n slot) m slot (omega arith)
    (sym (ap (λ (k : ℕ). get_or (replicate n slot) (m % k) slot) len
    ∙ get_or-replicate n (m % n) slot slot below))
    (λ is. omega arith)

pub is_stored : (slots : List MessageSlot) (number : ℕ) (message : List ℕ) (slot : MessageSlot)
    → 1 ≤ length slots → slot.number ≡ number
    → take (min slot.len 50) slot.bytes ≡ kept_bytes message
    → IsStored number message slots (set slots (number % length slots) slot)
is_stored slots number message slot some is bytes =
    let place = number % length slots in
    let new = set slots place slot in
    let len : length new ≡ length slots = length-set slots place slot in
    let below : place < length slots = mod_below number (length slots) (omega arith) in
    let read : (m : ℕ) → m % length slots ≡ place → slot ≡ get_or new (m % length new) slot =
    λ m same. sym (ap (λ (k : ℕ). get_or new (m % k) slot) len
    ∙ ap (λ (k : ℕ). get_or new k slot) same ∙ get_or-set_same slots place slot slot below) in
    record {
      here = stored_has new number slot (omega arith) (read number refl) is ∙ ap Some bytes;
      gone = λ m same other. stored_not new m slot (omega arith) (read m same)
          (λ e. other (sym e ∙ is));
      others = λ m apart.
          slot_at new m slot (omega arith)
          ∙ ap (λ (k : ℕ). bytes_of_slot m (get_or new (m % k) slot)) len
          ∙ ap (bytes_of_slot m) (get_or-set_other slots place (m % length slots) slot slot apart)
          ∙ sym (slot_at slots m slot some);
    }

-- the first messages of a packet, as they are kept
abbrev kept_to : ℕ → Content → ℕ → Option (List ℕ)
kept_to n p m =
    if nat_le p.number m && nat_lt m (p.number + n)
    then Some (kept_bytes (get_or p.messages (m - p.number) [])) else None

-- those past the last number sent are kept, and the rest is to come
pub record IsKeptTo (sent : ℕ) (p : Content) (old new : List MessageSlot) (rest : List (List ℕ))
    (place : ℕ) : Type 0 where
  pub done : List (List ℕ)
  pub whole : p.messages ≡ done ++ rest
  pub count : length done ≡ place
  pub length_is : length new ≡ length old
  pub kept : last_number p ≤ sent + length old
      → ((m : ℕ) → sent + length old < m → stored_at old m ≡ None) → (m : ℕ) → sent < m
      → stored_at new m ≡ option_or (stored_at old m) (kept_to place p m)

or_none' : (o : Option (List ℕ)) → o ≡ option_or o None
or_none' None = refl
or_none' (Some x) = refl

kept_to_none : (p : Content) (m n : ℕ) → p.number + n ≤ m → kept_to n p m ≡ None
kept_to_none p m n past =
    ap (λ (b : Bool). cond b (Some (kept_bytes (get_or p.messages (m - p.number) []))) None)
    (second_false (nat_le p.number m) (nat_lt m (p.number + n))
    (let no : nat_lt m (p.number + n) ≡ false = grind (arith, nat_tests) in no))
  where
    second_false : (b c : Bool) → c ≡ false → (b && c) ≡ false
    second_false true c e = e
    second_false false c e = refl

kept_to_same : (p : Content) (m n : ℕ) → (m ≡ p.number + n → ⊥)
    → kept_to n p m ≡ kept_to (n + 1) p m
kept_to_same p m n apart =
    ap (λ (b : Bool). cond b (Some (kept_bytes (get_or p.messages (m - p.number) []))) None)
    (same_test (nat_le p.number m) (nat_lt m (p.number + n)) (nat_lt m (p.number + (n + 1)))
    (elim (cases_lt m (p.number + n)) [
      | inl lt ↦ grind (arith, nat_tests)
      | inr ge ↦ grind (arith, nat_tests)
    ]))
  where
    same_test : (b c d : Bool) → c ≡ d → (b && c) ≡ (b && d)
    same_test b c d e = ap (λ (x : Bool). b && x) e

kept_to_here : (p : Content) (m n : ℕ) (message : List ℕ) → m ≡ p.number + n
    → get_or p.messages n [] ≡ message → kept_to (n + 1) p m ≡ Some (kept_bytes message)
kept_to_here p m n message is read =
    ap (λ (b : Bool). cond b (Some (kept_bytes (get_or p.messages (m - p.number) []))) None)
    (both_true (nat_le p.number m) (nat_lt m (p.number + (n + 1)))
    (grind (arith, nat_tests)) (grind (arith, nat_tests)))
    ∙ ap (λ (k : ℕ). Some (kept_bytes (get_or p.messages k []))) (omega arith)
    ∙ ap (λ (b : List ℕ). Some (kept_bytes b)) read
  where
    both_true : (b c : Bool) → b ≡ true → c ≡ true → (b && c) ≡ true
    both_true b c bt ct = ap (λ (x : Bool). x && c) bt ∙ ct

pub keeps_none : (sent : ℕ) (p : Content) (slots : List MessageSlot) (rest : List (List ℕ))
    → p.messages ≡ rest → IsKeptTo sent p slots slots rest 0
keeps_none sent p slots rest whole = record {
  done = [];
  whole = whole;
  count = refl;
  length_is = refl;
  kept = λ within beyond m past.
      or_none' (stored_at slots m)
      ∙ ap (option_or (stored_at slots m))
      (sym (none_at m));
}
  where
    none_at : (m : ℕ) → kept_to 0 p m ≡ None
    none_at m = elim (cases_lt m p.number) [
      | inl lt ↦ ap (λ (b : Bool). cond (b && nat_lt m (p.number + 0))
          (Some (kept_bytes (get_or p.messages (m - p.number) []))) None)
          (let no : nat_le p.number m ≡ false = grind (arith, nat_tests) in no)
      | inr ge ↦ kept_to_none p m 0 (omega arith)
    ]

-- the next one is passed over: it was sent, or is kept
pub keeps_passed : (sent : ℕ) (p : Content) (old new : List MessageSlot)
    (rest left : List (List ℕ)) (message : List ℕ) (place : ℕ)
    → IsKeptTo sent p old new rest place → rest ≡ message ∷ left
    → (sent < p.number + place → is_some (stored_at new (p.number + place)) ≡ true)
    → IsKeptTo sent p old new left (place + 1)
keeps_passed sent p old new rest left message place so next there =
    let counted = so.count in
    record {
      done = so.done ++ message ∷ [];
      whole = so.whole ∙ ap (λ (xs : List (List ℕ)). so.done ++ xs) next
          ∙ sym (append_assoc so.done (message ∷ []) left);
      count = omega (arith, length-append so.done (message ∷ []));
      length_is = so.length_is;
      kept = λ within beyond m past. elim (cases_eq m (p.number + place)) [
        | inl here ↦
            let none = kept_to_none p m place (omega arith) in
            let was = so.kept within beyond m past
            ∙ ap (option_or (stored_at old m)) none
            ∙ sym (or_none' (stored_at old m)) in
            was ∙ is_old (stored_at old m) (kept_to (place + 1) p m)
            (ap is_some (sym was) ∙ ap (λ (k : ℕ). is_some (stored_at new k)) here
            ∙ there (subst (λ (k : ℕ). sent < k) here past))
        | inr apart ↦ so.kept within beyond m past
            ∙ ap (option_or (stored_at old m)) (kept_to_same p m place apart)
      ];
    }
  where
    is_old : (o e : Option (List ℕ)) → is_some o ≡ true → o ≡ option_or o e
    is_old None e h = absurd cc
    is_old (Some x) e h = refl

-- the next one is kept
pub keeps_put : (sent : ℕ) (p : Content) (old mid new : List MessageSlot)
    (rest left : List (List ℕ)) (message : List ℕ) (place : ℕ)
    → IsKeptTo sent p old mid rest place → rest ≡ message ∷ left
    → sent < p.number + place
    → p.number + place < p.number + length p.messages
    → is_some (stored_at mid (p.number + place)) ≡ false
    → length new ≡ length mid
    → IsStored (p.number + place) message mid new
    → IsKeptTo sent p old new left (place + 1)
keeps_put sent p old mid new rest left message place so next fresh inside free len put =
    let counted = so.count in
    let sizes = so.length_is in
    let number = p.number + place in
    let read : get_or p.messages place [] ≡ message =
    ap (λ (xs : List (List ℕ)). get_or xs place [])
    (so.whole ∙ ap (λ (xs : List (List ℕ)). so.done ++ xs) next)
    ∙ ap (λ (k : ℕ). get_or (so.done ++ message ∷ left) k []) (sym counted)
    ∙ get_or-append_seam so.done message left [] in
    record {
      done = so.done ++ message ∷ [];
      whole = so.whole ∙ ap (λ (xs : List (List ℕ)). so.done ++ xs) next
          ∙ sym (append_assoc so.done (message ∷ []) left);
      count = omega (arith, length-append so.done (message ∷ []));
      length_is = len ∙ sizes;
      kept = λ within beyond m past. elim (cases_eq m number) [
        | inl here ↦
            let none = kept_to_none p number place (omega arith) in
            let was : stored_at mid number ≡ stored_at old number =
            so.kept within beyond number fresh
            ∙ ap (option_or (stored_at old number)) none
            ∙ sym (or_none' (stored_at old number)) in
            subst (λ (k : ℕ). stored_at new k
            ≡ option_or (stored_at old k) (kept_to (place + 1) p k)) (sym here)
            (put.here
            ∙ sym (ap (λ (o : Option (List ℕ)). option_or o (kept_to (place + 1) p number))
            (none_is (stored_at old number) (ap is_some (sym was) ∙ free))
            ∙ kept_to_here p number place message refl read))
        | inr apart ↦ elim (cases_eq (m % length mid) (number % length mid)) [
          | inl same ↦
              let far : sent + length old < m = elim (cases_lt (sent + length old) m) [
                | inl lt ↦ lt
                | inr le ↦ absurd (apart (elim (cases_lt m number) [
                  | inl less ↦ one_of_residue (length mid) m number same (omega arith)
                      (omega arith)
                  | inr more ↦ sym (one_of_residue (length mid) number m (sym same) (omega arith)
                      (omega arith))
                ]))
              ] in
              put.gone m same apart
              ∙ sym (ap (λ (o : Option (List ℕ)). option_or o (kept_to (place + 1) p m))
              (beyond m far) ∙ kept_to_none p m (place + 1) (omega arith))
          | inr other ↦ put.others m other ∙ so.kept within beyond m past
              ∙ ap (option_or (stored_at old m)) (kept_to_same p m place apart)
        ]
      ];
    }
  where
    none_is : (o : Option (List ℕ)) → is_some o ≡ false → o ≡ None
    none_is None h = refl
    none_is (Some x) h = absurd cc

-- all are
pub keeps_all : (sent : ℕ) (p : Content) (old new : List MessageSlot) (rest : List (List ℕ))
    (place : ℕ) → IsKeptTo sent p old new rest place → rest ≡ []
    → KeepsPacket sent p old new
keeps_all sent p old new rest place so none within beyond m past =
    let all : place ≡ length p.messages =
    sym so.count ∙ sym (ap length (so.whole
    ∙ ap (λ (xs : List (List ℕ)). so.done ++ xs) none ∙ append-nil so.done)) in
    so.kept within beyond m past
    ∙ ap (λ (n : ℕ). option_or (stored_at old m) (kept_to n p m)) all

pub keeps_step : (sent : ℕ) (p : Content) (old mid new : List MessageSlot)
    (rest left : List (List ℕ)) (message : List ℕ) (place number : ℕ)
    → IsKeptTo sent p old mid rest place → rest ≡ message ∷ left → number ≡ p.number + place
    → 1 ≤ p.number → ((sent < number → is_some (stored_at mid number) ≡ true) → new ≡ mid)
    → (sent < number → is_some (stored_at mid number) ≡ false → IsStored number message mid new)
    → length new ≡ length mid
    → IsKeptTo sent p old new left (place + 1)
keeps_step sent p old mid new rest left message place number so next is one passed put len =
    let inside : p.number + place < p.number + length p.messages =
    (let whole = ap length so.whole in let split = length-append so.done rest in
    let step = ap length next in let counted = so.count in omega arith) in
    elim (cases_lt sent number) [
      | inr le ↦ subst (λ (s : List MessageSlot). IsKeptTo sent p old s left (place + 1))
          (sym (passed (λ lt. absurd (omega arith))))
          (keeps_passed sent p old mid rest left message place so next
          (λ lt. absurd (omega arith)))
      | inl lt ↦ elim (bool_cases (is_some (stored_at mid number))) [
        | inl there ↦ subst (λ (s : List MessageSlot). IsKeptTo sent p old s left (place + 1))
            (sym (passed (λ _. there)))
            (keeps_passed sent p old mid rest left message place so next
            (λ _. ap (λ (k : ℕ). is_some (stored_at mid k)) (sym is) ∙ there))
        | inr free ↦ keeps_put sent p old mid new rest left message place so next
            (omega arith) inside
            (ap (λ (k : ℕ). is_some (stored_at mid k)) (sym is) ∙ free) len
            (subst (λ (k : ℕ). IsStored k message mid new) is (put lt free))
      ]
    ]
  where
    bool_cases : (b : Bool) → (b ≡ true) ⊎ (b ≡ false)
    bool_cases true = inl refl
    bool_cases false = inr refl
