-- The items that a window holds at its numbers, when an item is put in and when the first place is
-- passed, and its bitmap then.
use Rattle.std.proofs.Common.{◌≡◌, ◌≢◌, ℕ, ◌+◌, ◌-◌, ◌%◌, ◌^◌, ◌<◌, ◌≤◌, Bool, true, false, List, [], length, drop, replicate, Option, Some, None, refl, sym, ap, ◌∙◌, subst, arith, inl, inr}
use Rattle.std.specs.Prelude.{IsSome, MatchBool, is_some, nat_eq, nat_lt, ◌&&◌, ◌==◌, if◌then◌else◌}
use Rattle.std.specs.Option.{option_and_then}
use Rattle.std.proofs.lemmas.Bool.{cases_eq, cases_lt, eq-eqb, ne_eqb, lt-leb, le-leb, eqb-true, false≢true}
use Rattle.std.proofs.lemmas.Bool.Decides.{nat_tests}
use Rattle.std.proofs.lemmas.Option.{slice_get_past}
use Rattle.feed_types.specs.declared.item.Item.{Item}
use Rattle.line_arbiter.specs.Marks.{is_marked, IsBitmap}
use Rattle.line_arbiter.specs.Holding.{Held, held_at, in_place, IsEmpty}
use Rattle.line_arbiter.specs.Filling.{last_place, put_at, put_one, IsHeld}
use Rattle.line_arbiter.proofs.Counting.{one_if}
use Rattle.line_arbiter.proofs.Marking.{none_marked, same_bit}
use Rattle.line_arbiter.proofs.Places.{in_place-put_at, in_place-drop, filled_at, count-put_at, count-drop, length-put_at, length_rest}

none_is : (o : Option Item) → is_some o ≡ false → o ≡ None
none_is None h = refl
none_is (Some x) h = absurd (false≢true (sym h))

pub not_some : (o : Option Item) → o ≡ None → IsSome o → ⊥
not_some o is some = false≢true (subst (λ (o : Option Item). IsSome o) is some)

-- a number's place
pub at_number : (held : Held) (m : ℕ) → held.base < m
    → held_at held m ≡ in_place held.places (m - held.base - 1)
at_number held m h = ap (λ (t : Bool). if t then None else in_place held.places (m - held.base - 1))
    (lt-leb m held.base h)

pub first_place : (held : Held) → in_place held.places 0 ≡ held_at held (held.base + 1)
first_place held =
    let place : held.base + 1 - held.base - 1 ≡ 0 = omega arith in
    ap (in_place held.places) (sym place) ∙ sym (at_number held (held.base + 1) (omega arith))

pub before_base : (held : Held) (m : ℕ) → m ≤ held.base → held_at held m ≡ None
before_base held m h = ap (λ (t : Bool). if t then None else in_place held.places
    (m - held.base - 1)) (le-leb m held.base h)

pub above_last : (held : Held) (m : ℕ) → last_place held < m → held_at held m ≡ None
above_last held m h =
    at_number held m (omega arith)
    ∙ ap (option_and_then (λ (place : Option Item). place)) (slice_get_past held.places
    (m - held.base - 1) (omega arith))

-- what is held has a place
pub in_window : (held : Held) (m : ℕ) → IsSome (held_at held m) → (held.base < m)
    × (m ≤ last_place held)
in_window held m some = (
  elim (cases_lt held.base m) [
    | inl lt ↦ lt
    | inr le ↦ absurd (not_some (held_at held m) (before_base held m le) some)
  ],
  elim (cases_lt (last_place held) m) [
    | inl past ↦ absurd (not_some (held_at held m) (above_last held m past) some)
    | inr le ↦ le
  ],
)

put_past : (base k m : ℕ) (item : Item) (found : Option Item) → base < k → base < m
    → (m ≡ k → found ≡ None)
    → filled_at (k - base - 1) item (m - base - 1) found ≡ put_one base k item found m
put_past base k m item None h lt free = ap (λ (t : Bool). if t then Some item else None)
    (grind (arith, nat_tests))
put_past base k m item (Some x) h lt free = ap (λ (t : Bool). if t then Some item else Some x)
    (ne_eqb (m - base - 1) (k - base - 1) (λ e. let same : m ≡ k = omega arith in let none =
    free same in absurd cc))

put_before : (base k m : ℕ) (item : Item) → base < k → m ≤ base → None ≡ put_one base k item None m
put_before base k m item h le =
    let no : (nat_lt base k && nat_eq m k) ≡ false = grind (arith, nat_tests) in
    sym (ap (λ (t : Bool). if t then Some item else None) no)

put_there : (base k : ℕ) (item : Item) (found : Option Item) → base < k
    → IsSome (put_one base k item found k)
put_there base k item (Some x) h = refl
put_there base k item None h =
    let yes : (nat_lt base k && nat_eq k k) ≡ true = grind (arith, nat_tests) in
    subst (λ (t : Bool). IsSome (if t then Some item else None)) (sym yes) refl

put_kept : (base k m : ℕ) (item : Item) (found : Option Item) → IsSome found
    → IsSome (put_one base k item found m)
put_kept base k m item (Some x) h = refl
put_kept base k m item None h = absurd (false≢true h)

put_other : (base k m : ℕ) (item : Item) (found : Option Item) → m ≢ k
    → put_one base k item found m ≡ found
put_other base k m item (Some x) h = refl
put_other base k m item None h =
    let no : (nat_lt base k && nat_eq m k) ≡ false = let e = ne_eqb m k h
    in grind (arith, nat_tests) in
    ap (λ (t : Bool). if t then Some item else None) no

-- the window once an item was put in at a number
abbrev pub with_item : Held → ℕ → Item → Held
with_item held number item = record held {
  places = put_at held.places
      (number - held.base - 1) item;
}

-- the item is held at its number, and the others as before
pub held_at-put : (held : Held) (number : ℕ) (item : Item) → held.base < number
    → held_at held number ≡ None
    → (m : ℕ) → held_at (with_item held number item) m ≡ put_one held.base number
    item (held_at held m) m
held_at-put held number item past free m =
    let new : Held = with_item held number item in
    elim (cases_lt held.base m) [
      | inl lt ↦
          at_number new m lt ∙ in_place-put_at held.places (number - held.base - 1)
          (m - held.base - 1) item
          ∙ put_past held.base number m item (in_place held.places (m - held.base - 1)) past lt
          (λ e. sym (at_number held m lt) ∙ ap (held_at held) e ∙ free)
          ∙ ap (λ (o : Option Item). put_one held.base number item o m) (sym (at_number held m lt))
      | inr le ↦
          before_base new m le ∙ put_before held.base number m item past le
          ∙ ap (λ (o : Option Item). put_one held.base number item o m)
          (sym (before_base held m le))
    ]

-- what a window keeps is kept when an item is put in
pub IsHeld-put : (count number : ℕ) (held : Held) (item : Item)
    → IsHeld count held → held.base < number
    → number ≤ held.base + held.width → number < 2 ^ 64 → held_at held number ≡ None
    → IsHeld (count + 1) (with_item held number item)
IsHeld-put count number held item h past within small free =
    let new : Held = with_item held number item in
    let place : ℕ = number - held.base - 1 in
    let l = length-put_at held.places place item in
    let was = h.small in
    let room = h.within in
    let empty : in_place held.places place ≡ None = sym (at_number held number past) ∙ free in
    let by = held_at-put held number item past free in
    record {
      small = elim (cases_lt place (length held.places)) [
        | inl a ↦ let e = l.0 a in omega arith
        | inr b ↦ let e = l.1 b in omega arith
      ];
      within = elim (cases_lt place (length held.places)) [
        | inl a ↦ let e = l.0 a in omega arith
        | inr b ↦ let e = l.1 b in omega arith
      ];
      some = h.some;
      most = h.most;
      counted = ap (λ (n : ℕ). n + 1) h.counted ∙ sym (count-put_at held.places place item empty);
      last = λ some. elim (cases_lt place (length held.places)) [
        | inl a ↦
            let e : last_place new ≡ last_place held = let q = l.0 a in omega arith in
            subst (λ (o : Option Item). IsSome o) (sym (ap (held_at new) e ∙ by (last_place held)))
            (put_kept held.base number (last_place held) item (held_at held (last_place held))
            (h.last (omega arith)))
        | inr b ↦
            let e : last_place new ≡ number = let q = l.1 b in omega arith in
            subst (λ (o : Option Item). IsSome o) (sym (ap (held_at new) e ∙ by number))
            (put_there held.base number item (held_at held number) past)
      ];
    }

-- the window once its first place was passed
abbrev pub without_first : Held → Held
without_first held = record {
  base = held.base + 1;
  width = held.width;
  places = drop 1 held.places;
}

pub held_at-pass : (held : Held) (m : ℕ)
    → held_at (without_first held) m ≡ (if nat_eq m (held.base + 1) then None else held_at held m)
held_at-pass held m =
    let new : Held = without_first held in
    elim (cases_lt (held.base + 1) m) [
      | inl lt ↦
          at_number new m lt ∙ in_place-drop held.places (m - (held.base + 1) - 1)
          ∙ ap (in_place held.places) (let e : m - (held.base + 1) - 1 + 1 ≡ m - held.base - 1 =
          omega arith in e)
          ∙ sym (at_number held m (omega arith))
          ∙ sym (ap (λ (t : Bool). if t then None else held_at held m)
          (ne_eqb m (held.base + 1) (λ e. omega arith)))
      | inr le ↦ before_base new m le ∙ elim (cases_lt held.base m) [
        | inl lt ↦
            sym (ap (λ (t : Bool). if t then None else held_at held m)
            (eq-eqb m (held.base + 1) (omega arith)))
        | inr below ↦
            sym (ap (λ (t : Bool). if t then None else held_at held m)
            (ne_eqb m (held.base + 1) (λ e. omega arith))
            ∙ before_base held m below)
      ]
    ]

still_held : (held : Held) (m : ℕ) → m ≢ held.base + 1
    → held_at (without_first held) m ≡ held_at held m
still_held held m apart =
    held_at-pass held m ∙ ap (λ (t : Bool). if t then None else held_at held m)
    (ne_eqb m (held.base + 1) apart)

-- what a window keeps is kept when its first place is passed
pub IsHeld-pass : (count rest : ℕ) (held : Held) → IsHeld count held
    → count ≡ rest + one_if (is_some (in_place held.places 0)) → held.base + 1 < 2 ^ 64
    → IsHeld rest (without_first held)
IsHeld-pass count rest held h less small =
    let l = length_rest held.places in
    let was = h.small in
    let room = h.within in
    let c = h.counted in
    record {
      small = omega arith;
      within = omega arith;
      some = h.some;
      most = h.most;
      counted = let d = count-drop held.places in omega arith;
      last = λ some.
          let e : last_place (without_first held) ≡ last_place held = omega arith in
          subst (λ (o : Option Item). IsSome o)
          (sym (ap (held_at (without_first held)) e
          ∙ still_held held (last_place held) (λ q. omega arith)))
          (h.last (omega arith));
    }

-- the number of the first place fits, also where nothing is held there
pub next_fits : (count : ℕ) (held : Held) → IsHeld count held
    → (held_at held (held.base + 1) ≡ None → held.base + 1 < 2 ^ 64) → held.base + 1 < 2 ^ 64
next_fits count held h otherwise = by_item (held_at held (held.base + 1)) refl
  where
    by_item : (o : Option Item) → held_at held (held.base + 1) ≡ o → held.base + 1 < 2 ^ 64
    by_item None is = otherwise is
    by_item (Some x) is =
        let k = (in_window held (held.base + 1) (rw is refl)).1 in
        let small = h.small in
        omega arith

-- a window in which nothing is held may be anywhere
pub empty_moved : (held : Held) (base : ℕ) → IsEmpty held → IsEmpty (record held { base = base })
empty_moved held base none m = elim (cases_lt base m) [
  | inl lt ↦
      let place : m - base - 1 ≡ held.base + 1 + (m - base - 1) - held.base - 1 = omega arith in
      at_number (record held { base = base }) m lt ∙ ap (in_place held.places) place
      ∙ sym (at_number held (held.base + 1 + (m - base - 1)) (omega arith))
      ∙ none (held.base + 1 + (m - base - 1))
  | inr le ↦ before_base (record held { base = base }) m le
]

-- where nothing is held there is no place
no_place : (count : ℕ) (held : Held) → IsHeld count held → IsEmpty held → length held.places ≡ 0
no_place count held h none = elim (cases_lt held.base (last_place held)) [
  | inl lt ↦ absurd (not_some (held_at held (last_place held)) (none (last_place held)) (h.last lt))
  | inr le ↦ omega arith
]

pub IsHeld-moved : (count base : ℕ) (held : Held) → base < 2 ^ 64 → IsHeld count held → IsEmpty held
    → IsHeld count (record held { base = base })
IsHeld-moved count base held small h none =
    let n = no_place count held h none in
    record {
      small = omega arith;
      within = h.within;
      some = h.some;
      most = h.most;
      counted = h.counted;
      last = λ some. absurd (omega arith);
    }

-- where there is no place nothing is held
pub empty_without : (held : Held) → length held.places ≡ 0 → IsEmpty held
empty_without held none m = elim (cases_lt held.base m) [
  | inl lt ↦ above_last held m (omega arith)
  | inr le ↦ before_base held m le
]

pub IsHeld-new : (width : ℕ) → 1 ≤ width → width ≤ 65535
    → IsHeld 0 (record { base = 0; width = width; places = [] })
IsHeld-new width least most = record {
  some = least;
  small = omega arith;
  within = omega arith;
  most = most;
  counted = refl;
  last = λ some. absurd (omega arith);
}

-- the places show whether anything is held, and how high
pub empty_or_not : (count : ℕ) (held : Held) → IsHeld count held
    → MatchBool (length held.places == 0) (IsEmpty held) ((m : ℕ) × IsSome (held_at held m))
empty_or_not count held h = by_test (length held.places == 0) refl
  where
    by_test : (t : Bool) → (length held.places == 0) ≡ t
        → MatchBool t (IsEmpty held) ((m : ℕ) × IsSome (held_at held m))
    by_test true e = empty_without held (eqb-true (length held.places) 0 e)
    by_test false e =
        let some : length held.places ≢ 0 = λ z. false≢true (sym e
        ∙ eq-eqb (length held.places) 0 z) in
        (last_place held, h.last (omega arith))

-- the bitmap when an item is put in
pub IsBitmap-put : (number : ℕ) (item : Item) (old new : Held) (marks after : List ℕ)
    → IsBitmap marks old
    → old.base < number → number ≤ old.base + 65536 → length after ≡ 1024
    → is_marked after number ≡ true
    → ((other : ℕ) → other % 65536 ≢ number % 65536 → is_marked after other ≡ is_marked marks other)
    → new.base ≡ old.base
    → ((m : ℕ) → held_at new m ≡ put_one old.base number item (held_at old m) m)
    → IsBitmap after new
IsBitmap-put number item old new marks after was past within words here others base by = record {
  words = words;
  marked = λ m low high. elim (cases_eq m number) [
    | inl same ↦
        ap (is_marked after) same ∙ here
        ∙ sym (ap (λ (k : ℕ). is_some (held_at new k)) same
        ∙ ap (λ (o : Option Item). is_some o) (by number)
        ∙ put_there old.base number item (held_at old number) past)
    | inr apart ↦
        others m (λ e. apart (omega arith)) ∙ was.marked m (omega arith) (omega arith)
        ∙ ap (λ (o : Option Item). is_some o)
        (sym (by m ∙ put_other old.base number m item (held_at old m) apart))
  ];
}

-- the bitmap when the first place is passed: its bit is then that of the last number past the new
-- base
pub IsBitmap-pass : (held : Held) (marks after : List ℕ) → IsBitmap marks held
    → length held.places ≤ 65535
    → length after ≡ 1024 → is_marked after (held.base + 1) ≡ false
    → ((other : ℕ) → other % 65536 ≢ (held.base + 1) % 65536
    → is_marked after other ≡ is_marked marks other)
    → IsBitmap after (without_first held)
IsBitmap-pass held marks after was most words here others = record {
  words = words;
  marked = λ m low high. elim (cases_eq m (held.base + 1 + 65536)) [
    | inl last ↦
        let none : held_at (without_first held) m ≡ None =
        let l = length_rest held.places in above_last (without_first held) m (omega arith) in
        same_bit after m (held.base + 1) (omega arith) ∙ here
        ∙ sym (ap (λ (o : Option Item). is_some o) none)
    | inr before ↦
        others m (λ e. before (omega arith)) ∙ was.marked m (omega arith) (omega arith)
        ∙ ap (λ (o : Option Item). is_some o) (sym (still_held held m (λ e. omega arith)))
  ];
}

-- where nothing is held no bit is set, so the bitmap is that of an empty window anywhere
pub IsBitmap-moved : (base : ℕ) (held : Held) (marks : List ℕ) → IsBitmap marks held → IsEmpty held
    → IsBitmap marks (record held { base = base })
IsBitmap-moved base held marks was none = record {
  words = was.words;
  marked = λ m low high.
      let n : ℕ = held.base + 1 + (m + 65536 - (held.base + 1) % 65536) % 65536 in
      same_bit marks m n (omega arith) ∙ was.marked n (omega arith) (omega arith)
      ∙ ap (λ (o : Option Item). is_some o) (none n ∙ sym (empty_moved held base none m));
}

pub IsBitmap-new : (width : ℕ) (marks : List ℕ) → marks ≡ replicate 1024 0
    → IsBitmap marks (record { base = 0; width = width; places = [] })
IsBitmap-new width marks zeros =
    let held : Held = record { base = 0; width = width; places = [] } in
    subst (λ (words : List ℕ). IsBitmap words held) (sym zeros) (record {
      words = refl;
      marked = λ m low high.
          none_marked m ∙ sym (ap (λ (o : Option Item). is_some o) (empty_without held refl m));
    })
