-- What is held of the first arrivals of messages, and one message more.
use Rattle.std.proofs.Common.{◌≡◌, ℕ, ◌%◌, ◌<◌, ◌≤◌, ◌⊎◌, inl, inr, Bool, true, false, List, ◌∷◌, Option, Some, None, refl, sym, ap, subst, ◌∙◌, arith}
use Rattle.std.specs.Prelude.{◌==◌, ◌&&◌, ◌||◌, not, nat_lt, is_some, if◌then◌else◌}
use Rattle.std.proofs.lemmas.Bool.{and_left, and_right, cases_order, cond-true, cond-false, eq-eqb, le-ltb, lt-ltb, ne_eqb, or_right}
use Rattle.feed_types.specs.declared.line.LineId.{LineId}
use Rattle.feed_types.specs.declared.line.LineId.TheVariants.{A, B, Recovery}
use Rattle.line_arbiter.specs.Streams.{is_same_line}
use Rattle.replay_reports.specs.declared.times.line_leads.FirstArrival.{FirstArrival}
use Rattle.replay_reports.specs.times.Leads.{HoldsFirst, IsFirstOn, MessageOn, first_of_two, first_on, held_after, is_passed, message_on}

first_alone : (x : Option ℕ) → first_of_two x None ≡ x
first_alone None = refl
first_alone (Some x) = refl

-- ---- other numbers

-- a message of another number on a line
on_other : (line at : LineId) (m t n : ℕ) (came : List MessageOn) → (m ≡ n → ⊥)
    → first_on at n (message_on line m t ∷ came) ≡ first_on at n came
on_other line at m t n came apart =
    ap (λ (b : Bool). first_of_two (first_on at n came) (if b then Some t else None))
    (and_right (is_same_line line at) (m == n) (ne_eqb m n apart))
    ∙ first_alone (first_on at n came)

-- one that isn't later passes none
passed_by_none : (window : ℕ) (line : LineId) (m t n : ℕ) (came : List MessageOn) → m ≤ n
    → is_passed window n (message_on line m t ∷ came) ≡ is_passed window n came
passed_by_none window line m t n came less =
    ap (λ (b : Bool). b || is_passed window n came)
    (and_left (nat_lt n m) (m % window == n % window) (le-ltb n m less))

-- one of another place passes none
passed_elsewhere : (window : ℕ) (line : LineId) (m t n : ℕ) (came : List MessageOn)
    → (m % window ≡ n % window → ⊥)
    → is_passed window n (message_on line m t ∷ came) ≡ is_passed window n came
passed_elsewhere window line m t n came apart =
    ap (λ (b : Bool). b || is_passed window n came)
    (and_right (nat_lt n m) (m % window == n % window) (ne_eqb (m % window) (n % window) apart))

passed_now : (window : ℕ) (line : LineId) (m t n : ℕ) (came : List MessageOn) → n < m
    → m % window ≡ n % window
    → is_passed window n (message_on line m t ∷ came) ≡ true
passed_now window line m t n came less same =
    rw (lt-ltb n m less, eq-eqb (m % window) (n % window) same) refl

passed_still : (window : ℕ) (line : LineId) (m t n : ℕ) (came : List MessageOn)
    → is_passed window n came ≡ true
    → is_passed window n (message_on line m t ∷ came) ≡ true
passed_still window line m t n came before =
    or_right (nat_lt n m && m % window == n % window) (is_passed window n came) before

-- ---- a message that changes nothing of what is held

holds_still : (window : ℕ) (line : LineId) (m t n : ℕ) (came : List MessageOn) (held : FirstArrival)
    → (held.number ≤ n → m ≡ n → ⊥)
    → (held.number ≤ n → is_passed window n (message_on line m t ∷ came) ≡ is_passed window n came)
    → HoldsFirst window came n held → HoldsFirst window (message_on line m t ∷ came) n held
holds_still window line m t n came held other passed holds = record {
  before = λ less.
      let was = holds.before less in
      let apart = other (omega (arith, less)) in (
        on_other line A m t n came apart ∙ was.0,
        on_other line B m t n came apart ∙ was.1,
        passed (omega (arith, less)) ∙ was.2,
      );
  at = λ same.
      let was = holds.at same in
      let differs : m ≡ held.number → ⊥ = λ now. other (omega (arith, same)) (now ∙ same) in
      let still : (one two : LineId) → IsFirstOn one two came held
      → IsFirstOn one two (message_on line m t ∷ came) held = λ one two is. record {
        line_is = is.line_is;
        first = on_other line one m t held.number came differs ∙ is.first;
        met = ap is_some (on_other line two m t held.number came differs) ∙ is.met;
      } in (
        elim was.0 [ inl is ↦ inl (still A B is) | inr is ↦ inr (still B A is) ],
        passed (omega (arith, same)) ∙ was.1,
      );
  after = λ less. passed_still window line m t n came (holds.after less);
}

-- one of another place
pub holds_elsewhere : (window : ℕ) (line : LineId) (m t n : ℕ)
    (came : List MessageOn) (held : FirstArrival)
    → (m % window ≡ n % window → ⊥) → HoldsFirst window came n held
    → HoldsFirst window (message_on line m t ∷ came) n held
holds_elsewhere window line m t n came held apart holds =
    holds_still window line m t n came held (λ _ same. apart (ap (λ (k : ℕ). k % window) same))
    (λ _. passed_elsewhere window line m t n came apart) holds

-- an earlier one of the same place
holds_more : (window : ℕ) (line : LineId) (m t n : ℕ) (came : List MessageOn) (held : FirstArrival)
    → m < held.number → HoldsFirst window came n held
    → HoldsFirst window (message_on line m t ∷ came) n held
holds_more window line m t n came held less holds =
    holds_still window line m t n came held
    (λ least same. absurd (omega (arith, less, least, same)))
    (λ least. passed_by_none window line m t n came (omega (arith, less, least))) holds

-- ---- a later message

pub same_line : (line : LineId) → is_same_line line line ≡ true
same_line A = refl
same_line B = refl
same_line Recovery = refl

on_same : (line : LineId) (m t : ℕ) (came : List MessageOn)
    → first_on line m (message_on line m t ∷ came) ≡ first_of_two (first_on line m came) (Some t)
on_same line m t came =
    rw (same_line line, eq-eqb m m refl) refl

on_apart : (line at : LineId) (m t n : ℕ) (came : List MessageOn) → is_same_line line at ≡ false
    → first_on at n (message_on line m t ∷ came) ≡ first_on at n came
on_apart line at m t n came apart =
    ap (λ (b : Bool). first_of_two (first_on at n came) (if b then Some t else None))
    (and_left (is_same_line line at) (m == n) apart)
    ∙ first_alone (first_on at n came)

abbrev new_held : LineId → ℕ → ℕ → FirstArrival
new_held line m t = record { number = m; time = t; line = line; is_met = false }

first_now : (one two : LineId) (m t : ℕ) (came : List MessageOn) → is_same_line one two ≡ false
    → first_on one m came ≡ None → first_on two m came ≡ None
    → IsFirstOn one two (message_on one m t ∷ came) (new_held one m t)
first_now one two m t came apart none none_other = record {
  line_is = refl;
  first = on_same one m t came ∙ ap (λ (x : Option ℕ). first_of_two x (Some t)) none;
  met = ap is_some (on_apart one two m t m came apart ∙ none_other);
}

first_of_both : (line : LineId) (m t : ℕ) (came : List MessageOn) → (line ≡ A) ⊎ (line ≡ B)
    → first_on A m came ≡ None → first_on B m came ≡ None
    → IsFirstOn A B (message_on line m t ∷ came) (new_held line m t)
    ⊎ IsFirstOn B A (message_on line m t ∷ came) (new_held line m t)
first_of_both A m t came two a b = inl (first_now A B m t came refl a b)
first_of_both B m t came two a b = inr (first_now B A m t came refl b a)
first_of_both Recovery m t came two a b = elim two [ inl e ↦ absurd cc | inr e ↦ absurd cc ]

holds_new : (window : ℕ) (line : LineId) (m t n : ℕ) (came : List MessageOn) (held : FirstArrival)
    → (line ≡ A) ⊎ (line ≡ B) → m % window ≡ n % window → held.number < m
    → HoldsFirst window came m held → HoldsFirst window came n held
    → HoldsFirst window (message_on line m t ∷ came) n (new_held line m t)
holds_new window line m t n came held two place less here holds =
    let was = here.before less in
    record {
      before = λ more.
          let apart : m ≡ n → ⊥ = λ same. absurd (omega (arith, more, same)) in
          let then_was = holds.before (omega (arith, less, more)) in (
            on_other line A m t n came apart ∙ then_was.0,
            on_other line B m t n came apart ∙ then_was.1,
            passed_by_none window line m t n came (omega (arith, more)) ∙ then_was.2,
          );
      at = λ same. (
        first_of_both line m t came two was.0 was.1,
        subst (λ (k : ℕ). is_passed window k (message_on line m t ∷ came) ≡ false) same
            (passed_by_none window line m t m came (omega arith) ∙ was.2),
      );
      after = λ more. passed_now window line m t n came more place;
    }

-- ---- the message that is held

or_none : (b : Bool) → (b || false) ≡ b
or_none true = refl
or_none false = refl

first_kept : (x y : Option ℕ) (time : ℕ) → x ≡ Some time → first_of_two x y ≡ Some time
first_kept x y time is = ap (λ (o : Option ℕ). first_of_two o y) is

some_of_two : (x : Option ℕ) (t : ℕ) → is_some (first_of_two x (Some t)) ≡ true
some_of_two None t = refl
some_of_two (Some x) t = refl

abbrev met_held : FirstArrival → LineId → FirstArrival
met_held held line = record held { is_met = held.is_met || not (is_same_line held.line line) }

-- it comes again on its own line
first_again : (one two : LineId) (t : ℕ) (came : List MessageOn) (held : FirstArrival)
    → is_same_line one two ≡ false
    → IsFirstOn one two came held → IsFirstOn one two (message_on one held.number t
    ∷ came) (met_held held one)
first_again one two t came held apart is = record {
  line_is = is.line_is;
  first = first_kept (first_on one held.number came) _ held.time is.first;
  met = ap is_some (on_apart one two held.number t held.number came apart) ∙ is.met
      ∙ sym (ap (λ (b : Bool). held.is_met || not b)
      (ap (λ (line : LineId). is_same_line line one) is.line_is ∙ same_line one)
      ∙ or_none held.is_met);
}

-- it comes on the other line
first_met : (one two : LineId) (t : ℕ) (came : List MessageOn) (held : FirstArrival)
    → is_same_line one two ≡ false
    → IsFirstOn one two came held → IsFirstOn one two (message_on two held.number t
    ∷ came) (met_held held two)
first_met one two t came held apart is = record {
  line_is = is.line_is;
  first = first_kept (first_on one held.number came) _ held.time is.first;
  met = ap is_some (on_same two held.number t came) ∙ some_of_two (first_on two held.number came) t
      ∙ sym (ap (λ (b : Bool). held.is_met || not b)
      (ap (λ (line : LineId). is_same_line line two) is.line_is ∙ apart)
      ∙ or_right held.is_met true refl);
}

first_then : (line : LineId) (t : ℕ) (came : List MessageOn) (held : FirstArrival)
    → (line ≡ A) ⊎ (line ≡ B)
    → IsFirstOn A B came held ⊎ IsFirstOn B A came held
    → IsFirstOn A B (message_on line held.number t ∷ came) (met_held held line)
    ⊎ IsFirstOn B A (message_on line held.number t ∷ came) (met_held held line)
first_then A t came held two (inl is) = inl (first_again A B t came held refl is)
first_then A t came held two (inr is) = inr (first_met B A t came held refl is)
first_then B t came held two (inl is) = inl (first_met A B t came held refl is)
first_then B t came held two (inr is) = inr (first_again B A t came held refl is)
first_then Recovery t came held two is = elim two [ inl e ↦ absurd cc | inr e ↦ absurd cc ]

holds_again : (window : ℕ) (line : LineId) (t n : ℕ) (came : List MessageOn) (held : FirstArrival)
    → (line ≡ A) ⊎ (line ≡ B) → HoldsFirst window came n held
    → HoldsFirst window (message_on line held.number t ∷ came) n (met_held held line)
holds_again window line t n came held two holds = record {
  before = λ less.
      let was = holds.before less in
      let apart : held.number ≡ n → ⊥ = λ same. absurd (omega (arith, less, same)) in (
        on_other line A held.number t n came apart ∙ was.0,
        on_other line B held.number t n came apart ∙ was.1,
        passed_by_none window line held.number t n came (omega (arith, less)) ∙ was.2,
      );
  at = λ same.
      let was = holds.at same in (
        first_then line t came held two was.0,
        passed_by_none window line held.number t n came (omega (arith, same)) ∙ was.1,
      );
  after = λ less. passed_still window line held.number t n came (holds.after less);
}

-- ---- what is held after a message of the same place

held_new : (held : FirstArrival) (line : LineId) (m t : ℕ) → held.number < m
    → held_after held (message_on line m t) ≡ new_held line m t
held_new held line m t less = cond-true (nat_lt held.number m) _ _ (lt-ltb held.number m less)

held_more : (held : FirstArrival) (line : LineId) (m t : ℕ) → m < held.number
    → held_after held (message_on line m t) ≡ held
held_more held line m t less =
    cond-false (nat_lt held.number m) _ _ (le-ltb held.number m (omega (arith, less)))
    ∙ ap (λ (b : Bool). record held { is_met = b })
    (ap (λ (b : Bool). held.is_met || b)
    (and_left (held.number == m) _
    (ne_eqb held.number m (λ same. absurd (omega (arith, less, same)))))
    ∙ or_none held.is_met)

held_again : (held : FirstArrival) (line : LineId) (t : ℕ)
    → held_after held (message_on line held.number t) ≡ met_held held line
held_again held line t =
    cond-false (nat_lt held.number held.number) _ _ (le-ltb held.number held.number (omega arith))
    ∙ ap (λ (b : Bool). record held {
      is_met = held.is_met
          || (b && not (is_same_line held.line line));
    })
    (eq-eqb held.number held.number refl)

pub holds_here : (window : ℕ) (line : LineId) (m t n : ℕ)
    (came : List MessageOn) (held : FirstArrival)
    → (line ≡ A) ⊎ (line ≡ B) → m % window ≡ n % window
    → HoldsFirst window came m held → HoldsFirst window came n held
    → HoldsFirst window (message_on line m t ∷ came) n (held_after held (message_on line m t))
holds_here window line m t n came held two place here holds =
    let Holds : FirstArrival → Type 0 = λ h. HoldsFirst window (message_on line m t ∷ came) n h in
    elim (cases_order held.number m) [
      | inl same ↦
          subst (λ (k : ℕ). HoldsFirst window (message_on line k t ∷ came) n
          (held_after held (message_on line k t))) same
          (subst (λ (h : FirstArrival). HoldsFirst window (message_on line held.number t ∷ came) n
          h)
          (sym (held_again held line t)) (holds_again window line t n came held two holds))
      | inr (inl less) ↦
          subst Holds (sym (held_new held line m t less)) (holds_new window line m t n came held
          two place less here holds)
      | inr (inr more) ↦
          subst Holds (sym (held_more held line m t more)) (holds_more window line m t
          n came held more holds)
    ]
