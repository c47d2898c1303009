-- The numbers and flags that the texts of options spell.
use Rattle.std.proofs.Common.{codes, length, ◌≡◌, ◌^◌, ◌<◌, ℕ, sym, ap, List, [], ◌∷◌, Option, Some, None, Bool, true, false, refl}
use Rattle.std.specs.Prelude.{◌≢◌, ◌&&◌, nat_lt, if◌then◌else◌}
use Rattle.std.specs.Bool.{Decides, MatchBool}
use Rattle.std.specs.Char.{digit_value}
use Rattle.std.specs.List.{list_all}
use Rattle.std.specs.Str.{bytes_eq}
use Rattle.std.specs.Str.Parse.{AllDigits, IsNumeral, digits_value, false_text, true_text, without_leading_plus}
use Rattle.std.proofs.lemmas.Bool.{lt-ltb, ltb-true}
use Rattle.std.proofs.lemmas.Slice.Eq.{bytes_eq-Decides}
use Rattle.clap.specs.Walk.{Text}
use Rattle.command_words.specs.OptionValues.{is_numeral, is_flag_set, number_given, number_of_digits}

both : (a b : Bool) → (a && b) ≡ true → (a ≡ true) × (b ≡ true)
both true b h = (refl, h)
both false b h = absurd (cc)

all_pass : (ds : List ℕ) → AllDigits 10 ds → list_all (λ c. nat_lt (digit_value c) 10) ds ≡ true
all_pass [] all = refl
all_pass (c ∷ cs) all = rw (lt-ltb (digit_value c) 10 all.0) (all_pass cs all.1)

all_digits : (ds : List ℕ) → list_all (λ c. nat_lt (digit_value c) 10) ds ≡ true → AllDigits 10 ds
all_digits [] pass = tt
all_digits (c ∷ cs) pass =
    let p = both (nat_lt (digit_value c) 10) (list_all (λ d. nat_lt (digit_value d) 10) cs) pass in
    (ltb-true _ _ p.0, all_digits cs p.1)

-- digits that are a numeral of 32 bits spell its number
number_spelled : (ds : List ℕ) (n : ℕ) → IsNumeral 10 ds → digits_value 10 ds < 2 ^ 32
    → n ≡ digits_value 10 ds → Some n ≡ number_of_digits ds
number_spelled ds n numeral few e =
    let some : is_numeral ds ≡ true =
    rw (lt-ltb 0 (length ds) numeral.0) (all_pass ds numeral.1) in
    rw some (rw (lt-ltb (digits_value 10 ds) (2 ^ 32) few) (ap (λ (m : ℕ). Some m) e))

-- others spell none
none_spelled : (ds : List ℕ) → (IsNumeral 10 ds × (digits_value 10 ds < 2 ^ 32) → ⊥)
    → None ≡ number_of_digits ds
none_spelled ds none = go (is_numeral ds && nat_lt (digits_value 10 ds) (2 ^ 32)) refl
  where
    go : (b : Bool) → (is_numeral ds && nat_lt (digits_value 10 ds) (2 ^ 32)) ≡ b
        → None ≡ (if b then Some (digits_value 10 ds) else None)
    go true e =
        let p = both (is_numeral ds) (nat_lt (digits_value 10 ds) (2 ^ 32)) e in
        let q = both (nat_lt 0 (length ds)) (list_all (λ c. nat_lt (digit_value c) 10) ds) p.0 in
        absurd (none ((ltb-true _ _ q.0, all_digits ds q.1), ltb-true _ _ p.1))
    go false e = refl

pub number_read : (text : Option Text) (n : ℕ) → (text ≡ None → Some n ≡ None)
    → ((t : Text) → text ≡ Some t → (IsNumeral 10 (without_leading_plus t)
    × (digits_value 10 (without_leading_plus t) < 2 ^ 32))
    × (n ≡ digits_value 10 (without_leading_plus t))) → Some n ≡ number_given text
number_read None n none value = none refl
number_read (Some t) n none value =
    let v = value t refl in number_spelled (without_leading_plus t) n v.0.0 v.0.1 v.1

pub number_unread : (text : Option Text)
    → ((t : Text) → text ≡ Some t → IsNumeral 10 (without_leading_plus t)
    × (digits_value 10 (without_leading_plus t) < 2 ^ 32) → ⊥) → None ≡ number_given text
number_unread None unread = refl
number_unread (Some t) unread = none_spelled (without_leading_plus t) (unread t refl)

pub flag_read : (text : Option Text) (flag : Bool) → (text ≡ None → Some flag ≡ None)
    → ((t : Text) → text ≡ Some t → MatchBool flag (t ≡ true_text) (t ≡ false_text))
    → flag ≡ is_flag_set text
flag_read None flag none value = let bad : Some flag ≡ None = none refl in absurd (cc)
flag_read (Some t) true none value =
    sym (ap (λ (s : Text). bytes_eq s (codes "true")) (value t refl))
flag_read (Some t) false none value =
    sym (ap (λ (s : Text). bytes_eq s (codes "true")) (value t refl))

pub flag_unread : (text : Option Text) → ((t : Text) → text ≡ Some t → t ≢ true_text)
    → false ≡ is_flag_set text
flag_unread None unread = refl
flag_unread (Some t) unread =
    go (bytes_eq t (codes "true")) (bytes_eq-Decides t (codes "true")) (unread t refl)
  where
    go : (b : Bool) → Decides b (t ≡ codes "true") → (t ≢ true_text) → false ≡ b
    go true is other = absurd (other (is.0 refl))
    go false is other = refl
