-- The sessions of a list, by the names that it is cut into.
use Rattle.std.proofs.Common.{◌≡◌, ◌<◌, ◌≤◌, ℕ, ◌∙◌, sym, ap, List, length, map, true, false, refl, arith, Ok, Err}
use Rattle.std.specs.Prelude.{Bool, nat_le}
use Rattle.std.specs.Borrow.{Bor}
use Rattle.std.specs.List.{list_all}
use Rattle.std.proofs.lemmas.List.{length-map}
use Rattle.std.proofs.lemmas.Bool.{le-leb, lt-leb}
use Rattle.std.proofs.lemmas.List.Folds.{list_all-map}
use Rattle.std.proofs.lemmas.Simd.{map-map}
use Rattle.command_words.specs.Sessions.{names_in, is_session_name, filled_name, first_name, sessions_by}
use Rattle.command_words.specs.declared.refusal.Refusal.TheVariants.{BadSession, TooManySessions}

-- the texts of these references are the names of the list
abbrev pub AreNamesOf : List (Bor (List ℕ)) → List ℕ → Type 0
AreNamesOf names list = map (λ name. name.now) names ≡ names_in list

-- the texts of these references
abbrev pub texts : List (Bor (List ℕ)) → List (List ℕ)
texts names = map (λ name. name.now) names

pub sessions_by-bad : (names : List (Bor (List ℕ)))
    → list_all (λ name. is_session_name name.now) names ≡ false
    → sessions_by (texts names) ≡ Err BadSession
sessions_by-bad names bad =
    let h = list_all-map is_session_name (λ (name : Bor (List ℕ)). name.now) names ∙ bad in
    rw h refl

pub sessions_by-too_many : (names : List (Bor (List ℕ)))
    → list_all (λ name. is_session_name name.now) names ≡ true → 16 < length names
    → sessions_by (texts names) ≡ Err TooManySessions
sessions_by-too_many names good many =
    let h = list_all-map is_session_name (λ (name : Bor (List ℕ)). name.now) names ∙ good in
    let len = length-map names (λ (name : Bor (List ℕ)). name.now) in
    let n : nat_le (length (texts names)) 16 ≡ false = lt-leb _ _ (omega (arith, many, len)) in
    rw h (rw n refl)

pub sessions_by-ok : (names : List (Bor (List ℕ)))
    → list_all (λ name. is_session_name name.now) names ≡ true → length names ≤ 16
    → sessions_by (texts names) ≡ Ok (map (λ name. filled_name name.now) names)
sessions_by-ok names good few =
    let h = list_all-map is_session_name (λ (name : Bor (List ℕ)). name.now) names ∙ good in
    let len = length-map names (λ (name : Bor (List ℕ)). name.now) in
    let n : nat_le (length (texts names)) 16 ≡ true = le-leb _ _ (omega (arith, few, len)) in
    rw h (rw n (ap (λ (s : List (List ℕ)). Ok s)
    (map-map filled_name (λ (name : Bor (List ℕ)). name.now) names)))

-- the names of a list's first sessions, by the texts that it is cut into
pub names_of_list : (chained : Bool) (list : List ℕ) (cut : List (Bor (List ℕ)))
    (names : List (List ℕ)) → AreNamesOf cut list
    → names ≡ map (λ (text : Bor (List ℕ)). first_name chained text.now) cut
    → names ≡ map (first_name chained) (names_in list)
names_of_list chained list cut names are first =
    first ∙ sym (map-map (first_name chained) (λ (text : Bor (List ℕ)). text.now) cut)
    ∙ ap (map (first_name chained)) are
