-- The sessions of one venue, by the names that a text is cut into.
use Rattle.std.proofs.Common.{◌≡◌, ◌<◌, ◌≤◌, ℕ, ◌∙◌, sym, ap, List, length, map, true, false, refl, arith, Ok, Err}
use Rattle.std.specs.Prelude.{nat_le}
use Rattle.std.specs.Borrow.{Bor}
use Rattle.std.specs.List.{list_all}
use Rattle.std.proofs.lemmas.List.{length-map}
use Rattle.std.proofs.lemmas.Bool.{le-leb, lt-leb}
use Rattle.std.proofs.lemmas.List.Folds.{list_all-map}
use Rattle.std.proofs.lemmas.Simd.{map-map}
use Rattle.command_words.specs.NextSessions.{are_once, chain_of}
use Rattle.command_words.specs.Sessions.{filled_name, is_session_name}
use Rattle.command_words.specs.declared.refusal.Refusal.TheVariants.{BadNextSession}
use Rattle.command_words.proofs.Naming.{texts}

abbrev Names : Type 0
Names = List (Bor (List ℕ))

pub too_long : (names : Names) → 64 < length names → chain_of (texts names) ≡ Err BadNextSession
too_long names many =
    let len = length-map names (λ (name : Bor (List ℕ)). name.now) in
    let n : nat_le (length (texts names)) 64 ≡ false = lt-leb _ _ (omega (arith, many, len)) in
    rw n refl

few : (names : Names) → length names ≤ 64 → nat_le (length (texts names)) 64 ≡ true
few names less =
    let len = length-map names (λ (name : Bor (List ℕ)). name.now) in
    le-leb _ _ (omega (arith, less, len))

pub unnamed : (names : Names) → length names ≤ 64
    → list_all (λ name. is_session_name name.now) names ≡ false
    → chain_of (texts names) ≡ Err BadNextSession
unnamed names less bad =
    let n = few names less in
    let h = list_all-map is_session_name (λ (name : Bor (List ℕ)). name.now) names ∙ bad in
    rw n (rw h refl)

pub twice : (names : Names) → length names ≤ 64
    → list_all (λ name. is_session_name name.now) names ≡ true
    → are_once (map (λ name. filled_name name.now) names) ≡ false
    → chain_of (texts names) ≡ Err BadNextSession
twice names less good bad =
    let n = few names less in
    let h = list_all-map is_session_name (λ (name : Bor (List ℕ)). name.now) names ∙ good in
    let o : are_once (map filled_name (texts names)) ≡ false =
    ap are_once (map-map filled_name (λ (name : Bor (List ℕ)). name.now) names) ∙ bad in
    rw n (rw h (rw o refl))

pub chained : (names : Names) (sessions : List (List ℕ)) → length names ≤ 64
    → list_all (λ name. is_session_name name.now) names ≡ true
    → sessions ≡ map (λ name. filled_name name.now) names → are_once sessions ≡ true
    → chain_of (texts names) ≡ Ok sessions
chained names sessions less good are once =
    let n = few names less in
    let h = list_all-map is_session_name (λ (name : Bor (List ℕ)). name.now) names ∙ good in
    let filled : sessions ≡ map filled_name (texts names) =
    are ∙ sym (map-map filled_name (λ (name : Bor (List ℕ)). name.now) names) in
    let o : are_once (map filled_name (texts names)) ≡ true = ap are_once (sym filled) ∙ once in
    rw n (rw h (rw o (ap (λ (s : List (List ℕ)). Ok s) (sym filled))))
