-- The names of venues, by the texts that a list is cut into.
use Rattle.std.proofs.Common.{◌≡◌, ◌≢◌, ◌==◌, ◌+◌, ℕ, ◌∙◌, sym, ap, Bool, List, [], ◌∷◌, length, map, true, false, refl, Ok, Err}
use Rattle.std.specs.Prelude.{◌&&◌, count_by, if◌then◌else◌}
use Rattle.std.specs.Borrow.{Bor}
use Rattle.std.specs.List.{list_all}
use Rattle.std.specs.Str.{bytes_eq}
use Rattle.std.proofs.lemmas.Bool.{eq-eqb, ne_eqb}
use Rattle.std.proofs.lemmas.List.{length-map}
use Rattle.std.proofs.lemmas.List.Folds.{fold-map, list_all-map}
use Rattle.std.proofs.lemmas.Simd.{map-map}
use Rattle.run_settings.specs.declared.venue_names.VenueName.{VenueName}
use Rattle.run_settings.specs.declared.venue_names.VenueNames.TheVariants.{Named}
use Rattle.command_words.specs.NextSessions.{are_once}
use Rattle.command_words.specs.VenueLists.{is_venue_name, kept_name, sixteen_names, venue_names_by}
use Rattle.command_words.specs.declared.refusal.Refusal.TheVariants.{BadVenues}
use Rattle.command_words.proofs.Naming.{texts}

abbrev Names : Type 0
Names = List (Bor (List ℕ))

abbrev count_of : Names → List ℕ → ℕ
count_of names name = count_by (λ (other : Bor (List ℕ)). bytes_eq name other.now) names

count_texts : (name : List ℕ) (names : Names)
    → count_by (bytes_eq name) (texts names) ≡ count_of names name
count_texts name names =
    fold-map (λ (a : ℕ) (n : List ℕ). a + (if bytes_eq name n then 1 else 0))
    (λ (n : Bor (List ℕ)). n.now) 0 names

all_same : (f g : List ℕ → ℕ) (names : Names) → ((name : List ℕ) → f name ≡ g name)
    → list_all (λ name. f name == 1) (texts names)
    ≡ list_all (λ (name : Bor (List ℕ)). g name.now == 1) names
all_same f g [] same = refl
all_same f g (x ∷ names) same =
    ap (λ (n : ℕ). (n == 1) && list_all (λ name. f name == 1) (texts names)) (same x.now)
    ∙ ap (λ (b : Bool). (g x.now == 1) && b) (all_same f g names same)

once_texts : (names : Names) → are_once (texts names)
    ≡ list_all (λ (name : Bor (List ℕ)). count_of names name.now == 1) names
once_texts names =
    all_same (λ name. count_by (bytes_eq name) (texts names)) (count_of names) names
    (λ name. count_texts name names)

pub miscounted : (venues : ℕ) (names : Names) → length names ≢ venues
    → venue_names_by venues (texts names) ≡ Err BadVenues
miscounted venues names other =
    let len = length-map names (λ (name : Bor (List ℕ)). name.now) in
    let n = ne_eqb (length (texts names)) venues (λ e. other (sym len ∙ e)) in
    rw n refl

counted : (venues : ℕ) (names : Names) → length names ≡ venues
    → (length (texts names) == venues) ≡ true
counted venues names is =
    let len = length-map names (λ (name : Bor (List ℕ)). name.now) in
    eq-eqb (length (texts names)) venues (len ∙ is)

pub misnamed : (venues : ℕ) (names : Names) → length names ≡ venues
    → list_all (λ name. is_venue_name name.now) names ≡ false
    → venue_names_by venues (texts names) ≡ Err BadVenues
misnamed venues names is bad =
    let h = list_all-map is_venue_name (λ (name : Bor (List ℕ)). name.now) names ∙ bad in
    rw (counted venues names is) (rw h refl)

pub named_twice : (venues : ℕ) (names : Names) → length names ≡ venues
    → list_all (λ name. is_venue_name name.now) names ≡ true
    → list_all (λ (name : Bor (List ℕ)). count_of names name.now == 1) names ≡ false
    → venue_names_by venues (texts names) ≡ Err BadVenues
named_twice venues names is good twice =
    let h = list_all-map is_venue_name (λ (name : Bor (List ℕ)). name.now) names ∙ good in
    let o = once_texts names ∙ twice in
    rw (counted venues names is) (rw h (rw o refl))

pub named_well : (venues : ℕ) (names : Names) (kept : List VenueName) → length names ≡ venues
    → list_all (λ name. is_venue_name name.now) names ≡ true
    → list_all (λ (name : Bor (List ℕ)). count_of names name.now == 1) names ≡ true
    → kept ≡ map (λ name. kept_name name.now) names
    → venue_names_by venues (texts names) ≡ Ok (Named (sixteen_names kept))
named_well venues names kept is good once are =
    let h = list_all-map is_venue_name (λ (name : Bor (List ℕ)). name.now) names ∙ good in
    let o = once_texts names ∙ once in
    let k : map kept_name (texts names) ≡ kept =
    map-map kept_name (λ (name : Bor (List ℕ)). name.now) names ∙ sym are in
    rw (counted venues names is)
    (rw h (rw o (ap (λ (ns : List VenueName). Ok (Named (sixteen_names ns))) k)))
