-- The venues in ITCH, by the names that a list is cut into.
use Rattle.std.proofs.Common.{◌≡◌, ◌+◌, ◌<◌, ℕ, ◌∙◌, sym, ap, Bool, List, [], ◌∷◌, ◌++◌, length, get_or, map, take, true, false, refl, arith, Ok, Err, append_assoc, append-nil, suc, length-take}
use Rattle.std.specs.Prelude.{if◌then◌else◌}
use Rattle.std.specs.Borrow.{Bor}
use Rattle.std.specs.List.{list_all}
use Rattle.std.proofs.lemmas.List.{take_more}
use Rattle.std.proofs.lemmas.List.Folds.{list_all-map}
use Rattle.std.proofs.lemmas.Simd.{map-map}
use Rattle.command_words.specs.ItchRequests.{is_among, itch_by, itch_venues_from}
use Rattle.command_words.specs.NextSessions.{are_once}
use Rattle.command_words.specs.Sessions.{filled_name, is_session_name}
use Rattle.command_words.specs.declared.refusal.Refusal.TheVariants.{ItchTwice, UnknownItch}
use Rattle.command_words.proofs.Naming.{texts}

abbrev Names : Type 0
Names = List (Bor (List ℕ))

filled_texts : (names : Names)
    → map filled_name (texts names) ≡ map (λ name. filled_name name.now) names
filled_texts names = map-map filled_name (λ (name : Bor (List ℕ)). name.now) names

pub unnamed : (names : Names) (sessions : List (List ℕ))
    → list_all (λ name. is_session_name name.now) names ≡ false
    → itch_by (texts names) sessions ≡ Err UnknownItch
unnamed names sessions bad =
    let h = list_all-map is_session_name (λ (name : Bor (List ℕ)). name.now) names ∙ bad in
    rw h refl

pub unknown : (names : Names) (sessions filled : List (List ℕ))
    → list_all (λ name. is_session_name name.now) names ≡ true
    → filled ≡ map (λ name. filled_name name.now) names
    → list_all (is_among sessions) filled ≡ false
    → itch_by (texts names) sessions ≡ Err UnknownItch
unknown names sessions filled good are bad =
    let h = list_all-map is_session_name (λ (name : Bor (List ℕ)). name.now) names ∙ good in
    let a : list_all (is_among sessions) (map filled_name (texts names)) ≡ false =
    ap (list_all (is_among sessions)) (filled_texts names ∙ sym are) ∙ bad in
    rw h (rw a refl)

pub twice : (names : Names) (sessions filled : List (List ℕ))
    → list_all (λ name. is_session_name name.now) names ≡ true
    → filled ≡ map (λ name. filled_name name.now) names
    → list_all (is_among sessions) filled ≡ true
    → are_once filled ≡ false
    → itch_by (texts names) sessions ≡ Err ItchTwice
twice names sessions filled good are among bad =
    let h = list_all-map is_session_name (λ (name : Bor (List ℕ)). name.now) names ∙ good in
    let f = filled_texts names ∙ sym are in
    let a : list_all (is_among sessions) (map filled_name (texts names)) ≡ true =
    ap (list_all (is_among sessions)) f ∙ among in
    let o : are_once (map filled_name (texts names)) ≡ false = ap are_once f ∙ bad in
    rw h (rw a (rw o refl))

pub found : (names : Names) (sessions filled : List (List ℕ)) (venues : List ℕ)
    → list_all (λ name. is_session_name name.now) names ≡ true
    → filled ≡ map (λ name. filled_name name.now) names
    → list_all (is_among sessions) filled ≡ true
    → are_once filled ≡ true
    → venues ≡ itch_venues_from 0 filled sessions
    → itch_by (texts names) sessions ≡ Ok venues
found names sessions filled venues good are among once is =
    let h = list_all-map is_session_name (λ (name : Bor (List ℕ)). name.now) names ∙ good in
    let f = filled_texts names ∙ sym are in
    let a : list_all (is_among sessions) (map filled_name (texts names)) ≡ true =
    ap (list_all (is_among sessions)) f ∙ among in
    let o : are_once (map filled_name (texts names)) ≡ true = ap are_once f ∙ once in
    rw h (rw a (rw o (ap (λ (z : List ℕ). Ok z)
    (ap (λ (z : List (List ℕ)). itch_venues_from 0 z sessions) f ∙ sym is))))

venues_push : (v : ℕ) (names ss : List (List ℕ)) (s : List ℕ)
    → itch_venues_from v names (ss ++ s ∷ [])
    ≡ itch_venues_from v names ss
    ++ (if is_among names s then (v + length ss) ∷ [] else [])
venues_push v names [] s =
    append-nil (if is_among names s then v ∷ [] else [])
    ∙ ap (λ (k : ℕ). if is_among names s then k ∷ [] else []) (plus_none v)
  where
    plus_none : (n : ℕ) → n ≡ n + 0
    plus_none n = omega arith
venues_push v names (x ∷ xs) s =
    let here : List ℕ = if is_among names x then v ∷ [] else [] in
    let last : ℕ → List ℕ = λ k. if is_among names s then k ∷ [] else [] in
    ap (λ (z : List ℕ). here ++ z) (venues_push (v + 1) names xs s)
    ∙ sym (append_assoc here (itch_venues_from (v + 1) names xs) (last (v + 1 + length xs)))
    ∙ ap (λ (k : ℕ). (here ++ itch_venues_from (v + 1) names xs) ++ last k) (moved v (length xs))
  where
    moved : (a b : ℕ) → a + 1 + b ≡ a + suc b
    moved a b = omega arith

venue_more : (names sessions : List (List ℕ)) (place : ℕ) (d : List ℕ) (venues : List ℕ)
    → place < length sessions → venues ≡ itch_venues_from 0 names (take place sessions)
    → venues ++ (if is_among names (get_or sessions place d) then place ∷ [] else [])
    ≡ itch_venues_from 0 names (take (place + 1) sessions)
venue_more names sessions place d venues lt before =
    let s = get_or sessions place d in
    let len : place ≡ 0 + length (take place sessions) =
    (let l = length-take place sessions in omega (arith, l, lt)) in
    ap (λ (z : List ℕ). z ++ (if is_among names s then place ∷ [] else [])) before
    ∙ ap (λ (k : ℕ). itch_venues_from 0 names (take place sessions)
    ++ (if is_among names s then k ∷ [] else [])) len
    ∙ sym (venues_push 0 names (take place sessions) s)
    ∙ ap (itch_venues_from 0 names) (sym (take_more sessions place d lt))

-- one venue more, which is in ITCH
pub venue_taken : (names sessions : List (List ℕ)) (place : ℕ) (d : List ℕ) (venues : List ℕ)
    → place < length sessions → venues ≡ itch_venues_from 0 names (take place sessions)
    → is_among names (get_or sessions place d) ≡ true
    → venues ++ place ∷ [] ≡ itch_venues_from 0 names (take (place + 1) sessions)
venue_taken names sessions place d venues lt before is =
    ap (λ (b : Bool). venues ++ (if b then place ∷ [] else [])) (sym is)
    ∙ venue_more names sessions place d venues lt before

-- one that isn't
pub venue_passed : (names sessions : List (List ℕ)) (place : ℕ) (d : List ℕ) (venues : List ℕ)
    → place < length sessions → venues ≡ itch_venues_from 0 names (take place sessions)
    → is_among names (get_or sessions place d) ≡ false
    → venues ≡ itch_venues_from 0 names (take (place + 1) sessions)
venue_passed names sessions place d venues lt before other =
    sym (append-nil venues)
    ∙ ap (λ (b : Bool). venues ++ (if b then place ∷ [] else [])) (sym other)
    ∙ venue_more names sessions place d venues lt before
