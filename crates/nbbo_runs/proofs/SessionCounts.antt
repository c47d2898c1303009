-- Sessions that are found to be the same are equal, and a row grows as what it is over.
use Rattle.std.proofs.Common.{◌≡◌, ◌≢◌, ℕ, ◌+◌, List, [], ◌∷◌, ◌++◌, true, false, refl, sym, ap, ◌∙◌, arith}
use Rattle.std.specs.Prelude.{Bool, ◌||◌, ◌==◌, MatchBool}
use Rattle.std.specs.List.{list_any, sum_by}
use Rattle.std.specs.Str.{bytes_eq}
use Rattle.std.proofs.lemmas.Slice.Eq.{bytes_eq-Decides}
use Rattle.std.proofs.lemmas.Bool.{and_from, and_parts}
use Rattle.std.proofs.lemmas.Bool.Decides.{Decides-eqb}
use Rattle.std.proofs.lemmas.List.Folds.{list_any-append}
use Rattle.std.proofs.lemmas.List.Sums.{sum_by-append}
use Rattle.line_discovery.specs.KeyedRowLaws.{IsKeying}
use Rattle.line_discovery.specs.Tables.{up_to_most}
use Rattle.nbbo_runs.specs.declared.session_row.SessionRow.{SessionRow}
use Rattle.nbbo_runs.specs.declared.session_row.SessionSighting.{SessionSighting}
use Rattle.nbbo_runs.specs.declared.session_row.VenueSession.{VenueSession}
use Rattle.nbbo_runs.specs.Sessions.{by_session, datagrams_in, is_same_session, row_counted, session_row_over, with_sighting}

-- ---- the same sessions

parts_are : (a b : VenueSession) → a.venue ≡ b.venue → a.name ≡ b.name → a ≡ b
parts_are a b e f =
    let first : ℕ → VenueSession = λ x. record { venue = x; name = a.name } in
    let second : List ℕ → VenueSession = λ x. record { venue = b.venue; name = x } in
    ap first e ∙ ap second f

session_is : (a b : VenueSession) → is_same_session a b ≡ true → a ≡ b
session_is a b h =
    let parts = and_parts (a.venue == b.venue) (bytes_eq a.name b.name) h in
    parts_are a b ((Decides-eqb a.venue b.venue).0 parts.0)
    ((bytes_eq-Decides a.name b.name).0 parts.1)

session_same : (a : VenueSession) → is_same_session a a ≡ true
session_same a =
    and_from (a.venue == a.venue) (bytes_eq a.name a.name) ((Decides-eqb a.venue a.venue).1 refl)
    ((bytes_eq-Decides a.name a.name).1 refl)

-- a test whether two names are the same
not_true : (b : Bool) → (b ≡ true → ⊥) → false ≡ b
not_true true is = absurd (is refl)
not_true false is = refl

pub same_name : (a b : List ℕ) (r : Bool) → MatchBool r (a ≡ b) (a ≢ b) → r ≡ bytes_eq a b
same_name a b true is = sym ((bytes_eq-Decides a b).1 is)
same_name a b false is = not_true (bytes_eq a b) (λ e. is ((bytes_eq-Decides a b).0 e))

-- ---- one thing more

or_false : (b : Bool) → (b || false) ≡ b
or_false true = refl
or_false false = refl

or_true : (b : Bool) → (b || true) ≡ true
or_true true = refl
or_true false = refl

summed : (mine : List SessionSighting) (s : SessionSighting)
    → sum_by (λ (x : SessionSighting). datagrams_in x.is_renewal) (mine ++ s ∷ [])
    ≡ sum_by (λ (x : SessionSighting). datagrams_in x.is_renewal) mine + datagrams_in s.is_renewal
summed mine s =
    let f = λ (x : SessionSighting). datagrams_in x.is_renewal in
    let one : sum_by f (s ∷ []) ≡ f s = omega arith in
    sum_by-append f mine (s ∷ []) ∙ ap (λ (n : ℕ). sum_by f mine + n) one

named_more : (mine : List SessionSighting) (s : SessionSighting)
    → list_any (λ (x : SessionSighting). x.is_renewal) (mine ++ s ∷ [])
    ≡ (list_any (λ (x : SessionSighting). x.is_renewal) mine || s.is_renewal)
named_more mine s =
    let f = λ (x : SessionSighting). x.is_renewal in
    list_any-append f mine (s ∷ [])
    ∙ ap (λ (b : Bool). list_any f mine || b) (or_false s.is_renewal)

counted_more : (session : VenueSession) (mine : List SessionSighting) (s : SessionSighting)
    (b : Bool) → s.is_renewal ≡ b
    → session_row_over session (mine ++ s ∷ []) ≡ row_counted b (session_row_over session mine)
counted_more session mine s true e =
    let f = λ (x : SessionSighting). datagrams_in x.is_renewal in
    let any = λ (x : SessionSighting). x.is_renewal in
    let none : datagrams_in s.is_renewal ≡ 0 = ap datagrams_in e in
    let more = summed mine s in
    let same : sum_by f (mine ++ s ∷ []) ≡ sum_by f mine = omega (arith, more, none) in
    let named = named_more mine s ∙ ap (λ (x : Bool). list_any any mine || x) e
    ∙ or_true (list_any any mine) in
    let counts : ℕ → Bool → SessionRow =
    λ n x. record { session = session; datagrams = up_to_most n; is_named = x } in
    ap (λ (n : ℕ). counts n (list_any any (mine ++ s ∷ []))) same
    ∙ ap (counts (sum_by f mine)) named
counted_more session mine s false e =
    let f = λ (x : SessionSighting). datagrams_in x.is_renewal in
    let any = λ (x : SessionSighting). x.is_renewal in
    let one : datagrams_in s.is_renewal ≡ 1 = ap datagrams_in e in
    let more = summed mine s in
    let counted : up_to_most (sum_by f (mine ++ s ∷ []))
    ≡ up_to_most (up_to_most (sum_by f mine) + 1) = omega (arith, more, one) in
    let named = named_more mine s ∙ ap (λ (x : Bool). list_any any mine || x) e
    ∙ or_false (list_any any mine) in
    let counts : ℕ → Bool → SessionRow =
    λ n x. record { session = session; datagrams = n; is_named = x } in
    ap (λ (n : ℕ). counts n (list_any any (mine ++ s ∷ []))) counted
    ∙ ap (counts (up_to_most (up_to_most (sum_by f mine) + 1))) named

kept_session : (b : Bool) (r : SessionRow) → (row_counted b r).session ≡ r.session
kept_session true r = refl
kept_session false r = refl

pub keyed_by_session : IsKeying by_session with_sighting
keyed_by_session = record {
  is_key = session_is;
  same_key = session_same;
  in_row = λ key mine. refl;
  kept = λ s r. kept_session s.is_renewal r;
  one_more = λ key mine s. counted_more key mine s s.is_renewal refl;
}
