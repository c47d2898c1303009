-- The venues of the settings that they name in ITCH, and what their lines share.
use Rattle.std.proofs.Common.{◌≡◌, ◌∙◌, ℕ, suc, ◌+◌, Bool, true, false, List, [], ◌∷◌, ◌++◌, None, Some, ap, length, refl, sym, arith}
use Rattle.std.specs.Prelude.{Contains, flat_map, nat_eq, if◌then◌else◌}
use Rattle.std.specs.Cmp.{nat_eq_equiv}
use Rattle.std.specs.List.{list_any}
use Rattle.std.proofs.lemmas.List.{flat_map_more}
use Rattle.std.proofs.lemmas.Bool.{eqb-true}
use Rattle.std.proofs.lemmas.Map.Views.{Contains-from_any, list_any-from_Contains}
use Rattle.itch_lines.specs.declared.venue_share.VenueShare.{VenueShare}
use Rattle.udp_listening.specs.ItchEnds.{named_below, named_venue, shared_venue}
use Rattle.udp_listening.specs.declared.sources.VenueShares.{VenueShares}

abbrev named_if : (venue : ℕ) → Bool → List ℕ
named_if venue is_named = if is_named then venue ∷ [] else []

unnamed : (named : List ℕ) (venue : ℕ) (any : Bool) → list_any (nat_eq venue) named ≡ any
    → (Contains named venue → ⊥) → [] ≡ named_if venue any
unnamed named venue false is none = refl
unnamed named venue true is none =
    absurd (none (Contains-from_any (λ x y same. eqb-true x y same) venue named is))

pub none_named : (named : List ℕ) (venue : ℕ) → (Contains named venue → ⊥)
    → shared_venue None ≡ named_venue named venue
none_named named venue none =
    unnamed named venue (list_any (nat_eq venue) named) refl none

pub one_named : (named : List ℕ) (venue : ℕ) (share : VenueShare) → Contains named venue
    → share.venue ≡ venue → shared_venue (Some share) ≡ named_venue named venue
one_named named venue share has is =
    ap (λ (v : ℕ). v ∷ []) is
    ∙ ap (named_if venue) (sym (list_any-from_Contains nat_eq_equiv venue named has))

-- what one more venue shares
pub share_more : (named : List ℕ) (place venue : ℕ) (old new : List VenueShares)
    (one : VenueShares) → flat_map (λ s. shared_venue s.itch) old ≡ named_below named place
    → shared_venue one.itch ≡ named_venue named venue → venue ≡ place → new ≡ old ++ one ∷ []
    → flat_map (λ s. shared_venue s.itch) new ≡ named_below named (place + 1)
share_more named place venue old new one before is at more =
    let next : suc place ≡ place + 1 = omega arith in
    let f : VenueShares → List ℕ = λ s. shared_venue s.itch in
    ap (flat_map f) more ∙ sym (flat_map_more f [] old one) ∙ ap (λ l. l ++ f one) before
    ∙ ap (λ l. named_below named place ++ l) (is ∙ ap (named_venue named) at)
    ∙ ap (named_below named) next

-- what all of them share
pub all_shares : (named : List ℕ) (place most : ℕ) (shares : List VenueShares)
    → length shares ≡ place → length shares ≡ most
    → flat_map (λ s. shared_venue s.itch) shares ≡ named_below named place
    → flat_map (λ s. shared_venue s.itch) shares ≡ named_below named most
all_shares named place most shares here all is = is ∙ ap (named_below named) (sym here ∙ all)
