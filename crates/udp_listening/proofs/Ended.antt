-- What venues in ITCH have come to, and one more of them.
use Rattle.std.proofs.Common.{◌≡◌, ◌∙◌, ℕ, ◌+◌, ◌<◌, ◌≤◌, List, [], ◌∷◌, ◌++◌, ap, get_or, length, map, subst, sym, take}
use Rattle.std.proofs.lemmas.List.{map-append, take_all, take_more}
use Rattle.itch_lines.specs.Ends.{MayEndAs}
use Rattle.itch_lines.specs.declared.venue_end.ItchVenueEnd.{ItchVenueEnd}
use Rattle.itch_lines.specs.declared.venue_share.VenueShare.{VenueShare}
use Rattle.udp_listening.specs.ItchEnds.{AreItchEnds}
use Rattle.udp_listening.proofs.Seen.{one_more}

pub one_more_end : (venues : List ℕ) (venue : ℕ) (e : ItchVenueEnd) (old new : List ItchVenueEnd)
    → MayEndAs venue e → new ≡ old ++ e ∷ [] → AreItchEnds venues old
    → AreItchEnds (venues ++ venue ∷ []) new
one_more_end venues venue e old new may is are =
    subst (λ (l : List ItchVenueEnd). AreItchEnds (venues ++ venue ∷ []) l) (sym is)
    (one_more MayEndAs venues old venue e are may)

-- the same of the venues of shares
pub ends_more : (shares : List VenueShare) (i : ℕ) (x : VenueShare) (ends : List ItchVenueEnd)
    → i < length shares → x ≡ get_or shares i x
    → AreItchEnds (map (λ s. s.venue) (take i shares) ++ x.venue ∷ []) ends
    → AreItchEnds (map (λ s. s.venue) (take (i + 1) shares)) ends
ends_more shares i x ends below is are =
    subst (λ (l : List ℕ). AreItchEnds l ends)
    (sym (ap (map (λ s. s.venue)) (take_more shares i x below
    ∙ ap (λ (y : VenueShare). take i shares ++ y ∷ []) (sym is))
    ∙ map-append (λ (s : VenueShare). s.venue) (take i shares) (x ∷ []))) are

pub ends_all : (shares : List VenueShare) (i : ℕ) (ends : List ItchVenueEnd)
    → length shares ≤ i → AreItchEnds (map (λ s. s.venue) (take i shares)) ends
    → AreItchEnds (map (λ s. s.venue) shares) ends
ends_all shares i ends past are =
    subst (λ (l : List VenueShare). AreItchEnds (map (λ s. s.venue) l) ends)
    (take_all i shares past) are
