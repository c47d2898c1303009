-- A packet of one of the sessions that the lines carry is genuine.
use Rattle.std.proofs.Common.{◌≡◌, ℕ, ◌+◌, List, length, refl, sym, subst, ◌∙◌}
use Rattle.feed_types.specs.Sessions.{Session, IsSessionAt, Names, SessionNames}
use Rattle.feed_types.specs.Sequence.{Carries, Ends}
use Rattle.line_arbiter.specs.Genuine.{IsGenuine, IsGenuineAt}
use Rattle.line_arbiter.specs.OfSession.{IsOfSession}
use Rattle.mold_packet.specs.Content.{Content, IsContent}
use Rattle.line_arbiter.specs.laws.Giving.{genuine_of}

pub genuine_named : (sessions : SessionNames) (carries : Carries) (ends : Ends) (venue ordinal : ℕ)
    (all : List Session) (s : Session) (p : Content) → Names sessions carries ends venue all
    → IsSessionAt all ordinal s → IsContent p → IsOfSession s p
    → IsGenuine sessions carries ends venue p
genuine_named sessions carries ends venue ordinal all s p names at content of other may =
    let found = (names.named other p.session).0 may in
    let same : ordinal ≡ other = names.distinct ordinal other s found.0 at found.1
    (sym of.name ∙ sym found.2) in
    subst (λ (o : ℕ). IsGenuineAt carries ends venue o p) same
    (genuine_of carries ends venue ordinal s
    (λ m item is. (names.carried ordinal m item).1 (s, at, is))
    ((names.ended ordinal (length s.items + 1)).1 (s, at, refl))
    p content of)
