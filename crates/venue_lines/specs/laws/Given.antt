-- What was given to a venue is genuine, and its streams are in sequence.
use Rattle.std.proofs.Common.{ℕ, ◌+◌, List, [], ◌∷◌, ◌++◌, sym, subst, append_assoc, append-nil}
use Rattle.std.specs.List.{AllByRecursion}
use Rattle.line_arbiter.specs.Packets.{Input}
use Rattle.line_arbiter.specs.Answered.{AreAnsweredAfter}
use Rattle.line_arbiter.specs.Genuine.{IsGenuineIn, AreGenuine, AreGenuineFrom}
use Rattle.line_arbiter.specs.Skips.{AreSkips}
use Rattle.line_arbiter.specs.Histories.{Begun, History, streams_of}
use Rattle.line_arbiter.specs.laws.Arrivals.{genuine_grows}
use Rattle.line_arbiter.specs.laws.InSequence.{streams_in_sequence}
use Rattle.line_arbiter.specs.laws.Parts.{skips_of}
use Rattle.feed_types.specs.declared.genuine.Genuine.{Ghosts as Genuine}
use Rattle.feed_steps.specs.Premises.{AreInSequence}
use Rattle.venue_lines.specs.Cells.{AreGiven, AreGivenFrom}

module _ {S : Type 0} (premise : Genuine S) (venue window : ℕ) where
  genuine_after : (ordinal : ℕ) (session : List ℕ) (before packets : List Input)
      → AreGenuine premise.carries premise.ends venue ordinal before
      → AreAnsweredAfter session window before packets
      → AllByRecursion (λ (x : Input). IsGenuineIn premise.carries premise.ends venue
      ordinal session x) packets
      → AreGenuine premise.carries premise.ends venue ordinal (before ++ packets)
  genuine_after ordinal session before [] all answered given =
      subst (λ (l : List Input). AreGenuine premise.carries premise.ends venue ordinal l)
      (sym (append-nil before))
      all
  genuine_after ordinal session before (a ∷ packets) all answered given =
      let more : AreGenuine premise.carries premise.ends venue ordinal (before ++ a ∷ []) =
      genuine_grows premise.carries premise.ends venue ordinal window session before a
      all given.0 answered.0 in
      subst (λ (l : List Input). AreGenuine premise.carries premise.ends venue ordinal l)
      (append_assoc before (a ∷ []) packets) (genuine_after ordinal session (before
      ++ a ∷ []) packets more
      answered.1 given.1)

  -- what was taken of given packets is genuine
  pub given_genuine : (ordinal : ℕ) (b : Begun) → AreGiven premise venue window ordinal b
      → AreGenuine premise.carries premise.ends venue ordinal b.packets
  given_genuine ordinal b g = genuine_after ordinal b.name [] b.packets tt g.answered g.genuine

  given_skips : (ordinal : ℕ) (b : Begun) → AreGiven premise venue window ordinal b
      → AreSkips b.packets
  given_skips ordinal b g = skips_of b.name window [] b.packets g.answered

  pub given_from : (ordinal : ℕ) (bs : List Begun) (b : Begun)
      → AreGivenFrom premise venue window ordinal bs b
      → AreGenuineFrom premise.carries premise.ends venue ordinal (bs ++ b ∷ [])
  given_from ordinal [] b g = (given_genuine ordinal b g, given_skips ordinal b g)
  given_from ordinal (x ∷ []) b g = (
    given_genuine ordinal x g.0,
    given_skips ordinal x g.0,
    g.1,
    given_from (ordinal + 1) [] b g.2,
  )
  given_from ordinal (x ∷ y ∷ bs) b g = (
    given_genuine ordinal x g.0,
    given_skips ordinal x g.0,
    g.1,
    given_from (ordinal + 1) (y ∷ bs) b g.2,
  )

  pub streams_sequence : (h : History) → AreGivenFrom premise venue window 1 h.earlier h.present
      → AreInSequence premise venue (streams_of h)
  streams_sequence h g = streams_in_sequence premise.carries premise.ends venue h
      (given_from 1 h.earlier h.present g)
