-- The answers to bytes that are a packet of a known session.
use Rattle.std.proofs.Common.{ℕ, List, Result, Ok, Err, refl, ap, subst, ◌∙◌, inl, inr}
use Rattle.mold_packet.specs.Content.{Content, Spells}
use Rattle.mold_packet.specs.Faults.{HasFault}
use Rattle.mold_packet.specs.declared.fault.PacketFault.{PacketFault}
use Rattle.mold_packet.specs.laws.OneReading.{same_packet, no_fault}
use Rattle.line_arbiter.specs.declared.outcome.Outcome.{Outcome}
use Rattle.line_arbiter.specs.declared.outcome.LineFault.{LineFault}
use Rattle.line_arbiter.specs.declared.outcome.LineFault.TheVariants.{OtherSession}
use Rattle.line_arbiter.specs.OfSession.{IsOfSession}
use Rattle.feed_types.specs.declared.genuine.Genuine.{Ghosts as Genuine}
use Rattle.venue_lines.specs.declared.faults.TakeFault.{TakeFault}
use Rattle.venue_lines.specs.declared.faults.TakeFault.TheVariants as faults
use Rattle.venue_lines.specs.Sections.{AcceptsTheirPacket}
use Rattle.venue_lines.specs.Datagrams.{AcceptsTheirs}

abbrev as_taken : Result Outcome LineFault → Result Outcome TakeFault
as_taken (Ok outcome) = Ok outcome
as_taken (Err fault) = Err (faults.Line fault)

module _ {S : Type 0} (premise : Genuine S) (venue : ℕ) (bytes : List ℕ) where
  pub faulty : (fault : PacketFault) → HasFault bytes fault
      → AcceptsTheirs premise venue bytes (Err (faults.Packet fault))
  faulty fault has all ordinal session p rest names at spells of =
      absurd (no_fault bytes p rest fault spells has)

  pub other : AcceptsTheirs premise venue bytes (Err (faults.Line OtherSession))
  other all ordinal session p rest names at spells of = inr (inl refl)

  pub theirs : (q : Content) (more : List ℕ) (fault : LineFault) → Spells bytes q more
      → AcceptsTheirPacket premise venue q (Err fault)
      → AcceptsTheirs premise venue bytes (Err (faults.Line fault))
  theirs q more fault spelled accepts all ordinal session p rest names at spells of =
      let same = same_packet bytes p q rest more spells spelled in
      elim (accepts all ordinal session names at (subst (IsOfSession session) same of)) [
        | inl ok ↦ absurd cc
        | inr (inl other) ↦ inr (inl (ap as_taken other))
        | inr (inr early) ↦ inr (inr (
          ap (λ (x : Content). x.kind) same ∙ early.0,
          ap as_taken early.1,
        ))
      ]
