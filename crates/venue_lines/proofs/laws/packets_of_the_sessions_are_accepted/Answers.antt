use Rattle.std.proofs.Common.{arith, inl, inr}
use Rattle.venue_lines.proofs.laws.packets_of_the_sessions_are_accepted.Goals as goal

pub returns-clause-locked : goal.returns-clause-locked
returns-clause-locked g c = λ venue bytes answer accepts all ordinal session p rest names at spells
    of message. elim (accepts all ordinal session p rest names at spells of) [
      | inl ok ↦ inl ok
      | inr (inl other) ↦ inr other
      | inr (inr early) ↦ absurd (message early.0)
    ]

pub returns-clause-cell : goal.returns-clause-cell
returns-clause-cell g c = λ cell p answer h accepts skipped fits all ordinal session names at of
    within. elim (accepts all ordinal session names at of) [
      | inl ok ↦ inl ok
      | inr (inl other) ↦ inr other
      | inr (inr early) ↦
          let past = skipped early.1 all ordinal session h names at of fits in
          absurd (omega arith)
    ]
