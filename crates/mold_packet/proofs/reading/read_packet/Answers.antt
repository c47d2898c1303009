use Rattle.std.proofs.Common.{◌≡◌, ℕ, List, length, rules, refl, sym, ◌∙◌, arith}
use Rattle.std.proofs.lemmas.List.{take_rest}
use Rattle.mold_packet.specs.Content.{count_field}
use Rattle.mold_packet.specs.laws.Spelling.{spells_from}
use Rattle.mold_packet.proofs.reading.read_packet.Goals as goal
use Rattle.mold_packet.proofs.reading.read_packet.Goals.{Joined-read_count, in-0, in-65535, in_default}

-- the count field was read as this kind and this many messages
field : (c : Joined-read_count) (messages : List (List ℕ))
    → length messages ≡ c.match-read_count.kind.1
    → count_field c.match-read_count.kind.0 messages ≡ c.read_count.result
field c messages e = elim c.match-read_count.branch [
  | in-0 w ↦ rw w.kind-is (sym w.in-0.is)
  | in-65535 w ↦ rw w.kind-is (sym w.in-65535.is)
  | in_default w ↦ rw w.kind-is (rw w.kind-is at e)
]

pub returns-clause-spelled : goal.returns-clause-spelled
returns-clause-spelled c = (
  c.in-Some.rest.now,
  spells_from _ _ _ (omega arith) (λ i. omega (arith, c.type_inv.bytes i)) (search rules)
      c.read_session.ensures c.read_number-number.ensures
      (field (goal.at.returns-clause-spelled c).Joined-read_count _ c.in-Some.ensures.found.count
      ∙ c.read_count.ensures) (sym (take_rest c.args.bytes.now 20)
      ∙ c.in-Some.ensures.found.spelled) refl,
)
