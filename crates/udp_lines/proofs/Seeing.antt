-- Whether a datagram ends a line, by the one packet that its bytes are.
use Rattle.std.proofs.Common.{◌≡◌, ◌∙◌, ◌≤◌, ◌++◌, List, ℕ, Option, Some, None, ap, append_assoc, arith, length, length-append, refl, sym, subst}
use Rattle.std.specs.List.{flat_map}
use Rattle.std.specs.Prelude.{IfSome, IsTrue, is_some}
use Rattle.mold_packet.specs.Block.{block}
use Rattle.mold_packet.specs.Content.{Content, Spells, count_field}
use Rattle.mold_packet.specs.Header.{count_at, header}
use Rattle.mold_packet.specs.laws.HeaderFields.{length-header, parts}
use Rattle.mold_packet.specs.declared.packet.Kind.{Kind}
use Rattle.mold_packet.specs.declared.packet.Kind.TheVariants.{End}
use Rattle.run_settings.specs.declared.end_rule.EndRule.{EndRule}
use Rattle.run_settings.specs.declared.end_rule.EndRule.TheVariants.{AnySession, OwnSession, NoSession}
use Rattle.udp_lines.specs.EndsOfSessions.{SpellsEndOf}
use Rattle.udp_lines.specs.UdpLines.{EndsLine, IsLast}

-- the bytes are this packet and no other one
abbrev pub IsOnly : List ℕ → Content → Type 0
IsOnly bytes p = (q : Content) (more : List ℕ) → Spells bytes q more → p ≡ q

-- the bytes are no packet
abbrev pub IsNone : List ℕ → Type 0
IsNone bytes = (q : Content) (more : List ℕ) → Spells bytes q more → ⊥

-- what the bytes are an end of is the packet's session, and then the packet is an end
pub end_of_one : (bytes session : List ℕ) (p : Content) → IsOnly bytes p → SpellsEndOf session bytes
    → (p.kind ≡ End) × (p.session ≡ session)
end_of_one bytes session p only e = (
  ap (λ (q : Content). q.kind) (only e.packet e.rest e.spells) ∙ e.is,
  ap (λ (q : Content). q.session) (only e.packet e.rest e.spells) ∙ e.of,
)

pub no_end : (bytes session : List ℕ) → IsNone bytes → SpellsEndOf session bytes → ⊥
no_end bytes session none e = none e.packet e.rest e.spells

-- an end that ends the line, by the session that the datagram is found to be an end of
pub last_of_end : (rule : EndRule) (session bytes : List ℕ) (ended : Option (List ℕ))
    → ((other : List ℕ) → SpellsEndOf other bytes → ended ≡ Some other)
    → EndsLine rule session bytes → IsLast rule session ended
last_of_end AnySession session bytes ended only e =
    subst (λ (o : Option (List ℕ)). IsTrue (is_some o)) (sym (only e.0 e.1)) refl
last_of_end OwnSession session bytes ended only e = only session e
last_of_end NoSession session bytes ended only e = absurd e

-- and back
pub end_of_last : (rule : EndRule) (session bytes : List ℕ) (ended : Option (List ℕ))
    → IfSome ended (λ other. SpellsEndOf other bytes)
    → IsLast rule session ended → EndsLine rule session bytes
end_of_last AnySession session bytes None found is = absurd (cc)
end_of_last AnySession session bytes (Some other) found is = (other, found)
end_of_last OwnSession session bytes ended found is =
    subst (λ (o : Option (List ℕ)). IfSome o (λ other. SpellsEndOf other bytes)) is found
end_of_last NoSession session bytes ended found is = absurd is

-- an end has at least a header, and the count of ends in it
pub end_count : (session bytes : List ℕ) → SpellsEndOf session bytes
    → (20 ≤ length bytes) × (count_at bytes ≡ 65535)
end_count session bytes e =
    let p = e.packet in
    let count = count_field p.kind p.messages in
    let is : count ≡ 65535 = ap (λ (k : Kind). count_field k p.messages) e.is in
    let front : List ℕ = header p.session p.number count in
    let blocks : List ℕ = flat_map block p.messages in
    let all : bytes ≡ front ++ (blocks ++ e.rest) =
    e.spells.spelled ∙ append_assoc front blocks e.rest in
    let fields = parts bytes p.session p.number count (blocks ++ e.rest) e.spells.content.session
    e.spells.content.small (omega (arith, is)) all in (
      omega (
        arith,
        ap (λ (x : List ℕ). length x) all,
        length-append front (blocks ++ e.rest),
        length-header p.session p.number count e.spells.content.session,
      ),
      fields.count_is ∙ is,
    )
