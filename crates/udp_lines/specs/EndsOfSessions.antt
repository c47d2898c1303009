-- Datagrams that are ends of session.
use Rattle.std.specs.Prelude.{◌≡◌, ℕ, List}
use Rattle.mold_packet.specs.Content.{Content, Spells}
use Rattle.mold_packet.specs.declared.packet.Kind.TheVariants.{End}

-- the bytes are an end of this session
pub record SpellsEndOf (session bytes : List ℕ) : Type 0 where
  pub packet : Content
  pub rest : List ℕ
  pub spells : Spells bytes packet rest
  pub is : packet.kind ≡ End
  pub of : packet.session ≡ session
