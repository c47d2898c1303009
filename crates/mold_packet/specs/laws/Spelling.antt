-- From the parts of bytes to the packet that they spell.
use Rattle.std.proofs.Common.{◌≡◌, ℕ, ◌<◌, ◌≤◌, List, ◌++◌, length, get_or, drop, sym, ◌∙◌, append_assoc}
use Rattle.std.specs.List.{flat_map}
use Rattle.mold_packet.specs.Block.{block}
use Rattle.mold_packet.specs.Content.{Content, IsContent, count_field, Spells}
use Rattle.mold_packet.specs.Header.{header, session_at, number_at, count_at}
use Rattle.mold_packet.specs.laws.HeaderFields.{header_as_read}

pub spells_from : (bytes : List ℕ) (p : Content) (rest : List ℕ) → 20 ≤ length bytes
    → ((i : ℕ) → get_or bytes i 0 < 256) → IsContent p → p.session ≡ session_at bytes
    → p.number ≡ number_at bytes → count_field p.kind p.messages ≡ count_at bytes
    → drop 20 bytes ≡ flat_map block p.messages ++ rest → p.ignored ≡ length rest
    → Spells bytes p rest
spells_from bytes p rest long all_bytes content session number count body ignored = record {
  content = content;
  ignored = ignored;
  spelled =
      header_as_read bytes p.session p.number (count_field p.kind p.messages)
      (flat_map block p.messages ++ rest) long all_bytes session number count body
      ∙ sym (append_assoc (header p.session p.number (count_field p.kind p.messages))
      (flat_map block p.messages) rest);
}
