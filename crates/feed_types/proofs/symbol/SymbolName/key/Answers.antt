use Rattle.std.proofs.Common.{◌∙◌, ℕ, ap}
use Rattle.std.specs.Int.{w64, to_be_bytes}
use Rattle.feed_types.proofs.Fields.{bytes_of_word}
use Rattle.feed_types.proofs.symbol.SymbolName.key.Goals as goal

pub returns-clause-field : goal.returns-clause-field
returns-clause-field c =
    ap (λ (w : ℕ). to_be_bytes w64 w) c.from_be_bytes.ensures
    ∙ bytes_of_word c.self.inside.bytes c.self.invariant.0 ∙ c.self.view_is
