use Rattle.feed_types.proofs.Naming.{IsUtf8-name}
use Rattle.feed_types.proofs.symbol.SymbolNameDisplay.fmt.Goals as goal

pub unreachable-requires : goal.unreachable-requires
unreachable-requires g c = c.in-Err.ensures.cases.0 (IsUtf8-name _ c.name.ensures.symbol)
