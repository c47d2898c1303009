use Rattle.std.proofs.Common.{ℕ, List, ap, ◌∙◌}
use Rattle.feed_types.specs.Symbols.{name_of}
use Rattle.best_rows.specs.Quoting.{needs_quotes}
use Rattle.best_rows.proofs.Marks.{tested}
use Rattle.best_rows.proofs.quoting.needs_quotes.Goals as goal

pub returns : goal.returns
returns c =
    rw (
      c.is_mark.ensures,
      c.is_mark-2.ensures,
      c.is_mark-3.ensures,
      c.is_mark-4.ensures,
      c.is_mark-5.ensures,
      c.is_mark-6.ensures,
      c.is_mark-7.ensures,
      c.is_mark-8.ensures,
    ) (tested c.field-field.result c.field-field.ensures.symbol
    ∙ ap (λ (f : List ℕ). needs_quotes (name_of f)) c.field-field.ensures.value)
