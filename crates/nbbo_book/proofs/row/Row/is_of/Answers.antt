use Rattle.std.proofs.Common.{ℕ, ◌∙◌, ap, sym, nat_eq}
use Rattle.std.specs.Int.{w64, to_be_bytes}
use Rattle.std.specs.Str.{bytes_eq}
use Rattle.feed_types.specs.Symbols.{key_of}
use Rattle.nbbo_book.specs.declared.row.Row.{Row}
use Rattle.nbbo_book.specs.Tables.{HasKey}
use Rattle.nbbo_book.proofs.Keys.{key_tells}
use Rattle.nbbo_book.proofs.row.Row.is_of.Goals as goal

pub returns : goal.returns
returns c =
    let its : HasKey c.args.symbol =
    record { told = ap (to_be_bytes w64) (sym c.key.ensures.value) ∙ c.key.ensures.field } in
    let own : HasKey c.self.inside.symbol =
    record { told = ap (to_be_bytes w64) (sym c.key-2.ensures.value) ∙ c.key-2.ensures.field } in
    ap (λ (n : ℕ). nat_eq n c.key-2.result) c.key.ensures.value
    ∙ ap (nat_eq (key_of c.args.symbol)) c.key-2.ensures.value
    ∙ key_tells c.args.symbol c.self.inside.symbol its own
    ∙ ap (λ (row : Row). bytes_eq c.args.symbol row.symbol) c.self.view_is
