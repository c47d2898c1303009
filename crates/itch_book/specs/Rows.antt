-- What a book keeps of a symbol beside its orders, and what a change of it tells.
use Rattle.std.specs.Prelude.{◌≡◌, ℕ, ◌%◌, ◌==◌, ◌||◌, Bool, Option, Some, None, if◌then◌else◌}
use Rattle.feed_types.specs.declared.item.Item.{Item}
use Rattle.feed_types.specs.declared.item.Item.TheVariants.{Quote, Halt, Other, End, Skipped}
use Rattle.itch_messages.specs.declared.event.HaltKind.{HaltKind}
use Rattle.itch_messages.specs.declared.event.HaltKind.TheVariants.{Trading, Operational}
use Rattle.itch_book.specs.declared.level.Level.{Level}
use Rattle.itch_book.specs.declared.row.SymbolRow.{SymbolRow}
use Rattle.itch_book.specs.Orders.{book_rank}

-- a best as a quotation has it: price and size, both 0 where there is none
abbrev pub shown_price : ℕ → Option Level → ℕ
shown_price side None = 0
shown_price side (Some level) = book_rank side level.rank

abbrev pub shown_size : Option Level → ℕ
shown_size None = 0
shown_size (Some level) = level.shares

-- halted by either kind of halt
abbrev pub shows_halt : SymbolRow → Bool
shows_halt row = row.trading_halt || row.operational_halt

-- a row that shows this best of a book side
abbrev pub showing : ℕ → Option Level → SymbolRow → SymbolRow
showing side best row =
    if side % 2 == 0
    then record row {
      quote = record row.quote { bid_price = shown_price side best; bid_size = shown_size best };
    }
    else record row {
      quote = record row.quote {
        offer_price = shown_price side best;
        offer_size = shown_size best;
      };
    }

abbrev pub with_lot : ℕ → SymbolRow → SymbolRow
with_lot lot row = record row { lot = lot }

abbrev pub with_halt : HaltKind → Bool → SymbolRow → SymbolRow
with_halt Trading halted row = record row { trading_halt = halted }
with_halt Operational halted row = record row { operational_halt = halted }

-- A message told this of a symbol: its quotation exactly where that differs from before, its halt
-- or the end of one exactly where only that differs, and nothing exactly where neither does.
abbrev pub Tells : SymbolRow → SymbolRow → Item → Type 0
Tells old new (Quote quote) = (quote ≡ new.quote) × (old.quote ≡ new.quote → ⊥)
Tells old new (Halt symbol halted) =
    (old.quote ≡ new.quote) × (symbol ≡ new.quote.symbol) × (halted ≡ shows_halt new)
    × (shows_halt old ≡ shows_halt new → ⊥)
Tells old new Other = (old.quote ≡ new.quote) × (shows_halt old ≡ shows_halt new)
Tells old new End = ⊥
Tells old new Skipped = ⊥
