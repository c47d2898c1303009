-- Which sides count for the national best (17 CFR 242.600(b): protected quotations; this project's
-- profile: automated, with a price and a size, and without self-help or a halt).
use Rattle.std.specs.Prelude.{◌≡◌, ℕ, ◌<◌, nat_lt, ◌==◌, Bool, true, false, not, ◌&&◌, IsTrue, List, Option, Some, None, unwrap_or, if◌then◌else◌}
use Rattle.std.specs.Str.{bytes_eq}
use Rattle.feed_types.specs.declared.journal.Entry.{Entry}
use Rattle.feed_types.specs.declared.journal.Entry.TheVariants.{Consumed, SelfHelp}
use Rattle.feed_types.specs.declared.item.Item.{Item}
use Rattle.feed_types.specs.declared.item.Item.TheVariants as item
use Rattle.feed_types.specs.declared.line.Side.{Side}
use Rattle.feed_types.specs.declared.national.Best.{Best}
use Rattle.nbbo_book.specs.declared.side_quote.SideQuote.{SideQuote}
use Rattle.nbbo_book.specs.Sides.{last_said, side_of}

-- what an entry says of self-help on a venue
abbrev pub self_help_said : ℕ → Entry → Option Bool
self_help_said venue (Consumed of numbered) = None
self_help_said venue (SelfHelp of on) = if of == venue then Some on else None

-- the last self-help entry of the venue, if any, is on
abbrev pub is_self_helped : List Entry → ℕ → Bool
is_self_helped entries venue = unwrap_or (last_said (self_help_said venue) entries) false

-- self-help on the venue is as declared, on or off, already; at first it is off
abbrev pub is_so : List Entry → ℕ → Bool → Bool
is_so entries venue on = if is_self_helped entries venue then on else not on

abbrev pub IsSelfHelped : List Entry → ℕ → Type 0
IsSelfHelped entries venue = IsTrue (is_self_helped entries venue)

-- what a venue's item says of a halt in a symbol: an end of session says that there is none, and so
-- does Skipped, after which nothing is known of the venue
abbrev pub halt_said_by : List ℕ → Item → Option Bool
halt_said_by symbol (item.Quote quote) = None
halt_said_by symbol (item.Halt halting halted) =
    if bytes_eq halting symbol then Some halted else None
halt_said_by symbol item.Other = None
halt_said_by symbol item.End = Some false
halt_said_by symbol item.Skipped = Some false

-- what an entry says of a halt in a symbol at a venue
abbrev pub halt_said : ℕ → List ℕ → Entry → Option Bool
halt_said venue symbol (Consumed of numbered) =
    if of == venue then halt_said_by symbol numbered.item else None
halt_said venue symbol (SelfHelp of on) = None

-- the venue's last Halt in the symbol or End, if any, is a halt
abbrev pub is_halted : List Entry → ℕ → List ℕ → Bool
is_halted entries venue symbol = unwrap_or (last_said (halt_said venue symbol) entries) false

abbrev pub IsHalted : List Entry → ℕ → List ℕ → Type 0
IsHalted entries venue symbol = IsTrue (is_halted entries venue symbol)

-- x is the venue's side in the symbol, and it counts
pub record IsEligible
    (entries : List Entry) (symbol : List ℕ) (side : Side) (x : Best) : Type 0 where
  pub venue : x.venue < 16
  pub automated : side_of entries x.venue symbol side
      ≡ Some (record { price = x.price; size = x.size; automated = true })
  pub priced : 0 < x.price
  pub sized : 0 < x.size
  pub no_self_help : ¬ IsSelfHelped entries x.venue
  pub no_halt : ¬ IsHalted entries x.venue symbol

-- its flag is set, and its price and size aren't 0
abbrev pub is_protected : SideQuote → Bool
is_protected quote = quote.automated && (nat_lt 0 quote.price && nat_lt 0 quote.size)

-- what a venue is ranked with, where it may be ranked at all
abbrev pub ranked_by : Bool → ℕ → Option SideQuote → Option Best
ranked_by false venue quote = None
ranked_by true venue None = None
ranked_by true venue (Some quote) =
    if is_protected quote
    then Some (record { venue = venue; price = quote.price; size = quote.size }) else None

-- neither self-help nor a halt prevents it
abbrev pub may_rank : List Entry → ℕ → List ℕ → Bool
may_rank entries venue symbol =
    not (is_self_helped entries venue) && not (is_halted entries venue symbol)

-- the venue's side where it is eligible: the x of `IsEligible` with this venue, if any
abbrev pub eligible_of : List Entry → List ℕ → Side → ℕ → Option Best
eligible_of entries symbol side venue =
    ranked_by (may_rank entries venue symbol) venue (side_of entries venue symbol side)
