-- The fields of a row of comma-separated values, as a reader of such texts gives them back.
use Rattle.std.specs.Prelude.{◌≡◌, ℕ, ◌<◌, ◌^◌, Bool, IfSome, IsTrue, List, [], ◌∷◌, ◌++◌, codes, decimal, if◌then◌else◌, Option, Some, None}
use Rattle.feed_types.specs.declared.journal.Notice.{Notice}
use Rattle.feed_types.specs.declared.national.Best.{Best}
use Rattle.feed_types.specs.Nationals.{state_of}
use Rattle.feed_types.specs.Symbols.{is_symbol_field, name_of}
use Rattle.feed_types.specs.Text.{price_text, state_text}
use Rattle.csv.specs.Machine.{next_record}
use Rattle.csv.specs.Reading.{default_config}
use Rattle.csv.specs.declared.parser.State.TheVariants as st
use Rattle.run_settings.specs.declared.formats.TimeStyle.{TimeStyle}
use Rattle.run_settings.specs.declared.formats.ValueStyle.{ValueStyle}
use Rattle.run_settings.specs.declared.venue_names.VenueNames.{VenueNames}
use Rattle.run_settings.specs.VenueNames.{venue_text}
use Rattle.best_rows.specs.declared.row_time.RowTime.{RowTime}
use Rattle.best_rows.specs.declared.row_time.RowTime.TheVariants.{Absent, Given}
use Rattle.best_rows.specs.Times.{time_text}

abbrev pub side_fields : VenueNames → Option Best → List (List ℕ)
side_fields venues None = [] ∷ [] ∷ [] ∷ []
side_fields venues (Some b) = venue_text venues b.venue ∷ price_text b.price ∷ decimal b.size ∷ []

abbrev pub time_fields : TimeStyle → RowTime → List (List ℕ)
time_fields style Absent = []
time_fields style (Given None) = [] ∷ []
time_fields style (Given (Some time)) = time_text style time ∷ []

abbrev pub csv_fields : ValueStyle → RowTime → Notice → List (List ℕ)
csv_fields style time n =
    decimal n.number ∷ decimal n.position ∷ name_of n.symbol
    ∷ ((side_fields style.venues n.national.bid ++ side_fields style.venues n.national.offer)
    ++ (state_text (state_of n.national) ∷ time_fields style.times time))

-- the names of the columns
abbrev pub csv_names : Bool → List (List ℕ)
csv_names timed =
    codes "notice" ∷ codes "position" ∷ codes "symbol"
    ∷ codes "bid_venue" ∷ codes "bid_price" ∷ codes "bid_size"
    ∷ codes "offer_venue" ∷ codes "offer_price" ∷ codes "offer_size"
    ∷ codes "state" ∷ (if timed then codes "time" ∷ [] else [])

-- csv's reader takes a record of these fields from the front of a text that begins so, and goes on
-- after it
abbrev pub ReadsBack : List ℕ → List (List ℕ) → Type 0
ReadsBack text fields =
    (rest : List ℕ) → next_record default_config st.StartRecord [] [] (text ++ rest)
    ≡ Some (fields, st.StartRecord, rest)

-- the numbers of a side have 64 bits
pub record IsSideOfWords (best : Best) : Type 0 where
  pub venue : best.venue < 2 ^ 64
  pub price : best.price < 2 ^ 64
  pub size : best.size < 2 ^ 64

-- the numbers of a notice and its time have 64 bits, and its symbol is one
pub record HasWords (time : RowTime) (n : Notice) : Type 0 where
  pub number : n.number < 2 ^ 64
  pub position : n.position < 2 ^ 64
  pub symbol : IsTrue (is_symbol_field n.symbol)
  pub bid : IfSome n.national.bid IsSideOfWords
  pub offer : IfSome n.national.offer IsSideOfWords
  pub at : (t : ℕ) → time ≡ Given (Some t) → t < 2 ^ 64
