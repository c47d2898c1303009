-- A row of comma-separated values is what csv's writer writes of its fields.
use Rattle.std.proofs.Common.{◌≡◌, ◌==◌, ℕ, zero, suc, ◌+◌, ◌<◌, ◌/◌, ◌%◌, ◌^◌, Bool, true, false, List, [], ◌∷◌, ◌++◌, append_assoc, append-nil, codes, decimal, refl, sym, ap, subst, ◌∙◌, arith, inl, inr, Option, Some, None}
use Rattle.std.specs.Prelude.{◌||◌, ◌≤◌, IfSome, IsTrue, flat_map, nat_le}
use Rattle.std.specs.List.{list_all, list_any}
use Rattle.std.proofs.lemmas.Bool.{and_parts, cases_Bool, leb-true, ne_eqb}
use Rattle.std.proofs.lemmas.Fmt.{decimal_by_steps}
use Rattle.feed_types.specs.declared.journal.Notice.{Notice}
use Rattle.feed_types.specs.declared.national.Best.{Best}
use Rattle.feed_types.specs.declared.national.NationalState.{NationalState}
use Rattle.feed_types.specs.declared.national.NationalState.TheVariants.{Empty, OneSided, Normal, Locked, Crossed}
use Rattle.feed_types.specs.Symbols.{is_name_byte, is_symbol_field, name_of}
use Rattle.feed_types.specs.Text.{price_text, state_text}
use Rattle.csv.proofs.RoundTrip.{read-write-many}
use Rattle.csv.specs.Machine.{next_record}
use Rattle.csv.specs.Reading.{default_config}
use Rattle.csv.specs.Writing.{default_writer, escaped, field_text, fields_text, is_blank, needs_byte, row_text}
use Rattle.csv.specs.declared.parser.State.TheVariants as st
use Rattle.jiff_fmt.specs.Text.{pad2, pad4, places}
use Rattle.run_settings.specs.declared.formats.BestFormat.TheVariants.{Csv}
use Rattle.run_settings.specs.declared.formats.TimeStyle.{TimeStyle}
use Rattle.run_settings.specs.declared.formats.ValueStyle.{ValueStyle}
use Rattle.run_settings.specs.declared.venue_names.VenueNames.{VenueNames}
use Rattle.run_settings.specs.declared.venue_names.VenueNames.TheVariants.{Numbers, Named}
use Rattle.run_settings.specs.VenueNames.{HaveVenueBytes, is_venue_byte, name_of_venue, venue_text}
use Rattle.run_settings.specs.declared.formats.TimeStyle.TheVariants.{Seconds, Utc}
use Rattle.feed_types.specs.Nationals.{state_of}
use Rattle.best_rows.specs.Quoting.{csv_text, escaped_byte, needs_quotes, quoted}
use Rattle.best_rows.specs.declared.row_time.RowTime.{RowTime}
use Rattle.best_rows.specs.declared.row_time.RowTime.TheVariants.{Absent, Given}
use Rattle.best_rows.specs.CsvFields.{HasWords, IsSideOfWords, ReadsBack, csv_fields, csv_names, side_fields, time_fields}
use Rattle.best_rows.specs.RowTexts.{csv_row, csv_side, header_of}
use Rattle.best_rows.specs.Times.{csv_time, nine_digits, seconds_text, time_text}
use Rattle.best_rows.specs.UtcTexts.{CalendarDate, clock_digits, date_digits, date_of, utc_text}

or_parts : (a b : Bool) → (a || b) ≡ false → (a ≡ false) × (b ≡ false)
or_parts false b e = (refl, e)
or_parts true b e = cc e

or_from : (a b : Bool) → a ≡ false → b ≡ false → (a || b) ≡ false
or_from false b e f = f
or_from true b e f = e

-- bytes that call for no quotes
abbrev pub IsPlain : List ℕ → Type 0
IsPlain text = list_any (needs_byte default_writer) text ≡ false

pub plain_both : (a b : List ℕ) → IsPlain a → IsPlain b → IsPlain (a ++ b)
plain_both [] b p q = q
plain_both (x ∷ a) b p q =
    let h = or_parts _ _ p in
    or_from _ _ h.0 (plain_both a b h.1 q)

plain_from_48 : (n : ℕ) → IsPlain ((48 + n) ∷ [])
plain_from_48 n =
    let c = ne_eqb (48 + n) 44 (λ e. omega (arith, e)) in
    let q = ne_eqb (48 + n) 34 (λ e. omega (arith, e)) in
    let r = ne_eqb (48 + n) 13 (λ e. omega (arith, e)) in
    let f = ne_eqb (48 + n) 10 (λ e. omega (arith, e)) in
    rw (c, q, r, f) refl

plain_digit : (n : ℕ) → n < 10 → IsPlain ((48 + n) ∷ [])
plain_digit n small = plain_from_48 n

pub plain_decimal : (n : ℕ) → n < 2 ^ 64 → IsPlain (decimal n)
plain_decimal n fits =
    decimal_by_steps (λ _ ds. IsPlain ds) plain_digit
    (λ m ds big p. plain_both ds ((48 + m % 10) ∷ []) p (plain_digit (m % 10) (omega arith))) n fits

-- the last digit of a number
plain_last : (n : ℕ) → IsPlain (decimal (n % 10))
plain_last n = plain_decimal (n % 10) (omega arith)

plain_three : (a b c : List ℕ) → IsPlain a → IsPlain b → IsPlain c → IsPlain (a ++ b ++ c)
plain_three a b c p q r = plain_both (a ++ b) c (plain_both a b p q) r

plain_more : (x a b c d : List ℕ) → IsPlain x → IsPlain a → IsPlain b → IsPlain c → IsPlain d
    → IsPlain (x ++ a ++ b ++ c ++ d)
plain_more x a b c d o p q r s = plain_three (x ++ a ++ b) c d (plain_three x a b o p q) r s

pub plain_price : (p : ℕ) → p < 2 ^ 64 → IsPlain (price_text p)
plain_price p fits =
    plain_more (decimal (p / 10000) ++ codes ".")
    (decimal (p / 1000 % 10)) (decimal (p / 100 % 10)) (decimal (p / 10 % 10)) (decimal (p % 10))
    (plain_both (decimal (p / 10000)) (codes ".") (plain_decimal (p / 10000)
    (omega (arith, fits))) refl)
    (plain_last (p / 1000)) (plain_last (p / 100)) (plain_last (p / 10)) (plain_last p)

plain_nine : (n : ℕ) → IsPlain (nine_digits n)
unfolding nine_digits
plain_nine n =
    let d : ℕ → List ℕ = λ (power : ℕ). decimal (n / power % 10) in
    let p : (power : ℕ) → IsPlain (decimal (n / power % 10)) = λ (power : ℕ). plain_last (n / power)
    in
    plain_more (d 100000000 ++ d 10000000 ++ d 1000000 ++ d 100000 ++ d 10000)
    (d 1000) (d 100) (d 10) (d 1)
    (plain_more (d 100000000) (d 10000000) (d 1000000) (d 100000) (d 10000)
    (p 100000000) (p 10000000) (p 1000000) (p 100000) (p 10000))
    (p 1000) (p 100) (p 10) (p 1)

pub plain_seconds : (t : ℕ) → t < 2 ^ 64 → IsPlain (seconds_text t)
plain_seconds t fits =
    plain_three (decimal (t / 1000000000)) (codes ".") (nine_digits t)
    (plain_decimal (t / 1000000000) (omega (arith, fits))) refl (plain_nine t)

plain_two : (n : ℕ) → IsPlain (pad2 n)
plain_two n =
    plain_both ((48 + n / 10) ∷ []) ((48 + n % 10) ∷ []) (plain_from_48 (n / 10))
    (plain_from_48 (n % 10))

plain_four : (n : ℕ) → IsPlain (pad4 n)
plain_four n =
    plain_both (pad2 (n / 100)) (pad2 (n % 100)) (plain_two (n / 100)) (plain_two (n % 100))

plain_places : (k whole n : ℕ) → IsPlain (places k whole n)
unfolding places
plain_places zero whole n = refl
plain_places (suc k) whole n =
    plain_both ((48 + n / (whole / 10)) ∷ []) (places k (whole / 10) (n % (whole / 10)))
    (plain_from_48 (n / (whole / 10))) (plain_places k (whole / 10) (n % (whole / 10)))

plain_date : (date : CalendarDate) → IsPlain (date_digits date)
plain_date date =
    plain_three (pad4 date.year ++ codes "-" ++ pad2 date.month) (codes "-") (pad2 date.day)
    (plain_three (pad4 date.year) (codes "-") (pad2 date.month) (plain_four date.year) refl
    (plain_two date.month)) refl (plain_two date.day)

plain_clock : (t : ℕ) → IsPlain (clock_digits t)
plain_clock t =
    let hour = pad2 (t / 3600000000000 % 24) in
    let minute = pad2 (t / 60000000000 % 60) in
    let second = pad2 (t / 1000000000 % 60) in
    plain_three (hour ++ codes ":" ++ minute ++ codes ":" ++ second) (codes ".")
    (places 9 1000000000 (t % 1000000000))
    (plain_three (hour ++ codes ":" ++ minute) (codes ":") second
    (plain_three hour (codes ":") minute (plain_two (t / 3600000000000 % 24)) refl
    (plain_two (t / 60000000000 % 60))) refl (plain_two (t / 1000000000 % 60))) refl
    (plain_places 9 1000000000 (t % 1000000000))

pub plain_utc : (t : ℕ) → IsPlain (utc_text t)
unfolding utc_text
plain_utc t =
    let date = date_digits (date_of (t / 86400000000000)) in
    plain_both (date ++ codes "T" ++ clock_digits t) (codes "Z")
    (plain_three date (codes "T") (clock_digits t) (plain_date (date_of (t / 86400000000000)))
    refl (plain_clock t)) refl

plain_time : (style : TimeStyle) (t : ℕ) → t < 2 ^ 64 → IsPlain (time_text style t)
plain_time Seconds t fits = plain_seconds t fits
plain_time Utc t fits = plain_utc t

pub plain_state : (s : NationalState) → IsPlain (state_text s)
plain_state Empty = refl
plain_state OneSided = refl
plain_state Normal = refl
plain_state Locked = refl
plain_state Crossed = refl

-- a field that calls for no quotes is written as it is
pub plain_field : (text : List ℕ) → IsPlain text → field_text default_writer text ≡ text
plain_field text p = rw p refl

-- a byte of a symbol's name ends no line
name_byte : (b : ℕ) → is_name_byte b ≡ true → needs_byte default_writer b ≡ (b == 44 || b == 34)
name_byte b is =
    let least : 33 ≤ b = leb-true 33 b (and_parts (nat_le 33 b) (nat_le b 126) is).0 in
    let r = ne_eqb b 13 (λ e. omega (arith, least, e)) in
    let f = ne_eqb b 10 (λ e. omega (arith, least, e)) in
    elim (cases_Bool (b == 44)) [
      | inl c ↦ rw c refl
      | inr c ↦ elim (cases_Bool (b == 34)) [
        | inl q ↦ rw (c, q) refl
        | inr q ↦ rw (c, q, r, f) refl
      ]
    ]

name_marks : (name : List ℕ) → list_all is_name_byte name ≡ true
    → list_any (needs_byte default_writer) name ≡ needs_quotes name
name_marks [] is = refl
name_marks (b ∷ name) is =
    let both = and_parts (is_name_byte b) (list_all is_name_byte name) is in
    rw (name_byte b both.0, name_marks name both.1) refl

escaped_same : (text : List ℕ) → escaped default_writer text ≡ flat_map (escaped_byte 34) text
unfolding escaped
escaped_same [] = refl
escaped_same (b ∷ text) = elim (cases_Bool (b == 34)) [
  | inl q ↦ rw (q, escaped_same text) refl
  | inr q ↦ rw (q, escaped_same text) refl
]

-- a symbol's name as a field
pub name_field : (name : List ℕ) → list_all is_name_byte name ≡ true
    → field_text default_writer name ≡ csv_text name
unfolding quoted
name_field name is = rw (name_marks name is, escaped_same name) refl

pub field_name : (field : List ℕ) → IsTrue (is_symbol_field field)
    → list_all is_name_byte (name_of field) ≡ true
field_name field is =
    let name = (and_parts _ _ (and_parts _ _ is).1).0 in
    (and_parts _ _ (and_parts _ _ name).1).1

fields_both : (xs ys : List (List ℕ)) → fields_text default_writer (xs ++ ys)
    ≡ fields_text default_writer xs ++ fields_text default_writer ys
unfolding fields_text
fields_both [] ys = refl
fields_both (x ∷ xs) ys = rw (fields_both xs ys, append_assoc) refl

three_joined : (v p s : List ℕ) → codes "," ++ v ++ codes "," ++ p ++ codes "," ++ s
    ≡ codes "," ++ (v ++ (codes "," ++ (p ++ (codes "," ++ s))))
three_joined v p s = simp append_assoc

three_fields : (v p s : List ℕ) → IsPlain v → IsPlain p → IsPlain s
    → fields_text default_writer (v ∷ p ∷ s ∷ []) ≡ codes "," ++ v ++ codes "," ++ p ++ codes ","
    ++ s
unfolding fields_text
three_fields v p s a b c = rw (plain_field v a, plain_field p b, plain_field s c, append-nil s)
    (sym (three_joined v p s))

-- a byte of a venue's name calls for no quotes
venue_byte : (b : ℕ) → is_venue_byte b ≡ true → needs_byte default_writer b ≡ false
venue_byte b is =
    let c = ne_eqb b 44 (λ e. cc (subst (λ (x : ℕ). is_venue_byte x ≡ true) e is)) in
    let q = ne_eqb b 34 (λ e. cc (subst (λ (x : ℕ). is_venue_byte x ≡ true) e is)) in
    let r = ne_eqb b 13 (λ e. cc (subst (λ (x : ℕ). is_venue_byte x ≡ true) e is)) in
    let f = ne_eqb b 10 (λ e. cc (subst (λ (x : ℕ). is_venue_byte x ≡ true) e is)) in
    rw (c, q, r, f) refl

venue_bytes : (name : List ℕ) → list_all is_venue_byte name ≡ true → IsPlain name
venue_bytes [] is = refl
venue_bytes (b ∷ name) is =
    let both = and_parts (is_venue_byte b) (list_all is_venue_byte name) is in
    or_from _ _ (venue_byte b both.0) (venue_bytes name both.1)

plain_venue : (venues : VenueNames) (venue : ℕ) → HaveVenueBytes venues → venue < 2 ^ 64
    → IsPlain (venue_text venues venue)
plain_venue Numbers venue names fits = plain_decimal venue fits
plain_venue (Named names) venue bytes fits = venue_bytes (name_of_venue names venue) (bytes venue)

side_text : (venues : VenueNames) (side : Option Best) → HaveVenueBytes venues
    → IfSome side IsSideOfWords
    → fields_text default_writer (side_fields venues side) ≡ codes "," ++ csv_side venues side
unfolding fields_text
side_text venues None names fits = refl
side_text venues (Some b) names fits =
    three_fields (venue_text venues b.venue) (price_text b.price) (decimal b.size)
    (plain_venue venues b.venue names fits.venue) (plain_price b.price fits.price)
    (plain_decimal b.size fits.size)

one_field : (x : List ℕ) → IsPlain x → fields_text default_writer (x ∷ []) ≡ codes "," ++ x
unfolding fields_text
one_field x a = rw (plain_field x a, append-nil x) refl

time_written : (style : TimeStyle) (time : RowTime)
    → ((t : ℕ) → time ≡ Given (Some t) → t < 2 ^ 64)
    → fields_text default_writer (time_fields style time) ≡ csv_time style time
unfolding fields_text
time_written style Absent fits = refl
time_written style (Given None) fits = refl
time_written style (Given (Some t)) fits =
    one_field (time_text style t) (plain_time style t (fits t refl))

row_joined : (c e n p s b o w t : List ℕ)
    → n ++ c ++ p ++ c ++ s ++ c ++ b ++ c ++ o ++ c ++ w ++ t ++ e
    ≡ (n ++ (c ++ (p ++ (c ++ (s ++ (((c ++ b) ++ (c ++ o)) ++ (c ++ (w ++ t)))))))) ++ e
row_joined c e n p s b o w t = simp append_assoc

-- a row of fields, each as it is written
row_written : (n p s word : List ℕ) (b o t : List (List ℕ)) (name bid offer time : List ℕ)
    → IsPlain n → IsPlain p
    → field_text default_writer s ≡ name → fields_text default_writer b ≡ codes "," ++ bid
    → fields_text default_writer o ≡ codes "," ++ offer → IsPlain word
    → fields_text default_writer t ≡ time
    → n ++ codes "," ++ p ++ codes "," ++ name ++ codes "," ++ bid ++ codes "," ++ offer
    ++ codes "," ++ word ++ time ++ codes "\n"
    ≡ row_text default_writer (n ∷ p ∷ s ∷ ((b ++ o) ++ (word ∷ t)))
unfolding is_blank fields_text
row_written n p s word b o t name bid offer time pn pp es eb eo ps et =
    rw (
      plain_field n pn,
      plain_field p pp,
      es,
      fields_both (b ++ o) (word ∷ t),
      fields_both b o,
      eb,
      eo,
      plain_field word ps,
      et,
    ) (row_joined (codes ",") (codes "\n") n p name bid offer word time)

pub row_is_written : (style : ValueStyle) (time : RowTime) (n : Notice)
    → HaveVenueBytes style.venues → HasWords time n
    → csv_row style time n ≡ row_text default_writer (csv_fields style time n)
unfolding csv_row
row_is_written style time n names fits =
    row_written (decimal n.number) (decimal n.position) (name_of n.symbol)
    (state_text (state_of n.national))
    (side_fields style.venues n.national.bid) (side_fields style.venues n.national.offer)
    (time_fields style.times time)
    (csv_text (name_of n.symbol)) (csv_side style.venues n.national.bid)
    (csv_side style.venues n.national.offer) (csv_time style.times time)
    (plain_decimal n.number fits.number) (plain_decimal n.position fits.position)
    (name_field (name_of n.symbol) (field_name n.symbol fits.symbol))
    (side_text style.venues n.national.bid names fits.bid)
    (side_text style.venues n.national.offer names fits.offer)
    (plain_state (state_of n.national)) (time_written style.times time fits.at)

header_is_written : (style : ValueStyle) (timed : Bool)
    → header_of (Csv style) timed ≡ row_text default_writer (csv_names timed)
unfolding is_blank fields_text
header_is_written style false = refl
header_is_written style true = refl

-- what csv's writer writes, its reader reads back
pub reads_written : (text : List ℕ) (x y : List ℕ) (ys : List (List ℕ))
    → text ≡ row_text default_writer (x ∷ y ∷ ys) → ReadsBack text (x ∷ y ∷ ys)
reads_written text x y ys e rest =
    ap (λ (t : List ℕ). next_record default_config st.StartRecord [] [] (t ++ rest)) e
    ∙ read-write-many x y ys rest

pub header_reads_back : (style : ValueStyle) (timed : Bool)
    → ReadsBack (header_of (Csv style) timed) (csv_names timed)
header_reads_back style timed =
    reads_written (header_of (Csv style) timed) _ _ _ (header_is_written style timed)

pub row_reads_back : (style : ValueStyle) (time : RowTime) (n : Notice)
    → HaveVenueBytes style.venues → HasWords time n
    → ReadsBack (csv_row style time n) (csv_fields style time n)
row_reads_back style time n names fits =
    reads_written (csv_row style time n) _ _ _ (row_is_written style time n names fits)
