-- What jiff prints of an instant in UTC with nine places is the text of its time, and jiff reads it
-- as that time.
use Rattle.std.proofs.Common.{◌≡◌, ◌-ℤ◌, ℕ, pos, ◌+◌, ◌*◌, ◌/◌, ◌%◌, ◌<◌, ◌==◌, min, take_at, drop_at, Bool, true, false, List, [], ◌∷◌, ◌++◌, Option, None, Some, Ok, refl, ap, subst, ◌∙◌, arith, length}
use Rattle.std.specs.Char.{is_ascii_digit}
use Rattle.std.specs.List.{prefix_len}
use Rattle.std.proofs.Math.Nat.{mod-one}
use Rattle.std.proofs.lemmas.Bool.Decides.{nat_tests}
use Rattle.std.proofs.lemmas.List.{append_assoc}
use Rattle.jiff_core.specs.declared.civil.datetime.DateTime.{DateTime}
use Rattle.jiff_core.specs.declared.civil.time.Time.{Time}
use Rattle.jiff_core.specs.declared.timestamp.Timestamp.{Timestamp}
use Rattle.jiff_core.specs.declared.error.Bound.TheVariants as bounds
use Rattle.jiff_core.specs.declared.error.Syntax.TheVariants as syntax_errors
use Rattle.jiff_core.specs.Date.{epoch_day}
use Rattle.jiff_core.specs.DateTime.{civil_nanos}
use Rattle.jiff_core.specs.Time.{time_nanos}
use Rattle.jiff_core.specs.Timestamp.{nanos_of_seconds}
use Rattle.jiff_core.proofs.DateTimeLemmas.{civil_nanos-parts, time_nanos_bound}
use Rattle.jiff_core.proofs.SignedLemmas.{signed_arith}
use Rattle.jiff_fmt.specs.Printer.{IsTimestampText, options}
use Rattle.jiff_fmt.specs.Reader.{fraction_value, nanoseconds, temporal_fraction}
use Rattle.jiff_fmt.specs.Temporal.{date_parts, date_spec, parse_timestamp, parts_nanos, temporal_datetime, time_parts, time_spec}
use Rattle.jiff_fmt.specs.Text.{date_text, datetime_text, fraction_part, pad2, places, time_text, zulu_text}
use Rattle.jiff_fmt.specs.declared.temporal.printer.DateTimePrinter.{DateTimePrinter}
use Rattle.jiff_fmt.proofs.RoundTrip.{annotations-empty, date_spec-text, field-pad2, offset-zulu}
use Rattle.jiff_fmt.proofs.TemporalLemmas.{instant-ok}
use Rattle.jiff_fmt.proofs.TextLemmas.{places-read}
use Rattle.best_rows.specs.UtcTexts.{date_of, utc_text}
use Rattle.best_rows.proofs.Days.{HasParts, parts_of_day}

-- ---- the text

-- what a clock shows
record ShowsTime (t : Time) (time : ℕ) : Type 0 where
  pub hour : t.hour ≡ time / 3600000000000 % 24
  pub minute : t.minute ≡ time / 60000000000 % 60
  pub second : t.second ≡ time / 1000000000 % 60
  pub nanosecond : t.subsec_nanosecond ≡ time % 1000000000

shown_parts : (t : Time) (days time : ℕ) → time ≡ days * 86400000000000 + time_nanos t
    → ShowsTime t time
shown_parts t days time e = record {
  hour = omega (arith, e, t.hour_in, t.minute_in, t.second_in, t.subsec_in);
  minute = omega (arith, e, t.hour_in, t.minute_in, t.second_in, t.subsec_in);
  second = omega (arith, e, t.hour_in, t.minute_in, t.second_in, t.subsec_in);
  nanosecond = omega (arith, e, t.hour_in, t.minute_in, t.second_in, t.subsec_in);
}

-- a date and a time of day, in days and nanoseconds
day_of : (dt : DateTime) (time : ℕ) → civil_nanos dt ≡ pos time
    → epoch_day dt.date ≡ pos (time / 86400000000000)
day_of dt time e =
    omega (arith, signed_arith, e, civil_nanos-parts dt, time_nanos_bound dt.time)

nanos_of : (dt : DateTime) (time : ℕ) → civil_nanos dt ≡ pos time
    → time ≡ time / 86400000000000 * 86400000000000 + time_nanos dt.time
nanos_of dt time e =
    omega (arith, signed_arith, e, day_of dt time e, civil_nanos-parts dt)

spelled : (dt : DateTime) (time : ℕ) → HasParts dt.date (date_of (time / 86400000000000))
    → ShowsTime dt.time time
    → datetime_text false 84 (Some 9) dt ++ zulu_text false ≡ utc_text time
unfolding utc_text
spelled dt time date clock =
    rw (date.year, date.month, date.day, clock.hour, clock.minute, clock.second, clock.nanosecond)

datetime_spelled : (dt : DateTime) (time : ℕ) → civil_nanos dt ≡ pos time
    → datetime_text false 84 (Some 9) dt ++ zulu_text false ≡ utc_text time
datetime_spelled dt time e =
    spelled dt time (parts_of_day dt.date (time / 86400000000000) (day_of dt time e))
    (shown_parts dt.time (time / 86400000000000) time (nanos_of dt time e))

-- a printer's options: lower case, the separator and the places
abbrev Options : Type 0
Options = Bool × ℕ × Option ℕ

pub nine_places : (new nine : Options) → new ≡ (false, 84, None) → nine ≡ (new.0, new.1, Some 9)
    → nine ≡ (false, 84, Some 9)
nine_places new nine is more = more ∙ ap (λ (k : Options). (k.0, k.1, Some 9)) is

-- what the printer writes, by its options
printed : (p : DateTimePrinter) (t : Timestamp) (text : List ℕ) → options p ≡ (false, 84, Some 9)
    → IsTimestampText p t text
    → (dt : DateTime) × (civil_nanos dt ≡ t.nanosecond)
    × (text ≡ datetime_text false 84 (Some 9) dt ++ zulu_text false)
printed p t text o h = subst (λ (k : Options). (dt : DateTime) × (civil_nanos dt ≡ t.nanosecond)
    × (text ≡ datetime_text k.0 k.1 k.2 dt ++ zulu_text k.0)) o h

pub utc_printed : (p : DateTimePrinter) (t : Timestamp) (time : ℕ) (text : List ℕ)
    → options p ≡ (false, 84, Some 9) → t.nanosecond ≡ pos time → IsTimestampText p t text
    → text ≡ utc_text time
utc_printed p t time text o is h =
    let it = printed p t text o h in
    it.2 ∙ datetime_spelled it.0 time (it.1 ∙ is)

-- it has 30 bytes
pub utc_length : (time : ℕ) → length (utc_text time) ≡ 30
unfolding utc_text places
utc_length time = refl

-- ---- read back

nine_read : (n : ℕ) → n < 1000000000
    → nanoseconds (places 9 1000000000 n ++ 90 ∷ []) ≡ Ok (n, 90 ∷ [])
unfolding nanoseconds
nine_read n small =
    let digits = places 9 1000000000 n in
    let facts = places-read 9 9 n (90 ∷ []) (omega arith) small in
    let count : min (prefix_len is_ascii_digit (digits ++ 90 ∷ [])) 9 ≡ 9 =
    ap (λ (k : ℕ). min k 9) facts.0 in
    let value : fraction_value 9 digits ≡ n = omega (arith, facts.2, mod-one n) in
    rw (count, take_at digits (90 ∷ []) 9 facts.1, drop_at digits (90 ∷ []) 9 facts.1, value)

fraction_read : (n : ℕ) → n < 1000000000
    → temporal_fraction (fraction_part (Some 9) n ++ 90 ∷ []) ≡ Ok (Some n, 90 ∷ [])
unfolding temporal_fraction
fraction_read n small = rw (nine_read n small)

clock_read : (t : Time)
    → time_spec (time_text (Some 9) t ++ 90 ∷ []) ≡ Ok ((time_parts t, true), 90 ∷ [])
unfolding time_spec
clock_read t =
    let fraction_text = fraction_part (Some 9) t.subsec_nanosecond ++ 90 ∷ [] in
    let after_minute = 58 ∷ pad2 t.second ++ fraction_text in
    let after_hour = 58 ∷ pad2 t.minute ++ after_minute in
    let shape : time_text (Some 9) t ++ 90 ∷ [] ≡ pad2 t.hour ++ after_hour =
    simp append_assoc refl in
    let hour = field-pad2 syntax_errors.Hour 0 23 bounds.Hour t.hour after_hour (omega arith)
    (omega (arith, t.hour_in)) (omega (arith, t.hour_in)) in
    let minute = field-pad2 syntax_errors.Minute 0 59 bounds.Minute t.minute after_minute
    (omega arith) (omega (arith, t.minute_in)) (omega (arith, t.minute_in)) in
    let second = field-pad2 syntax_errors.Second 0 60 bounds.LeapSecond t.second fraction_text
    (omega arith) (omega (arith, t.second_in)) (omega (arith, t.second_in)) in
    let no_leap : (t.second == 60) ≡ false = grind (arith, nat_tests, t.second_in) in
    rw (shape, hour, minute, second, no_leap, fraction_read t.subsec_nanosecond t.subsec_in)

date_read : (dt : DateTime) → date_spec (datetime_text false 84 (Some 9) dt ++ 90 ∷ [])
    ≡ Ok (date_parts dt.date, 84 ∷ time_text (Some 9) dt.time ++ 90 ∷ [])
date_read dt =
    let clock = 84 ∷ time_text (Some 9) dt.time in
    let shape : datetime_text false 84 (Some 9) dt ++ 90 ∷ []
    ≡ date_text dt.date ++ (clock ++ 90 ∷ []) =
    append_assoc (date_text dt.date) clock (90 ∷ []) in
    rw shape (date_spec-text dt.date (clock ++ 90 ∷ []))

datetime_read : (dt : DateTime) (t : Timestamp) → civil_nanos dt ≡ t.nanosecond
    → parse_timestamp (datetime_text false 84 (Some 9) dt ++ zulu_text false) ≡ Ok t.nanosecond
unfolding temporal_datetime civil_nanos
datetime_read dt t e =
    let value : parts_nanos (date_parts dt.date) (time_parts dt.time) -ℤ nanos_of_seconds (pos 0)
    ≡ t.nanosecond = omega (arith, signed_arith, e) in
    rw (
      date_read dt,
      clock_read dt.time,
      offset-zulu,
      annotations-empty,
      value,
      instant-ok t.nanosecond t.in_range,
    )

pub utc_read : (p : DateTimePrinter) (t : Timestamp) (text : List ℕ)
    → options p ≡ (false, 84, Some 9) → IsTimestampText p t text
    → parse_timestamp text ≡ Ok t.nanosecond
utc_read p t text o h =
    let it = printed p t text o h in
    ap parse_timestamp it.2 ∙ datetime_read it.0 t it.1
