-- The date of a day is the calendar's date with this day number.
use Rattle.std.proofs.Common.{◌≡◌, ◌<ℤ◌, ℕ, ℤ, pos, zero, suc, ◌+◌, ◌<◌, ◌≤◌, inl, inr, sym, ap, ◌∙◌, arith}
use Rattle.std.specs.Prelude.{nat_lt}
use Rattle.std.specs.Int.{IsInRange}
use Rattle.std.proofs.lemmas.Bool.{cases_Bool}
use Rattle.std.proofs.lemmas.Bool.Decides.{nat_tests}
use Rattle.std.proofs.lemmas.Int.{by_lt_z}
use Rattle.jiff_core.specs.declared.civil.date.Date.{Date}
use Rattle.jiff_core.specs.Calendar.{IsYear, day_count, days_from_civil, days_in_month}
use Rattle.jiff_core.specs.Date.{epoch_day}
use Rattle.jiff_core.proofs.SignedLemmas.{signed_arith}
use Rattle.jiff_core.proofs.CalendarLemmas.{day_count-epoch, day_count-lt_year, days_from_civil-day_count, days_in_month_bounds}
use Rattle.jiff_core.proofs.DateLemmas.{civil, days_from_civil-day, days_from_civil-next_month, days_from_civil-next_year, epoch_day_injective}
use Rattle.best_rows.specs.UtcTexts.{CalendarDate, date_of, next_date}

-- the date is in the calendar, and has this day number
record IsOnDay (days : ℕ) (date : CalendarDate) : Type 0 where
  pub month : IsInRange 1 12 date.month
  pub day : IsInRange 1 (days_in_month (pos date.year) date.month) date.day
  pub number : days_from_civil (pos date.year) date.month date.day ≡ pos days

first_day : days_from_civil (pos 1970) 1 1 ≡ pos 0
first_day = omega (arith, signed_arith, days_from_civil-day_count (pos 1970) 1 1, day_count-epoch)

-- the next date has the next day number
next_day : (days : ℕ) (date : CalendarDate) → IsOnDay days date
    → IsOnDay (suc days) (next_date date)
next_day days date is =
    let year = pos date.year in
    let long = days_in_month_bounds year date.month in
    elim (cases_Bool (nat_lt date.day (days_in_month year date.month))) [
      | inl within ↦
          let less : date.day < days_in_month year date.month = grind (arith, nat_tests, within) in
          let moved = days_from_civil-day year date.month date.day (date.day + 1) is.day.0
          (omega arith) in
          rw within (record {
            month = is.month;
            day = (omega arith, omega (arith, less));
            number = omega (arith, signed_arith, moved, is.number);
          })
      | inr at_end ↦
          let most : days_in_month year date.month ≤ date.day =
          grind (arith, nat_tests, at_end) in
          let last : date.day ≡ days_in_month year date.month =
          omega (arith, most, is.day.1) in
          elim (cases_Bool (nat_lt date.month 12)) [
            | inl before ↦
                let less : date.month < 12 = grind (arith, nat_tests, before) in
                let first = days_in_month_bounds year (date.month + 1) in
                let moved = days_from_civil-next_month year date.month date.day is.month.0 last in
                rw (at_end, before) (record {
                  month = (omega arith, omega (arith, less));
                  day = (omega arith, omega (arith, first.1));
                  number = omega (arith, signed_arith, moved, is.number);
                })
            | inr after ↦
                let twelve : date.month ≡ 12 =
                grind (arith, nat_tests, after, is.month.1) in
                let thirty_one : date.day ≡ 31 =
                last ∙ ap (λ (m : ℕ). days_in_month year m) twelve in
                let here : days_from_civil year 12 31 ≡ pos days =
                ap (λ (m : ℕ). days_from_civil year m 31) (sym twelve)
                ∙ ap (λ (d : ℕ). days_from_civil year date.month d) (sym thirty_one)
                ∙ is.number in
                let first = days_in_month_bounds (pos (date.year + 1)) 1 in
                let moved = days_from_civil-next_year year (pos (date.year + 1))
                (omega (arith, signed_arith)) (omega (arith, signed_arith)) in
                rw (at_end, after) (record {
                  month = (omega arith, omega arith);
                  day = (omega arith, omega (arith, first.1));
                  number = omega (arith, signed_arith, moved, here);
                })
          ]
    ]

on_day : (days : ℕ) → IsOnDay days (date_of days)
unfolding date_of
on_day zero = record {
  month = (omega arith, omega arith);
  day = (omega arith, omega (arith, (days_in_month_bounds (pos 1970) 1).1));
  number = first_day;
}
on_day (suc days) = next_day days (date_of days) (on_day days)

-- the parts of a date
pub record HasParts (d : Date) (date : CalendarDate) : Type 0 where
  pub year : d.year ≡ pos date.year
  pub month : d.month ≡ date.month
  pub day : d.day ≡ date.day

-- a year that has one of the library's day numbers is one of its years
in_years : (d : Date) (date : CalendarDate) (days : ℕ) → IsOnDay days date
    → epoch_day d ≡ pos days → IsYear (pos date.year)
in_years d date days is e =
    let same : day_count d.year d.month d.day ≡ day_count (pos date.year) date.month date.day =
    omega (
      arith,
      signed_arith,
      e,
      is.number,
      days_from_civil-day_count d.year d.month d.day,
      days_from_civil-day_count (pos date.year) date.month date.day,
    ) in
    by_lt_z (pos 9999) (pos date.year)
    (λ late.
    let later : d.year <ℤ pos date.year = omega (arith, signed_arith, late, d.year_in.1) in
    absurd (omega (
      arith,
      same,
      day_count-lt_year d.year d.month d.day (pos date.year) date.month
          date.day (civil d) is.day.0 later,
    )))
    (λ early. (omega (arith, signed_arith), early))

-- the date with a day number is that of the calendar
pub parts_of_day : (d : Date) (days : ℕ) → epoch_day d ≡ pos days → HasParts d (date_of days)
parts_of_day d days e =
    let is = on_day days in
    let date : Date = record {
      year = pos (date_of days).year;
      month = (date_of days).month;
      day = (date_of days).day;
      year_in = in_years d (date_of days) days is e;
      month_in = is.month;
      day_in = is.day;
    } in
    let same = epoch_day_injective d date (e ∙ sym is.number) in
    record { year = same.0; month = same.1; day = same.2 }
