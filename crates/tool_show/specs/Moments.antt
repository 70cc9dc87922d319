-- Moments, which are seconds since the beginning of 1970, as dates and times of day in UTC.
use Rattle.std.specs.Prelude.{◌≡◌, ◌==◌, ◌≤◌, ◌<◌, ◌+◌, ◌-◌, ◌*◌, ◌/◌, ◌%◌, ◌&&◌, ◌||◌, ℕ, zero, suc, Bool}
use Rattle.std.specs.Prelude.{not, List, ◌++◌, Option, None, Some, codes, if◌then◌else◌}
use Rattle.std.specs.Fmt.{decimal}
use Rattle.tool_show.specs.declared.moment.UtcTime.{UtcTime}

-- the Gregorian rule: every fourth year is a leap year, but of the hundredth years only every four hundredth
abbrev pub is_leap : ℕ → Bool
is_leap year = (year % 4 == 0) && (not (year % 100 == 0) || (year % 400 == 0))

-- the days of a year
abbrev pub year_length : ℕ → ℕ
year_length year = if is_leap year then 366 else 365

-- the days of a month of a year, which is 1 to 12
abbrev pub month_length : ℕ → ℕ → ℕ
month_length year month =
    if month == 2 then (if is_leap year then 29 else 28)
    else (if (month == 4) || ((month == 6) || ((month == 9) || (month == 11))) then 30 else 31)

-- the days of this many years, the first of which is 1970
unfoldable pub days_of_years : ℕ → ℕ
days_of_years zero = 0
days_of_years (suc count) = days_of_years count + year_length (1970 + count)

-- the days of this many months of a year, the first of which is January
unfoldable pub days_of_months : ℕ → ℕ → ℕ
days_of_months year zero = 0
days_of_months year (suc count) = days_of_months year count + month_length year (suc count)

-- the days from 1 January 1970 to a date: those of the years before it, those of the months before it in its year, and
-- those before it in its month
abbrev pub days_before : UtcTime → ℕ
days_before time =
    days_of_years (time.year - 1970) + days_of_months time.year (time.month - 1) + (time.day - 1)

-- a date and a time of day, and this many seconds from the beginning of 1970 to it
pub record IsUtc (moment : ℕ) (time : UtcTime) : Type 0 where
  pub year : 1970 ≤ time.year
  pub month : (1 ≤ time.month) × (time.month ≤ 12)
  pub day : (1 ≤ time.day) × (time.day ≤ month_length time.year time.month)
  pub hour : time.hour < 24
  pub minute : time.minute < 60
  pub second : time.second < 60
  pub moment_is : moment ≡ 86400 * days_before time + 3600 * time.hour + 60 * time.minute + time.second

-- a number below 100 in two digits
abbrev pub two_digits : ℕ → List ℕ
two_digits number = decimal (number / 10) ++ decimal (number % 10)

-- `2026-11-28`, `09:00:00`, and both as one word
abbrev pub date_words : UtcTime → List ℕ
date_words time = decimal time.year ++ (codes "-" ++ (two_digits time.month ++ (codes "-" ++ two_digits time.day)))

abbrev pub clock_words : UtcTime → List ℕ
clock_words time =
    two_digits time.hour ++ (codes ":" ++ (two_digits time.minute ++ (codes ":" ++ two_digits time.second)))

abbrev pub utc_words : UtcTime → List ℕ
utc_words time = date_words time ++ (codes "T" ++ (clock_words time ++ codes "Z"))

-- the word of a moment, or `-` if there is none
abbrev pub IsMomentWord : Option ℕ → List ℕ → Type 0
IsMomentWord None word = word ≡ codes "-"
IsMomentWord (Some moment) word = (time : UtcTime) × IsUtc moment time × (word ≡ utc_words time)
