-- The days of years and of months.
use Rattle.std.proofs.Common.{◌≡◌, ◌==◌, ◌||◌, ◌≢◌, ◌≤◌, ◌<◌, ℕ, zero, suc, ◌+◌, ◌-◌, ◌*◌, ◌/◌, ◌%◌, if◌then◌else◌, Bool, true, false, ap, add-one, refl, sym, ◌∙◌, arith, inl, inr}
use Rattle.std.proofs.lemmas.Bool.{cases_eq}
use Rattle.std.proofs.lemmas.Bool.Decides.{nat_tests}
use Rattle.tool_show.specs.Moments.{days_of_months, days_of_years, is_leap, month_length, year_length}

pub years-more : (count : ℕ) → days_of_years (count + 1) ≡ days_of_years count + year_length (1970 + count)
unfolding days_of_years
years-more count = ap days_of_years (add-one count)

no-years : days_of_years 0 ≡ 0
unfolding days_of_years
no-years = refl

length-no4 : (y : ℕ) → y % 4 ≢ 0 → year_length y ≡ 365
length-no4 y h = grind (arith, nat_tests)

length-4 : (y : ℕ) → y % 4 ≡ 0 → y % 100 ≢ 0 → year_length y ≡ 366
length-4 y h k = grind (arith, nat_tests)

length-100 : (y : ℕ) → y % 100 ≡ 0 → y % 400 ≢ 0 → year_length y ≡ 365
length-100 y h k = grind (arith, nat_tests)

length-400 : (y : ℕ) → y % 4 ≡ 0 → y % 400 ≡ 0 → year_length y ≡ 366
length-400 y h k = grind (arith, nat_tests)

-- the years of a rule that come before the next year
abbrev Steps : ℕ → ℕ → Type 0
Steps y length = length + (y + 100) / 100 + (y + 3) / 4 + (y + 399) / 400 ≡ 365 + (y + 99) / 100 + (y + 4) / 4 + (y + 400) / 400

steps : (y : ℕ) → Steps y (year_length y)
steps y = elim (cases_eq (y % 4) 0) [
  | inr no4 ↦ let e = length-no4 y no4 in rw e (omega arith)
  | inl by4 ↦ elim (cases_eq (y % 100) 0) [
    | inr no100 ↦ let e = length-4 y by4 no100 in rw e (omega arith)
    | inl by100 ↦ elim (cases_eq (y % 400) 0) [
      | inr no400 ↦ let e = length-100 y by100 no400 in rw e (omega arith)
      | inl by400 ↦ let e = length-400 y by4 by400 in rw e (omega arith)
    ]
  ]
]

pub length-least : (y : ℕ) → 365 ≤ year_length y
length-least y = elim (cases_eq (y % 4) 0) [
  | inr no4 ↦ let e = length-no4 y no4 in omega (arith, e)
  | inl by4 ↦ elim (cases_eq (y % 100) 0) [
    | inr no100 ↦ let e = length-4 y by4 no100 in omega (arith, e)
    | inl by100 ↦ elim (cases_eq (y % 400) 0) [
      | inr no400 ↦ let e = length-100 y by100 no400 in omega (arith, e)
      | inl by400 ↦ let e = length-400 y by4 by400 in omega (arith, e)
    ]
  ]
]

pub years-least : (count : ℕ) → 365 * count ≤ days_of_years count
years-least zero = omega (arith, no-years)
years-least (suc count) =
    let more = years-more count in
    let more : days_of_years (suc count) ≡ days_of_years count + year_length (1970 + count) = ap days_of_years (sym (add-one count)) ∙ more in
    omega (arith, more, years-least count, length-least (1970 + count))

-- the days of the years up to some year, counted by the leap years among them
counted : (count : ℕ) → days_of_years count + 719528 + (count + 2069) / 100 ≡ 365 * (count + 1970) + (count + 1973) / 4 + (count + 2369) / 400
counted zero = rw no-years refl
counted (suc count) =
    let more : days_of_years (suc count) ≡ days_of_years count + year_length (1970 + count) = ap days_of_years (sym (add-one count)) ∙ years-more count in
    let step = steps (1970 + count) in
    omega (arith, more, step, counted count)

-- a cycle of 400 years has 146097 days
pub cycles : (count : ℕ) → days_of_years (count * 400) ≡ 146097 * count
cycles count = omega (arith, counted (count * 400))

-- the months of a leap year or of another
abbrev length_in : Bool → ℕ → ℕ
length_in leap month =
    if month == 2 then (if leap then 29 else 28)
    else (if (month == 4) || ((month == 6) || ((month == 9) || (month == 11))) then 30 else 31)

abbrev days_in : Bool → ℕ → ℕ
days_in leap zero = 0
days_in leap (suc count) = days_in leap count + length_in leap (suc count)

months-in : (year count : ℕ) → days_of_months year count ≡ days_in (is_leap year) count
unfolding days_of_months
months-in year zero = refl
months-in year (suc count) = ap (λ (days : ℕ). days + month_length year (suc count)) (months-in year count)

twelve : (leap : Bool) → days_in leap 12 ≡ (if leap then 366 else 365)
twelve true = refl
twelve false = refl

-- twelve months are a year
pub all-months : (year : ℕ) → days_of_months year 12 ≡ year_length year
all-months year = months-in year 12 ∙ twelve (is_leap year)

pub no-months : (year : ℕ) → days_of_months year 0 ≡ 0
unfolding days_of_months
no-months year = refl

months-suc : (year count : ℕ) → days_of_months year (suc count) ≡ days_of_months year count + month_length year (suc count)
unfolding days_of_months
months-suc year count = refl

-- one more month
pub months-more : (year month : ℕ) → 1 ≤ month → days_of_months year month ≡ days_of_months year (month - 1) + month_length year month
months-more year zero some = absurd (omega arith)
months-more year (suc count) some =
    let e : suc count - 1 ≡ count = omega arith in
    rw e (months-suc year count)

-- a month that ends within its year is not the last
pub not-last : (year month day rest : ℕ) → 1 ≤ month → month ≤ 12 → days_of_months year (month - 1) + rest ≡ day
    → day < year_length year → month_length year month ≤ rest → month + 1 ≤ 12
not-last year month day rest first last before within past = elim (cases_eq month 12) [
  | inr other ↦ omega arith
  | inl same ↦
      let all : days_of_months year month ≡ year_length year = ap (days_of_months year) same ∙ all-months year in
      let more = months-more year month first in
      absurd (omega (arith, all, more))
]
