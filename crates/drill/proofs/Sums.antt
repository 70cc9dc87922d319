-- Sums over the numbers below a bound.
use Rattle.std.proofs.Common.{◌≡◌, ◌≢◌, ◌⊎◌, ◌<◌, ◌≤◌, ◌+◌, ◌*◌, ◌%◌, ◌==◌, ℕ, zero, suc, if◌then◌else◌, inl, inr, refl, sym, ◌∙◌, ap, subst, arith}
use Rattle.std.proofs.lemmas.Bool.{cases_eq, cases_lt, eq-eqb, ne_eqb}
use Rattle.drill.specs.Counts.{sum_below, sum_in}
use Rattle.drill.specs.Schedules.{sessions_of}

pub sum-none : (f : ℕ → ℕ) → sum_below f 0 ≡ 0
unfolding sum_below
sum-none f = refl

pub sum-more : (f : ℕ → ℕ) (n : ℕ) → sum_below f (suc n) ≡ sum_below f n + f n
unfolding sum_below
sum-more f n = refl

pub sum-same : (f g : ℕ → ℕ) (n : ℕ) → ((k : ℕ) → k < n → g k ≡ f k) → sum_below g n ≡ sum_below f n
sum-same f g zero same = sum-none g ∙ sym (sum-none f)
sum-same f g (suc n) same =
    let rest = sum-same f g n (λ k below. same k (omega arith)) in
    let last = same n (omega arith) in
    sum-more g n ∙ (ap (λ (x : ℕ). x + g n) rest ∙ (ap (λ (x : ℕ). sum_below f n + x) last ∙ sym (sum-more f n)))

pub sum-zero : (f : ℕ → ℕ) (n : ℕ) → ((k : ℕ) → k < n → f k ≡ 0) → sum_below f n ≡ 0
sum-zero f zero none = sum-none f
sum-zero f (suc n) none =
    let a = sum-more f n in
    let rest = sum-zero f n (λ k below. none k (omega arith)) in
    let last = none n (omega arith) in
    omega arith

-- one value changes
pub sum-change : (f g : ℕ → ℕ) (n i : ℕ) → i < n → ((k : ℕ) → k < n → k ≢ i → g k ≡ f k) → sum_below g n + f i ≡ sum_below f n + g i
sum-change f g zero i inside others = absurd (omega arith)
sum-change f g (suc n) i inside others =
    let a = sum-more f n in
    let b = sum-more g n in
    elim (cases_eq i n) [
      | inl e ↦
          let rest = sum-same f g n (λ k below. others k (omega arith) (λ same. absurd (omega arith))) in
          let x : f i ≡ f n = ap f e in
          let y : g i ≡ g n = ap g e in
          omega arith
      | inr e ↦
          let rest = sum-change f g n i (omega arith) (λ k below other. others k (omega arith) other) in
          let last = others n (omega arith) (λ same. e (sym same)) in
          omega arith
    ]

pub sum-both : (f g h : ℕ → ℕ) (n : ℕ) → ((k : ℕ) → k < n → h k ≡ f k + g k) → sum_below h n ≡ sum_below f n + sum_below g n
sum-both f g h zero same = let a = sum-none f in let b = sum-none g in let e = sum-none h in omega arith
sum-both f g h (suc n) same =
    let a = sum-more f n in
    let b = sum-more g n in
    let e = sum-more h n in
    let rest = sum-both f g h n (λ k below. same k (omega arith)) in
    let last = same n (omega arith) in
    omega arith

pub sum-four : (f g : ℕ → ℕ) (n : ℕ) → ((k : ℕ) → k < n → f k ≡ 4 * g k) → sum_below f n ≡ 4 * sum_below g n
sum-four f g zero same = let a = sum-none f in let b = sum-none g in omega arith
sum-four f g (suc n) same =
    let a = sum-more f n in
    let b = sum-more g n in
    let rest = sum-four f g n (λ k below. same k (omega arith)) in
    let last = same n (omega arith) in
    omega arith

pub sum-most : (f g : ℕ → ℕ) (n : ℕ) → ((k : ℕ) → k < n → f k ≤ g k) → sum_below f n ≤ sum_below g n
sum-most f g zero low = let a = sum-none f in let b = sum-none g in omega arith
sum-most f g (suc n) low =
    let a = sum-more f n in
    let b = sum-more g n in
    let rest = sum-most f g n (λ k below. low k (omega arith)) in
    let last = low n (omega arith) in
    omega arith

pub sum-one : (f : ℕ → ℕ) (n i : ℕ) → i < n → f i ≤ sum_below f n
sum-one f zero i inside = absurd (omega arith)
sum-one f (suc n) i inside =
    let a = sum-more f n in
    elim (cases_eq i n) [
      | inl e ↦ let x : f i ≡ f n = ap f e in omega arith
      | inr e ↦ let rest = sum-one f n i (omega arith) in omega arith
    ]

-- values that are no more than others: all are equal, or one is less
pub record Less (f g : ℕ → ℕ) (n : ℕ) : Type 0 where
  pub place : ℕ
  pub within : place < n
  pub less : f place < g place

pub sum-or-less : (f g : ℕ → ℕ) (n : ℕ) → ((k : ℕ) → k < n → f k ≤ g k) → (sum_below f n ≡ sum_below g n) ⊎ Less f g n
sum-or-less f g zero low = inl (sum-none f ∙ sym (sum-none g))
sum-or-less f g (suc n) low =
    let a = sum-more f n in
    let b = sum-more g n in
    let last = low n (omega arith) in
    elim (sum-or-less f g n (λ k below. low k (omega arith))) [
      | inr by ↦ let w = by.within in inr (record { place = by.place; within = omega arith; less = by.less })
      | inl rest ↦ elim (cases_lt (f n) (g n)) [
        | inl less ↦ inr (record { place = n; within = omega arith; less = less })
        | inr same ↦ inl (omega arith)
      ]
    ]

-- ---- by coalition

pub own-value : (c i x : ℕ) → i % 3 ≡ c → (if i % 3 == c then x else 0) ≡ x
own-value c i x is = rw (eq-eqb (i % 3) c is) refl

pub no-value : (c i x : ℕ) → i % 3 ≢ c → (if i % 3 == c then x else 0) ≡ 0
no-value c i x other = rw (ne_eqb (i % 3) c other) refl

pub none-value : (c i x : ℕ) → x ≡ 0 → (if i % 3 == c then x else 0) ≡ 0
none-value c i x none = elim (cases_eq (i % 3) c) [ inl e ↦ own-value c i x e ∙ none | inr e ↦ no-value c i x e ]

by-rest : (i : ℕ) → (i % 3 ≡ 0) ⊎ ((i % 3 ≡ 1) ⊎ (i % 3 ≡ 2))
by-rest i = elim (cases_eq (i % 3) 0) [
  | inl e ↦ inl e
  | inr a ↦ elim (cases_eq (i % 3) 1) [ inl e ↦ inr (inl e) | inr b ↦ inr (inr (omega arith)) ]
]

parts : (i x : ℕ) → x ≡ (if i % 3 == 0 then x else 0) + ((if i % 3 == 1 then x else 0) + (if i % 3 == 2 then x else 0))
parts i x = elim (by-rest i) [
  | inl e ↦ rw e (omega arith)
  | inr more ↦ elim more [ inl e ↦ rw e (omega arith) | inr e ↦ rw e (omega arith) ]
]

-- the three coalitions together make up the whole sum
pub sum-parts : (f : ℕ → ℕ) (n : ℕ) → sum_below f n ≡ sum_in 0 f n + (sum_in 1 f n + sum_in 2 f n)
sum-parts f n =
    let a = λ (i : ℕ). if i % 3 == 0 then f i else 0 in
    let b = λ (i : ℕ). if i % 3 == 1 then f i else 0 in
    let e = λ (i : ℕ). if i % 3 == 2 then f i else 0 in
    let last : sum_below (λ (i : ℕ). b i + e i) n ≡ sum_below b n + sum_below e n = sum-both b e (λ (i : ℕ). b i + e i) n (λ k below. refl) in
    let all : sum_below f n ≡ sum_below a n + sum_below (λ (i : ℕ). b i + e i) n = sum-both a (λ (i : ℕ). b i + e i) f n (λ k below. parts k (f k)) in
    all ∙ ap (λ (x : ℕ). sum_below a n + x) last

one-more : (c n : ℕ) → c < 3 → sessions_of c (suc n) ≡ sessions_of c n + (if n % 3 == c then 1 else 0)
one-more c n small = elim (cases_eq (n % 3) c) [
  | inl e ↦ let one = own-value c n 1 e in subst (λ (x : ℕ). sessions_of c (suc n) ≡ sessions_of c n + x) (sym one) (omega arith)
  | inr e ↦ let one = no-value c n 1 e in subst (λ (x : ℕ). sessions_of c (suc n) ≡ sessions_of c n + x) (sym one) (omega arith)
]

-- how many of the first `n` are of a coalition
pub sum-sessions : (c n : ℕ) → c < 3 → sum_in c (λ i. 1) n ≡ sessions_of c n
sum-sessions c zero small = sum-none (λ (i : ℕ). if i % 3 == c then 1 else 0) ∙ omega arith
sum-sessions c (suc n) small =
    let a = sum-more (λ (i : ℕ). if i % 3 == c then 1 else 0) n in
    let rest = sum-sessions c n small in
    let more = one-more c n small in
    a ∙ (ap (λ (x : ℕ). x + (if n % 3 == c then 1 else 0)) rest ∙ sym more)
