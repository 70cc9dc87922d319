-- What follows from the definitions of sets of trustees.
use Rattle.std.proofs.Common.{◌≡◌, ◌⊎◌, inl, inr, ℕ, zero, suc, ◌+◌, ◌-◌, ◌*◌, ◌/◌, ◌%◌, ◌^◌, ◌<◌, ◌≤◌, List, [], ◌∷◌, ◌++◌, length, refl, sym, ◌∙◌, ap, arith, add-one, lit<, pow-suc, Contains, All, ltb}
use Rattle.std.proofs.Math.Nat.{pow-le-pow_right}
use Rattle.std.proofs.lemmas.Bool.{cases_order, lt-ltb, le-ltb, cases_eq, cond-true, cond-false}
use Rattle.std.proofs.lemmas.Nat.{ones_cat}
use Rattle.std.proofs.lemmas.Nat.Bits.{bit_at-suc, bit_at_lowest, shr_and_one}
use Rattle.std.proofs.lemmas.List.Elements.{Contains-append_right, Contains-append_cases, All-cons, All-nil, All-contains}
use Rattle.std.specs.List.Sorted.{IsStrictlyIncreasing}
use Rattle.std.specs.Int.{bit_at}
use lib.Bits.{bit_and}
use lib.Count.{ones}
use Rattle.coalition_map.specs.Members.{trustees_from, member_numbers, bits_of, IsAscendingIn, below}
use Rattle.coalition_map.specs.MembersInside.{trustees_from-in, trustees_from-out, half_below, below_one, bits_of-member_numbers}

pub member_numbers-distinct : (b d : ℕ) → b < 2 ^ 16 → d < 2 ^ 16 → member_numbers b ≡ member_numbers d → b ≡ d
member_numbers-distinct b d hb hd e = sym (bits_of-member_numbers b hb) ∙ ap bits_of e ∙ bits_of-member_numbers d hd

-- ---- how many
ones_halves : (b : ℕ) → ones b ≡ ones (b / 2) + ones (b % 2)
ones_halves b =
    let e : b ≡ b / 2 * 2 ^ 1 + b % 2 = omega arith in
    ap ones e ∙ ones_cat 1 (b / 2) (b % 2) (omega arith)

pub length-trustees_from : (a m b : ℕ) → b < 2 ^ m → length (trustees_from a m b) ≡ ones b
unfolding trustees_from ones
length-trustees_from a zero b h = rw (below_one b h) refl
length-trustees_from a (suc m) b h =
    let ih = length-trustees_from (a + 1) m (b / 2) (half_below b m h) in
    rw (ones_halves b)
    (elim (cases_eq (b % 2) 1) [
      | inl e ↦ rw (trustees_from-in a m b e, e, ih) (omega arith)
      | inr e ↦ let z : b % 2 ≡ 0 = omega arith in rw (trustees_from-out a m b e, z, ih) (omega arith)
    ])

pub length-member_numbers : (b : ℕ) → b < 2 ^ 16 → length (member_numbers b) ≡ ones b
unfolding member_numbers
length-member_numbers b h = length-trustees_from 1 16 b h

-- ---- the empty set
pub trustees_from-zero : (a m : ℕ) → trustees_from a m 0 ≡ []
unfolding trustees_from
trustees_from-zero a zero = refl
trustees_from-zero a (suc m) = rw (trustees_from-out a m 0 (omega arith)) (trustees_from-zero (a + 1) m)

-- ---- places above the highest bit add nothing
pub trustees_from-more : (a m more b : ℕ) → b < 2 ^ m → trustees_from a (m + more) b ≡ trustees_from a m b
unfolding trustees_from
trustees_from-more a zero more b h = rw (below_one b h) (trustees_from-zero a (0 + more))
trustees_from-more a (suc m) more b h =
    let s : suc m + more ≡ suc (m + more) = omega arith in
    let ih = trustees_from-more (a + 1) m more (b / 2) (half_below b m h) in
    elim (cases_eq (b % 2) 1) [
      | inl e ↦ rw (s, trustees_from-in a (m + more) b e, trustees_from-in a m b e, ih) refl
      | inr e ↦ rw (s, trustees_from-out a (m + more) b e, trustees_from-out a m b e, ih) refl
    ]

-- ---- one more bit, above the others
pub trustees_from-push : (a m j b : ℕ) → j < m → b < 2 ^ j → trustees_from a m (b + 2 ^ j) ≡ trustees_from a m b ++ (a + j) ∷ []
unfolding trustees_from
trustees_from-push a zero j b lt h = absurd (omega arith)
trustees_from-push a (suc m) zero b lt h =
    let z = below_one b h in
    let e : b + 2 ^ 0 ≡ 1 = omega arith in
    let s : a + 0 ≡ a = omega arith in
    rw (e, z, s, trustees_from-in a m 1 refl, trustees_from-out a m 0 (omega arith), trustees_from-zero (a + 1) m) refl
trustees_from-push a (suc m) (suc j) b lt h =
    let p : (b + 2 ^ suc j) / 2 ≡ b / 2 + 2 ^ j = omega (arith, pow-suc 2 j) in
    let q : (b + 2 ^ suc j) % 2 ≡ b % 2 = omega (arith, pow-suc 2 j) in
    let s : a + suc j ≡ a + 1 + j = omega arith in
    let ih = trustees_from-push (a + 1) m j (b / 2) (omega arith) (half_below b j h) in
    elim (cases_eq (b % 2) 1) [
      | inl e ↦ rw (trustees_from-in a m (b + 2 ^ suc j) (q ∙ e), trustees_from-in a m b e, p, s, ih) refl
      | inr e ↦ rw (trustees_from-out a m (b + 2 ^ suc j) (rw q e), trustees_from-out a m b e, p, s, ih) refl
    ]

pub member_numbers-zero : member_numbers 0 ≡ []
unfolding member_numbers
member_numbers-zero = trustees_from-zero 1 16

pub member_numbers-push : (b t : ℕ) → 1 ≤ t → t ≤ 16 → b < 2 ^ (t - 1) → member_numbers (b + 2 ^ (t - 1)) ≡ member_numbers b ++ t ∷ []
unfolding member_numbers
member_numbers-push b t low high h =
    let e : 1 + (t - 1) ≡ t = omega arith in
    rw e at (trustees_from-push 1 16 (t - 1) b (omega arith) h)

pub member_numbers-within : (b n : ℕ) → n ≤ 16 → b < 2 ^ n → member_numbers b ≡ trustees_from 1 n b
unfolding member_numbers
member_numbers-within b n most h =
    let e : n + (16 - n) ≡ 16 = omega arith in
    rw e at (trustees_from-more 1 n (16 - n) b h)

-- ---- membership
pub Contains-first : (x : ℕ) (xs : List ℕ) → Contains (x ∷ xs) x
Contains-first x xs = (0, omega arith, refl)

pub Contains-later : (x : ℕ) (xs : List ℕ) (t : ℕ) → Contains xs t → Contains (x ∷ xs) t
Contains-later x xs t h = Contains-append_right (x ∷ []) xs t h

pub Contains-cases : (x : ℕ) (xs : List ℕ) (t : ℕ) → Contains (x ∷ xs) t → (x ≡ t) ⊎ Contains xs t
Contains-cases x xs t h = elim (Contains-append_cases (x ∷ []) xs t h) [ inl one ↦ inl (only x t one) | inr rest ↦ inr rest ] where
  only : (x t : ℕ) → Contains (x ∷ []) t → x ≡ t
  only x t (zero, lt, e) = e
  only x t (suc k, lt, e) = absurd (omega arith)

pub Contains-nil : (t : ℕ) → Contains [] t → ⊥
Contains-nil t h = let lt : h.0 < 0 = h.1 in omega arith

-- a bit that is set is a trustee, and a trustee is a bit that is set
pub Contains-trustees_from : (a m b j : ℕ) → j < m → bit_at b j ≡ 1 → Contains (trustees_from a m b) (a + j)
Contains-trustees_from a zero b j lt h = absurd (omega arith)
Contains-trustees_from a (suc m) b zero lt h =
    let e : b % 2 ≡ 1 = sym (bit_at_lowest b) ∙ h in
    let s : a + 0 ≡ a = omega arith in
    rw (s, trustees_from-in a m b e) (Contains-first a (trustees_from (a + 1) m (b / 2)))
Contains-trustees_from a (suc m) b (suc j) lt h =
    let s : a + suc j ≡ a + 1 + j = omega arith in
    let ih = Contains-trustees_from (a + 1) m (b / 2) j (omega arith) (sym (bit_at-suc b j) ∙ h) in
    elim (cases_eq (b % 2) 1) [
      | inl e ↦ rw (s, trustees_from-in a m b e) (Contains-later a (trustees_from (a + 1) m (b / 2)) (a + 1 + j) ih)
      | inr e ↦ rw (s, trustees_from-out a m b e) ih
    ]

pub record IsBitOf (a m b t : ℕ) : Type 0 where
  pub from : a ≤ t
  pub within : t < a + m
  pub set : bit_at b (t - a) ≡ 1

bit_later : (a m b t : ℕ) → IsBitOf (a + 1) m (b / 2) t → IsBitOf a (suc m) b t
bit_later a m b t h =
    let from : a + 1 ≤ t = h.from in
    let e : t - a ≡ suc (t - (a + 1)) = omega arith in
    let set : bit_at b (t - a) ≡ 1 = rw (e, bit_at-suc b (t - (a + 1))) h.set in
    record { from = omega arith; within = omega arith; set = set }

pub bit_from-Contains : (a m b t : ℕ) → Contains (trustees_from a m b) t → IsBitOf a m b t
unfolding trustees_from
bit_from-Contains a zero b t h = absurd (Contains-nil t h)
bit_from-Contains a (suc m) b t h =
    elim (cases_eq (b % 2) 1) [
      | inl e ↦ elim (Contains-cases a (trustees_from (a + 1) m (b / 2)) t (rw (trustees_from-in a m b e) at h)) [
        | inl s ↦
            let z : t - a ≡ 0 = omega arith in
            let set : bit_at b (t - a) ≡ 1 = rw (z, bit_at_lowest b) e in
            record { from = omega arith; within = omega arith; set = set }
        | inr rest ↦ bit_later a m b t (bit_from-Contains (a + 1) m (b / 2) t rest)
      ]
      | inr e ↦ bit_later a m b t (bit_from-Contains (a + 1) m (b / 2) t (rw (trustees_from-out a m b e) at h))
    ]

pub has-member : (b t : ℕ) → 1 ≤ t → t ≤ 16 → bit_and (b / 2 ^ (t - 1)) 1 ≡ 1 → Contains (member_numbers b) t
unfolding member_numbers
has-member b t low high e =
    let s : 1 + (t - 1) ≡ t = omega arith in
    rw s at (Contains-trustees_from 1 16 b (t - 1) (omega arith) (sym (shr_and_one b (t - 1)) ∙ e))

pub member-has : (b t : ℕ) → Contains (member_numbers b) t → bit_and (b / 2 ^ (t - 1)) 1 ≡ 1
unfolding member_numbers
member-has b t h = shr_and_one b (t - 1) ∙ (bit_from-Contains 1 16 b t h).set

pub member-within : (b t : ℕ) → Contains (member_numbers b) t → (1 ≤ t) × (t ≤ 16)
unfolding member_numbers
member-within b t h = let bit = bit_from-Contains 1 16 b t h in (bit.from, omega (arith, bit.within))

-- ---- ascending lists
pub IsAscendingIn-lower : (a b e : ℕ) (l : List ℕ) → a ≤ b → IsAscendingIn b e l → IsAscendingIn a e l
IsAscendingIn-lower a b e [] h asc = tt
IsAscendingIn-lower a b e (t ∷ ts) h asc = (omega (arith, asc.0), asc.1, asc.2)

pub All-from_IsAscendingIn : (a e : ℕ) (l : List ℕ) → IsAscendingIn a e l → All (λ t. (a ≤ t) × (t < e)) l
All-from_IsAscendingIn a e [] asc = All-nil (λ t. (a ≤ t) × (t < e))
All-from_IsAscendingIn a e (x ∷ xs) asc =
    All-cons (λ t. (a ≤ t) × (t < e)) x xs (asc.0, asc.1)
    (All-from_IsAscendingIn a e xs (IsAscendingIn-lower a (x + 1) e xs (omega (arith, asc.0)) asc.2))

pub IsStrictlyIncreasing-from_IsAscendingIn : (a e : ℕ) (l : List ℕ) → IsAscendingIn a e l → IsStrictlyIncreasing l
IsStrictlyIncreasing-from_IsAscendingIn a e [] asc k h = absurd (omega arith)
IsStrictlyIncreasing-from_IsAscendingIn a e (x ∷ []) asc k h = absurd (omega arith)
IsStrictlyIncreasing-from_IsAscendingIn a e (x ∷ y ∷ ys) asc zero h = omega (arith, asc.2.0)
IsStrictlyIncreasing-from_IsAscendingIn a e (x ∷ y ∷ ys) asc (suc k) h =
    rw (add-one (suc k)) (rw (add-one k) at (IsStrictlyIncreasing-from_IsAscendingIn (x + 1) e (y ∷ ys) asc.2 k (omega arith)))

pub IsAscendingIn-trustees_from : (a m b : ℕ) → IsAscendingIn a (a + m) (trustees_from a m b)
unfolding trustees_from
IsAscendingIn-trustees_from a zero b = tt
IsAscendingIn-trustees_from a (suc m) b =
    let s : a + suc m ≡ a + 1 + m = omega arith in
    let ih = IsAscendingIn-trustees_from (a + 1) m (b / 2) in
    elim (cases_eq (b % 2) 1) [
      | inl e ↦ rw (trustees_from-in a m b e) (omega arith, omega arith, rw s ih)
      | inr e ↦ rw (trustees_from-out a m b e, s) (IsAscendingIn-lower a (a + 1) (a + 1 + m) (trustees_from (a + 1) m (b / 2)) (omega arith) ih)
    ]

-- the bits of trustees below 1 + e are below 2 ^ e
pow_more : (a b : ℕ) → a ≤ b → 2 ^ a ≤ 2 ^ b
pow_more a b h = pow-le-pow_right (lit< tt) h

pub bits_of-within : (a e : ℕ) (l : List ℕ) → a ≤ e → IsAscendingIn (suc a) (suc e) l → bits_of l + 2 ^ a ≤ 2 ^ e
unfolding bits_of
bits_of-within a e [] h asc = omega (arith, pow_more a e h)
bits_of-within a e (suc x ∷ xs) h asc =
    let s : suc x + 1 ≡ suc (suc x) = omega arith in
    let l : suc x - 1 ≡ x = omega arith in
    let in_e : suc x < suc e = asc.1 in
    let ih : bits_of xs + 2 ^ suc x ≤ 2 ^ e = bits_of-within (suc x) e xs (omega arith) (rw s at asc.2) in
    rw l (omega (arith, pow_more a x (omega (arith, asc.0)), pow-suc 2 x))
bits_of-within a e (zero ∷ xs) h asc = absurd (omega (arith, asc.0))

-- ---- the trustees below a number, for a walk over 1 .. n
kept : (t x : ℕ) (xs : List ℕ) → x < t → below t (x ∷ xs) ≡ x ∷ below t xs
kept t x xs h = cond-true (ltb x t) (x ∷ below t xs) (below t xs) (lt-ltb x t h)

left_out : (t x : ℕ) (xs : List ℕ) → t ≤ x → below t (x ∷ xs) ≡ below t xs
left_out t x xs h = cond-false (ltb x t) (x ∷ below t xs) (below t xs) (le-ltb x t h)

pub below-all : (a e t : ℕ) (l : List ℕ) → IsAscendingIn a e l → e ≤ t → below t l ≡ l
below-all a e t [] asc h = refl
below-all a e t (x ∷ xs) asc h = rw (kept t x xs (omega (arith, asc.1)), below-all (x + 1) e t xs asc.2 h) refl

pub below-none : (a e t : ℕ) (l : List ℕ) → IsAscendingIn a e l → t ≤ a → below t l ≡ []
below-none a e t [] asc h = refl
below-none a e t (x ∷ xs) asc h =
    rw (left_out t x xs (omega (arith, asc.0))) (below-none (x + 1) e t xs asc.2 (omega (arith, asc.0)))

-- one more trustee that is in the set
unequal : (x t : ℕ) (xs : List ℕ) → (x ≡ t → ⊥) → Contains (x ∷ xs) t → Contains xs t
unequal x t xs ne h = elim (Contains-cases x xs t h) [ inl e ↦ absurd (ne e) | inr rest ↦ rest ]

pub below-more_in : (a e t : ℕ) (l : List ℕ) → IsAscendingIn a e l → Contains l t → below (t + 1) l ≡ below t l ++ t ∷ []
below-more_in a e t [] asc h = absurd (Contains-nil t h)
below-more_in a e t (x ∷ xs) asc h = elim (cases_order x t) [
  | inl same ↦
      let from : IsAscendingIn (t + 1) e xs = rw same at asc.2 in
      rw (same, kept (t + 1) t xs (omega arith), left_out t t xs (omega arith), below-none (t + 1) e (t + 1) xs from (omega arith), below-none (t + 1) e t xs from (omega arith)) refl
  | inr (inl less) ↦ rw (kept (t + 1) x xs (omega arith), kept t x xs less)
      (ap (λ l. x ∷ l) (below-more_in (x + 1) e t xs asc.2 (unequal x t xs (λ s. omega arith) h)))
  | inr (inr more) ↦
      let rest : Contains xs t = unequal x t xs (λ s. omega arith) h in
      let above = All-contains (λ t. (x + 1 ≤ t) × (t < e)) xs t (All-from_IsAscendingIn (x + 1) e xs asc.2) rest in
      absurd (omega (arith, above.0))
]

-- and one that is not
pub below-more_out : (t : ℕ) (l : List ℕ) → (Contains l t → ⊥) → below (t + 1) l ≡ below t l
below-more_out t [] h = refl
below-more_out t (x ∷ xs) h =
    let ih = below-more_out t xs (λ c. h (Contains-later x xs t c)) in
    elim (cases_order x t) [
      | inl same ↦ absurd (h (rw same (Contains-first t xs)))
      | inr (inl less) ↦ rw (kept (t + 1) x xs (omega arith), kept t x xs less, ih) refl
      | inr (inr more) ↦ rw (left_out (t + 1) x xs (omega arith), left_out t x xs (omega arith), ih) refl
    ]
