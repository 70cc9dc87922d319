-- What follows from the definition of coalitions.
use Rattle.std.proofs.Common.{◌≡◌, inl, inr, ℕ, zero, suc, ◌+◌, ◌-◌, ◌*◌, ◌/◌, ◌^◌, ◌<◌, ◌≤◌, List, [], ◌∷◌, length, map, get_or, All, Contains, refl, sym, ◌∙◌, ap, subst, arith, lit<, add-one, pow-suc}
use Rattle.std.proofs.lemmas.Bool.{cases_eq, cases_lt}
use Rattle.std.proofs.Math.Nat.{le_trans, pow-le-pow_right}
use Rattle.std.proofs.lemmas.Nat.{pow_pos, div-mul-add}
use Rattle.std.proofs.lemmas.List.{length-append, length-map, get_or_append_left, get_or-append_right, get_or-map, nil_from_length}
use Rattle.std.proofs.lemmas.List.Elements.{All-cons, All-nil, All-weaker, All-contains, All-append, All-map, Contains-append_left, Contains-append_right}
use Rattle.coalition_map.specs.Members.{IsAscendingIn, member_numbers}
use Rattle.coalition_map.specs.MembersInside.{bits_of-member_numbers}
use Rattle.coalition_map.proofs.MemberLaws.{IsAscendingIn-lower, IsAscendingIn-trustees_from, member_numbers-within, bits_of-within}
use Rattle.coalition_map.specs.Coalitions.{subsets, binomial, PlanNumbers, count_of, coalition, IsSubset, IsPlan}

-- ---- how many
pub length-subsets-suc : (a m k : ℕ) → length (subsets a (suc m) (suc k)) ≡ length (subsets (a + 1) m k) + length (subsets (a + 1) m (suc k))
unfolding subsets
length-subsets-suc a m k = simp (length-append, length-map)

pub length-subsets : (a m k : ℕ) → length (subsets a m k) ≡ binomial m k
unfolding subsets binomial
length-subsets a zero zero = refl
length-subsets a (suc m) zero = refl
length-subsets a zero (suc k) = refl
length-subsets a (suc m) (suc k) = rw (length-subsets-suc a m k, length-subsets (a + 1) m k, length-subsets (a + 1) m (suc k)) refl

-- ---- binomials one after another
pub binomial-zero : (m : ℕ) → binomial m 0 ≡ 1
unfolding binomial
binomial-zero zero = refl
binomial-zero (suc m) = refl

absorbed : (m k x y z : ℕ) → suc (suc k) * z + suc k * x ≡ m * x → suc k * x + k * y ≡ m * y
    → suc (suc k) * (x + z) + suc k * (y + x) ≡ suc m * (y + x)
absorbed m k x y z p q = omega arith

pub binomial-next : (m k : ℕ) → suc k * binomial m (suc k) + k * binomial m k ≡ m * binomial m k
unfolding binomial
binomial-next zero zero = refl
binomial-next zero (suc k) = omega arith
binomial-next (suc m) zero =
    let ih : 1 * binomial m 1 + 0 * 1 ≡ m * 1 = rw (binomial-zero m) at (binomial-next m zero) in
    omega (arith, binomial-zero m)
binomial-next (suc m) (suc k) = absorbed m k (binomial m (suc k)) (binomial m k) (binomial m (suc (suc k))) (binomial-next m (suc k)) (binomial-next m k)

pub binomial-within : (m k : ℕ) → binomial m k ≤ 2 ^ m
unfolding binomial
binomial-within zero zero = omega arith
binomial-within (suc m) zero = omega (arith, pow_pos (suc m))
binomial-within zero (suc k) = omega arith
binomial-within (suc m) (suc k) = omega (arith, binomial-within m k, binomial-within m (suc k), pow-suc 2 m)

product : (x y d i n : ℕ) → n ≡ d + i → suc i * y + i * x ≡ n * x → x * d ≡ y * (i + 1)
product x y d i n e next = let step : suc i * y + i * x ≡ (d + i) * x = rw e at next in omega arith

pub binomial-quotient : (n i : ℕ) → i ≤ n → binomial n i * (n - i) / (i + 1) ≡ binomial n (i + 1)
binomial-quotient n i h =
    let next = binomial-next n i in
    let e : n ≡ n - i + i = omega arith in
    let whole : binomial n i * (n - i) ≡ binomial n (i + 1) * (i + 1) + 0 =
    rw add-one (product (binomial n i) (binomial n (suc i)) (n - i) i n e next ∙ omega arith) in
    rw whole (div-mul-add (binomial n (i + 1)) (i + 1) 0 (omega arith))

pub binomial-pos : (m k : ℕ) → k ≤ m → 0 < binomial m k
unfolding binomial
binomial-pos zero zero h = omega arith
binomial-pos (suc m) zero h = omega arith
binomial-pos zero (suc k) h = absurd (omega arith)
binomial-pos (suc m) (suc k) h = omega (arith, binomial-pos m k (omega arith))

pub binomial-small : (n i : ℕ) → n ≤ 12 → binomial n i ≤ 4096
binomial-small n i h = le_trans (binomial-within n i) (pow-le-pow_right (lit< tt) h)

-- ---- the members of a coalition
one_more : (a m k : ℕ) (l : List ℕ) → IsSubset (a + 1) (a + 1 + m) k l → IsSubset a (a + suc m) (suc k) (a ∷ l)
one_more a m k l h =
    let s : a + suc m ≡ a + 1 + m = omega arith in
    record { size = ap suc h.size; ascending = (omega arith, omega arith, rw s h.ascending) }

none_more : (a m k : ℕ) (l : List ℕ) → IsSubset (a + 1) (a + 1 + m) k l → IsSubset a (a + suc m) k l
none_more a m k l h =
    let s : a + suc m ≡ a + 1 + m = omega arith in
    record { size = h.size; ascending = rw s (IsAscendingIn-lower a (a + 1) (a + 1 + m) l (omega arith) h.ascending) }

pub All-subsets : (a m k : ℕ) → All (IsSubset a (a + m) k) (subsets a m k)
unfolding subsets
All-subsets a zero zero = All-cons (IsSubset a (a + 0) 0) [] [] (record { size = refl; ascending = tt }) (All-nil (IsSubset a (a + 0) 0))
All-subsets a (suc m) zero = All-cons (IsSubset a (a + suc m) 0) [] [] (record { size = refl; ascending = tt }) (All-nil (IsSubset a (a + suc m) 0))
All-subsets a zero (suc k) = All-nil (IsSubset a (a + 0) (suc k))
All-subsets a (suc m) (suc k) =
    All-append (IsSubset a (a + suc m) (suc k)) (map (λ rest. a ∷ rest) (subsets (a + 1) m k)) (subsets (a + 1) m (suc k))
    (All-map (IsSubset a (a + suc m) (suc k)) (λ rest. a ∷ rest) (subsets (a + 1) m k)
    (All-weaker (IsSubset (a + 1) (a + 1 + m) k) (λ l. IsSubset a (a + suc m) (suc k) (a ∷ l)) (one_more a m k) (subsets (a + 1) m k) (All-subsets (a + 1) m k)))
    (All-weaker (IsSubset (a + 1) (a + 1 + m) (suc k)) (IsSubset a (a + suc m) (suc k)) (none_more a m (suc k)) (subsets (a + 1) m (suc k)) (All-subsets (a + 1) m (suc k)))

-- ---- the place of a coalition in the order
pub subsets-with : (a m k i : ℕ) → i < length (subsets (a + 1) m k)
    → get_or (subsets a (suc m) (suc k)) i [] ≡ a ∷ get_or (subsets (a + 1) m k) i []
unfolding subsets
subsets-with a m k i h =
    get_or_append_left (map (λ rest. a ∷ rest) (subsets (a + 1) m k)) (subsets (a + 1) m (suc k)) [] i (rw length-map h)
    ∙ get_or-map (λ rest. a ∷ rest) (subsets (a + 1) m k) i [] [] h

pub subsets-without : (a m k i : ℕ)
    → get_or (subsets a (suc m) (suc k)) (length (subsets (a + 1) m k) + i) [] ≡ get_or (subsets (a + 1) m (suc k)) i []
unfolding subsets
subsets-without a m k i =
    let n : length (map (λ rest. a ∷ rest) (subsets (a + 1) m k)) ≡ length (subsets (a + 1) m k) = length-map _ _ in
    let e : length (subsets (a + 1) m k) + i - length (subsets (a + 1) m k) ≡ i = omega arith in
    get_or-append_right (map (λ rest. a ∷ rest) (subsets (a + 1) m k)) (subsets (a + 1) m (suc k)) (length (subsets (a + 1) m k)) (length (subsets (a + 1) m k) + i) [] n (omega arith)
    ∙ rw e refl

pub subsets-later : (a m k i : ℕ) → length (subsets (a + 1) m k) ≤ i
    → get_or (subsets a (suc m) (suc k)) i [] ≡ get_or (subsets (a + 1) m (suc k)) (i - length (subsets (a + 1) m k)) []
subsets-later a m k i h =
    let e : length (subsets (a + 1) m k) + (i - length (subsets (a + 1) m k)) ≡ i = omega arith in
    rw e at (subsets-without a m k (i - length (subsets (a + 1) m k)))

pub subsets-zero : (a m : ℕ) → subsets a m 0 ≡ [] ∷ []
unfolding subsets
subsets-zero a zero = refl
subsets-zero a (suc m) = refl

pub subsets-none : (a k : ℕ) → subsets a 0 (suc k) ≡ []
unfolding subsets
subsets-none a k = refl

pub IsSubset-at : (a m k i : ℕ) → i < length (subsets a m k) → IsSubset a (a + m) k (get_or (subsets a m k) i [])
IsSubset-at a m k i h = All-subsets a m k i [] h

-- there are no more members than numbers
pub length-IsAscendingIn : (a e : ℕ) (l : List ℕ) → a ≤ e → IsAscendingIn a e l → length l + a ≤ e
length-IsAscendingIn a e [] h asc = omega arith
length-IsAscendingIn a e (x ∷ xs) h asc = omega (arith, asc.0, length-IsAscendingIn (x + 1) e xs (omega (arith, asc.1)) asc.2)

pub subsets-room : (a m k i : ℕ) → i < length (subsets a m k) → k ≤ m
subsets-room a m k i h =
    let at : IsSubset a (a + m) k (get_or (subsets a m k) i []) = IsSubset-at a m k i h in
    omega (arith, at.size, length-IsAscendingIn a (a + m) (get_or (subsets a m k) i []) (omega arith) at.ascending)

-- ---- no coalition stands twice
same_rest : (a : ℕ) (xs ys : List ℕ) → a ∷ xs ≡ a ∷ ys → xs ≡ ys
same_rest a xs ys e = cc

apart : (a e : ℕ) (xs ys : List ℕ) → IsAscendingIn (a + 1) e ys → a ∷ xs ≡ ys → ⊥
apart a e xs ys asc s = let bad : IsAscendingIn (a + 1) e (a ∷ xs) = subst (λ l. IsAscendingIn (a + 1) e l) (sym s) asc in omega (arith, bad.0)

mixed : (a m k i j : ℕ) → i < length (subsets (a + 1) m k) → length (subsets (a + 1) m k) ≤ j → j < length (subsets a (suc m) (suc k))
    → get_or (subsets a (suc m) (suc k)) i [] ≡ get_or (subsets a (suc m) (suc k)) j [] → ⊥
mixed a m k i j p q within s =
    let total = length-subsets-suc a m k in
    let asc = (IsSubset-at (a + 1) m (suc k) (j - length (subsets (a + 1) m k)) (omega arith)).ascending in
    apart a (a + 1 + m) (get_or (subsets (a + 1) m k) i []) (get_or (subsets (a + 1) m (suc k)) (j - length (subsets (a + 1) m k)) []) asc
    (sym (subsets-with a m k i p) ∙ s ∙ subsets-later a m k j q)

pub subsets-distinct : (a m k i j : ℕ) → i < length (subsets a m k) → j < length (subsets a m k)
    → get_or (subsets a m k) i [] ≡ get_or (subsets a m k) j [] → i ≡ j
subsets-distinct a zero zero i j p q s = let n : length (subsets a 0 0) ≡ 1 = ap length (subsets-zero a 0) in omega arith
subsets-distinct a (suc m) zero i j p q s = let n : length (subsets a (suc m) 0) ≡ 1 = ap length (subsets-zero a (suc m)) in omega arith
subsets-distinct a zero (suc k) i j p q s = let n : length (subsets a 0 (suc k)) ≡ 0 = ap length (subsets-none a k) in absurd (omega arith)
subsets-distinct a (suc m) (suc k) i j p q s =
    let total = length-subsets-suc a m k in
    elim (cases_lt i (length (subsets (a + 1) m k))) [
      | inl i_with ↦ elim (cases_lt j (length (subsets (a + 1) m k))) [
        | inl j_with ↦
            subsets-distinct (a + 1) m k i j i_with j_with
            (same_rest a _ _ (sym (subsets-with a m k i i_with) ∙ s ∙ subsets-with a m k j j_with))
        | inr j_later ↦ absurd (mixed a m k i j i_with j_later q s)
      ]
      | inr i_later ↦ elim (cases_lt j (length (subsets (a + 1) m k))) [
        | inl j_with ↦ absurd (mixed a m k j i j_with i_later p (sym s))
        | inr j_later ↦
            let e = subsets-distinct (a + 1) m (suc k) (i - length (subsets (a + 1) m k)) (j - length (subsets (a + 1) m k)) (omega arith) (omega arith)
            (sym (subsets-later a m k i i_later) ∙ s ∙ subsets-later a m k j j_later) in
            omega arith
      ]
    ]

-- ---- the listed sets are the subsets of size k
pub IsSubset-listed : (n k : ℕ) (l : List ℕ) → Contains (subsets 1 n k) l → IsSubset 1 (n + 1) k l
IsSubset-listed n k l h =
    let e : 1 + n ≡ n + 1 = omega arith in
    rw e at (All-contains (IsSubset 1 (1 + n) k) (subsets 1 n k) l (All-subsets 1 n k) h)

pub IsSubset-from_bits : (n k b : ℕ) → n ≤ 16 → b < 2 ^ n → length (member_numbers b) ≡ k → IsSubset 1 (n + 1) k (member_numbers b)
IsSubset-from_bits n k b few small size =
    let e : 1 + n ≡ n + 1 = omega arith in
    record { size = size; ascending = rw (member_numbers-within b n few small) (rw e at (IsAscendingIn-trustees_from 1 n b)) }

pub bits-from_IsSubset : (n k b : ℕ) → b < 2 ^ 16 → IsSubset 1 (n + 1) k (member_numbers b) → b < 2 ^ n
bits-from_IsSubset n k b word h =
    let asc : IsAscendingIn 1 (suc n) (member_numbers b) = rw add-one at h.ascending in
    omega (arith, bits_of-within 0 n (member_numbers b) (omega arith) asc, bits_of-member_numbers b word)

-- ---- what a plan gives
pub count_of-is : (p : PlanNumbers) → count_of p ≡ binomial p.n p.k
count_of-is p = length-subsets 1 p.n p.k

pub count_of-pos : (p : PlanNumbers) → IsPlan p → 0 < count_of p
count_of-pos p plan = rw (count_of-is p) (binomial-pos p.n p.k plan.threshold.k_within)

pub IsSubset-coalition : (p : PlanNumbers) (c : ℕ) → c < count_of p → IsSubset 1 (p.n + 1) p.k (coalition p c)
IsSubset-coalition p c h =
    let e : 1 + p.n ≡ p.n + 1 = omega arith in
    rw e at (IsSubset-at 1 p.n p.k c h)

pub coalition-distinct : (p : PlanNumbers) (c d : ℕ) → c < count_of p → d < count_of p → coalition p c ≡ coalition p d → c ≡ d
coalition-distinct p c d hc hd e = subsets-distinct 1 p.n p.k c d hc hd e

-- ---- every subset of size k is listed
Contains-map : (a : ℕ) (l : List ℕ) (ls : List (List ℕ)) → Contains ls l → Contains (map (λ rest. a ∷ rest) ls) (a ∷ l)
Contains-map a l ls h =
    (h.0, rw length-map h.1, get_or-map (λ rest. a ∷ rest) ls h.0 l (a ∷ l) h.1 ∙ ap (λ rest. a ∷ rest) h.2)

listed_with : (a m k : ℕ) (xs : List ℕ) → Contains (subsets (a + 1) m k) xs → Contains (subsets a (suc m) (suc k)) (a ∷ xs)
unfolding subsets
listed_with a m k xs h =
    Contains-append_left (map (λ rest. a ∷ rest) (subsets (a + 1) m k)) (subsets (a + 1) m (suc k)) (a ∷ xs) (Contains-map a xs (subsets (a + 1) m k) h)

listed_without : (a m k : ℕ) (l : List ℕ) → Contains (subsets (a + 1) m (suc k)) l → Contains (subsets a (suc m) (suc k)) l
unfolding subsets
listed_without a m k l h =
    Contains-append_right (map (λ rest. a ∷ rest) (subsets (a + 1) m k)) (subsets (a + 1) m (suc k)) l h

pub Contains-subsets : (a m k : ℕ) (l : List ℕ) → IsSubset a (a + m) k l → Contains (subsets a m k) l
unfolding subsets
Contains-subsets a zero zero l h = (0, omega arith, sym (nil_from_length l h.size))
Contains-subsets a (suc m) zero l h = (0, omega arith, sym (nil_from_length l h.size))
Contains-subsets a zero (suc k) l h = absurd (omega (arith, h.size, length-IsAscendingIn a (a + 0) l (omega arith) h.ascending))
Contains-subsets a (suc m) (suc k) [] h = absurd (omega (arith, h.size))
Contains-subsets a (suc m) (suc k) (x ∷ xs) h =
    let s : a + suc m ≡ a + 1 + m = omega arith in
    let size : length xs ≡ k = omega (arith, h.size) in
    let rest : IsAscendingIn (x + 1) (a + 1 + m) xs = rw s at h.ascending.2 in
    elim (cases_eq x a) [
      | inl e ↦ rw e (listed_with a m k xs (Contains-subsets (a + 1) m k xs (record { size = size; ascending = rw e at rest })))
      | inr ne ↦
          listed_without a m k (x ∷ xs)
          (Contains-subsets (a + 1) m (suc k) (x ∷ xs)
          (record { size = h.size; ascending = (omega (arith, h.ascending.0), omega (arith, h.ascending.1), rest) }))
    ]
