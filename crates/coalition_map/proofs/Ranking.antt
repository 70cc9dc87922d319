-- From a coalition to its number: the state of the walk over the trustees.
use Rattle.std.proofs.Common.{◌≡◌, ◌≢◌, ℕ, suc, ◌+◌, ◌-◌, ◌/◌, ◌%◌, ◌^◌, ◌<◌, ◌≤◌, List, [], ◌∷◌, length, get_or, refl, ◌∙◌, ap, arith}
use Rattle.std.proofs.lemmas.List.{nil_from_length}
use Rattle.coalition_map.specs.Members.{trustees_from, member_numbers}
use Rattle.coalition_map.specs.MembersInside.{trustees_from-in, trustees_from-out}
use Rattle.coalition_map.proofs.MemberLaws.{member_numbers-within, IsAscendingIn-trustees_from}
use Rattle.coalition_map.specs.Coalitions.{subsets, binomial}
use Rattle.coalition_map.proofs.CoalitionLaws.{length-subsets, length-subsets-suc, subsets-with, subsets-without, subsets-zero, length-IsAscendingIn}

-- `bits` are the `wanted` members among the `left` trustees from `trustee` on; whatever place these have in their own
-- order, the members have that place, counted from `number`, in the order of all
pub record Ranking (n k : ℕ) (members : List ℕ) (bits trustee wanted number left : ℕ) : Type 0 where
  pub span : trustee + left ≡ n + 1
  pub size : length (trustees_from trustee left bits) ≡ wanted
  pub within : number + length (subsets trustee left wanted) ≤ length (subsets 1 n k)
  pub place : (r : ℕ) → r < length (subsets trustee left wanted) → get_or (subsets trustee left wanted) r [] ≡ trustees_from trustee left bits
      → get_or (subsets 1 n k) (number + r) [] ≡ members

pub start : (n k bits : ℕ) → n ≤ 16 → bits < 2 ^ n → length (member_numbers bits) ≡ k → Ranking n k (member_numbers bits) bits 1 k 0 n
start n k bits few small size =
    let same = member_numbers-within bits n few small in
    record {
      span = omega arith;
      size = rw same at size;
      within = omega arith;
      place = (λ r h e. let z : 0 + r ≡ r = omega arith in rw (z, same) e);
    }

pub room : (n k : ℕ) (members : List ℕ) (bits trustee wanted number left : ℕ) → Ranking n k members bits trustee wanted number left → wanted ≤ left
room n k members bits trustee wanted number left s =
    omega (arith, s.size, length-IsAscendingIn trustee (trustee + left) (trustees_from trustee left bits) (omega arith) (IsAscendingIn-trustees_from trustee left bits))

-- the trustee is in
taken : (n k : ℕ) (members : List ℕ) (bits t w number m : ℕ) → bits % 2 ≡ 1
    → Ranking n k members bits t (suc w) number (suc m) → Ranking n k members (bits / 2) (t + 1) w number m
taken n k members bits t w number m e s =
    let split = trustees_from-in t m bits e in
    record {
      span = omega (arith, s.span);
      size = (let more : suc (length (trustees_from (t + 1) m (bits / 2))) ≡ suc w = rw split at s.size in omega arith);
      within = omega (arith, s.within, length-subsets-suc t m w);
      place = (λ r h same. s.place r (omega (arith, length-subsets-suc t m w)) (rw (subsets-with t m w r h, split, same) refl));
    }

-- the trustee is out
passed : (n k : ℕ) (members : List ℕ) (bits t w number m : ℕ) → bits % 2 ≢ 1
    → Ranking n k members bits t (suc w) number (suc m) → Ranking n k members (bits / 2) (t + 1) (suc w) (number + length (subsets (t + 1) m w)) m
passed n k members bits t w number m e s =
    let split = trustees_from-out t m bits e in
    record {
      span = omega (arith, s.span);
      size = rw split at s.size;
      within = omega (arith, s.within, length-subsets-suc t m w);
      place = (λ r h same.
          let sum : number + length (subsets (t + 1) m w) + r ≡ number + (length (subsets (t + 1) m w) + r) = omega arith in
          rw sum (s.place (length (subsets (t + 1) m w) + r) (omega (arith, length-subsets-suc t m w)) (rw (subsets-without t m w r, split, same) refl)));
    }

-- ---- the same in the form of the loop
opened : (n k : ℕ) (members : List ℕ) (bits t wanted number : ℕ) → 0 < wanted → t ≤ n
    → Ranking n k members bits t wanted number (n + 1 - t) → Ranking n k members bits t (suc (wanted - 1)) number (suc (n - t))
opened n k members bits t wanted number some within s =
    let left : n + 1 - t ≡ suc (n - t) = omega arith in
    let more : wanted ≡ suc (wanted - 1) = omega arith in
    rw (← more, ← left) s

pub record IsTurn (n k t wanted number : ℕ) : Type 0 where
  pub t_within : t ≤ n
  pub fits : wanted - 1 ≤ n - t
  pub below : number + binomial (n - t) (wanted - 1) ≤ binomial n k

pub turn : (n k : ℕ) (members : List ℕ) (bits t wanted number : ℕ) → 0 < wanted → Ranking n k members bits t wanted number (n + 1 - t) → IsTurn n k t wanted number
turn n k members bits t wanted number some s =
    let enough = room n k members bits t wanted number (n + 1 - t) s in
    let within : t ≤ n = omega arith in
    let open' = opened n k members bits t wanted number some within s in
    record {
      t_within = within;
      fits = omega arith;
      below = omega (arith, open'.within, length-subsets-suc t (n - t) (wanted - 1), length-subsets (t + 1) (n - t) (wanted - 1), length-subsets 1 n k);
    }

pub step_taken : (n k : ℕ) (members : List ℕ) (bits t wanted number : ℕ) → bits % 2 ≡ 1 → 0 < wanted → t ≤ n
    → Ranking n k members bits t wanted number (n + 1 - t) → Ranking n k members (bits / 2) (t + 1) (wanted - 1) number (n + 1 - (t + 1))
step_taken n k members bits t wanted number e some within s =
    let left : n + 1 - (t + 1) ≡ n - t = omega arith in
    rw left (taken n k members bits t (wanted - 1) number (n - t) e (opened n k members bits t wanted number some within s))

pub step_passed : (n k : ℕ) (members : List ℕ) (bits t wanted number : ℕ) → bits % 2 ≢ 1 → 0 < wanted → t ≤ n
    → Ranking n k members bits t wanted number (n + 1 - t)
    → Ranking n k members (bits / 2) (t + 1) wanted (number + binomial (n - t) (wanted - 1)) (n + 1 - (t + 1))
step_passed n k members bits t wanted number e some within s =
    let left : n + 1 - (t + 1) ≡ n - t = omega arith in
    let more : wanted ≡ suc (wanted - 1) = omega arith in
    let next = passed n k members bits t (wanted - 1) number (n - t) e (opened n k members bits t wanted number some within s) in
    rw (left, ← length-subsets (t + 1) (n - t) (wanted - 1)) (rw (← more) at next)

pub record IsPlaceOf (n k number : ℕ) (members : List ℕ) : Type 0 where
  pub within : number < length (subsets 1 n k)
  pub at : get_or (subsets 1 n k) number [] ≡ members

pub ended : (n k : ℕ) (members : List ℕ) (bits t wanted number left : ℕ) → wanted ≤ 0 → Ranking n k members bits t wanted number left → IsPlaceOf n k number members
ended n k members bits t wanted number left none s =
    let z : wanted ≡ 0 = omega arith in
    let one : subsets t left wanted ≡ [] ∷ [] = rw z (subsets-zero t left) in
    let count : length (subsets t left wanted) ≡ 1 = ap length one in
    let nothing : trustees_from t left bits ≡ [] = nil_from_length (trustees_from t left bits) (s.size ∙ z) in
    let sum : number + 0 ≡ number = omega arith in
    record {
      within = omega (arith, s.within);
      at = rw sum at (s.place 0 (omega arith) (rw (one, nothing) refl));
    }
