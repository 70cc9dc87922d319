-- From a number to the coalition: the state of the walk over the trustees.
use Rattle.std.proofs.Common.{◌≡◌, ℕ, zero, suc, ◌+◌, ◌-◌, ◌*◌, ◌%◌, ◌^◌, ◌<◌, ◌≤◌, List, [], ◌∷◌, ◌++◌, length, get_or, refl, sym, ◌∙◌, arith, append_assoc, pow-suc}
use Rattle.std.proofs.lemmas.Nat.{or_shifted, or_comm, one_shl}
use Rattle.std.proofs.lemmas.List.{append-nil}
use lib.Bits.{bit_or}
use Rattle.coalition_map.specs.Members.{member_numbers}
use Rattle.coalition_map.proofs.MemberLaws.{member_numbers-push, member_numbers-zero}
use Rattle.coalition_map.specs.Coalitions.{subsets, binomial}
use Rattle.coalition_map.proofs.CoalitionLaws.{length-subsets, subsets-with, subsets-later, length-subsets-suc, subsets-zero, subsets-room}

-- `bits` are the members below `trustee`; with `wanted` of the `left` trustees from there on, those of place `rest` in
-- their own order, they are coalition c
pub record Unranking (n k c bits trustee wanted rest left : ℕ) : Type 0 where
  pub span : trustee + left ≡ n + 1
  pub from : 1 ≤ trustee
  pub within : rest < length (subsets trustee left wanted)
  pub low : bits < 2 ^ (trustee - 1)
  pub place : get_or (subsets 1 n k) c [] ≡ member_numbers bits ++ get_or (subsets trustee left wanted) rest []

pub start : (n k c : ℕ) → c < length (subsets 1 n k) → Unranking n k c 0 1 k c n
start n k c h = record { span = omega arith; from = omega arith; within = h; low = omega arith; place = rw member_numbers-zero refl }

pub room : (n k c bits trustee wanted rest left : ℕ) → Unranking n k c bits trustee wanted rest left → wanted ≤ left
room n k c bits trustee wanted rest left s = subsets-room trustee left wanted rest s.within

-- a bit above the others is added
pub or_above : (b j : ℕ) → j < 16 → b < 2 ^ j → bit_or b (1 * 2 ^ j % 2 ^ 16) ≡ b + 2 ^ j
or_above b j h low =
    let one : 1 * 2 ^ j % 2 ^ 16 ≡ 1 * 2 ^ j = one_shl j 16 h ∙ omega arith in
    rw (one, or_comm b (1 * 2 ^ j), or_shifted 1 j b low) (omega arith)

-- the trustee is in
taken : (n k c bits t w rest m : ℕ) → t ≤ 16 → rest < length (subsets (t + 1) m w)
    → Unranking n k c bits t (suc w) rest (suc m) → Unranking n k c (bits + 2 ^ (t - 1)) (t + 1) w rest m
taken n k c bits t w rest m most here s = record {
  span = omega (arith, s.span);
  from = omega arith;
  within = here;
  low = (let e : t + 1 - 1 ≡ suc (t - 1) = omega (arith, s.from) in rw (e, pow-suc 2 (t - 1)) (omega (arith, s.low)));
  place = s.place ∙ rw (subsets-with t m w rest here, member_numbers-push bits t s.from most s.low, append_assoc) refl;
}

-- the trustee is out
passed : (n k c bits t w rest m : ℕ) → length (subsets (t + 1) m w) ≤ rest
    → Unranking n k c bits t (suc w) rest (suc m) → Unranking n k c bits (t + 1) (suc w) (rest - length (subsets (t + 1) m w)) m
passed n k c bits t w rest m there s = record {
  span = omega (arith, s.span);
  from = omega arith;
  within = omega (arith, s.within, length-subsets-suc t m w);
  low = (let e : t + 1 - 1 ≡ suc (t - 1) = omega (arith, s.from) in rw (e, pow-suc 2 (t - 1)) (omega (arith, s.low)));
  place = s.place ∙ rw (subsets-later t m w rest there) refl;
}

-- ---- the same in the form of the loop
pub record IsTurn (n t wanted : ℕ) : Type 0 where
  pub t_within : t ≤ n
  pub fits : wanted - 1 ≤ n - t

pub turn : (n k c bits t wanted rest : ℕ) → 0 < wanted → Unranking n k c bits t wanted rest (n + 1 - t) → IsTurn n t wanted
turn n k c bits t wanted rest some s =
    let enough = room n k c bits t wanted rest (n + 1 - t) s in
    record { t_within = omega arith; fits = omega arith }

opened : (n k c bits t wanted rest : ℕ) → 0 < wanted → t ≤ n
    → Unranking n k c bits t wanted rest (n + 1 - t) → Unranking n k c bits t (suc (wanted - 1)) rest (suc (n - t))
opened n k c bits t wanted rest some within s =
    let left : n + 1 - t ≡ suc (n - t) = omega arith in
    let more : wanted ≡ suc (wanted - 1) = omega arith in
    rw (← more, ← left) s

pub step_taken : (n k c bits t wanted rest : ℕ) → n ≤ 12 → 0 < wanted → t ≤ n → rest < binomial (n - t) (wanted - 1)
    → Unranking n k c bits t wanted rest (n + 1 - t)
    → Unranking n k c (bit_or bits (1 * 2 ^ (t - 1) % 2 ^ 16)) (t + 1) (wanted - 1) rest (n + 1 - (t + 1))
step_taken n k c bits t wanted rest few some within here s =
    let left : n + 1 - (t + 1) ≡ n - t = omega arith in
    rw (left, or_above bits (t - 1) (omega arith) s.low)
    (taken n k c bits t (wanted - 1) rest (n - t) (omega arith) (rw (length-subsets (t + 1) (n - t) (wanted - 1)) here) (opened n k c bits t wanted rest some within s))

pub step_passed : (n k c bits t wanted rest : ℕ) → 0 < wanted → t ≤ n → binomial (n - t) (wanted - 1) ≤ rest
    → Unranking n k c bits t wanted rest (n + 1 - t)
    → Unranking n k c bits (t + 1) wanted (rest - binomial (n - t) (wanted - 1)) (n + 1 - (t + 1))
step_passed n k c bits t wanted rest some within there s =
    let left : n + 1 - (t + 1) ≡ n - t = omega arith in
    let more : wanted ≡ suc (wanted - 1) = omega arith in
    let count = length-subsets (t + 1) (n - t) (wanted - 1) in
    let next = passed n k c bits t (wanted - 1) rest (n - t) (rw count there) (opened n k c bits t wanted rest some within s) in
    rw (left, ← count) (rw (← more) at next)

single : (i : ℕ) → get_or {A = List ℕ} ([] ∷ []) i [] ≡ []
single zero = refl
single (suc i) = refl

pub ended : (n k c bits t wanted rest left : ℕ) → wanted ≤ 0 → Unranking n k c bits t wanted rest left → member_numbers bits ≡ get_or (subsets 1 n k) c []
ended n k c bits t wanted rest left none s =
    let z : wanted ≡ 0 = omega arith in
    let one : get_or (subsets t left wanted) rest [] ≡ [] = rw (z, subsets-zero t left) (single rest) in
    sym (s.place ∙ rw one (append-nil (member_numbers bits)))
