-- The bits of the trustees that are blamed, one trustee after another.
use Rattle.std.proofs.Common.{Contains, ◌≡◌, ◌<◌, ◌≤◌, ◌+◌, ◌-◌, ◌*◌, ◌%◌, ◌^◌, ℕ, suc, List, [], ◌∷◌, ◌++◌, inl, inr, ap, arith, pow-suc, ◌∙◌}
use Rattle.std.specs.Prelude.{◌↔◌, Bool, IfOk, IsTrue, Result, Ok, Err}
use Rattle.std.proofs.Math.Nat.{pow-le-pow_right}
use Rattle.std.proofs.lemmas.Bool.{cases_eq}
use Rattle.std.proofs.lemmas.List.Elements.{All-contains, Contains-append_left, Contains-push, Contains-push_cases}
use Rattle.coalition_map.specs.Coalitions.{leaf_members}
use Rattle.coalition_map.specs.Members.{member_numbers}
use Rattle.coalition_map.proofs.MemberLaws.{All-from_IsAscendingIn, Contains-nil, member_numbers-push, member_numbers-zero}
use Rattle.session_core.specs.State.{IsSession, State}
use Rattle.share_blame.specs.Blamed.{AreBlamed, FirstDiffers, IsBlamed, SecondDiffers, by_first, by_second}
use Rattle.share_blame.proofs.Kept.{kept-first, kept-second}

-- the bits stay below that of the next trustee
pub record IsBelow (t bits : ℕ) : Type 0 where
  pub one : 1 ≤ t
  pub small : bits < 2 ^ (t - 1)

-- they are those of the trustees before it for which P holds
abbrev pub AreNamed : (ℕ → Type 0) → ℕ → ℕ → Type 0
AreNamed P t bits = (x : ℕ) → Contains (member_numbers bits) x ↔ ((1 ≤ x) × (x < t) × P x)

pub below-none : IsBelow 1 0
below-none = record { one = omega arith; small = omega arith }

pub named-none : (P : ℕ → Type 0) → AreNamed P 1 0
named-none P x = ((λ member. absurd (Contains-nil x (rw member_numbers-zero at member))), (λ h. absurd (omega (arith, h.0, h.1))))

-- one more bit
record IsMore (t bits now : ℕ) : Type 0 where
  now_is : now ≡ bits + 2 ^ (t - 1)
  twice : 2 ^ t ≡ 2 * 2 ^ (t - 1)

more : (t bits now : ℕ) → 1 ≤ t → t ≤ 12 → now ≡ bits + (1 * 2 ^ (t - 1)) % 65536 → IsMore t bits now
more t bits now one few grown =
    let least : t - 1 ≤ 11 = omega arith in
    let small : 2 ^ (t - 1) ≤ 2 ^ 11 = pow-le-pow_right (omega arith) least in
    let next : t ≡ suc (t - 1) = omega arith in
    let double : 2 ^ suc (t - 1) ≡ 2 * 2 ^ (t - 1) = omega (arith, pow-suc 2 (t - 1)) in
    record { now_is = omega (arith, grown, small); twice = ap (λ m. 2 ^ m) next ∙ double }

pub below-more : (t bits now : ℕ) → IsBelow t bits → t ≤ 12 → now ≡ bits + (1 * 2 ^ (t - 1)) % 65536 → IsBelow (t + 1) now
below-more t bits now b few grown =
    let m = more t bits now b.one few grown in
    let same : t + 1 - 1 ≡ t = omega arith in
    record { one = omega arith; small = rw same (omega (arith, m.now_is, m.twice, b.small)) }

pub below-other : (t bits : ℕ) → IsBelow t bits → t ≤ 12 → IsBelow (t + 1) bits
below-other t bits b few =
    let same : t + 1 - 1 ≡ t = omega arith in
    let least : t - 1 ≤ t = omega arith in
    let larger : 2 ^ (t - 1) ≤ 2 ^ t = pow-le-pow_right (omega arith) least in
    record { one = omega arith; small = rw same (omega (arith, b.small, larger)) }

pub named-more : (P : ℕ → Type 0) (t bits now : ℕ) → IsBelow t bits → t ≤ 12 → now ≡ bits + (1 * 2 ^ (t - 1)) % 65536 → P t → AreNamed P t bits
    → AreNamed P (t + 1) now
named-more P t bits now b few grown holds before x =
    let m = more t bits now b.one few grown in
    let pushed : member_numbers now ≡ member_numbers bits ++ t ∷ [] = rw m.now_is (member_numbers-push bits t b.one (omega arith) b.small) in (
      (λ member. elim (Contains-push_cases (member_numbers bits) t x (rw pushed at member)) [
        | inl h ↦ let old = (before x).0 h in (old.0, omega (arith, old.1), old.2)
        | inr same ↦ (rw (← same) b.one, omega (arith, same), rw (← same) holds)
      ]),
      (λ h. elim (cases_eq x t) [
        | inl same ↦ rw (pushed, same) (Contains-push (member_numbers bits) t)
        | inr other ↦ rw pushed (Contains-append_left (member_numbers bits) (t ∷ []) x ((before x).1 (h.0, omega (arith, h.1), h.2)))
      ]),
    )

pub named-other : (P : ℕ → Type 0) (t bits : ℕ) → (P t → ⊥) → AreNamed P t bits → AreNamed P (t + 1) bits
named-other P t bits not before x = (
  (λ member. let old = (before x).0 member in (old.0, omega (arith, old.1), old.2)),
  (λ h. elim (cases_eq x t) [
    | inl same ↦ absurd (not (rw same at h.2))
    | inr other ↦ (before x).1 (h.0, omega (arith, h.1), h.2)
  ]),
)

-- any trustee that is blamed is a trustee of the plan
record IsTrustee (s : State) (t : ℕ) : Type 0 where
  first : 1 ≤ t
  last : t < s.plan.n + 1

a_member : (s : State) (t : ℕ) → IsSession s → Contains (leaf_members s.plan s.leaf) t → IsTrustee s t
a_member s t session member =
    let range = All-contains (λ x. (1 ≤ x) × (x < s.plan.n + 1)) (leaf_members s.plan s.leaf) t (All-from_IsAscendingIn 1 (s.plan.n + 1) (leaf_members s.plan s.leaf) session.ascending) member in
    record { first = range.0; last = range.1 }

trustee-of : (leaves : List ℕ) (s : State) (digest : List ℕ) (t : ℕ) → IsSession s → IsBlamed leaves s digest t → IsTrustee s t
trustee-of leaves s digest t session (by_first f) = a_member s t session (kept-first s t f.mask session f.kept).member
trustee-of leaves s digest t session (by_second f) = a_member s t session (kept-second s t f.masks session f.kept).member

pub named-all : (leaves : List ℕ) (s : State) (digest : List ℕ) (t bits : ℕ) → IsSession s → t ≡ s.plan.n + 1 → AreNamed (IsBlamed leaves s digest) t bits
    → AreBlamed leaves s digest (member_numbers bits)
named-all leaves s digest t bits session end named x = (
  (λ member. ((named x).0 member).2),
  (λ blamed. let of = trustee-of leaves s digest x session blamed in (named x).1 (of.first, rw end of.last, blamed)),
)

-- if the mask of round one does not differ, round two decides
pub second-decides : {E : Type 0} (leaves : List ℕ) (s : State) (digest : List ℕ) (t : ℕ) (r : Result Bool E) → (FirstDiffers leaves s t → ⊥)
    → IfOk r (λ b. IsTrue b ↔ SecondDiffers leaves s digest t) → IfOk r (λ b. IsTrue b ↔ IsBlamed leaves s digest t)
second-decides leaves s digest t (Err e) not second = tt
second-decides leaves s digest t (Ok b) not second = ((λ yes. by_second (second.0 yes)), (λ blamed. of-second blamed))
  where
    of-second : IsBlamed leaves s digest t → IsTrue b
    of-second (by_first f) = absurd (not f)
    of-second (by_second f) = second.1 f
