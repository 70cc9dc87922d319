-- Three trustees, one of which is replaced.
use Rattle.std.proofs.Common.{◌≡◌, ◌≢◌, ◌<◌, ◌≤◌, ◌-◌, ℕ, zero, suc, List, [], ◌∷◌, length, get_or, refl, sym, ◌∙◌}
use Rattle.std.proofs.Common.{ap, subst, inl, inr, All, arith}
use Rattle.std.proofs.lemmas.Bool.{cases_eq}
use Rattle.std.proofs.lemmas.List.Elements.{All-get_or}
use Rattle.lms_bytes.specs.declared.ask.Ask.{Ask}
use Rattle.opening_journal.specs.Entries.{IsFree, LeafState}
use Rattle.share_files.specs.declared.share.Share.{Share}
use Rattle.drill_trustees.specs.Members.{CutSets, SameLeaves, Sets, leaf_in, state_after, state_before}
use Rattle.drill_trustees.specs.Trustees.{AreNew, CutAt, IsTrustee, SameAt, SameShares, SetsAt, leaf_at, member_at, put_back, share_at}
use Rattle.drill_trustees.specs.declared.member.Answer.{Answer}
use Rattle.drill_trustees.specs.declared.member.Answer.TheVariants.{Granted, Refused, Stopped}
use Rattle.drill_trustees.specs.declared.member.Member.{Member}
use Rattle.drill_trustees.specs.declared.trustees.Others.{Others}
use Rattle.drill_trustees.specs.declared.trustees.Trustees.{Trustees}

abbrev others_of : ℕ → Member → Member → Others
others_of k a b = record { missing = k; first = a; second = b }

number-here : (k : ℕ) (a b m : Member) → IsTrustee k → member_at (put_back (others_of k a b) m) k ≡ m
number-here zero a b m is = let low = is.low in absurd (omega arith)
number-here (suc zero) a b m is = refl
number-here (suc (suc zero)) a b m is = refl
number-here (suc (suc (suc zero))) a b m is = refl
number-here (suc (suc (suc (suc k)))) a b m is = let high = is.high in absurd (omega arith)

number-other : (k u : ℕ) (a b m n : Member) → IsTrustee k → IsTrustee u → u ≢ k → member_at (put_back (others_of k a b) m) u ≡ member_at (put_back (others_of k a b) n) u
number-other zero u a b m n is other differs = let low = is.low in absurd (omega arith)
number-other (suc zero) zero a b m n is other differs = let low = other.low in absurd (omega arith)
number-other (suc zero) (suc zero) a b m n is other differs = absurd (differs refl)
number-other (suc zero) (suc (suc zero)) a b m n is other differs = refl
number-other (suc zero) (suc (suc (suc zero))) a b m n is other differs = refl
number-other (suc zero) (suc (suc (suc (suc u)))) a b m n is other differs = let high = other.high in absurd (omega arith)
number-other (suc (suc zero)) zero a b m n is other differs = let low = other.low in absurd (omega arith)
number-other (suc (suc zero)) (suc zero) a b m n is other differs = refl
number-other (suc (suc zero)) (suc (suc zero)) a b m n is other differs = absurd (differs refl)
number-other (suc (suc zero)) (suc (suc (suc zero))) a b m n is other differs = refl
number-other (suc (suc zero)) (suc (suc (suc (suc u)))) a b m n is other differs = let high = other.high in absurd (omega arith)
number-other (suc (suc (suc zero))) zero a b m n is other differs = let low = other.low in absurd (omega arith)
number-other (suc (suc (suc zero))) (suc zero) a b m n is other differs = refl
number-other (suc (suc (suc zero))) (suc (suc zero)) a b m n is other differs = refl
number-other (suc (suc (suc zero))) (suc (suc (suc zero))) a b m n is other differs = absurd (differs refl)
number-other (suc (suc (suc zero))) (suc (suc (suc (suc u)))) a b m n is other differs = let high = other.high in absurd (omega arith)
number-other (suc (suc (suc (suc k)))) u a b m n is other differs = let high = is.high in absurd (omega arith)

module _ (old new : Trustees) (others : Others) (m n : Member) (t : ℕ) (low : 1 ≤ t) (high : t ≤ 3) (missing : others.missing ≡ t) (was : put_back others m ≡ old) (now : new ≡ put_back others n) where
  number : IsTrustee others.missing
  number = record { low = subst (λ (k : ℕ). 1 ≤ k) (sym missing) low; high = subst (λ (k : ℕ). k ≤ 3) (sym missing) high }

  here-new : member_at new t ≡ n
  here-new =
      ap (λ (k : ℕ). member_at new k) (sym missing) ∙ ap (λ (x : Trustees). member_at x others.missing) now
      ∙ number-here others.missing others.first others.second n number

  here-old : m ≡ member_at old t
  here-old =
      sym (number-here others.missing others.first others.second m number) ∙ ap (λ (x : Trustees). member_at x others.missing) was
      ∙ ap (λ (k : ℕ). member_at old k) missing

  other-same : (u : ℕ) → IsTrustee u → u ≢ t → member_at new u ≡ member_at old u
  other-same u is differs =
      ap (λ (x : Trustees). member_at x u) now
      ∙ number-other others.missing u others.first others.second n m number is (λ same. differs (same ∙ missing)) ∙ ap (λ (x : Trustees). member_at x u) was

  pub shares-kept : n.share ≡ m.share → SameShares old new
  shares-kept same u is = elim (cases_eq u t) [
    | inl here ↦
        ap (λ (k : ℕ). share_at new k) here ∙ ap (λ (x : Member). x.share) here-new ∙ same ∙ ap (λ (x : Member). x.share) here-old
        ∙ ap (λ (k : ℕ). share_at old k) (sym here)
    | inr differs ↦ ap (λ (x : Member). x.share) (other-same u is differs)
  ]

  pub sets-there : (q : ℕ) (state : LeafState) → Sets (leaf_in m) (leaf_in n) q state → SetsAt old new t q state
  sets-there q state sets = record {
    here = ap (λ (x : Member). leaf_in x q) here-new ∙ sets.here;
    leaves = λ other within differs.
        ap (λ (x : Member). leaf_in x other) here-new ∙ sets.others other within differs ∙ ap (λ (x : Member). leaf_in x other) here-old;
    others = λ u other is differs. ap (λ (x : Member). leaf_in x other) (other-same u is differs);
  }

  pub same-there : SameLeaves (leaf_in m) (leaf_in n) → SameAt old new
  same-there same u q is within = elim (cases_eq u t) [
    | inl here ↦
        ap (λ (k : ℕ). leaf_at new k q) here ∙ ap (λ (x : Member). leaf_in x q) here-new ∙ same q within ∙ ap (λ (x : Member). leaf_in x q) here-old
        ∙ ap (λ (k : ℕ). leaf_at old k q) (sym here)
    | inr differs ↦ ap (λ (x : Member). leaf_in x q) (other-same u is differs)
  ]

  pub cut-there : (ask : Ask) (answer : Answer) → CutSets (leaf_in m) (leaf_in n) ask answer → CutAt old new t ask answer
  cut-there ask (Granted grant) cut = (cut.0, sets-there ask.leaf (state_after ask) cut.1)
  cut-there ask Refused cut = cut
  cut-there ask Stopped cut = elim cut [
    | inl before ↦ inl (sets-there ask.leaf (state_before ask) before)
    | inr after ↦ inr (sets-there ask.leaf (state_after ask) after)
  ]

default-free : (xs : List Share) (i : ℕ) (d e : Share) → i < length xs → get_or xs i d ≡ get_or xs i e
default-free [] i d e inside = absurd (omega arith)
default-free (x ∷ xs) zero d e inside = refl
default-free (x ∷ xs) (suc i) d e inside = default-free xs i d e (omega arith)

given-at : (given : List Share) (k : ℕ) (m : Member) (s none : Share) → length given ≡ 3 → k < 3 → m.share ≡ s → s ≡ get_or given k s → m.share ≡ get_or given k none
given-at given k m s none size low is there = is ∙ there ∙ default-free given k s none (omega arith)

-- the shares of three trustees
module _ (given : List Share) (size : length given ≡ 3) where
  pub inside-three : (k : ℕ) → k < 3 → k < length given
  inside-three k low = omega arith

  pub of-three : (P : Share → Type 0) (k : ℕ) (s : Share) → k < 3 → s ≡ get_or given k s → All P given → P s
  of-three P k s low there all = subst P (sym there) (All-get_or P given k s (inside-three k low) all)

-- three trustees of these shares that have answered nothing
module _ (given : List Share) (a b c : Member) (x y z : Share) (size : length given ≡ 3) (ax : a.share ≡ x) (by : b.share ≡ y) (cz : c.share ≡ z)
    (x_is : x ≡ get_or given 0 x) (y_is : y ≡ get_or given 1 y) (z_is : z ≡ get_or given 2 z) (a_free : (q : ℕ) → q < 32 → leaf_in a q ≡ IsFree)
    (b_free : (q : ℕ) → q < 32 → leaf_in b q ≡ IsFree) (c_free : (q : ℕ) → q < 32 → leaf_in c q ≡ IsFree) where
  abbrev all_three : Trustees
  all_three = record { one = a; two = b; three = c }

  shares-new : (t : ℕ) (none : Share) → IsTrustee t → share_at all_three t ≡ get_or given (t - 1) none
  shares-new zero none is = let low = is.low in absurd (omega arith)
  shares-new (suc zero) none is = given-at given 0 a x none size (omega arith) ax x_is
  shares-new (suc (suc zero)) none is = given-at given 1 b y none size (omega arith) by y_is
  shares-new (suc (suc (suc zero))) none is = given-at given 2 c z none size (omega arith) cz z_is
  shares-new (suc (suc (suc (suc t)))) none is = let high = is.high in absurd (omega arith)

  free-new : (t q : ℕ) → IsTrustee t → q < 32 → leaf_at all_three t q ≡ IsFree
  free-new zero q is within = let low = is.low in absurd (omega arith)
  free-new (suc zero) q is within = a_free q within
  free-new (suc (suc zero)) q is within = b_free q within
  free-new (suc (suc (suc zero))) q is within = c_free q within
  free-new (suc (suc (suc (suc t)))) q is within = let high = is.high in absurd (omega arith)

  pub are-new : AreNew given all_three
  are-new = record { shares = shares-new; free = free-new }
