-- Coalitions: the sets of k of n trustees that may sign together, in order, and the leaves of each.
use Rattle.std.specs.Prelude.{◌≡◌, ℕ, zero, suc, ◌+◌, ◌%◌, ◌^◌, ◌<◌, ◌≤◌, ◌==◌, List, [], ◌∷◌, ◌++◌, length, map}
use Rattle.std.specs.Prelude.{filter, slice_index_or, Option, IfSome}
use Rattle.std.specs.List.{range_with_len}
use Rattle.coalition_map.specs.Members.{IsAscendingIn}

-- this project's profile: the subsets of size k of the trustees a .. a + left - 1, each ascending, in
-- lexicographic order
unfoldable pub subsets : ℕ → ℕ → ℕ → List (List ℕ)
subsets a left zero = [] ∷ []
subsets a zero (suc k) = []
subsets a (suc left) (suc k) = map (λ rest. a ∷ rest) (subsets (a + 1) left k) ++ subsets (a + 1) left (suc k)

-- this project's profile: the coalitions of k of the trustees 1 .. n
abbrev pub coalitions : ℕ → ℕ → List (List ℕ)
coalitions n k = subsets 1 n k

-- k numbers that ascend, from a on and below e
pub record IsSubset (a e k : ℕ) (l : List ℕ) : Type 0 where
  pub size : length l ≡ k
  pub ascending : IsAscendingIn a e l

-- k out of n, by Pascal's rule: how many coalitions there are
unfoldable pub binomial : ℕ → ℕ → ℕ
binomial n zero = 1
binomial zero (suc k) = 0
binomial (suc n) (suc k) = binomial n k + binomial n (suc k)

-- the numbers of a plan: n trustees, coalitions of k, 2 ^ h leaves
pub record PlanNumbers : Type 0 where
  pub n : ℕ
  pub k : ℕ
  pub h : ℕ

-- this project's profile: the thresholds that can be dealt
pub record IsThreshold (n k : ℕ) : Type 0 where
  pub two_or_more : 2 ≤ k
  pub k_within : k ≤ n
  pub n_within : n ≤ 12

-- how many coalitions a plan has
abbrev pub count_of : PlanNumbers → ℕ
count_of p = length (coalitions p.n p.k)

-- the coalition with number c
abbrev pub coalition : PlanNumbers → ℕ → List ℕ
coalition p c = slice_index_or (coalitions p.n p.k) c []

-- this project's profile: leaf q belongs to coalition q mod B, if there are B coalitions
abbrev pub leaf_members : PlanNumbers → ℕ → List ℕ
leaf_members p q = coalition p (q % count_of p)

-- the leaves of coalition c
unfoldable pub leaves_of : PlanNumbers → ℕ → List ℕ
leaves_of p c = filter (λ q. q % count_of p == c) (range_with_len 0 (2 ^ p.h))

-- q is a leaf of coalition c that comes after `after`, if that is given
pub record IsLeafAfter (p : PlanNumbers) (c : ℕ) (after : Option ℕ) (q : ℕ) : Type 0 where
  pub leaf : q < 2 ^ p.h
  pub own : q % count_of p ≡ c
  pub later : IfSome after (λ last. last < q)

-- what is true of each plan
pub record IsPlan (p : PlanNumbers) : Type 0 where
  pub threshold : IsThreshold p.n p.k
  pub h_within : p.h ≤ 25
  pub each_has_a_leaf : count_of p ≤ 2 ^ p.h
