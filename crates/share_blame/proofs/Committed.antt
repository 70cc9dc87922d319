-- Where the commitments of a dealing lie.
use Rattle.std.proofs.Common.{Contains, take_all, ◌≡◌, ℕ, suc, ◌+◌, ◌*◌, ◌%◌, ◌^◌, ◌<◌, ◌≤◌, List, [], ◌∷◌, length, nat_lt, true, refl, ◌∙◌, arith, inl, inr, length-append}
use Rattle.std.proofs.lemmas.Bool.Decides.{nat_tests}
use Rattle.std.proofs.lemmas.List.Elements.{All-contains}
use Rattle.std.proofs.Math.Nat.{mod-lt}
use Rattle.sha2.specs.Sha256.{sha256}
use Rattle.sha2.proofs.Facts256.{length-sha256}
use Rattle.coalition_map.specs.Coalitions.{IsPlan, IsSubset, count_of}
use Rattle.coalition_map.proofs.CoalitionLaws.{IsSubset-coalition, count_of-pos}
use Rattle.coalition_map.specs.Members.{below, IsAscendingIn}
use Rattle.coalition_map.proofs.MemberLaws.{All-from_IsAscendingIn, Contains-cases, Contains-nil, below-none}
use Rattle.lms_bytes.specs.Bytes.{bytes_at, joined}
use Rattle.lms_bytes.proofs.Joined.{length-joined, part-left, row-fits}
use Rattle.reference_value.specs.Commitments.{cell_commitment_in, cell_commits_place, commitments, commitments_to, leaf_commitments, leaf_commits_place, random_commitment_in}
use Rattle.reference_value.specs.Places.{rank_place}
use Rattle.reference_value.specs.Dealing.{Dealing, chain_mask, members_of, random_mask}
use Rattle.reference_value.proofs.Members.{tag-room}
use Rattle.reference_value.proofs.Reference.{joined-inside, length-members_of, part-second}
use Rattle.mask_prf.specs.Lengths.{all_commits_length, leaf_commits_length}

length-commitments_to : (mask : ℕ → List ℕ) (ts : List ℕ) → length (commitments_to mask ts) ≡ 32 * length ts
length-commitments_to mask [] = refl
length-commitments_to mask (t ∷ ts) =
    let rest = length-commitments_to mask ts in
    omega (arith, length-sha256 (mask t), length-append (sha256 (mask t)) (commitments_to mask ts))

-- the commitments of the cells of a chain
abbrev of_cell : Dealing → ℕ → ℕ → ℕ → List ℕ
of_cell d q i j = commitments_to (chain_mask d q i j) (members_of d q)

abbrev of_chain : Dealing → ℕ → ℕ → List ℕ
of_chain d q i = joined (of_cell d q i) (2 ^ d.params.w)

length-of_members : (d : Dealing) (q : ℕ) (mask : ℕ → List ℕ) → IsPlan d.plan → length (commitments_to mask (members_of d q)) ≡ 32 * d.plan.k
length-of_members d q mask plan = omega (arith, length-commitments_to mask (members_of d q), length-members_of d q plan)

length-of_chain : (d : Dealing) (q i : ℕ) → IsPlan d.plan → length (of_chain d q i) ≡ 32 * d.plan.k * 2 ^ d.params.w
length-of_chain d q i plan =
    length-joined (of_cell d q i) (32 * d.plan.k) (2 ^ d.params.w) (λ j _. length-of_members d q (chain_mask d q i j) plan)

pub length-leaf_commitments : (d : Dealing) (q : ℕ) → IsPlan d.plan → length (leaf_commitments d q) ≡ leaf_commits_length d.params d.plan.k
unfolding leaf_commitments
length-leaf_commitments d q plan =
    let chains = length-joined (of_chain d q) (32 * d.plan.k * 2 ^ d.params.w) d.params.p (λ i _. length-of_chain d q i plan) in
    omega (arith, length-append (commitments_to (random_mask d q) (members_of d q)) (joined (of_chain d q) d.params.p), length-of_members d q (random_mask d q) plan, chains)

pub length-commitments : (d : Dealing) → IsPlan d.plan → length (commitments d) ≡ all_commits_length d.params d.plan
unfolding commitments
length-commitments d plan =
    length-joined (leaf_commitments d) (leaf_commits_length d.params d.plan.k) (2 ^ d.params.h) (λ q _. length-leaf_commitments d q plan)

-- a part of a leaf, found among all
in_commitments : (d : Dealing) (q place r n : ℕ) → IsPlan d.plan → q < 2 ^ d.params.h → place ≡ leaf_commits_place d.params d.plan q + r
    → r + n ≤ leaf_commits_length d.params d.plan.k → bytes_at (commitments d) place n ≡ bytes_at (leaf_commitments d q) r n
unfolding commitments
in_commitments d q place r n plan inside e within =
    rw e (joined-inside (leaf_commitments d) (leaf_commits_length d.params d.plan.k) (2 ^ d.params.h) q r n (λ k _. length-leaf_commitments d k plan) inside within)

-- the commitment of a trustee among those of trustees that ascend
kept : (t x : ℕ) (xs : List ℕ) → x < t → below t (x ∷ xs) ≡ x ∷ below t xs
kept t x xs h = let test : nat_lt x t ≡ true = grind (arith, nat_tests) in rw test refl

among : (mask : ℕ → List ℕ) (a e t : ℕ) (ts : List ℕ) → IsAscendingIn a e ts → Contains ts t
    → bytes_at (commitments_to mask ts) (32 * length (below t ts)) 32 ≡ sha256 (mask t)
among mask a e t [] ascending member = absurd (Contains-nil t member)
among mask a e t (x ∷ xs) ascending member =
    let size : length (sha256 (mask x)) ≡ 32 = length-sha256 (mask x) in
    elim (Contains-cases x xs t member) [
      | inl same ↦
          let none : below t (x ∷ xs) ≡ [] = below-none x e t (x ∷ xs) (omega arith, ascending.1, ascending.2) (omega arith) in
          rw none (part-left (sha256 (mask x)) (commitments_to mask xs) 0 32 (omega arith) ∙ (take_all 32 (sha256 (mask x)) (omega arith) ∙ rw same refl))
      | inr later ↦
          let above = All-contains (λ y. (x + 1 ≤ y) × (y < e)) xs t (All-from_IsAscendingIn (x + 1) e xs ascending.2) later in
          let less : x < t = omega (arith, above.0) in
          rw (kept t x xs less) (part-second (sha256 (mask x)) (commitments_to mask xs) (32 * suc (length (below t xs))) (32 * length (below t xs)) 32 (omega arith)
          ∙ among mask (x + 1) e t xs ascending.2 later)
    ]

-- the members of a leaf ascend, and there is room for each
record IsMemberOf (d : Dealing) (q t : ℕ) : Type 0 where
  subset : IsSubset 1 (d.plan.n + 1) d.plan.k (members_of d q)
  room : rank_place d.plan q t + 32 ≤ 32 * d.plan.k

member-of : (d : Dealing) (q t : ℕ) → IsPlan d.plan → Contains (members_of d q) t → IsMemberOf d q t
member-of d q t plan member =
    let subset = IsSubset-coalition d.plan (q % count_of d.plan) (mod-lt q (count_of-pos d.plan plan)) in
    record { subset = subset; room = tag-room (d.plan.n + 1) d.plan.k t (members_of d q) subset member }

pub random-committed : (d : Dealing) (q t : ℕ) → IsPlan d.plan → q < 2 ^ d.params.h → Contains (members_of d q) t
    → random_commitment_in d.params d.plan (commitments d) q t ≡ sha256 (random_mask d q t)
unfolding random_commitment_in leaf_commitments
random-committed d q t plan inside member =
    let of = member-of d q t plan member in
    let ms = members_of d q in
    let rank = rank_place d.plan q t in
    let first = commitments_to (random_mask d q) ms in
    let front = length-of_members d q (random_mask d q) plan in
    in_commitments d q (leaf_commits_place d.params d.plan q + rank) rank 32 plan inside refl (omega (arith, of.room))
    ∙ (part-left first (joined (of_chain d q) d.params.p) rank 32 (omega (arith, of.room, front)) ∙ among (random_mask d q) 1 (d.plan.n + 1) t ms of.subset.ascending member)

pub cell-committed : (d : Dealing) (q i j t : ℕ) → IsPlan d.plan → q < 2 ^ d.params.h → i < d.params.p → j < 2 ^ d.params.w → Contains (members_of d q) t
    → cell_commitment_in d.params d.plan (commitments d) q i j t ≡ sha256 (chain_mask d q i j t)
unfolding cell_commitment_in leaf_commitments
cell-committed d q i j t plan inside chain step member =
    let of = member-of d q t plan member in
    let ms = members_of d q in
    let rank = rank_place d.plan q t in
    let cell = 32 * d.plan.k in
    let size = cell * 2 ^ d.params.w in
    let within = row-fits cell j (2 ^ d.params.w) step in
    let among_chains = row-fits size i d.params.p chain in
    let front = length-of_members d q (random_mask d q) plan in
    in_commitments d q (cell_commits_place d.params d.plan q i j + rank) (cell + (size * i + (cell * j + rank))) 32 plan inside (omega arith) (omega (arith, of.room))
    ∙ (part-second (commitments_to (random_mask d q) ms) (joined (of_chain d q) d.params.p) (cell + (size * i + (cell * j + rank))) (size * i + (cell * j + rank)) 32 (omega (arith, front))
    ∙ (joined-inside (of_chain d q) size d.params.p i (cell * j + rank) 32 (λ m _. length-of_chain d q m plan) chain (omega (arith, of.room))
    ∙ (joined-inside (of_cell d q i) cell (2 ^ d.params.w) j rank 32 (λ m _. length-of_members d q (chain_mask d q i m) plan) step (omega (arith, of.room))
    ∙ among (chain_mask d q i j) 1 (d.plan.n + 1) t ms of.subset.ascending member)))
