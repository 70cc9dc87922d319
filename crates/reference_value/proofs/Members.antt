-- A leaf in the making: some of its members have put their masks on it.
use Rattle.std.proofs.Common.{Contains, nat_lt, take_all, ◌%◌, ◌≡◌, ℕ, zero, suc, ◌+◌, ◌-◌, ◌*◌, ◌^◌, ◌<◌, ◌≤◌, List, [], ◌∷◌, ◌++◌, length, map, take, drop, refl, sym, ◌∙◌, ap, arith, length-append, append-nil, append_assoc, zero-add}
use Rattle.std.specs.List.{concat}
use Rattle.std.proofs.lemmas.List.Sums.{fold-append, length-filter, count_by-le-length}
use Rattle.std.proofs.lemmas.List.Folds.{concat-append}
use Rattle.std.proofs.lemmas.List.{map-append}
use Rattle.std.proofs.Math.Seq.{take-add, take-append_seam, drop-append_seam}
use Rattle.std.proofs.lemmas.List.{take-take}
use Rattle.coalition_map.specs.Coalitions.{IsSubset, PlanNumbers, coalition, count_of, leaf_members}
use Rattle.coalition_map.specs.Members.{below, IsAscendingIn}
use Rattle.coalition_map.proofs.MemberLaws.{below-more_in}
use Rattle.lms_bytes.specs.Bytes.{bytes_at, joined, xor}
use Rattle.lms_bytes.specs.declared.params.Params.{Params}
use Rattle.mask_prf.specs.Masks.{chain_mask_of, check_tag_of, random_mask_of}
use Rattle.lms_bytes.proofs.Lengths.{length-hash}
use Rattle.mask_prf.proofs.Lengths.{length-chain_mask_of, length-check_tag_of, length-random_mask_of, length-randomizer_of}
use Rattle.ots_chain.specs.Chains.{steps}
use Rattle.reference_value.specs.Dealing.{Dealing, cell, cells, chain_mask, chain_value, check_tag, key_of, leaf_part, leaf_randomizer, masked, masked_randomizer, members_of, random_mask, tags, value_of_seed}
use Rattle.reference_value.specs.Masking.{masked_at, masked_chain}
use Rattle.lms_bytes.proofs.Joined.{joined-at, joined-same, length-joined}
use Rattle.reference_value.proofs.Xor.{length-xor}

length-steps : (params : Params) (id : List ℕ) (q i from count : ℕ) (x : List ℕ) → length x ≡ params.n → length (steps params id q i from count x) ≡ params.n
unfolding steps
length-steps params id q i from zero x e = e
length-steps params id q i from (suc count) x e = length-hash params _

pub length-value_of_seed : (params : Params) (id : List ℕ) (q : ℕ) (seed : List ℕ) (i j : ℕ) → length (value_of_seed params id q seed i j) ≡ params.n
length-value_of_seed params id q seed i j = length-steps params id q i 0 j _ (length-hash params _)

pub length-chain_value : (d : Dealing) (q i j : ℕ) → length (chain_value d q i j) ≡ d.params.n
length-chain_value d q i j = length-value_of_seed d.params d.id q d.seed i j

-- what stands in a leaf once the trustees ts have put their masks on it
abbrev pub random_of : Dealing → ℕ → List ℕ → List ℕ
random_of d q ts = masked (leaf_randomizer d q) (map (random_mask d q) ts)

abbrev pub tags_of : Dealing → ℕ → List ℕ → List ℕ
tags_of d q ts = concat (map (check_tag d q) ts)

abbrev pub cell_of : Dealing → ℕ → List ℕ → ℕ → ℕ → List ℕ
cell_of d q ts i j = masked (chain_value d q i j) (map (chain_mask d q i j) ts)

abbrev pub chain_of : Dealing → ℕ → List ℕ → ℕ → List ℕ
chain_of d q ts i = joined (cell_of d q ts i) (2 ^ d.params.w)

-- masks of one length leave a value's length
pub length-masked : (mask : ℕ → List ℕ) (n : ℕ) (value : List ℕ) (ts : List ℕ) → length value ≡ n → ((t : ℕ) → length (mask t) ≡ n)
    → length (masked value (map mask ts)) ≡ n
length-masked mask n value [] e sized = e
length-masked mask n value (t ∷ ts) e sized =
    let one = sized t in
    length-masked mask n (xor value (mask t)) ts (length-xor value (mask t) (omega arith) ∙ e) sized

pub masked-push : (mask : ℕ → List ℕ) (value : List ℕ) (ts : List ℕ) (t : ℕ)
    → masked value (map mask (ts ++ t ∷ [])) ≡ xor (masked value (map mask ts)) (mask t)
masked-push mask value ts t = rw (map-append mask ts (t ∷ []), fold-append xor value (map mask ts) (mask t ∷ [])) refl

pub length-random_of : (d : Dealing) (q : ℕ) (ts : List ℕ) → length (random_of d q ts) ≡ d.params.n
length-random_of d q ts =
    length-masked (random_mask d q) d.params.n (leaf_randomizer d q) ts (length-randomizer_of d.params d.random_key d.id q)
    (λ t. length-random_mask_of d.params (key_of d t) d.id q)

pub length-cell_of : (d : Dealing) (q : ℕ) (ts : List ℕ) (i j : ℕ) → length (cell_of d q ts i j) ≡ d.params.n
length-cell_of d q ts i j =
    length-masked (chain_mask d q i j) d.params.n (chain_value d q i j) ts (length-chain_value d q i j)
    (λ t. length-chain_mask_of d.params (key_of d t) d.id q i j)

pub length-chain_of : (d : Dealing) (q : ℕ) (ts : List ℕ) (i : ℕ) → length (chain_of d q ts i) ≡ d.params.n * 2 ^ d.params.w
length-chain_of d q ts i = length-joined (cell_of d q ts i) d.params.n (2 ^ d.params.w) (λ j _. length-cell_of d q ts i j)

pub tags_of-push : (d : Dealing) (q : ℕ) (ts : List ℕ) (t : ℕ) → tags_of d q (ts ++ t ∷ []) ≡ tags_of d q ts ++ check_tag d q t
tags_of-push d q ts t = rw (map-append (check_tag d q) ts (t ∷ []), concat-append (map (check_tag d q) ts) (check_tag d q t ∷ []), append-nil (check_tag d q t)) refl

pub length-tags_of : (d : Dealing) (q : ℕ) (ts : List ℕ) → length (tags_of d q ts) ≡ 32 * length ts
length-tags_of d q [] = refl
length-tags_of d q (t ∷ ts) =
    let first = length-check_tag_of (key_of d t) d.id q (leaf_randomizer d q) in
    let rest = length-tags_of d q ts in
    omega (arith, length-append (check_tag d q t) (tags_of d q ts))

-- one member more puts its masks on the chains
chain_of-push : (d : Dealing) (q : ℕ) (ts : List ℕ) (t i : ℕ) (key : List ℕ) → key ≡ key_of d t → i < d.params.p
    → masked_chain d.params key d.id q (joined (chain_of d q ts) d.params.p) i ≡ chain_of d q (ts ++ t ∷ []) i
chain_of-push d q ts t i key is inside =
    let params = d.params in
    let part = joined-at (chain_of d q ts) (params.n * 2 ^ params.w) params.p i (λ k _. length-chain_of d q ts k) inside in
    let one : (j : ℕ) → j < 2 ^ params.w → masked_at params.n (chain_of d q ts i) (chain_mask_of params key d.id q i) j ≡ cell_of d q (ts ++ t ∷ []) i j =
    λ j within. rw (is, joined-at (cell_of d q ts i) params.n (2 ^ params.w) j (λ k _. length-cell_of d q ts i k) within, masked-push (chain_mask d q i j) (chain_value d q i j) ts t) refl in
    rw part (joined-same _ (cell_of d q (ts ++ t ∷ []) i) (2 ^ params.w) one)

-- a leaf whose chains and randomizer have the masks of the trustees ts, and whose tags are theirs, up to a place
pub record IsBuilding (d : Dealing) (q : ℕ) (ts : List ℕ) (place : ℕ) (front chains : List ℕ) : Type 0 where
  pub ends : place ≡ d.params.n + 32 * length ts
  pub begun : take place front ≡ random_of d q ts ++ tags_of d q ts
  pub filled : chains ≡ joined (chain_of d q ts) d.params.p

pub building-none : (d : Dealing) (q place : ℕ) (c old front chains : List ℕ) → place ≡ d.params.n → c ≡ leaf_randomizer d q → length c ≡ d.params.n
    → take (0 + length c) front ≡ take 0 old ++ c → chains ≡ joined (chain_of d q []) d.params.p → IsBuilding d q [] place front chains
building-none d q place c old front chains at is size written made = record {
  ends = omega arith;
  begun = rw (zero-add, size, ← at) at written ∙ (is ∙ sym (append-nil (leaf_randomizer d q)));
  filled = made;
}

-- a front of two parts, the first of which has n bytes
two-parts : (front a b : List ℕ) (n place : ℕ) → take place front ≡ a ++ b → length a ≡ n → n ≤ place → (take n front ≡ a) × (bytes_at front n (place - n) ≡ b)
two-parts front a b n place e size far =
    let whole : n + (place - n) ≡ place = omega arith in
    let first : take n front ≡ a = sym (take-take n place front far) ∙ (ap (take n) e ∙ rw (← size) (take-append_seam a b)) in
    let both : a ++ bytes_at front n (place - n) ≡ a ++ b =
    rw first at (sym (take-add n (place - n) front) ∙ (ap (λ m. take m front) whole ∙ e)) in
    (first, sym (drop-append_seam a (bytes_at front n (place - n))) ∙ (ap (drop (length a)) both ∙ drop-append_seam a b))

pub building-more : (d : Dealing) (q : ℕ) (ts : List ℕ) (t place : ℕ) (key c front front' chains chains' : List ℕ) → IsBuilding d q ts place front chains
    → key ≡ key_of d t → c ≡ leaf_randomizer d q
    → take (place + 32) front' ≡ xor (take d.params.n front) (random_mask_of d.params key d.id q) ++ bytes_at front d.params.n (place - d.params.n)
    ++ check_tag_of key d.id q c
    → chains' ≡ joined (masked_chain d.params key d.id q chains) d.params.p → IsBuilding d q (ts ++ t ∷ []) (place + 32) front' chains'
building-more d q ts t place key c front front' chains chains' b is random written made =
    let parts = two-parts front (random_of d q ts) (tags_of d q ts) d.params.n place b.begun (length-random_of d q ts) (omega (arith, b.ends)) in
    record {
      ends = omega (arith, b.ends, length-append ts (t ∷ []));
      begun = written ∙ rw (parts.0, parts.1, is, random, masked-push (random_mask d q) (leaf_randomizer d q) ts t, tags_of-push d q ts t) (append_assoc (xor (random_of d q ts) (random_mask d q t)) (tags_of d q ts) (check_tag d q t));
      filled = made ∙ rw b.filled (joined-same _ (chain_of d q (ts ++ t ∷ [])) d.params.p (λ i inside. chain_of-push d q ts t i key is inside));
    }

pub built : (d : Dealing) (q place : ℕ) (front chains : List ℕ) → IsBuilding d q (members_of d q) place front chains → length front ≡ place
    → front ++ chains ≡ leaf_part d q
unfolding leaf_part masked_randomizer tags cells cell
built d q place front chains b size =
    let whole = take_all place front (omega arith) in
    let front' = rw whole at b.begun in
    rw (front', b.filled) refl

length-below-le : (t : ℕ) (l : List ℕ) → length (below t l) ≤ length l
length-below-le t l = omega (arith, length-filter (λ x. nat_lt x t) l, count_by-le-length (λ x. nat_lt x t) l)

-- the members of leaf q are those of its coalition
pub members-are : (plan : PlanNumbers) (q c : ℕ) (members : List ℕ) → members ≡ coalition plan c → c ≡ q % count_of plan → members ≡ leaf_members plan q
members-are plan q c members is number = is ∙ rw number refl

-- there is room for one more tag
pub member-room : (e t : ℕ) (l : List ℕ) → IsAscendingIn 1 e l → Contains l t → length (below t l) + 1 ≤ length l
member-room e t l ascending member =
    omega (arith, length-below-le (t + 1) l, length-append (below t l) (t ∷ []), ap length (below-more_in 1 e t l ascending member))

pub tag-room : (e k t : ℕ) (l : List ℕ) → IsSubset 1 e k l → Contains l t → 32 * length (below t l) + 32 ≤ 32 * k
tag-room e k t l subset member = omega (arith, member-room e t l subset.ascending member, subset.size)
