-- A masked value, and the sum of its masks.
use Rattle.std.proofs.Common.{◌≡◌, ℕ, suc, ◌*◌, ◌^◌, ◌<◌, List, [], ◌∷◌, All, length, map, replicate, sym, ◌∙◌, ap, arith}
use Rattle.std.proofs.lemmas.List.{length-replicate}
use Rattle.std.proofs.lemmas.List.Elements.{All-map}
use Rattle.std.proofs.lemmas.Nat.{pow_pos}
use Rattle.std.proofs.Math.Nat.{mod-lt}
use Rattle.coalition_map.specs.Coalitions.{IsPlan}
use Rattle.lms_bytes.specs.Bytes.{bytes_at, joined, xor}
use Rattle.lms_bytes.specs.Digits.{digit_of}
use Rattle.mask_prf.proofs.Lengths.{length-chain_mask_of, length-random_mask_of, length-randomizer_of}
use Rattle.reference_value.specs.Dealing.{Dealing, cell, chain_mask, chain_sums, chain_value, key_of, leaf_randomizer, masked, masked_randomizer, members_of, random_mask, reference, sum_of_masks}
use Rattle.reference_value.specs.Joins.{joined_chains}
use Rattle.lms_bytes.proofs.Joined.{joined-at, joined-same}
use Rattle.reference_value.proofs.Members.{length-chain_value}
use Rattle.reference_value.proofs.Reference.{cell_in-reference}
use Rattle.reference_value.proofs.Xor.{length-xor, xor-assoc, xor-comm, xor-twice, xor-zeros}

-- each mask has n bytes
abbrev pub AllSized : ℕ → List (List ℕ) → Type 0
AllSized n masks = All (λ m. length m ≡ n) masks

first : (n : ℕ) (m : List ℕ) (masks : List (List ℕ)) → AllSized n (m ∷ masks) → length m ≡ n
first n m masks sized = sized 0 m (omega arith)

later : (n : ℕ) (m : List ℕ) (masks : List (List ℕ)) → AllSized n (m ∷ masks) → AllSized n masks
later n m masks sized = λ k d inside. sized (suc k) d (omega arith)

pub length-masked_by : (n : ℕ) (value : List ℕ) (masks : List (List ℕ)) → length value ≡ n → AllSized n masks → length (masked value masks) ≡ n
length-masked_by n value [] e sized = e
length-masked_by n value (m ∷ masks) e sized =
    let one = first n m masks sized in
    length-masked_by n (xor value m) masks (length-xor value m (omega arith) ∙ e) (later n m masks sized)

pub length-sum : (n : ℕ) (masks : List (List ℕ)) → AllSized n masks → length (sum_of_masks n masks) ≡ n
length-sum n masks sized = length-masked_by n (replicate n 0) masks (length-replicate n 0) sized

-- to put on masks one after the other is to put on their sum
pub masked-sum : (n : ℕ) (value : List ℕ) (masks : List (List ℕ)) → length value ≡ n → AllSized n masks → masked value masks ≡ xor value (sum_of_masks n masks)
masked-sum n value [] e sized = sym (xor-zeros value n e)
masked-sum n value (m ∷ masks) e sized =
    let one = first n m masks sized in
    let rest = later n m masks sized in
    let from_zeros : xor (replicate n 0) m ≡ m = xor-comm (replicate n 0) m ∙ xor-zeros m n one in
    let here : masked (xor value m) masks ≡ xor (xor value m) (sum_of_masks n masks) =
    masked-sum n (xor value m) masks (length-xor value m (omega arith) ∙ e) rest in
    let sum : masked (xor (replicate n 0) m) masks ≡ xor m (sum_of_masks n masks) = rw from_zeros (masked-sum n m masks one rest) in
    here ∙ (xor-assoc value m (sum_of_masks n masks) ∙ ap (xor value) (sym sum))

-- the sum takes the masks off again
pub unmasked : (n : ℕ) (value : List ℕ) (masks : List (List ℕ)) → length value ≡ n → AllSized n masks → xor (masked value masks) (sum_of_masks n masks) ≡ value
unmasked n value masks e sized =
    let sum = length-sum n masks sized in
    rw (masked-sum n value masks e sized) (xor-twice value (sum_of_masks n masks) (omega arith))

-- so it is with the values of a dealing
sized_by : (n : ℕ) (mask : ℕ → List ℕ) (ts : List ℕ) → ((t : ℕ) → length (mask t) ≡ n) → AllSized n (map mask ts)
sized_by n mask ts sized = All-map (λ m. length m ≡ n) mask ts (λ k d inside. sized _)

pub randomizer-unmasked : (d : Dealing) (q : ℕ)
    → xor (masked_randomizer d q) (sum_of_masks d.params.n (map (random_mask d q) (members_of d q))) ≡ leaf_randomizer d q
unfolding masked_randomizer
randomizer-unmasked d q =
    unmasked d.params.n (leaf_randomizer d q) (map (random_mask d q) (members_of d q)) (length-randomizer_of d.params d.random_key d.id q)
    (sized_by d.params.n (random_mask d q) (members_of d q) (λ t. length-random_mask_of d.params (key_of d t) d.id q))

mask_sizes : (d : Dealing) (q i j : ℕ) → AllSized d.params.n (map (chain_mask d q i j) (members_of d q))
mask_sizes d q i j = sized_by d.params.n (chain_mask d q i j) (members_of d q) (λ t. length-chain_mask_of d.params (key_of d t) d.id q i j)

pub cell-unmasked : (d : Dealing) (q i j : ℕ)
    → xor (cell d q i j) (sum_of_masks d.params.n (map (chain_mask d q i j) (members_of d q))) ≡ chain_value d q i j
unfolding cell
cell-unmasked d q i j = unmasked d.params.n (chain_value d q i j) (map (chain_mask d q i j) (members_of d q)) (length-chain_value d q i j) (mask_sizes d q i j)

pub chains-unmasked : (d : Dealing) (q : ℕ) (digest : List ℕ) → IsPlan d.plan → q < 2 ^ d.params.h
    → joined_chains d.params d.plan (reference d) q digest (chain_sums d q digest) ≡ joined (λ i. chain_value d q i (digit_of d.params digest i)) d.params.p
unfolding joined_chains chain_sums
chains-unmasked d q digest plan inside =
    let n = d.params.n in
    let digit : ℕ → ℕ = digit_of d.params digest in
    let sum : ℕ → List ℕ = λ i. sum_of_masks n (map (chain_mask d q i (digit i)) (members_of d q)) in
    joined-same _ (λ i. chain_value d q i (digit i)) d.params.p (λ i chain.
    let step : digit i < 2 ^ d.params.w = mod-lt _ (pow_pos d.params.w) in
    let here : bytes_at (joined sum d.params.p) (n * i) n ≡ sum i = joined-at sum n d.params.p i (λ k _. length-sum n _ (mask_sizes d q k (digit k))) chain in
    rw (cell_in-reference d q i (digit i) plan inside chain step, here) (cell-unmasked d q i (digit i)))
