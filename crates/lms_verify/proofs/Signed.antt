-- The signature of an undivided key leads to its root.
use Rattle.std.proofs.Common.{◌≡◌, ℕ, zero, suc, ◌+◌, ◌-◌, ◌*◌, ◌^◌, ◌<◌, ◌≤◌, List, ◌++◌, length, refl, ap, ◌∙◌, arith}
use Rattle.std.proofs.lemmas.Nat.{pow_pos}
use Rattle.lms_bytes.specs.Bytes.{bytes_at, joined, u16str, u32str}
use Rattle.lms_bytes.specs.Digits.{digit_of}
use Rattle.lms_bytes.specs.declared.params.Params.{Params}
use Rattle.ots_chain.specs.Chains.{steps}
use Rattle.lms_bytes.specs.Hash.{hash}
use Rattle.ots_chain.specs.LeafKey.{candidate_leaf_key}
use Rattle.ots_chain.specs.MessageHash.{message_digest}
use Rattle.merkle_path.specs.Nodes.{candidate_root, path, sibling}
use Rattle.merkle_path.proofs.Climb.{candidate_root-path}
use Rattle.lms_bytes.proofs.Joined.{joined-at, joined-same, length-joined}
use Rattle.lms_bytes.proofs.Lengths.{length-hash}
use Rattle.merkle_path.proofs.Lengths.{length-node}
use Rattle.lms_verify.specs.Accepts.{AcceptsAt}
use Rattle.lms_verify.specs.UndividedKey.{UndividedKey, chain_values, leaf_key, public_key_of, rfc_signature, secret}

length-steps : (params : Params) (id : List ℕ) (q i from count : ℕ) (x : List ℕ) → length x ≡ params.n → length (steps params id q i from count x) ≡ params.n
unfolding steps
length-steps params id q i from zero x size = size
length-steps params id q i from (suc count) x size = length-hash params _

-- a chain goes on where it stopped
steps-steps : (params : Params) (id : List ℕ) (q i done more : ℕ) (x : List ℕ)
    → steps params id q i done more (steps params id q i 0 done x) ≡ steps params id q i 0 (done + more) x
unfolding steps
steps-steps params id q i done zero x = let all : done + 0 ≡ done = omega arith in rw all refl
steps-steps params id q i done (suc more) x =
    let all : done + suc more ≡ suc (done + more) = omega arith in
    let at : 0 + (done + more) ≡ done + more = omega arith in
    rw (all, at, steps-steps params id q i done more x) refl

digit-le : (params : Params) (digest : List ℕ) (i : ℕ) → digit_of params digest i ≤ 2 ^ params.w - 1
digit-le params digest i = omega (arith, pow_pos params.w)

-- chains that stop somewhere, each in its own place of a string, go on to their ends
ends_from : (params : Params) (id : List ℕ) (q most count : ℕ) (digit : ℕ → ℕ) (x : ℕ → List ℕ) → ((i : ℕ) → digit i ≤ most)
    → ((i : ℕ) → length (x i) ≡ params.n)
    → joined (λ i. steps params id q i (digit i) (most - digit i) (bytes_at (joined (λ k. steps params id q k 0 (digit k) (x k)) count) (params.n * i) params.n)) count
    ≡ joined (λ i. steps params id q i 0 most (x i)) count
ends_from params id q most count digit x small size =
    let value : ℕ → List ℕ = λ k. steps params id q k 0 (digit k) (x k) in
    let value_size : (k : ℕ) → length (value k) ≡ params.n = λ k. length-steps params id q k 0 (digit k) (x k) (size k) in
    joined-same (λ i. steps params id q i (digit i) (most - digit i) (bytes_at (joined value count) (params.n * i) params.n)) (λ i. steps params id q i 0 most (x i)) count
    (λ i below.
    let found : bytes_at (joined value count) (params.n * i) params.n ≡ value i =
    joined-at value params.n count i (λ k _. value_size k) below in
    let all : digit i + (most - digit i) ≡ most = omega (arith, small i) in
    rw found (rw all at (steps-steps params id q i (digit i) (most - digit i) (x i))))

-- the candidate K is K
candidate_leaf_key-chain_values : (key : UndividedKey) (q : ℕ) (digest : List ℕ)
    → candidate_leaf_key key.params key.id q digest (chain_values key q digest) ≡ leaf_key key q
candidate_leaf_key-chain_values key q digest =
    let params = key.params in
    let ends = ends_from params key.id q (2 ^ params.w - 1) params.p (digit_of params digest) (secret key q) (digit-le params digest) (λ i. length-hash params _) in
    ap (λ (t : List ℕ). hash params.n (key.id ++ u32str q ++ u16str 0x8080 ++ t)) ends

length-chain_values : (key : UndividedKey) (q : ℕ) (digest : List ℕ) → length (chain_values key q digest) ≡ key.params.n * key.params.p
length-chain_values key q digest =
    length-joined _ key.params.n key.params.p (λ i _. length-steps key.params key.id q i 0 (digit_of key.params digest i) (secret key q i) (length-hash key.params _))

length-path : (params : Params) (id : List ℕ) (key : ℕ → List ℕ) (q : ℕ) → length (path params id key q) ≡ params.n * params.h
length-path params id key q = length-joined _ params.n params.h (λ level _. length-node params id key level (sibling params.h q level))

pub accepted : (key : UndividedKey) (q : ℕ) (c message : List ℕ) → q < 2 ^ key.params.h → length c ≡ key.params.n
    → AcceptsAt (public_key_of key) message (rfc_signature key q c message) q
accepted key q c message leaf size =
    let digest = message_digest key.params key.id q c message in
    record {
      c = c;
      y = chain_values key q digest;
      path = path key.params key.id (leaf_key key) q;
      layout = record {
        leaf = leaf;
        c_length = size;
        y_length = length-chain_values key q digest;
        path_length = length-path key.params key.id (leaf_key key) q;
        parts = refl;
      };
      root_is =
          ap (λ (k : List ℕ). candidate_root key.params key.id q k (path key.params key.id (leaf_key key) q)) (candidate_leaf_key-chain_values key q digest)
          ∙ candidate_root-path key.params key.id (leaf_key key) q leaf;
    }
