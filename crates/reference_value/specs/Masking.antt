-- Strings of n bytes that are joined, each masked by a mask of its own.
use Rattle.std.specs.Prelude.{ℕ, ◌*◌, ◌^◌, List}
use Rattle.lms_bytes.specs.Bytes.{bytes_at, joined, xor}
use Rattle.lms_bytes.specs.declared.params.Params.{Params}
use Rattle.mask_prf.specs.Masks.{chain_mask_of}

-- the i-th of the strings, masked
abbrev pub masked_at : ℕ → List ℕ → (ℕ → List ℕ) → ℕ → List ℕ
masked_at n strings mask i = xor (bytes_at strings (n * i) n) (mask i)

-- the values of chain i among those of all chains, masked with one trustee's key
abbrev pub masked_chain : Params → List ℕ → List ℕ → ℕ → List ℕ → ℕ → List ℕ
masked_chain params key id q chains i =
    let size = params.n * 2 ^ params.w in
    joined (masked_at params.n (bytes_at chains (size * i) size) (chain_mask_of params key id q i)) (2 ^ params.w)
