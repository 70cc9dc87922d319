-- The chains of a one-time signature.
use Rattle.std.specs.Prelude.{ℕ, zero, suc, ◌+◌, List, ◌++◌}
use Rattle.lms_bytes.specs.Bytes.{u8str, u16str, u32str}
use Rattle.lms_bytes.specs.declared.params.Params.{Params}
use Rattle.lms_bytes.specs.Hash.{hash}

-- step j of chain i of leaf q (RFC 8554 section 4.3, Algorithm 1, step 4)
abbrev pub step : Params → List ℕ → ℕ → ℕ → ℕ → List ℕ → List ℕ
step params id q i j value = hash params.n (id ++ u32str q ++ u16str i ++ u8str j ++ value)

-- a value after count steps from, from + 1, .. of chain i of leaf q
unfoldable pub steps : Params → List ℕ → ℕ → ℕ → ℕ → ℕ → List ℕ → List ℕ
steps params id q i from zero value = value
steps params id q i from (suc count) value = step params id q i (from + count) (steps params id q i from count value)

-- x_q[i] of the seed (RFC 8554 appendix A)
abbrev pub secret_of : Params → List ℕ → ℕ → ℕ → List ℕ → List ℕ
secret_of params id q i seed = hash params.n (id ++ u32str q ++ u16str i ++ u8str 0xff ++ seed)
