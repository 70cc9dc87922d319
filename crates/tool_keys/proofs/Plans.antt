-- Numbers of trustees that are read as bytes.
use Rattle.std.proofs.Common.{◌≡◌, ◌<◌, ◌^◌, ℕ, List, length, min, arith}
use Rattle.coalition_map.specs.Coalitions.{IsThreshold, coalitions}
use Rattle.lms_bytes.specs.declared.params.Params.{Params}
use Rattle.tool_keys.specs.Deal.{IsNotDealt, IsSet, too_many_coalitions}
use Rattle.tool_base.specs.Ending as ending
use Rattle.tool_words.specs.Words.{DealWords}
use Rattle.tool_base.specs.declared.undealt.Undealt.TheVariants.{Coalitions}

pub threshold_byte : (n k : ℕ) → IsThreshold n k → IsThreshold (min n 255) (min k 255)
threshold_byte n k t =
    let k-least = t.two_or_more in
    let k-within = t.k_within in
    let n-within = t.n_within in
    record { two_or_more = omega arith; k_within = omega arith; n_within = omega arith }

-- a threshold in bytes is one of the numbers themselves
pub byte_threshold : (n k : ℕ) → IsThreshold (min n 255) (min k 255) → (min n 255 ≡ n) × (min k 255 ≡ k)
byte_threshold n k t =
    let k-within = t.k_within in
    let n-within = t.n_within in
    (omega arith, omega arith)

pub too_many : (words : DealWords) (entropy : List ℕ) (params : Params) (count : ℕ) → IsSet words params
    → IsThreshold (min words.n 255) (min words.k 255) → count ≡ length (coalitions (min words.n 255) (min words.k 255)) → 2 ^ params.h < count
    → IsNotDealt words entropy (ending.NotDealt (Coalitions count))
too_many words entropy params count set t counted many =
    let same = byte_threshold words.n words.k t in
    let whole = rw (same.0, same.1) at t in
    let all = rw (same.0, same.1) at counted in
    rw all (too_many_coalitions params set whole (rw (← all) many))
