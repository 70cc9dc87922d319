-- The node beside another.
use Rattle.std.proofs.Common.{◌≡◌, ℕ, ◌+◌, ◌-◌, ◌*◌, ◌/◌, ◌%◌, ◌^◌, ◌<◌, ◌≤◌, sym, ap, ◌∙◌, arith}
use Rattle.std.specs.Int.Bits.{bit_xor, xor_add_and}
use Rattle.std.proofs.lemmas.Nat.{and_mask, xor_lt, pow_pos, pow-add, le-div, div_below}
use Rattle.std.proofs.Math.Nat.{div-le_self}
use Rattle.merkle_path.specs.Nodes.{sibling}
use Rattle.merkle_path.proofs.Rows.{double, grown}

pub sibling_is : (r : ℕ) → bit_xor r 1 + 2 * (r % 2) ≡ r + 1
sibling_is r =
    let both = xor_add_and r 1 in
    let low = and_mask r 1 in
    omega arith

ancestor_above : (h q level : ℕ) → level < h → 2 ≤ (2 ^ h + q) / 2 ^ level
ancestor_above h q level below =
    let less = grown (level + 1) h (omega arith) in
    let twice = double level in
    le-div 2 (2 ^ h + q) (2 ^ level) (pow_pos level) (omega arith)

pub sibling-ge : (h q level : ℕ) → level < h → 1 ≤ sibling h q level
sibling-ge h q level below =
    let above = ancestor_above h q level below in
    omega (arith, sibling_is ((2 ^ h + q) / 2 ^ level))

pub sibling-lt : (h q level : ℕ) → q < 2 ^ h → sibling h q level < 2 ^ (h + 1)
sibling-lt h q level leaf =
    let twice = double h in
    let less = div-le_self (2 ^ h + q) (2 ^ level) in
    let some = pow_pos h in
    xor_lt (h + 1) ((2 ^ h + q) / 2 ^ level) 1 (omega arith) (omega arith)

ancestor_in_row : (h q level : ℕ) → q < 2 ^ h → level < h
    → (2 ^ (h - level) ≤ (2 ^ h + q) / 2 ^ level) × ((2 ^ h + q) / 2 ^ level < 2 ^ (h - level + 1))
ancestor_in_row h q level leaf below =
    let whole : 2 ^ (h - level) * 2 ^ level ≡ 2 ^ h = sym (pow-add 2 (h - level) level) ∙ ap (λ k. 2 ^ k) (omega arith) in
    let next : 2 ^ (h - level + 1) * 2 ^ level ≡ 2 ^ (h + 1) = sym (pow-add 2 (h - level + 1) level) ∙ ap (λ k. 2 ^ k) (omega arith) in
    let twice = double h in (
      le-div (2 ^ (h - level)) (2 ^ h + q) (2 ^ level) (pow_pos level) (omega arith),
      div_below (2 ^ h + q) (2 ^ level) (2 ^ (h - level + 1)) (pow_pos level) (omega arith),
    )

-- the sibling is in its ancestor's row
pub sibling_in_row : (h q level : ℕ) → q < 2 ^ h → level < h → (2 ^ (h - level) ≤ sibling h q level) × (sibling h q level < 2 ^ (h - level + 1))
sibling_in_row h q level leaf below =
    let row = ancestor_in_row h q level leaf below in
    let low = row.0 in
    let high = row.1 in
    let up : h - level - 1 + 1 ≡ h - level = omega arith in
    let even = ap (λ k. 2 ^ k) up in
    let half = double (h - level - 1) in
    let twice = double (h - level) in
    let other = sibling_is ((2 ^ h + q) / 2 ^ level) in
    (omega arith, omega arith)
