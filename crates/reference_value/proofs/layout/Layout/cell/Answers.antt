use Rattle.std.proofs.Common.{◌≡◌, ◌+◌, ◌*◌, ◌^◌, ◌<◌, ◌≤◌, ℕ, ap, arith}
use Rattle.lms_bytes.proofs.Joined.{row-fits}
use Rattle.mask_prf.specs.Lengths.{leaf_size}
use Rattle.reference_value.proofs.layout.Layout.cell.Goals as goal

-- a cell lies within its leaf
fits : (n k w p i j leaf size threshold all : ℕ) → i < p → j < 2 ^ w → size ≡ n * 2 ^ w → threshold ≡ k → leaf + leaf_size n k w p ≤ all
    → leaf + n + 32 * threshold + size * i + n * j + n ≤ all
fits n k w p i j leaf size threshold all chain step same known within =
    let value = row-fits n j (2 ^ w) step in
    let row = row-fits size i p chain in
    let cells : size * p ≡ n * 2 ^ w * p = ap (λ (s : ℕ). s * p) same in
    omega (arith, value, row, cells, same, known, within)

pub returns-clause-within : goal.returns-clause-within
returns-clause-within c =
    let params = c.args.self.now.params in
    fits params.n c.args.self.now.plan.k params.w params.p c.args.i c.args.j c.leaf.result c.chain_bytes.result c.k.result _ c.requires.chain c.requires.step
    c.chain_bytes.ensures.length c.k.ensures.value c.leaf.ensures.within

pub returns-clause-small : goal.returns-clause-small
returns-clause-small c = c.leaf.ensures.small

pub overflow_mul-result : goal.overflow_mul-result
overflow_mul-result c =
    let params = c.args.self.now.params in
    let within = fits params.n c.args.self.now.plan.k params.w params.p c.args.i c.args.j c.leaf.result c.chain_bytes.result c.k.result _ c.requires.chain c.requires.step
    c.chain_bytes.ensures.length c.k.ensures.value c.leaf.ensures.within in
    omega (arith, within, c.leaf.ensures.small)

pub overflow_add-result : goal.overflow_add-result
overflow_add-result c =
    let params = c.args.self.now.params in
    let within = fits params.n c.args.self.now.plan.k params.w params.p c.args.i c.args.j c.leaf.result c.chain_bytes.result c.k.result _ c.requires.chain c.requires.step
    c.chain_bytes.ensures.length c.k.ensures.value c.leaf.ensures.within in
    omega (arith, within, c.leaf.ensures.small)

pub overflow_add-result-2 : goal.overflow_add-result-2
overflow_add-result-2 c =
    let params = c.args.self.now.params in
    let within = fits params.n c.args.self.now.plan.k params.w params.p c.args.i c.args.j c.leaf.result c.chain_bytes.result c.k.result _ c.requires.chain c.requires.step
    c.chain_bytes.ensures.length c.k.ensures.value c.leaf.ensures.within in
    omega (arith, within, c.leaf.ensures.small)
