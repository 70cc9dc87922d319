use Rattle.std.proofs.Common.{◌+◌, ◌*◌, ◌^◌, ◌≤◌, ℕ, inl, inr, arith, le_trans, mul-le-mul, mul_assoc}
use native.Mathlib.Nat.{mul_comm}
use Rattle.lms_bytes.specs.declared.params.Params.{Params}
use Rattle.mask_prf.specs.Lengths.{leaf_length}
use Rattle.lms_bytes.proofs.Joined.{row-fits}
use Rattle.reference_value.proofs.layout.Layout.leaf.Goals as goal

cells-small : (n w p : ℕ) → p * n ≤ 8480 → 2 ^ w ≤ 256 → n * 2 ^ w * p ≤ 8480 * 256
cells-small n w p chains digits = rw (mul_comm (n * 2 ^ w) p, ← mul_assoc p n (2 ^ w)) (mul-le-mul chains digits)

-- the leaves of twelve trustees and fewer are not long
leaves-small : (params : Params) (k : ℕ) → k ≤ 12 → leaf_length params k * 2 ^ params.h ≤ 2 ^ 50
leaves-small params k few =
    let value : params.n ≤ 32 = elim params.hash_length [ inl e ↦ omega arith | inr e ↦ omega arith ] in
    let cells = cells-small params.n params.w params.p params.chains_length params.digit_count in
    let leaf : leaf_length params k ≤ 2 ^ 22 = omega (arith, value, few, cells) in
    let all : leaf_length params k * 2 ^ params.h ≤ 2 ^ 22 * 2 ^ 25 = mul-le-mul leaf params.leaf_count in
    le_trans all (omega arith)

pub returns-clause-within : goal.returns-clause-within
returns-clause-within c =
    let layout = c.args.self.now in
    rw (c.leaf_bytes.ensures, c.k.ensures.value) (row-fits (leaf_length layout.params layout.plan.k) c.args.q (2 ^ layout.params.h) c.requires)

pub returns-clause-small : goal.returns-clause-small
returns-clause-small c =
    let plan = c.k.ensures.plan.threshold in
    leaves-small c.args.self.now.params c.args.self.now.plan.k (omega (arith, plan.k_within, plan.n_within))

pub overflow_mul-result : goal.overflow_mul-result
overflow_mul-result c =
    let layout = c.args.self.now in
    let plan = c.k.ensures.plan.threshold in
    let small = leaves-small layout.params layout.plan.k (omega (arith, plan.k_within, plan.n_within)) in
    let within : c.leaf_bytes.result * c.args.q + leaf_length layout.params layout.plan.k ≤ leaf_length layout.params layout.plan.k * 2 ^ layout.params.h =
    rw (c.leaf_bytes.ensures, c.k.ensures.value) (row-fits (leaf_length layout.params layout.plan.k) c.args.q (2 ^ layout.params.h) c.requires) in
    omega (arith, within, small)
