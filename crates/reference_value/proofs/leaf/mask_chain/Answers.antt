use Rattle.std.proofs.Common.{◌≡◌, ◌^◌, refl, arith}
use Rattle.std.proofs.lemmas.Nat.{pow_pos}
use Rattle.lms_bytes.proofs.Joined.{front-all}
use Rattle.reference_value.proofs.Parts.{masking-none, masking-more}
use Rattle.reference_value.proofs.leaf.mask_chain.Goals as goal

pub steps-init : goal.steps-init
steps-init c = masking-none _ _ _

pub steps-preserved : goal.steps-preserved
steps-preserved c =
    let size = c.chain_mask-mask.ensures.length in
    let front = rw size at c.mask_value.ensures.front in
    let behind = rw size at c.mask_value.ensures.after in
    masking-more _ _ c.args.params.now.n c.steps.j _ _ _ c.steps.invariant (λ h. rw (h, c.chain_mask-mask.ensures.mask) refl) front behind

pub returns : goal.returns
returns c =
    let params = c.args.params.now in
    let some = pow_pos params.w in
    let all : c.steps.j ≡ 2 ^ params.w = omega arith in
    front-all _ params.n (2 ^ params.w) c.steps.out (omega arith) (rw all at c.steps.invariant.front)
