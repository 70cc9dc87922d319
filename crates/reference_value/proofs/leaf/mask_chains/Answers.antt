use Rattle.std.proofs.Common.{◌≡◌, ℕ, List, ◌*◌, ◌^◌, ◌∙◌, length, refl, arith}
use Rattle.lms_bytes.specs.Bytes.{bytes_at, joined}
use Rattle.lms_bytes.specs.declared.params.Params.{Params}
use Rattle.mask_prf.specs.Masks.{chain_mask_of}
use Rattle.reference_value.specs.Masking.{masked_at, masked_chain}
use Rattle.lms_bytes.proofs.Joined.{row-fits}
use Rattle.reference_value.proofs.Parts.{length_part, masking-none, masking-more, part-within, put-part, span}
use Rattle.reference_value.proofs.leaf.mask_chains.Goals as goal

pub chains-init : goal.chains-init
chains-init c = masking-none _ _ _

masked_chain_is : (params : Params) (key id : List ℕ) (q : ℕ) (chains part masked : List ℕ) (i size : ℕ) → size ≡ params.n * 2 ^ params.w
    → masked ≡ joined (masked_at params.n part (chain_mask_of params key id q i)) (2 ^ params.w) → bytes_at chains (size * i) size ≡ part
    → masked ≡ masked_chain params key id q chains i
masked_chain_is params key id q chains part masked i size e is same = is ∙ rw (← same, e) refl

pub overflow_mul-place : goal.overflow_mul-place
overflow_mul-place c =
    let within = part-within _ _ c.chains.i c.args.params.now.p (length c.chains.out) c.chain_bytes-size.ensures.length (c.chains.auto.out ∙ c.requires) c.chains-test.true in
    omega (arith, within)

pub overflow_add-place : goal.overflow_add-place
overflow_add-place c =
    let within = part-within _ _ c.chains.i c.args.params.now.p (length c.chains.out) c.chain_bytes-size.ensures.length (c.chains.auto.out ∙ c.requires) c.chains-test.true in
    omega (arith, within)

pub slice_bounds-mask_chain-end : goal.slice_bounds-mask_chain-end
slice_bounds-mask_chain-end c =
    let within = part-within _ _ c.chains.i c.args.params.now.p (length c.chains.out) c.chain_bytes-size.ensures.length (c.chains.auto.out ∙ c.requires) c.chains-test.true in
    omega (arith, within)

pub mask_chain-requires : goal.mask_chain-requires
mask_chain-requires c =
    let within = part-within _ _ c.chains.i c.args.params.now.p (length c.chains.out) c.chain_bytes-size.ensures.length (c.chains.auto.out ∙ c.requires) c.chains-test.true in
    length_part (c.chain_bytes-size.result * c.chains.i) _ c.chains.out within ∙ c.chain_bytes-size.ensures.length

pub chains-preserved : goal.chains-preserved
chains-preserved c =
    let params = c.args.params.now in
    let size = c.chain_bytes-size.result in
    let i = c.chains.i in
    let room : length c.chains.out ≡ size * params.p = rw c.chain_bytes-size.ensures.length (omega arith) in
    let within = row-fits size i params.p (omega arith) in
    let put = put-part (size * i) size c.chains.out c.mask_chain.new.out (omega arith) c.mask_chain.auto.out in
    let part = rw span at c.mask_chain.ensures in
    masking-more _ _ size i _ _ _ c.chains.invariant (λ same. masked_chain_is params _ _ _ _ _ _ i size c.chain_bytes-size.ensures.length part same) put.front put.behind
