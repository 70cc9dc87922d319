use Rattle.std.proofs.Common.{◌≡◌, ◌*◌, ◌∙◌, ap, length, refl, arith, mul-zero}
use Rattle.lms_bytes.proofs.Joined.{joined-none, front-more, front-all, row-fits}
use Rattle.trustee_core.specs.Grants.{ask_of, mask_of, masks_of}
use Rattle.drill.proofs.replies.write_masks.Goals as goal

pub masks-init : goal.masks-init
masks-init c =
    let none : c.args.share.now.params.n * 0 ≡ 0 = mul-zero _ in
    rw (none, joined-none (mask_of c.args.share.now (ask_of c.args.grant.now))) refl

pub put-requires : goal.put-requires
put-requires c =
    let size = ap length c.bytes.ensures.bytes ∙ c.release-mask.ensures.length in
    let within = row-fits c.args.share.now.params.n c.masks.i (masks_of c.args.share.now.params (ask_of c.args.grant.now)) (omega arith) in
    omega arith

pub masks-preserved : goal.masks-preserved
masks-preserved c =
    let written = c.bytes.ensures.bytes in
    front-more (mask_of c.args.share.now (ask_of c.args.grant.now)) c.args.share.now.params.n c.masks.i c.masks.out c.put.new.out c.bytes.result.now
    (written ∙ c.release-mask.ensures.mask) (ap length written ∙ c.release-mask.ensures.length) c.masks.invariant c.put.ensures.front

pub returns : goal.returns
returns c =
    let count = masks_of c.args.share.now.params (ask_of c.args.grant.now) in
    let all : c.masks.i ≡ count = omega arith in
    front-all (mask_of c.args.share.now (ask_of c.args.grant.now)) c.args.share.now.params.n count c.masks.out (omega arith) (rw all at c.masks.invariant)
