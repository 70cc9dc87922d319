use Rattle.std.proofs.Common.{◌≡◌, ◌*◌, ◌∙◌, ap, length, refl, arith, mul-zero}
use Rattle.lms_bytes.proofs.Joined.{joined-none, front-more, front-all, row-fits}
use Rattle.dealer.specs.Signing.{digit_sum}
use Rattle.dealer.proofs.masks.Keys.write_chain_sums.Goals as goal

pub chains-init : goal.chains-init
chains-init c =
    let none : c.args.params.now.n * 0 ≡ 0 = mul-zero _ in
    rw (none, joined-none (digit_sum c.args.params.now c.args.id.now c.args.self.now c.args.q c.args.digest.now)) refl

pub put-requires : goal.put-requires
put-requires c =
    let size = ap length c.bytes.ensures.bytes ∙ c.chain_sum-sum.ensures.length in
    let within = row-fits c.args.params.now.n c.chains.i c.args.params.now.p (omega arith) in
    omega arith

pub chains-preserved : goal.chains-preserved
chains-preserved c =
    let f = digit_sum c.args.params.now c.args.id.now c.args.self.now c.args.q c.args.digest.now in
    let written = c.bytes.ensures.bytes in
    let value = written ∙ (c.chain_sum-sum.ensures.sum ∙ rw c.digit.ensures refl) in
    front-more f c.args.params.now.n c.chains.i c.chains.out c.put.new.out c.bytes.result.now value (ap length written ∙ c.chain_sum-sum.ensures.length)
    c.chains.invariant c.put.ensures.front

pub returns : goal.returns
returns c =
    let params = c.args.params.now in
    let all : c.chains.i ≡ params.p = omega arith in
    front-all (digit_sum params c.args.id.now c.args.self.now c.args.q c.args.digest.now) params.n params.p c.chains.out (omega arith) (rw all at c.chains.invariant)
