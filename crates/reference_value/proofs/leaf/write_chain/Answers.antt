use Rattle.std.proofs.Common.{◌≡◌, ◌+◌, ◌-◌, ◌^◌, ◌∙◌, length, sym, ap, arith}
use Rattle.std.proofs.lemmas.Nat.{pow_pos}
use Rattle.reference_value.specs.Dealing.{value_of_seed}
use Rattle.reference_value.proofs.Chains.{steps-none, steps-next}
use Rattle.lms_bytes.proofs.Joined.{front-first, front-more, front-all}
use Rattle.reference_value.proofs.leaf.write_chain.Goals as goal

pub steps-init : goal.steps-init
steps-init c =
    let f = value_of_seed c.args.params.now c.args.id.now c.args.q c.args.seed.now c.args.i in
    let value = c.secret-value.ensures.value ∙ sym (steps-none _ _ _ _ _) in
    let written = c.bytes.ensures.bytes in
    let size = ap length written ∙ c.secret-value.ensures.length in
    record {
      length = c.secret-value.ensures.length;
      value = value;
      front = front-first f c.args.params.now.n c.args.out.now c.put.new.out c.bytes.result.now (written ∙ value) size c.put.ensures.front;
    }

pub steps-preserved : goal.steps-preserved
steps-preserved c =
    let params = c.args.params.now in
    let f = value_of_seed params c.args.id.now c.args.q c.args.seed.now c.args.i in
    let value = c.chain-value.ensures.value ∙ rw c.steps.invariant.value (steps-next params c.args.id.now c.args.q c.args.i c.steps.j _) in
    let written = c.bytes-in-steps.ensures.bytes in
    let size = ap length written ∙ c.chain-value.ensures.length in
    record {
      length = c.chain-value.ensures.length;
      value = value;
      front = front-more f params.n (c.steps.j + 1) c.steps.out c.put-in-steps.new.out c.bytes-in-steps.result.now (written ∙ value) size
          c.steps.invariant.front c.put-in-steps.ensures.front;
    }

pub returns-clause-values : goal.returns-clause-values
returns-clause-values c =
    let params = c.args.params.now in
    let f = value_of_seed params c.args.id.now c.args.q c.args.seed.now c.args.i in
    let some = pow_pos params.w in
    let all : c.steps.j + 1 ≡ 2 ^ params.w = omega arith in
    front-all f params.n (2 ^ params.w) c.steps.out (omega arith) (rw all at c.steps.invariant.front)

pub returns-clause-end : goal.returns-clause-end
returns-clause-end c =
    let last : c.steps.j ≡ 2 ^ c.args.params.now.w - 1 = omega arith in
    rw last at c.steps.invariant.value
