use Rattle.std.proofs.Common.{◌≡◌, ◌*◌, ◌∙◌, length, refl, arith, mul-zero}
use Rattle.reference_value.specs.Dealing.{values_of_seed}
use Rattle.lms_bytes.proofs.Joined.{front-all, joined-none}
use Rattle.ots_chain.proofs.Ends.{ends_none, ends_more}
use Rattle.reference_value.proofs.Parts.{length_part, part-within, part-written}
use Rattle.reference_value.proofs.leaf.write_chains.Goals as goal

pub chains-init : goal.chains-init
chains-init c =
    let none : c.chain_bytes-size.result * 0 ≡ 0 = mul-zero _ in
    record {
      values = rw (none, joined-none (values_of_seed c.args.params.now c.args.id.now c.args.q c.args.seed.now)) refl;
      ends = ends_none _ _ _ _ _ c.new-hash.ensures;
    }

pub overflow_mul-place : goal.overflow_mul-place
overflow_mul-place c =
    let within = part-within _ _ c.chains.i c.args.params.now.p (length c.chains.out) c.chain_bytes-size.ensures.length (c.chains.auto.out ∙ c.requires.room) c.chains-test.true in
    omega (arith, within)

pub overflow_add-place : goal.overflow_add-place
overflow_add-place c =
    let within = part-within _ _ c.chains.i c.args.params.now.p (length c.chains.out) c.chain_bytes-size.ensures.length (c.chains.auto.out ∙ c.requires.room) c.chains-test.true in
    omega (arith, within)

pub slice_bounds-write_chain-end : goal.slice_bounds-write_chain-end
slice_bounds-write_chain-end c =
    let within = part-within _ _ c.chains.i c.args.params.now.p (length c.chains.out) c.chain_bytes-size.ensures.length (c.chains.auto.out ∙ c.requires.room) c.chains-test.true in
    omega (arith, within)

pub write_chain-end-requires-clause-index : goal.write_chain-end-requires-clause-index
write_chain-end-requires-clause-index c = c.chains-test.true

pub write_chain-end-requires-clause-seed : goal.write_chain-end-requires-clause-seed
write_chain-end-requires-clause-seed c = c.requires.seed

pub write_chain-end-requires-clause-room : goal.write_chain-end-requires-clause-room
write_chain-end-requires-clause-room c =
    let within = part-within _ _ c.chains.i c.args.params.now.p (length c.chains.out) c.chain_bytes-size.ensures.length (c.chains.auto.out ∙ c.requires.room) c.chains-test.true in
    length_part (c.chain_bytes-size.result * c.chains.i) _ c.chains.out within ∙ c.chain_bytes-size.ensures.length

pub chains-preserved : goal.chains-preserved
chains-preserved c =
    let within = part-within _ _ c.chains.i c.args.params.now.p (length c.chains.out) c.chain_bytes-size.ensures.length (c.chains.auto.out ∙ c.requires.room) c.chains-test.true in
    record {
      values = part-written (values_of_seed c.args.params.now c.args.id.now c.args.q c.args.seed.now) _ c.chains.i c.chains.out c.write_chain-end.new.out within
          c.write_chain-end.auto.out c.write_chain-end.ensures.values c.chains.invariant.values;
      ends = ends_more _ _ _ _ c.write_chain-end.result _ c.chains.i c.write_chain-end.ensures.end (c.take.ensures _ _ _ _ c.chains.invariant.ends);
    }

pub returns-clause-values : goal.returns-clause-values
returns-clause-values c =
    let params = c.args.params.now in
    let size = c.chain_bytes-size.result in
    let all : c.chains.i ≡ params.p = omega arith in
    let room : length c.chains.out ≡ size * params.p = rw c.chain_bytes-size.ensures.length (omega arith) in
    front-all _ size params.p c.chains.out room (rw all at c.chains.invariant.values)

pub returns-clause-length : goal.returns-clause-length
returns-clause-length c = c.finish.ensures.length _ _ _ _ c.chains.invariant.ends
