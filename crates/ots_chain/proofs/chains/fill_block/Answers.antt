use Rattle.std.proofs.Common.{◌≡◌, ◌∙◌, ◌+◌, ◌++◌, length, take, refl, arith}
use Rattle.lms_bytes.specs.Bytes.{u16str, u32str}
use Rattle.ots_chain.proofs.Blocks.{shorter}
use Rattle.ots_chain.proofs.chains.fill_block.Goals as goal

pub returns-clause-place : goal.returns-clause-place
returns-clause-place c =
    let size : 0 + length c.args.id.now ≡ 16 = omega arith in
    let id : take 16 c.put.new.out ≡ c.args.id.now = rw size at c.put.ensures.front in
    let q : take 20 c.put-2.new.out ≡ take 16 c.put.new.out ++ u32str c.args.q = rw c.to_be_bytes.ensures at c.put-2.ensures.front in
    let i : take 22 c.put-3.new.out ≡ take 20 c.put-2.new.out ++ u16str c.args.i = rw c.to_be_bytes-2.ensures at c.put-3.ensures.front in
    shorter _ _ 23 22 (omega arith) c.put-4.ensures.before ∙ rw (i, q, id) refl
