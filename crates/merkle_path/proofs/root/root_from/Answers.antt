use Rattle.std.proofs.Common.{◌≡◌, ◌+◌, ◌^◌, arith}
use Rattle.merkle_path.proofs.Levels.{halved, candidate_leaf, candidate_above}
use Rattle.merkle_path.proofs.root.root_from.Goals as goal

pub levels-init : goal.levels-init
levels-init c =
    let params = c.args.params.now in
    let r : c.leaves.result + c.args.q ≡ 2 ^ params.h + c.args.q = omega arith in
    record {
      place = omega arith;
      value = rw (candidate_leaf params c.args.id.now c.args.q c.args.key.now c.args.path.now, ← r) c.hash_leaf-node.ensures.node;
      size = c.hash_leaf-node.ensures.length;
    }

pub levels-preserved : goal.levels-preserved
levels-preserved c =
    let params = c.args.params.now in
    let level = c.levels.level in
    let here = c.levels.invariant in
    record {
      place = rw here.place (halved (2 ^ params.h + c.args.q) level);
      value = rw (candidate_above params c.args.id.now c.args.q c.args.key.now c.args.path.now level, ← here.place, ← here.value, ← c.part.ensures.bytes, ← c.of-sibling.ensures) c.hash_parent-node.ensures.node;
      size = c.hash_parent-node.ensures.length;
    }
