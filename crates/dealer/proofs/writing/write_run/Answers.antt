use Rattle.std.proofs.Common.{◌≡◌, ◌+◌, ◌*◌, ◌∙◌, length, ap, refl, arith, mul-zero}
use Rattle.std.specs.Prelude.{is_some}
use Rattle.mask_prf.specs.Lengths.{leaf_length}
use Rattle.reference_value.specs.Dealing.{leaf_part}
use Rattle.lms_bytes.proofs.Joined.{front-more, joined-none}
use Rattle.reference_value.proofs.Parts.{length_part, part-within, part-written}
use Rattle.dealer.specs.Runs.{dealt_leaf_key, leaf_asked}
use Rattle.dealer.specs.Material.{dealing_with}
use Rattle.dealer.proofs.Joins.{run-written}
use Rattle.dealer.proofs.writing.write_run.Goals as goal

pub leaves-init : goal.leaves-init
leaves-init c =
    let d = dealing_with c.args.material.now in
    let none : c.leaf_bytes-size.result * 0 ≡ 0 = mul-zero _ in
    let empty : c.asked_bytes-row.result * 0 ≡ 0 = mul-zero _ in
    let nothing : c.args.material.now.params.n * 0 ≡ 0 = mul-zero _ in
    record {
      leaves = rw (none, joined-none (λ k. leaf_part d (c.args.run.first + k))) refl;
      commits = rw (empty, joined-none (λ k. leaf_asked (is_some c.args.material.now.macs) d (c.args.run.first + k))) refl;
      keys = rw (nothing, joined-none (λ k. dealt_leaf_key d (c.args.run.first + k))) refl;
    }

pub slice_bounds-leaf-end : goal.slice_bounds-leaf-end
slice_bounds-leaf-end c =
    let same : c.leaf_bytes-size.result ≡ leaf_length c.args.material.now.params c.args.material.now.plan.k = rw c.k.ensures.value at c.leaf_bytes-size.ensures in
    let within = part-within _ _ c.leaves.i c.args.run.count (length c.leaves.out) same (c.leaves.auto.out ∙ c.requires.rooms.leaves_room) c.leaves-test.true in
    omega (arith, within)

pub slice_bounds-part-end : goal.slice_bounds-part-end
slice_bounds-part-end c =
    let within = part-within _ _ c.leaves.i c.args.run.count (length c.leaves.commits) c.asked_bytes-row.ensures (c.leaves.auto.commits ∙ c.requires.rooms.commits_room) c.leaves-test.true in
    omega (arith, within)

pub leaves-preserved : goal.leaves-preserved
leaves-preserved c =
    let d = dealing_with c.args.material.now in
    let first = c.args.run.first in
    let same : c.leaf_bytes-size.result ≡ leaf_length c.args.material.now.params c.args.material.now.plan.k = rw c.k.ensures.value at c.leaf_bytes-size.ensures in
    let leaf = part-within _ _ c.leaves.i c.args.run.count (length c.leaves.out) same (c.leaves.auto.out ∙ c.requires.rooms.leaves_room) c.leaves-test.true in
    let part = part-within _ _ c.leaves.i c.args.run.count (length c.leaves.commits) c.asked_bytes-row.ensures (c.leaves.auto.commits ∙ c.requires.rooms.commits_room) c.leaves-test.true in
    record {
      leaves = part-written (λ k. leaf_part d (first + k)) c.leaf_bytes-size.result c.leaves.i c.leaves.out c.write_leaf-key.new.out leaf c.write_leaf-key.auto.out
          c.write_leaf-key.ensures.leaf c.leaves.invariant.leaves;
      commits = part-written (λ k. leaf_asked (is_some c.args.material.now.macs) d (first + k)) c.asked_bytes-row.result c.leaves.i c.leaves.commits c.write_leaf-key.new.commits part c.write_leaf-key.auto.commits
          c.write_leaf-key.ensures.asked c.leaves.invariant.commits;
      keys = front-more (λ k. dealt_leaf_key d (first + k)) c.args.material.now.params.n c.leaves.i c.leaves.keys c.put.new.out c.bytes.result.now
          (c.bytes.ensures.bytes ∙ c.write_leaf-key.ensures.leaf_key) (ap length c.bytes.ensures.bytes ∙ c.write_leaf-key.ensures.length)
          c.leaves.invariant.keys c.put.ensures.front;
    }

pub write_leaf-key-requires-clause-leaf : goal.write_leaf-key-requires-clause-leaf
write_leaf-key-requires-clause-leaf c = omega (arith, c.leaves-test.true, c.requires.within)

pub write_leaf-key-requires-clause-room : goal.write_leaf-key-requires-clause-room
write_leaf-key-requires-clause-room c =
    let same : c.leaf_bytes-size.result ≡ leaf_length c.args.material.now.params c.args.material.now.plan.k = rw c.k.ensures.value at c.leaf_bytes-size.ensures in
    let within = part-within _ _ c.leaves.i c.args.run.count (length c.leaves.out) same (c.leaves.auto.out ∙ c.requires.rooms.leaves_room) c.leaves-test.true in
    length_part (c.leaf_bytes-size.result * c.leaves.i) _ c.leaves.out within ∙ same

pub write_leaf-key-requires-clause-asked : goal.write_leaf-key-requires-clause-asked
write_leaf-key-requires-clause-asked c =
    let within = part-within _ _ c.leaves.i c.args.run.count (length c.leaves.commits) c.asked_bytes-row.ensures (c.leaves.auto.commits ∙ c.requires.rooms.commits_room) c.leaves-test.true in
    length_part (c.asked_bytes-row.result * c.leaves.i) _ c.leaves.commits within ∙ c.asked_bytes-row.ensures

pub overflow_mul-place : goal.overflow_mul-place
overflow_mul-place c =
    let same : c.leaf_bytes-size.result ≡ leaf_length c.args.material.now.params c.args.material.now.plan.k = rw c.k.ensures.value at c.leaf_bytes-size.ensures in
    let within = part-within _ _ c.leaves.i c.args.run.count (length c.leaves.out) same (c.leaves.auto.out ∙ c.requires.rooms.leaves_room) c.leaves-test.true in
    omega (arith, within)

pub overflow_add-leaf : goal.overflow_add-leaf
overflow_add-leaf c =
    let same : c.leaf_bytes-size.result ≡ leaf_length c.args.material.now.params c.args.material.now.plan.k = rw c.k.ensures.value at c.leaf_bytes-size.ensures in
    let within = part-within _ _ c.leaves.i c.args.run.count (length c.leaves.out) same (c.leaves.auto.out ∙ c.requires.rooms.leaves_room) c.leaves-test.true in
    omega (arith, within)

pub overflow_mul-start : goal.overflow_mul-start
overflow_mul-start c =
    let within = part-within _ _ c.leaves.i c.args.run.count (length c.leaves.commits) c.asked_bytes-row.ensures (c.leaves.auto.commits ∙ c.requires.rooms.commits_room) c.leaves-test.true in
    omega (arith, within)

pub overflow_add-part : goal.overflow_add-part
overflow_add-part c =
    let within = part-within _ _ c.leaves.i c.args.run.count (length c.leaves.commits) c.asked_bytes-row.ensures (c.leaves.auto.commits ∙ c.requires.rooms.commits_room) c.leaves-test.true in
    omega (arith, within)

pub overflow_mul-n : goal.overflow_mul-n
overflow_mul-n c =
    let within = part-within _ _ c.leaves.i c.args.run.count (length c.leaves.keys) refl (c.leaves.auto.keys ∙ c.requires.rooms.keys_room) c.leaves-test.true in
    omega (arith, within)

pub put-requires : goal.put-requires
put-requires c =
    let size = ap length c.bytes.ensures.bytes ∙ c.write_leaf-key.ensures.length in
    let within = part-within _ _ c.leaves.i c.args.run.count (length c.leaves.keys) refl (c.leaves.auto.keys ∙ c.requires.rooms.keys_room) c.leaves-test.true in
    omega (arith, within, size)

pub returns : goal.returns
returns c =
    let d = dealing_with c.args.material.now in
    let first = c.args.run.first in
    let count = c.args.run.count in
    let last : c.leaves.i ≡ count = omega (arith, c.leaves-test.false, c.leaves.auto.i-end) in
    let same : c.leaf_bytes-size.result ≡ leaf_length c.args.material.now.params c.args.material.now.plan.k = rw c.k.ensures.value at c.leaf_bytes-size.ensures in
    let leaves : length c.leaves.out ≡ c.leaf_bytes-size.result * count = rw same (c.leaves.auto.out ∙ c.requires.rooms.leaves_room) in
    let commits : length c.leaves.commits ≡ c.asked_bytes-row.result * count = rw c.asked_bytes-row.ensures (c.leaves.auto.commits ∙ c.requires.rooms.commits_room) in
    let keys = c.leaves.auto.keys ∙ c.requires.rooms.keys_room in
    record {
      leaves_are = run-written (λ k. leaf_part d (first + k)) _ c.leaves.i count c.leaves.out leaves last c.leaves.invariant.leaves;
      commits_are = run-written (λ k. leaf_asked (is_some c.args.material.now.macs) d (first + k)) _ c.leaves.i count c.leaves.commits commits last
          c.leaves.invariant.commits;
      keys_are = run-written (λ k. dealt_leaf_key d (first + k)) _ c.leaves.i count c.leaves.keys keys last c.leaves.invariant.keys;
    }
