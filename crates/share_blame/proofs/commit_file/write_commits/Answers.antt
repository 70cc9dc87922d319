use Rattle.std.proofs.Common.{◌≡◌, ◌*◌, ◌^◌, ◌∙◌, length, refl, arith, mul-zero}
use Rattle.lms_bytes.proofs.Joined.{front-all, joined-none}
use Rattle.mask_prf.specs.Lengths.{leaf_commits_length}
use Rattle.reference_value.specs.Commitments.{leaf_commitments}
use Rattle.reference_value.proofs.Parts.{length_part, part-within, part-written}
use Rattle.share_blame.proofs.Remade.{all-leaves, leaf-same}
use Rattle.share_blame.proofs.commit_file.write_commits.Goals as goal

pub leaves-init : goal.leaves-init
leaves-init c = λ d is.
    let empty : c.leaf_commits_bytes-size.result * 0 ≡ 0 = mul-zero _ in
    rw (empty, joined-none (leaf_commitments d)) refl

pub overflow_mul-place : goal.overflow_mul-place
overflow_mul-place c =
    let size : c.leaf_commits_bytes-size.result ≡ leaf_commits_length c.args.header.now.params c.args.header.now.plan.k = rw c.k.ensures.value at c.leaf_commits_bytes-size.ensures in
    let within = part-within _ _ c.leaves.q (2 ^ c.args.header.now.params.h) (length c.leaves.out) size (c.leaves.auto.out ∙ c.requires.room) (omega arith) in
    omega (arith, within)

pub overflow_add-part : goal.overflow_add-part
overflow_add-part c =
    let size : c.leaf_commits_bytes-size.result ≡ leaf_commits_length c.args.header.now.params c.args.header.now.plan.k = rw c.k.ensures.value at c.leaf_commits_bytes-size.ensures in
    let within = part-within _ _ c.leaves.q (2 ^ c.args.header.now.params.h) (length c.leaves.out) size (c.leaves.auto.out ∙ c.requires.room) (omega arith) in
    omega (arith, within)

pub slice_bounds-part-end : goal.slice_bounds-part-end
slice_bounds-part-end c =
    let size : c.leaf_commits_bytes-size.result ≡ leaf_commits_length c.args.header.now.params c.args.header.now.plan.k = rw c.k.ensures.value at c.leaf_commits_bytes-size.ensures in
    let within = part-within _ _ c.leaves.q (2 ^ c.args.header.now.params.h) (length c.leaves.out) size (c.leaves.auto.out ∙ c.requires.room) (omega arith) in
    omega (arith, within)

pub build_committed_leaf-requires-clause-commits : goal.build_committed_leaf-requires-clause-commits
build_committed_leaf-requires-clause-commits c =
    let size : c.leaf_commits_bytes-size.result ≡ leaf_commits_length c.args.header.now.params c.args.header.now.plan.k = rw c.k.ensures.value at c.leaf_commits_bytes-size.ensures in
    let within = part-within _ _ c.leaves.q (2 ^ c.args.header.now.params.h) (length c.leaves.out) size (c.leaves.auto.out ∙ c.requires.room) (omega arith) in
    length_part (c.leaf_commits_bytes-size.result * c.leaves.q) _ c.leaves.out within ∙ size

pub leaves-preserved : goal.leaves-preserved
leaves-preserved c = λ d is.
    let size : c.leaf_commits_bytes-size.result ≡ leaf_commits_length c.args.header.now.params c.args.header.now.plan.k = rw c.k.ensures.value at c.leaf_commits_bytes-size.ensures in
    let within = part-within _ _ c.leaves.q (2 ^ c.args.header.now.params.h) (length c.leaves.out) size (c.leaves.auto.out ∙ c.requires.room) (omega arith) in
    part-written (leaf_commitments d) c.leaf_commits_bytes-size.result c.leaves.q c.leaves.out c.build_committed_leaf.new.commits within c.build_committed_leaf.auto.commits
    (c.build_committed_leaf.ensures.commitments ∙ leaf-same c.args.header.now _ _ c.args.keys.now d is c.leaves.q) (c.leaves.invariant d is)

pub returns : goal.returns
returns c = λ d is.
    let size : c.leaf_commits_bytes-size.result ≡ leaf_commits_length c.args.header.now.params c.args.header.now.plan.k = rw c.k.ensures.value at c.leaf_commits_bytes-size.ensures in
    let last : c.leaves.q ≡ 2 ^ c.args.header.now.params.h = omega arith in
    let room : length c.leaves.out ≡ c.leaf_commits_bytes-size.result * 2 ^ c.args.header.now.params.h = rw size (c.leaves.auto.out ∙ c.requires.room) in
    all-leaves c.args.header.now c.args.keys.now d c.leaves.out is
    (front-all (leaf_commitments d) c.leaf_commits_bytes-size.result (2 ^ c.args.header.now.params.h) c.leaves.out room (rw last at (c.leaves.invariant d is)))
