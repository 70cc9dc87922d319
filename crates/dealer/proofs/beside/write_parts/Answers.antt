use Rattle.std.proofs.Common.{◌≡◌, ◌+◌, ◌*◌, ◌∙◌, length, refl, arith, mul-zero, pow_pos}
use Rattle.std.specs.Prelude.{is_some}
use Rattle.mask_prf.specs.Lengths.{leaf_length}
use Rattle.reference_value.specs.Dealing.{leaf_part, reference}
use Rattle.lms_bytes.specs.Bytes.{joined}
use Rattle.lms_bytes.proofs.Joined.{joined-none}
use Rattle.reference_value.proofs.Parts.{length_part, part-written}
use Rattle.dealer.specs.Runs.{asked_length, dealt_leaf_key, leaf_asked}
use Rattle.dealer.specs.Material.{dealing_with}
use Rattle.dealer.proofs.Joins.{part-first}
use Rattle.dealer.proofs.Parts.{AreCut, cut-of, leaves-fit, part-fits, part-room, parts-written, told-all, told-more, told-none}
use Rattle.dealer.proofs.beside.write_parts.Goals as goal

pub parts-init : goal.parts-init
parts-init g c =
    let d = dealing_with c.args.material.now in
    let part = c.min-count.result in
    let none : c.leaf_bytes.result * part * 0 ≡ 0 = mul-zero (c.leaf_bytes.result * part) in
    let empty : c.asked_bytes.result * part * 0 ≡ 0 = mul-zero (c.asked_bytes.result * part) in
    let nothing : c.args.material.now.params.n * part * 0 ≡ 0 = mul-zero (c.args.material.now.params.n * part) in
    record {
      leaves = rw (none, joined-none (λ k. joined (λ j. leaf_part d (k * part + j)) part)) refl;
      commits = rw (empty, joined-none (λ k. joined (λ j. leaf_asked (is_some c.args.material.now.macs) d (k * part + j)) part)) refl;
      keys = rw (nothing, joined-none (λ k. joined (λ j. dealt_leaf_key d (k * part + j)) part)) refl;
      told = told-none g.P.Progress.told part c.leaves-all.result c.args.progress.now;
    }

pub overflow_add-leaves : goal.overflow_add-leaves
overflow_add-leaves g c =
    let cut : AreCut c.args.material.now.params.h c.leaves-all.result c.min-count.result = cut-of 9 c.leaves-all.ensures c.min-count.ensures in
    let same : c.leaf_bytes.result ≡ leaf_length c.args.material.now.params c.args.material.now.plan.k = rw c.k.ensures.value at c.leaf_bytes.ensures in
    let within = part-fits c.leaf_bytes.result (leaf_length c.args.material.now.params c.args.material.now.plan.k) c.parts.i (length c.parts.out) cut same (c.parts.auto.out ∙ c.requires.rooms.leaves_room) c.parts-test.true in
    omega (arith, within)

pub slice_bounds-leaves-end : goal.slice_bounds-leaves-end
slice_bounds-leaves-end g c =
    let cut : AreCut c.args.material.now.params.h c.leaves-all.result c.min-count.result = cut-of 9 c.leaves-all.ensures c.min-count.ensures in
    let same : c.leaf_bytes.result ≡ leaf_length c.args.material.now.params c.args.material.now.plan.k = rw c.k.ensures.value at c.leaf_bytes.ensures in
    let within = part-fits c.leaf_bytes.result (leaf_length c.args.material.now.params c.args.material.now.plan.k) c.parts.i (length c.parts.out) cut same (c.parts.auto.out ∙ c.requires.rooms.leaves_room) c.parts-test.true in
    omega (arith, within)

pub overflow_mul-start : goal.overflow_mul-start
overflow_mul-start g c =
    let cut : AreCut c.args.material.now.params.h c.leaves-all.result c.min-count.result = cut-of 9 c.leaves-all.ensures c.min-count.ensures in
    let within = part-fits c.asked_bytes.result (asked_length (is_some c.args.material.now.macs) c.args.material.now.params c.args.material.now.plan.k) c.parts.i (length c.parts.commits) cut c.asked_bytes.ensures (c.parts.auto.commits ∙ c.requires.rooms.commits_room) c.parts-test.true in
    omega (arith, within)

pub overflow_add-asked : goal.overflow_add-asked
overflow_add-asked g c =
    let cut : AreCut c.args.material.now.params.h c.leaves-all.result c.min-count.result = cut-of 9 c.leaves-all.ensures c.min-count.ensures in
    let within = part-fits c.asked_bytes.result (asked_length (is_some c.args.material.now.macs) c.args.material.now.params c.args.material.now.plan.k) c.parts.i (length c.parts.commits) cut c.asked_bytes.ensures (c.parts.auto.commits ∙ c.requires.rooms.commits_room) c.parts-test.true in
    omega (arith, within)

pub slice_bounds-asked-end : goal.slice_bounds-asked-end
slice_bounds-asked-end g c =
    let cut : AreCut c.args.material.now.params.h c.leaves-all.result c.min-count.result = cut-of 9 c.leaves-all.ensures c.min-count.ensures in
    let within = part-fits c.asked_bytes.result (asked_length (is_some c.args.material.now.macs) c.args.material.now.params c.args.material.now.plan.k) c.parts.i (length c.parts.commits) cut c.asked_bytes.ensures (c.parts.auto.commits ∙ c.requires.rooms.commits_room) c.parts-test.true in
    omega (arith, within)

pub overflow_mul-place : goal.overflow_mul-place
overflow_mul-place g c =
    let cut : AreCut c.args.material.now.params.h c.leaves-all.result c.min-count.result = cut-of 9 c.leaves-all.ensures c.min-count.ensures in
    let same : c.leaf_bytes.result ≡ leaf_length c.args.material.now.params c.args.material.now.plan.k = rw c.k.ensures.value at c.leaf_bytes.ensures in
    let within = part-fits c.leaf_bytes.result (leaf_length c.args.material.now.params c.args.material.now.plan.k) c.parts.i (length c.parts.out) cut same (c.parts.auto.out ∙ c.requires.rooms.leaves_room) c.parts-test.true in
    omega (arith, within)

pub overflow_mul-first : goal.overflow_mul-first
overflow_mul-first g c =
    let cut : AreCut c.args.material.now.params.h c.leaves-all.result c.min-count.result = cut-of 9 c.leaves-all.ensures c.min-count.ensures in
    let within = leaves-fit c.parts.i cut c.parts-test.true in
    omega (arith, within)

pub write_beside-requires-clause-within : goal.write_beside-requires-clause-within
write_beside-requires-clause-within g c =
    let cut : AreCut c.args.material.now.params.h c.leaves-all.result c.min-count.result = cut-of 9 c.leaves-all.ensures c.min-count.ensures in
    λ _ _. leaves-fit c.parts.i cut c.parts-test.true

pub write_beside-requires-clause-rooms : goal.write_beside-requires-clause-rooms
write_beside-requires-clause-rooms g c =
    let cut : AreCut c.args.material.now.params.h c.leaves-all.result c.min-count.result = cut-of 9 c.leaves-all.ensures c.min-count.ensures in
    let each = leaf_length c.args.material.now.params c.args.material.now.plan.k in
    let every = asked_length (is_some c.args.material.now.macs) c.args.material.now.params c.args.material.now.plan.k in
    let n = c.args.material.now.params.n in
    let part = c.min-count.result in
    let same : c.leaf_bytes.result ≡ each = rw c.k.ensures.value at c.leaf_bytes.ensures in
    let leaves = part-fits c.leaf_bytes.result each c.parts.i (length c.parts.out) cut same (c.parts.auto.out ∙ c.requires.rooms.leaves_room) c.parts-test.true in
    let asked = part-fits c.asked_bytes.result every c.parts.i (length c.parts.commits) cut c.asked_bytes.ensures (c.parts.auto.commits ∙ c.requires.rooms.commits_room) c.parts-test.true in
    let keys = part-fits n n c.parts.i (length c.parts.keys) cut refl (c.parts.auto.keys ∙ c.requires.rooms.keys_room) c.parts-test.true in
    λ _ _. record {
      leaves_room = part-first c.leaf_bytes.result each part _ same (length_part (c.leaf_bytes.result * part * c.parts.i) (c.leaf_bytes.result * part) c.parts.out leaves);
      commits_room = part-first c.asked_bytes.result every part _ c.asked_bytes.ensures
          (length_part (c.asked_bytes.result * part * c.parts.i) (c.asked_bytes.result * part) c.parts.commits asked);
      keys_room = length_part (n * part * c.parts.i) (n * part) c.parts.keys keys;
    }

pub overflow_mul-front : goal.overflow_mul-front
overflow_mul-front g c =
    let cut : AreCut c.args.material.now.params.h c.leaves-all.result c.min-count.result = cut-of 9 c.leaves-all.ensures c.min-count.ensures in
    let within = part-fits c.args.material.now.params.n c.args.material.now.params.n c.parts.i (length c.parts.keys) cut refl (c.parts.auto.keys ∙ c.requires.rooms.keys_room) c.parts-test.true in
    omega (arith, within)

pub overflow_add-values : goal.overflow_add-values
overflow_add-values g c =
    let cut : AreCut c.args.material.now.params.h c.leaves-all.result c.min-count.result = cut-of 9 c.leaves-all.ensures c.min-count.ensures in
    let within = part-fits c.args.material.now.params.n c.args.material.now.params.n c.parts.i (length c.parts.keys) cut refl (c.parts.auto.keys ∙ c.requires.rooms.keys_room) c.parts-test.true in
    omega (arith, within)

pub slice_bounds-values-end : goal.slice_bounds-values-end
slice_bounds-values-end g c =
    let cut : AreCut c.args.material.now.params.h c.leaves-all.result c.min-count.result = cut-of 9 c.leaves-all.ensures c.min-count.ensures in
    let within = part-fits c.args.material.now.params.n c.args.material.now.params.n c.parts.i (length c.parts.keys) cut refl (c.parts.auto.keys ∙ c.requires.rooms.keys_room) c.parts-test.true in
    omega (arith, within)

pub overflow_mul-width : goal.overflow_mul-width
overflow_mul-width g c =
    let cut : AreCut c.args.material.now.params.h c.leaves-all.result c.min-count.result = cut-of 9 c.leaves-all.ensures c.min-count.ensures in
    let within = part-room c.args.material.now.params.n c.args.material.now.params.n (length c.args.keys.now) cut refl c.requires.rooms.keys_room in
    omega (arith, within)

pub overflow_mul-size : goal.overflow_mul-size
overflow_mul-size g c =
    let cut : AreCut c.args.material.now.params.h c.leaves-all.result c.min-count.result = cut-of 9 c.leaves-all.ensures c.min-count.ensures in
    let same : c.leaf_bytes.result ≡ leaf_length c.args.material.now.params c.args.material.now.plan.k = rw c.k.ensures.value at c.leaf_bytes.ensures in
    let within = part-room c.leaf_bytes.result (leaf_length c.args.material.now.params c.args.material.now.plan.k) (length c.args.out.now) cut same c.requires.rooms.leaves_room in
    omega (arith, within)

pub overflow_mul-row : goal.overflow_mul-row
overflow_mul-row g c =
    let cut : AreCut c.args.material.now.params.h c.leaves-all.result c.min-count.result = cut-of 9 c.leaves-all.ensures c.min-count.ensures in
    let every = asked_length (is_some c.args.material.now.macs) c.args.material.now.params c.args.material.now.plan.k in
    let within = part-room c.asked_bytes.result every (length c.args.commits.now) cut c.asked_bytes.ensures c.requires.rooms.commits_room in
    omega (arith, within)

pub nonzero_div-i-end : goal.nonzero_div-i-end
nonzero_div-i-end g c = let some = pow_pos c.args.material.now.params.h in omega arith

pub overflow_add-first : goal.overflow_add-first
overflow_add-first g c =
    let cut : AreCut c.args.material.now.params.h c.leaves-all.result c.min-count.result = cut-of 9 c.leaves-all.ensures c.min-count.ensures in
    let within = leaves-fit c.parts.i cut c.parts-test.true in
    omega (arith, within)

pub parts-preserved : goal.parts-preserved
parts-preserved g c =
    let d = dealing_with c.args.material.now in
    let part = c.min-count.result in
    let cut : AreCut c.args.material.now.params.h c.leaves-all.result part = cut-of 9 c.leaves-all.ensures c.min-count.ensures in
    let same : c.leaf_bytes.result ≡ leaf_length c.args.material.now.params c.args.material.now.plan.k = rw c.k.ensures.value at c.leaf_bytes.ensures in
    let leaves = part-fits c.leaf_bytes.result (leaf_length c.args.material.now.params c.args.material.now.plan.k) c.parts.i (length c.parts.out) cut same (c.parts.auto.out ∙ c.requires.rooms.leaves_room) c.parts-test.true in
    let asked = part-fits c.asked_bytes.result (asked_length (is_some c.args.material.now.macs) c.args.material.now.params c.args.material.now.plan.k) c.parts.i (length c.parts.commits) cut c.asked_bytes.ensures (c.parts.auto.commits ∙ c.requires.rooms.commits_room) c.parts-test.true in
    let keys = part-fits c.args.material.now.params.n c.args.material.now.params.n c.parts.i (length c.parts.keys) cut refl (c.parts.auto.keys ∙ c.requires.rooms.keys_room) c.parts-test.true in
    record {
      leaves = part-written (λ k. joined (λ j. leaf_part d (k * part + j)) part) (c.leaf_bytes.result * part) c.parts.i c.parts.out c.write_beside.new.out leaves c.write_beside.auto.out
          c.write_beside.ensures.leaves_are c.parts.invariant.leaves;
      commits = part-written (λ k. joined (λ j. leaf_asked (is_some c.args.material.now.macs) d (k * part + j)) part) (c.asked_bytes.result * part) c.parts.i c.parts.commits c.write_beside.new.commits asked c.write_beside.auto.commits
          c.write_beside.ensures.commits_are c.parts.invariant.commits;
      keys = part-written (λ k. joined (λ j. dealt_leaf_key d (k * part + j)) part) (c.args.material.now.params.n * part) c.parts.i c.parts.keys c.write_beside.new.keys keys c.write_beside.auto.keys
          c.write_beside.ensures.keys_are c.parts.invariant.keys;
      told = told-more g.P.Progress.told part c.leaves-all.result c.parts.i c.args.progress.now c.parts.progress c.built.new.self c.parts.invariant.told c.built.ensures;
    }

pub returns-clause-leaves : goal.returns-clause-leaves
unfolding reference
returns-clause-leaves g c =
    let d = dealing_with c.args.material.now in
    let cut : AreCut c.args.material.now.params.h c.leaves-all.result c.min-count.result = cut-of 9 c.leaves-all.ensures c.min-count.ensures in
    let same : c.leaf_bytes.result ≡ leaf_length c.args.material.now.params c.args.material.now.plan.k = rw c.k.ensures.value at c.leaf_bytes.ensures in
    parts-written (leaf_part d) c.leaf_bytes.result (leaf_length c.args.material.now.params c.args.material.now.plan.k) c.parts.i c.parts.out cut same (c.parts.auto.out ∙ c.requires.rooms.leaves_room) c.parts-test.false c.parts.auto.i-end c.parts.invariant.leaves

pub returns-clause-commits : goal.returns-clause-commits
returns-clause-commits g c =
    let d = dealing_with c.args.material.now in
    let cut : AreCut c.args.material.now.params.h c.leaves-all.result c.min-count.result = cut-of 9 c.leaves-all.ensures c.min-count.ensures in
    parts-written (leaf_asked (is_some c.args.material.now.macs) d) c.asked_bytes.result (asked_length (is_some c.args.material.now.macs) c.args.material.now.params c.args.material.now.plan.k) c.parts.i c.parts.commits cut c.asked_bytes.ensures (c.parts.auto.commits ∙ c.requires.rooms.commits_room)
    c.parts-test.false c.parts.auto.i-end c.parts.invariant.commits

pub returns-clause-keys : goal.returns-clause-keys
returns-clause-keys g c =
    let d = dealing_with c.args.material.now in
    let cut : AreCut c.args.material.now.params.h c.leaves-all.result c.min-count.result = cut-of 9 c.leaves-all.ensures c.min-count.ensures in
    parts-written (dealt_leaf_key d) c.args.material.now.params.n c.args.material.now.params.n c.parts.i c.parts.keys cut refl (c.parts.auto.keys ∙ c.requires.rooms.keys_room)
    c.parts-test.false c.parts.auto.i-end c.parts.invariant.keys

pub returns-clause-told : goal.returns-clause-told
returns-clause-told g c = told-all g.P.Progress.told c.args.material.now.params.h c.parts.i c.args.progress.now c.parts.progress c.leaves-all.ensures c.min-count.ensures c.parts-test.false c.parts.auto.i-end c.parts.invariant.told
