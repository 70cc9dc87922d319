use Rattle.std.proofs.Common.{rules, arith, ◌≡◌, length, refl}
use Rattle.std.specs.Prelude.{is_some}
use Rattle.std.proofs.iter.Serving.{serving}
use Rattle.mask_prf.specs.Lengths.{leaf_length}
use Rattle.dealer.specs.Runs.{HasRunRoom, asked_length}
use Rattle.dealer.proofs.Joins.{first-within, part-behind, part-first, runs-built}
use Rattle.dealer.proofs.beside.+fn-write_beside-join_mut+arg2+fn-write_beside-join_mut+arg3+write_beside.Goals as goal

pub write_run-requires-clause-within : goal.write_run-requires-clause-within
write_run-requires-clause-within g t c = c.requires.within

pub write_run-requires-clause-rooms : goal.write_run-requires-clause-rooms
write_run-requires-clause-rooms g t c = c.requires.rooms

pub returns-then-threads-lt2 : goal.returns-then-threads-lt2
returns-then-threads-lt2 g t c = c.write_run.ensures

pub overflow_mul-leaf_bytes : goal.overflow_mul-leaf_bytes
overflow_mul-leaf_bytes g t c =
    let same : c.leaf_bytes.result ≡ leaf_length c.args.material.now.params c.args.material.now.plan.k = rw c.k.ensures.value at c.leaf_bytes.ensures in
    let within = first-within _ _ c.cut.result.0.count c.cut.result.1.count c.args.run.count (length c.args.out.now) same c.requires.rooms.leaves_room c.cut.ensures.all in
    omega (arith, within)

pub split_at_mut-front-requires : goal.split_at_mut-front-requires
split_at_mut-front-requires g t c =
    let same : c.leaf_bytes.result ≡ leaf_length c.args.material.now.params c.args.material.now.plan.k = rw c.k.ensures.value at c.leaf_bytes.ensures in
    first-within _ _ c.cut.result.0.count c.cut.result.1.count c.args.run.count (length c.args.out.now) same c.requires.rooms.leaves_room c.cut.ensures.all

pub overflow_mul-row : goal.overflow_mul-row
overflow_mul-row g t c =
    let within =
    first-within _ _ c.cut.result.0.count c.cut.result.1.count c.args.run.count (length c.args.commits.now) c.asked_bytes-row.ensures c.requires.rooms.commits_room c.cut.ensures.all in
    omega (arith, within)

pub split_at_mut-ahead-requires : goal.split_at_mut-ahead-requires
split_at_mut-ahead-requires g t c =
    first-within _ _ c.cut.result.0.count c.cut.result.1.count c.args.run.count (length c.args.commits.now) c.asked_bytes-row.ensures c.requires.rooms.commits_room c.cut.ensures.all

pub overflow_mul-params : goal.overflow_mul-params
overflow_mul-params g t c =
    let within = first-within _ _ c.cut.result.0.count c.cut.result.1.count c.args.run.count (length c.args.keys.now) refl c.requires.rooms.keys_room c.cut.ensures.all in
    omega (arith, within)

pub split_at_mut-lower-requires : goal.split_at_mut-lower-requires
split_at_mut-lower-requires g t c =
    first-within _ _ c.cut.result.0.count c.cut.result.1.count c.args.run.count (length c.args.keys.now) refl c.requires.rooms.keys_room c.cut.ensures.all

pub join_mut-requires-after_bounds : goal.join_mut-requires-after_bounds
join_mut-requires-after_bounds g t c κs within =
    let size = c.leaf_bytes.result in
    let row = c.asked_bytes-row.result in
    let each = leaf_length c.args.material.now.params c.args.material.now.plan.k in
    let every = asked_length (is_some c.args.material.now.macs) c.args.material.now.params c.args.material.now.plan.k in
    let count = c.args.run.count in
    let first = c.cut.result.0.count in
    let next = c.cut.result.1.count in
    let leaves = c.split_at_mut-front.result in
    let commits = c.split_at_mut-ahead.result in
    let keys = c.split_at_mut-lower.result in
    let commit = is_some c.args.material.now.macs in
    let params = c.args.material.now.params in
    let same : size ≡ each = rw c.k.ensures.value at c.leaf_bytes.ensures in
    let one : HasRunRoom commit params c.args.material.now.plan.k first leaves.0.now commits.0.now keys.0.now = record {
      leaves_room = part-first size each first (length leaves.0.now) same c.split_at_mut-front.ensures.front_len;
      commits_room = part-first row every first (length commits.0.now) c.asked_bytes-row.ensures c.split_at_mut-ahead.ensures.front_len;
      keys_room = c.split_at_mut-lower.ensures.front_len;
    } in
    let other : HasRunRoom commit params c.args.material.now.plan.k next leaves.1.now commits.1.now keys.1.now = record {
      leaves_room = part-behind size each first next count (length c.args.out.now) (length leaves.1.now) same c.requires.rooms.leaves_room c.cut.ensures.all
          c.split_at_mut-front.ensures.back_len;
      commits_room = part-behind row every first next count (length c.args.commits.now) (length commits.1.now) c.asked_bytes-row.ensures c.requires.rooms.commits_room
          c.cut.ensures.all c.split_at_mut-ahead.ensures.back_len;
      keys_room = part-behind params.n params.n first next count (length c.args.keys.now) (length keys.1.now) refl c.requires.rooms.keys_room c.cut.ensures.all
          c.split_at_mut-lower.ensures.back_len;
    } in
    grind (serving, one, other)

pub returns : goal.returns
returns g t c =
    runs-built c.front-1.given.0 c.ahead-1.given.0 c.lower-1.given.0 c.back-1.given.0 c.behind-1.given.0 c.upper-1.given.0
    c.cut.ensures.first c.cut.ensures.next c.cut.ensures.all (search rules) (search rules)
