use Rattle.std.proofs.Common.{◌*◌, ◌^◌, ◌∙◌, sym, ap, arith}
use Rattle.mask_prf.specs.Lengths.{leaf_length}
use Rattle.dealer.specs.Runs.{dealt_leaf_key}
use Rattle.dealer.specs.Material.{dealing_with}
use Rattle.dealer.proofs.Asked.{begins-within, file-whole, room-behind}
use Rattle.dealer.proofs.Joins.{whole-leaves, whole-run}
use Rattle.dealer.proofs.writing.write_leaves.Goals as goal

pub split_at_mut-commits-requires : goal.split_at_mut-commits-requires
split_at_mut-commits-requires c = rw c.min.ensures (begins-within c.args.file.now)

pub write_run-requires-clause-within : goal.write_run-requires-clause-within
write_run-requires-clause-within c = omega (arith, c.whole.ensures.first, c.whole.ensures.count)

pub write_run-requires-clause-rooms : goal.write_run-requires-clause-rooms
write_run-requires-clause-rooms c =
    let each = leaf_length c.args.material.now.params c.args.material.now.plan.k in
    record {
      leaves_room = c.requires.leaves_room ∙ ap (λ count. each * count) (sym c.whole.ensures.count);
      commits_room = room-behind _ c.args.material.now.params c.args.material.now.plan c.args.material.now.id c.args.file.now c.split_at_mut-commits.result.1.now c.whole.result.count
          c.requires.file_room (rw c.min.ensures at c.split_at_mut-commits.ensures.back_len) c.whole.ensures.count;
      keys_room = c.requires.keys_room ∙ ap (λ count. c.args.material.now.params.n * count) (sym c.whole.ensures.count);
    }

pub returns : goal.returns
returns c =
    let d = dealing_with c.args.material.now in
    let built = c.write_run.ensures in
    let first = c.whole.ensures.first in
    let count = c.whole.ensures.count in
    record {
      leaves_are = built.leaves_are ∙ whole-leaves d _ first count;
      file_is = file-whole _ d c.whole.result c.args.file.now _ _ c.requires.file_room (rw c.min.ensures at c.split_at_mut-commits.ensures.front) built.commits_are first count;
      keys_are = built.keys_are ∙ whole-run (dealt_leaf_key d) c.whole.result (2 ^ d.params.h) first count;
    }
