use Rattle.std.proofs.Common.{refl}
use Rattle.dealer.specs.Material.{dealing_with}
use Rattle.dealer.proofs.Asked.{begins-within, file-joined, room-behind}
use Rattle.dealer.proofs.beside.write_leaves_beside.Goals as goal

pub split_at_mut-commits-requires : goal.split_at_mut-commits-requires
split_at_mut-commits-requires g c = rw c.min.ensures (begins-within c.args.file.now)

pub write_parts-requires-clause-rooms : goal.write_parts-requires-clause-rooms
write_parts-requires-clause-rooms g c = λ _ _. record {
  leaves_room = c.requires.room.leaves_room;
  commits_room = room-behind _ c.args.material.now.params c.args.material.now.plan c.args.material.now.id c.args.file.now c.split_at_mut-commits.result.1.now _ c.requires.room.file_room
      (rw c.min.ensures at c.split_at_mut-commits.ensures.back_len) refl;
  keys_room = c.requires.room.keys_room;
}

pub returns-clause-built : goal.returns-clause-built
returns-clause-built g c = record {
  leaves_are = c.write_parts.ensures.leaves;
  file_is = file-joined _ (dealing_with c.args.material.now) c.args.file.now _ _ c.requires.room.file_room
      (rw c.min.ensures at c.split_at_mut-commits.ensures.front) c.write_parts.ensures.commits;
  keys_are = c.write_parts.ensures.keys;
}

pub returns-clause-told : goal.returns-clause-told
returns-clause-told g c = c.write_parts.ensures.told
