-- internal: What is taken of memory before a reference is written onto a disk.
use Rattle.std.specs.Prelude.{◌≡◌, ◌*◌, ◌^◌, ◌<◌, length}
use Rattle.dealer.specs.Dealt.{AreShares}
use Rattle.dealer.specs.Material.{dealing_with}
use Rattle.dealer.specs.Onto.{part_length}
use Rattle.dealer.specs.declared.material.KeyMaterial.{KeyMaterial}
use Rattle.dealer.specs.declared.onto_room.OntoRoom.{OntoRoom}

-- room for a part and for K of each leaf, and the shares
pub record IsRoomOf (material : KeyMaterial) (room : OntoRoom) : Type 0 where
  pub leaves_room : length room.leaves.items ≡ part_length material.params material.plan
  pub keys_room : length room.keys.items ≡ material.params.n * 2 ^ material.params.h
  pub shares : AreShares (dealing_with material) room.shares.items
  pub some : 0 < length room.shares.items
