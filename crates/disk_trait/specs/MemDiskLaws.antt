-- What a read of a disk in memory gives is an image. The proof stands with the definitions, since the toolchain
-- requires what an implementation names to be among them.
use Rattle.std.specs.Prelude.{true, IsTrue, refl}
use Rattle.std.proofs.Common.{arith}
use Rattle.disk_trait.specs.MemDisk.{MemState, MayLeave}

pub leaves_bytes : (disk : MemState) → IsTrue true → IsTrue true → MayLeave disk disk.bytes
leaves_bytes disk honest told =
    record { no_shorter = omega arith; no_longer = omega arith; others = λ k within same. refl }
