use Rattle.std.proofs.Common.{◌≡◌, ◌≤◌, ◌-◌, length, take, drop, IsTrue}
use Rattle.disk_trait.specs.Disks.{SameKind}
use Rattle.stream_io.specs.RawFiles.{Untouched}
use Rattle.stream_host.proofs.pieces.read_pieces.Given as goal

-- the bytes before `done` were read
abbrev pub invariant-pieces : goal.invariant-pieces
invariant-pieces g l =
    let file = g.F.RawFile in
    record {
      within : l.done ≤ length l.out;
      size : length l.out ≡ length l.initial.out;
      untouched : Untouched file.told file.honest file.reads file.may_leave file.grown file.sync_failed l.initial.file l.file;
      stays : SameKind file.told file.honest g.F.Faults.steady file.room l.initial.file l.file;
      there : IsTrue (file.told l.initial.file) → l.done ≤ length (drop l.at (file.reads l.initial.file));
      bytes : IsTrue (file.told l.initial.file) → take l.done l.out ≡ take l.done (drop l.at (file.reads l.initial.file));
    }

abbrev pub decreases-pieces : goal.decreases-pieces
decreases-pieces g l = length l.out - l.done
