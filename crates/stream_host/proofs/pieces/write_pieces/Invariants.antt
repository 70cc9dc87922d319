use Rattle.std.proofs.Common.{◌≡◌, ◌≤◌, ◌-◌, length, take, IsTrue}
use Rattle.disk_trait.specs.Disks.{SameKind}
use Rattle.disk_trait.specs.Images.{written, Torn, Follows}
use Rattle.stream_io.specs.RawFiles.{SyncsAfterWrite}
use Rattle.stream_host.proofs.pieces.write_pieces.Given as goal

-- the bytes before `done` were written
abbrev pub invariant-pieces : goal.invariant-pieces
invariant-pieces g l =
    let file = g.F.RawFile in
    let before = file.reads l.initial.file in
    record {
      within : l.done ≤ length l.bytes;
      stays : SameKind file.told file.honest g.F.Faults.steady file.room l.initial.file l.file;
      wrote : IsTrue (file.told l.initial.file) → l.at ≤ length before → file.reads l.file ≡ written before l.at (take l.done l.bytes);
      images : IsTrue (file.honest l.initial.file) → IsTrue (file.told l.initial.file) → l.at ≤ length before
          → Follows (Torn l.at (length l.bytes)) (file.may_leave l.initial.file) (file.may_leave l.file);
      syncs : SyncsAfterWrite file.told file.reads file.grown file.sync_failed l.at (length l.bytes) l.initial.file l.file;
    }

abbrev pub decreases-pieces : goal.decreases-pieces
decreases-pieces g l = length l.bytes - l.done
