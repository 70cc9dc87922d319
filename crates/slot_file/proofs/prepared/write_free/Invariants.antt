use Rattle.std.proofs.Common.{◌≡◌, ◌*◌, ◌++◌, replicate, IsTrue}
use Rattle.disk_trait.specs.SameDisk.{SameDisk}
use Rattle.disk_trait.specs.Gate.{StaysShut}
use Rattle.slot_file.specs.Layout.{slot_size}
use Rattle.slot_file.proofs.prepared.write_free.Given as goal

abbrev pub invariant-loop-slot : goal.invariant-loop-slot
invariant-loop-slot g l = record {
  bytes : IsTrue (g.D.Pages.told l.initial.disk) → g.D.Pages.reads l.disk ≡ g.D.Pages.reads l.initial.disk ++ replicate (slot_size l.version * l.slot) 0;
  shut : StaysShut g.D.Pages l.initial.disk l.disk;
  count : g.D.Faults.count l.disk ≡ g.D.Faults.count l.initial.disk;
  stays : SameDisk g.D.Pages g.D.Faults l.initial.disk l.disk;
}
