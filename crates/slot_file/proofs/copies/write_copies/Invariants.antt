use Rattle.std.proofs.Common.{◌≡◌, ◌≤◌, ◌<◌, ◌++◌, ℕ, false, length, IsTrue}
use Rattle.std.specs.List.{flat_map}
use Rattle.slot_file.specs.Copies.{is_damaged, slot_block, taken_count}
use Rattle.slot_file.specs.Copying.{slots_of}
use Rattle.disk_trait.specs.SameDisk.{SameDisk}
use Rattle.disk_trait.specs.Gate.{StaysShut}
use Rattle.slot_file.specs.Layout.{slot_start}
use Rattle.slot_file.specs.Slots.{IsTold, OnlyLooked, faults_of, slot_now}
use Rattle.slot_file.proofs.copies.write_copies.Given as goal

abbrev pub invariant-loop-slot : goal.invariant-loop-slot
invariant-loop-slot g l = record {
  bytes : IsTrue (g.D.Pages.told l.initial.disk) → IsTold l.initial.from → g.D.Pages.reads l.disk ≡ g.D.Pages.reads l.initial.disk ++ flat_map slot_block (slots_of l.initial.from l.slot);
  end : IsTrue (g.D.Pages.told l.initial.disk) → length (g.D.Pages.reads l.disk) ≡ slot_start 2 l.slot;
  taken : IsTold l.initial.from → l.taken ≡ taken_count (slots_of l.initial.from l.slot);
  small : l.taken ≤ l.slot;
  sound : IsTold l.initial.from → (slot : ℕ) → slot < l.slot → is_damaged (slot_now l.initial.from slot) ≡ false;
  shut : StaysShut g.D.Pages l.initial.disk l.disk;
  stays : SameDisk g.D.Pages g.D.Faults l.initial.disk l.disk;
  from : OnlyLooked l.initial.from l.from;
  count : g.D.Faults.count l.disk ≡ g.D.Faults.count l.initial.disk;
  count_from : faults_of l.from ≡ faults_of l.initial.from;
}
