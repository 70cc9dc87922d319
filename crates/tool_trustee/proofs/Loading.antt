-- A journal that was taken and could not be loaded.
use Rattle.std.proofs.Common.{◌≡◌, ◌≢◌, ℕ, List, Some, IsTrue, refl}
use Rattle.opening_journal.specs.declared.faults.JournalLoad.{JournalLoad}
use Rattle.opening_journal.specs.declared.faults.JournalLoad.TheVariants as journal
use Rattle.opening_journal.specs.Loading as journals
use Rattle.slot_file.specs.Copies.{IsFirstDamaged}
use Rattle.disk_trait.specs.Faults.{RisesAt}
use Rattle.slot_file.specs.Layout.{load_fault}
use Rattle.slot_file.specs.declared.header.Header.{Header}
use Rattle.slot_file.specs.declared.header.LoadFault.{LoadFault}
use Rattle.stream_io.specs.Store.{PagesState, Returned, StoreOnward, StoreState, Taken}
use Rattle.tool_base.specs.World.{from_to}
use Rattle.tool_base.specs.Loads.{FailsToLoad, IsDamagedFile, IsOtherFile, damaged, device, no_memory, other_file}
use Rattle.tool_base.proofs.Takes.{device_fails, reads_as}
use Rattle.tool_trustee.specs.Loads.{end_of_journal}

-- why a journal is not loaded, depending on its fault
journal_other : (header : Header) (count : ℕ) (file : List ℕ) (fault : LoadFault) → journals.LoadRefused header count file (journal.Slots fault) → load_fault header count file ≡ Some fault
journal_other header count file fault (journals.other_file f is) = is

journal_damaged : (header : Header) (count : ℕ) (file : List ℕ) (leaf a b : ℕ) → journals.LoadRefused header count file (journal.Damaged leaf a b) → IsFirstDamaged 2 count file leaf a b
journal_damaged header count file leaf a b (journals.damaged s x y opens first) = first

module _ (a b c : StoreState) (name : List ℕ) (disk now : PagesState) (taken : Taken a name disk b) (goes : StoreOnward a b)
    (step : Returned b name now c) (comes : StoreOnward b c) (told_is : now.told ≡ disk.told) (honest_is : now.honest ≡ disk.honest) (steady_is : now.steady ≡ disk.steady)
    (header : Header) (count : ℕ) where
  pub journal_not_loaded : header.version ≡ 2 → (fault : JournalLoad) → (IsTrue disk.told → journals.LoadRefused header count disk.reads fault)
      → (IsTrue disk.steady → IsTrue disk.told → fault ≢ journal.Device) → RisesAt disk.count now.count fault journal.Device
      → FailsToLoad header count (from_to a c) name (end_of_journal fault)
  journal_not_loaded version (journal.Slots fault) refused succeeds cause =
      other_file fault (reads_as a b c name disk now taken goes step comes told_is honest_is steady_is (IsOtherFile header count fault) (λ told. record { fault_is = journal_other header count disk.reads fault (refused told) }))
  journal_not_loaded version journal.NoMemory refused succeeds cause = no_memory
  journal_not_loaded version (journal.Damaged leaf x y) refused succeeds cause =
      damaged (reads_as a b c name disk now taken goes step comes told_is honest_is steady_is (IsDamagedFile header count) (λ told. record {
        slot = leaf;
        a = x;
        b = y;
        first = rw version (journal_damaged header count disk.reads leaf x y (refused told));
      }))
  journal_not_loaded version journal.Device refused succeeds cause = device (device_fails a b c name disk now taken goes step comes told_is honest_is steady_is (cause.failed refl) (λ steady told. succeeds steady told refl))
