-- Blank files under new names.
use Rattle.std.proofs.Common.{◌≡◌, ℕ, List, [], ◌∷◌, Some, IsTrue, refl, ap, subst, ◌∙◌, rules}
use Rattle.slot_file.specs.Fresh as file
use Rattle.slot_file.specs.Fresh.{IsBlank}
use Rattle.slot_file.specs.declared.header.Header.{Header}
use Rattle.slot_file.specs.declared.prepared.PrepareFault.{PrepareFault}
use Rattle.slot_file.specs.declared.prepared.PrepareFault.TheVariants.{Device, NotEmpty}
use Rattle.stream_io.specs.Store.{Made, PagesState, Returned, StoreOnward, StoreState, has_name}
use Rattle.stream_io.specs.declared.store.NewFault.{NewFault}
use Rattle.stream_io.specs.declared.store.Readers.TheVariants.{OwnerAlone}
use Rattle.stream_io.specs.declared.store.NewFault.TheVariants.{Exists, Failed, NoMemory}
use Rattle.tool_base.specs.Ending.{Ending}
use Rattle.tool_base.specs.Outputs.{IsNew, IsNotNew, CallFailed, test_failed, no_memory_to_name}
use Rattle.tool_base.specs.World.{IsUnchanged, StoreRun, from_to}
use Rattle.tool_base.proofs.Writing.{there_or_no_memory}
use Rattle.tool_base.specs.Disks.{DeviceFails}
use Rattle.tool_journals.specs.Blanks.{IsBlankDisk, IsMade, IsNeverHalf, IsNotMade, IsOwners, device, not_empty}
use Rattle.tool_base.specs.Disks.{IsOut}
use Rattle.tool_base.proofs.Outs.{IsBackAs, back_as, made_out, out_same}
use Rattle.tool_base.proofs.Runs.{onward_none}
use Rattle.tool_journals.specs.Faults.{end_of_prepare}

pub not_made_of : (run : StoreRun) (name : List ℕ) (header : Header) (count : ℕ) (fault : PrepareFault) (end : Ending) → end ≡ end_of_prepare fault
    → IsNew run name → (fault ≡ Device → DeviceFails run) → ((held : ℕ) → fault ≡ NotEmpty held → IsTrue run.before.told → ⊥)
    → IsNeverHalf (file.IsNew header count) run name → IsNotMade run name header count end (name ∷ [])
not_made_of run name header count Device end is new failed empty half = rw is (device new (failed refl) half)
not_made_of run name header count (NotEmpty held) end is new failed empty half = rw is (not_empty new (empty held refl))

pub new_unchanged : (first a b : StoreState) (name : List ℕ) → IsUnchanged first a → IsNew (from_to a b) name → (c : StoreState) → IsNew (from_to first c) name
new_unchanged first a b name unchanged new c = λ told. rw (← unchanged.same.names.file, ← unchanged.same.names.out) (new (rw unchanged.onward.told told))

-- who may read a file that was made in a run stays the same
pub owners_on : (first a b c : StoreState) (name : List ℕ) → StoreOnward first a → StoreOnward a b → StoreOnward b c → IsOwners (from_to a b) name → IsOwners (from_to first c) name
owners_on first a b c name goes made comes owners told =
    let told_a : IsTrue a.told = rw goes.told told in
    let told_b : IsTrue b.told = rw made.told told_a in
    comes.readers told_b name OwnerAlone (owners told_a)

-- a disk that was made is back, as it was at the end
pub record IsMadeAndBack (old mid last : StoreState) (name : List ℕ) (before now : PagesState) : Type 0 where
  pub fresh : IsOut old name before mid
  pub back : IsBackAs old name now last
  pub owners : IsOwners (from_to old last) name

pub made_and_back : (old mid last : StoreState) (name : List ℕ) (size : ℕ) (before now : PagesState) → Made old name size OwnerAlone before mid → StoreOnward old mid
    → now.told ≡ before.told → now.honest ≡ before.honest → now.steady ≡ before.steady → Returned mid name now last → StoreOnward mid last
    → IsMadeAndBack old mid last name before now
made_and_back old mid last name size before now made goes told honest steady returned comes =
    let fresh = made_out old mid name size before made goes in
    record {
      fresh = fresh;
      back = back_as old mid last name now (out_same old mid name before now fresh told honest steady) returned comes;
      owners = owners_on old old mid last name (onward_none old) goes comes made.readers;
    }

pub made_of : (first a b c : StoreState) (name : List ℕ) (header : Header) (count : ℕ) (disk : PagesState) → IsUnchanged first a
    → IsBlankDisk a name header count disk b → IsBackAs first name disk c → StoreOnward b c → IsMade (from_to first c) name header count
made_of first a b c name header count disk unchanged blank back onward = record {
  new = new_unchanged first a b name unchanged blank.absent c;
  file = λ told. back.file told ∙ ap Some (blank.file (rw unchanged.onward.told told)).0;
  blank = λ told. let is = blank.file (rw unchanged.onward.told told) in subst (λ f. IsBlank header count f) is.0 is.1;
  stable = search rules;
  owners = owners_on first a b c name unchanged.onward blank.is_out.onward onward blank.owners;
}
