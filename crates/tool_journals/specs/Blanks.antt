-- A blank file of slots that a command makes under a new name.
use Rattle.std.specs.Prelude.{◌≡◌, ◌⊎◌, ℕ, List, [], ◌∷◌, Some, IsTrue, is_some}
use Rattle.disk_trait.specs.Images.{Only}
use Rattle.slot_file.specs.Fresh.{IsBlank, IsUnready}
use Rattle.slot_file.specs.Fresh as file
use Rattle.slot_file.specs.Layout.{blank_file}
use Rattle.slot_file.specs.declared.header.Header.{Header}
use Rattle.stream_io.specs.Store.{PagesState, StoreState}
use Rattle.stream_io.specs.declared.store.Readers.TheVariants.{OwnerAlone}
use Rattle.tool_base.specs.Ending as ending
use Rattle.tool_base.specs.Ending.{Ending}
use Rattle.tool_base.specs.Outputs.{IsNew, IsNotNew}
use Rattle.tool_base.specs.World.{StoreRun}
use Rattle.tool_base.specs.Disks.{DeviceFails, IsOut}

-- the disk of the name keeps the model of crashes
abbrev pub IsHonest : StoreRun → List ℕ → Type 0
IsHonest store name = IsTrue (store.before.disks name).honest

-- only the owner of the file of this name may read it
abbrev pub IsOwners : StoreRun → List ℕ → Type 0
IsOwners store name = IsTrue store.before.told → store.after.readers name ≡ Some OwnerAlone

-- The name is in the store, and only its owner may read it. Each image that a crash may leave of it does not open, or
-- is a whole file of this kind.
pub record IsNeverHalf (whole : List ℕ → Type 0) (store : StoreRun) (name : List ℕ) : Type 0 where
  pub stays : IsTrue store.before.told → IsTrue (is_some (store.after.file name))
  pub owners : IsOwners store name
  pub images : IsTrue store.before.told → IsHonest store name
      → (image : List ℕ) → store.after.leaves name image → IsUnready image ⊎ whole image

-- the end if no blank file was made under this name, with the names that were touched
pub data IsNotMade (store : StoreRun) (name : List ℕ) (header : Header) (count : ℕ)
    : Ending → List (List ℕ) → Type 0 where
  not_new : (end : Ending) → IsNotNew store name end → IsNotMade store name header count end []
  device : IsNew store name → DeviceFails store → IsNeverHalf (file.IsNew header count) store name
      → IsNotMade store name header count ending.DeviceFailed (name ∷ [])
  not_empty : IsNew store name → (IsTrue store.before.told → ⊥)
      → IsNotMade store name header count (ending.NotLoaded 7) (name ∷ [])

-- the name was new, and stands for the blank file, which is stable, and which only its owner may read
pub record IsMade (store : StoreRun) (name : List ℕ) (header : Header) (count : ℕ) : Type 0 where
  pub new : IsNew store name
  pub file : IsTrue store.before.told → store.after.file name ≡ Some (blank_file header count)
  pub blank : IsTrue store.before.told → IsBlank header count (blank_file header count)
  pub stable : IsTrue store.before.told → IsHonest store name
      → Only (blank_file header count) (store.after.leaves name)
  pub owners : IsOwners store name

-- a new disk of this name is out and holds the blank file, which is stable, and which only its owner may read
pub record IsBlankDisk (old : StoreState) (name : List ℕ) (header : Header) (count : ℕ) (disk : PagesState)
    (new : StoreState) : Type 0 where
  pub is_out : IsOut old name disk new
  pub absent : IsNew (record { before = old; after = new }) name
  pub file : IsTrue old.told → file.IsNew header count disk.reads
  pub stable : IsTrue old.told → IsTrue disk.honest → Only disk.reads disk.may_leave
  pub owners : IsOwners (record { before = old; after = new }) name
