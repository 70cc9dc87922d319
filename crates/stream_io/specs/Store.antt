-- What a store is in one state, and what its calls make of it.
use Rattle.std.specs.Prelude.{◌≡◌, ◌↔◌, ◌||◌, ◌+◌, ◌-◌, ◌^◌, ◌≤◌, ℕ, Bool, false, List, [], length, Option, Some, None}
use Rattle.std.specs.Prelude.{IsTrue, is_some, min, if◌then◌else◌}
use Rattle.std.specs.Str.{bytes_eq}
use Rattle.disk_trait.specs.Faults.{Rose}
use Rattle.disk_trait.specs.Images.{Only}
use Rattle.stream_io.specs.declared.store.Readers.{Readers}

-- what a disk said of itself when it was handed out
pub record Handed : Type 0 where
  pub told : Bool
  pub honest : Bool
  pub steady : Bool

-- pages or a disk in one state, by the words of their traits
pub record PagesState : Type 1 where
  pub told : Bool
  pub honest : Bool
  pub steady : Bool
  pub count : ℕ
  pub room : ℕ
  pub reads : List ℕ
  pub may_leave : List ℕ → Type 0

-- the state of pages that have these members
abbrev pub pages_state : {P : Type 0} → (P → Bool) → (P → Bool) → (P → Bool) → (P → ℕ) → (P → ℕ) → (P → List ℕ)
    → (P → List ℕ → Type 0) → P → PagesState
pages_state told honest steady count room reads may_leave pages = record {
  told = told pages;
  honest = honest pages;
  steady = steady pages;
  count = count pages;
  room = room pages;
  reads = reads pages;
  may_leave = may_leave pages;
}

abbrev pub handed : PagesState → Handed
handed pages = record { told = pages.told; honest = pages.honest; steady = pages.steady }

-- A store in one state. What is said of names means something only if the store tells its content.
pub record StoreState : Type 1 where
  -- whether it tells its content, and whether its calls fail for their arguments alone
  pub told : Bool
  pub steady : Bool
  -- its count of faults, and that of the disks and views that were given back
  pub count : ℕ
  pub disk_count : ℕ
  -- how many views are out
  pub views : ℕ
  -- the bytes that a name is read with: none if it is not in the store, or while its disk is out
  pub file : List ℕ → Option (List ℕ)
  -- what a crash now may leave under a name
  pub leaves : List ℕ → List ℕ → Type 0
  -- what the disk of a name says of itself when it is handed out
  pub disks : List ℕ → Handed
  -- the disks that are out, as they were handed out
  pub out : List ℕ → Option Handed
  -- who may read the file of a name: none if it is not in the store
  pub readers : List ℕ → Option Readers

-- the name is in the store, or its disk is out
abbrev pub has_name : StoreState → List ℕ → Bool
has_name store name = is_some (store.file name) || is_some (store.out name)

-- what each name stands for once this stands under that name
abbrev pub added : {A : Type 0} → (List ℕ → Option A) → List ℕ → A → List ℕ → Option A
added names name it other = if bytes_eq other name then Some it else names other

-- what each name stands for once nothing stands under that name
abbrev pub without : {A : Type 0} → (List ℕ → Option A) → List ℕ → List ℕ → Option A
without names name other = if bytes_eq other name then None else names other

-- what a call makes of a count: it never falls, and rises if the call failed and not otherwise
pub record RisesWhere (failed : Type 0) (before now : ℕ) : Type 0 where
  pub later : before ≤ now
  pub rose : failed → Rose before now
  pub same : (failed → ⊥) → now ≡ before

-- What no call changes, and counts that no call lowers. Who may read a file stays as it was made.
pub record StoreOnward (old new : StoreState) : Type 0 where
  pub told : new.told ≡ old.told
  pub steady : new.steady ≡ old.steady
  pub disks : (name : List ℕ) → new.disks name ≡ old.disks name
  pub readers : IsTrue old.told → (name : List ℕ) (who : Readers) → old.readers name ≡ Some who
      → new.readers name ≡ Some who
  pub count : old.count ≤ new.count
  pub disk_count : old.disk_count ≤ new.disk_count

-- all names stand for what they stood for
pub record SameNames (old new : StoreState) : Type 0 where
  pub file : new.file ≡ old.file
  pub leaves : (name image : List ℕ) → new.leaves name image ↔ old.leaves name image
  pub out : new.out ≡ old.out

-- the count of disks and the number of views are as they were
pub record SameLoans (old new : StoreState) : Type 0 where
  pub disk_count : new.disk_count ≡ old.disk_count
  pub views : new.views ≡ old.views

-- nothing changed but the count of faults
pub record SameStore (old new : StoreState) : Type 0 where
  pub names : SameNames old new
  pub loans : SameLoans old new

-- the names other than this one leave what they left
abbrev pub OthersLeave : List ℕ → StoreState → StoreState → Type 0
OthersLeave name old new = (other image : List ℕ) → bytes_eq other name ≡ false
    → new.leaves other image ↔ old.leaves other image

-- a file of these bytes was written under a name that was not there, for these readers, and is all stable
pub record Written (old : StoreState) (name bytes : List ℕ) (who : Readers) (new : StoreState) : Type 0 where
  pub absent : IsTrue old.told → has_name old name ≡ false
  pub file : IsTrue old.told → (other : List ℕ) → new.file other ≡ added old.file name bytes other
  pub out : (other : List ℕ) → new.out other ≡ old.out other
  pub stable : IsTrue old.told → Only bytes (new.leaves name)
  pub readers : IsTrue old.told → new.readers name ≡ Some who
  pub others : IsTrue old.told → OthersLeave name old new
  pub loans : SameLoans old new

-- pages that a store hands out begin with no fault, tell their content if it does, and are steady if it is
pub record HandsOut (store : StoreState) (pages : PagesState) : Type 0 where
  pub fresh : pages.count ≡ 0
  pub told : IsTrue store.told → IsTrue pages.told
  pub steady : IsTrue store.steady → IsTrue pages.steady

-- an empty disk with room for `size` bytes was made under a name that was not there, for these readers, and is out
pub record Made (old : StoreState) (name : List ℕ) (size : ℕ) (who : Readers) (disk : PagesState) (new : StoreState)
    : Type 0 where
  pub absent : IsTrue old.told → has_name old name ≡ false
  pub given : HandsOut old disk
  pub kind : IsTrue old.told → old.disks name ≡ handed disk
  pub reads : IsTrue disk.told → disk.reads ≡ []
  pub room : IsTrue old.told → size ≤ disk.room
  pub stable : IsTrue old.told → IsTrue disk.honest → Only [] disk.may_leave
  pub readers : IsTrue old.told → new.readers name ≡ Some who
  pub file : IsTrue old.told → (other : List ℕ) → new.file other ≡ old.file other
  pub out : IsTrue old.told → (other : List ℕ) → new.out other ≡ added old.out name (handed disk) other
  pub others : IsTrue old.told → OthersLeave name old new
  pub loans : SameLoans old new

-- the disk of this name was handed out: its bytes are the file's, and a crash may leave of it what it left of the name
pub record Taken (old : StoreState) (name : List ℕ) (disk : PagesState) (new : StoreState) : Type 0 where
  pub was_in : IsTrue old.told → old.out name ≡ None
  pub given : HandsOut old disk
  pub kind : IsTrue old.told → old.disks name ≡ handed disk
  pub reads : IsTrue old.told → old.file name ≡ Some disk.reads
  pub room : IsTrue old.told → length disk.reads ≤ disk.room
  pub images : IsTrue old.told → (image : List ℕ) → disk.may_leave image ↔ old.leaves name image
  pub file : IsTrue old.told → (other : List ℕ) → new.file other ≡ without old.file name other
  pub out : IsTrue old.told → (other : List ℕ) → new.out other ≡ added old.out name (handed disk) other
  pub others : IsTrue old.told → OthersLeave name old new
  pub loans : SameLoans old new

-- the disk of this name was given back: the name stands for its bytes and for the images that it may leave
pub record Returned (old : StoreState) (name : List ℕ) (disk : PagesState) (new : StoreState) : Type 0 where
  pub count : new.count ≡ old.count
  pub disk_count : new.disk_count ≡ min (old.disk_count + disk.count) (2 ^ 64 - 1)
  pub views : new.views ≡ old.views
  pub file : IsTrue old.told → (other : List ℕ) → new.file other ≡ added old.file name disk.reads other
  pub out : IsTrue old.told → (other : List ℕ) → new.out other ≡ without old.out name other
  pub images : IsTrue old.told → (image : List ℕ) → new.leaves name image ↔ disk.may_leave image
  pub others : IsTrue old.told → OthersLeave name old new

-- a view of this name was handed out
pub record Viewed (old : StoreState) (name : List ℕ) (view : PagesState) (new : StoreState) : Type 0 where
  pub given : HandsOut old view
  pub reads : IsTrue old.told → old.file name ≡ Some view.reads
  pub names : SameNames old new
  pub disk_count : new.disk_count ≡ old.disk_count
  pub views : IsTrue old.told → new.views ≡ old.views + 1

-- a view was given back
pub record ViewEnded (old : StoreState) (view : PagesState) (new : StoreState) : Type 0 where
  pub count : new.count ≡ old.count
  pub disk_count : new.disk_count ≡ min (old.disk_count + view.count) (2 ^ 64 - 1)
  pub names : SameNames old new
  pub views : IsTrue old.told → new.views ≡ old.views - 1
