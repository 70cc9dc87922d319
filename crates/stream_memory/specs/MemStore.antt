-- What a store in memory holds.
use Rattle.std.specs.Prelude.{◌≡◌, ◌↔◌, ◌&&◌, ◌-◌, ◌^◌, ℕ, Bool, true, List, Option, Some, None, IsTrue, find, length}
use Rattle.std.specs.Prelude.{option_map, option_and_then, is_none, string_bytes}
use Rattle.std.specs.List.{list_all}
use Rattle.std.specs.Str.{bytes_eq}
use Rattle.std.specs.declared.alloc.Global.{Global}
use Rattle.std.specs.declared.string.String.{String}
use Rattle.std.specs.declared.vec.Vec.{Vec}
use Rattle.disk_trait.specs.MemDisk.{MemState, MayLeave, is_steady, stable_disk}
use Rattle.stream_io.specs.Store.{Handed, StoreState}
use Rattle.stream_io.specs.declared.store.Readers.{Readers}
use Rattle.stream_io.specs.declared.store.Readers.TheVariants.{Anyone}
use Rattle.stream_memory.specs.Calls.{is_empty}
use Rattle.stream_memory.specs.declared.entries.Entry.{Entry}
use Rattle.stream_memory.specs.declared.entries.Slot.{Slot}
use Rattle.stream_memory.specs.declared.entries.Slot.TheVariants.{Here, Out}
use Rattle.stream_memory.specs.declared.mem_store.MemStore.{MemStore}

-- the disk, if it is in the store
abbrev pub disk_in : Slot → Option MemState
disk_in (Here disk) = Some disk
disk_in (Out steady) = None

-- whether the disk is steady, or was when it was handed out
abbrev pub steady_in : Slot → Bool
steady_in (Here disk) = is_steady disk
steady_in (Out steady) = steady

-- a disk in memory, as it is handed out: it tells its content and keeps the model of crashes
abbrev pub kind : Bool → Handed
kind steady = record { told = true; honest = true; steady = steady }

-- the disk that is out, as it was handed out
abbrev pub out_in : Slot → Option Handed
out_in (Here disk) = None
out_in (Out steady) = Some (kind steady)

abbrev pub has_that_name : List ℕ → Entry → Bool
has_that_name name entry = bytes_eq (string_bytes entry.name) name

-- where the disk of a name is: the first entry of that name counts
abbrev pub slot_of : List Entry → List ℕ → Option Slot
slot_of entries name = option_map (λ entry. entry.slot) (find (has_that_name name) entries)

-- who may read the file of a name
abbrev pub readers_of : List Entry → List ℕ → Option Readers
readers_of entries name = option_map (λ entry. entry.readers) (find (has_that_name name) entries)

abbrev pub disk_of : List Entry → List ℕ → Option MemState
disk_of entries name = option_and_then disk_in (slot_of entries name)

abbrev pub file_of : List Entry → List ℕ → Option (List ℕ)
file_of entries name = option_map (λ disk. disk.bytes) (disk_of entries name)

abbrev pub are_steady : List Entry → Bool
are_steady entries = list_all (λ entry. steady_in entry.slot) entries

-- a store is steady if no call is listed to fail, none of views or of the disks of new names is set to, and all its
-- disks are steady
abbrev pub is_steady_store : List ℕ → Option ℕ → Option ℕ → List Entry → Bool
is_steady_store failing view_fails new_stops entries =
    is_empty failing && is_none view_fails && is_none new_stops && are_steady entries

-- a disk that is here, under its name, for anyone to read
abbrev pub entry_of : String Global × MemState → Entry
entry_of disk = record { name = disk.0; slot = Here disk.1; readers = Anyone }

-- what a crash may leave of a disk, if it is in the store
abbrev pub leaves_in : Option MemState → List ℕ → Type 0
leaves_in None image = ⊥
leaves_in (Some disk) image = MayLeave disk image

-- what the disk of a name says of itself: that of a new name is steady if none is set to stop
abbrev pub kind_of : Option ℕ → Option Slot → Handed
kind_of new_stops None = kind (is_none new_stops)
kind_of new_stops (Some slot) = kind (steady_in slot)

-- a store of these entries, with its counts, in which the disks of new names stop there
abbrev pub state_of : List Entry → Option ℕ → Bool → ℕ → ℕ → ℕ → StoreState
state_of entries new_stops steady count disk_count views = record {
  told = true;
  steady = steady;
  count = count;
  disk_count = disk_count;
  views = views;
  file = file_of entries;
  leaves = λ name. leaves_in (disk_of entries name);
  disks = λ name. kind_of new_stops (slot_of entries name);
  out = λ name. option_and_then out_in (slot_of entries name);
  readers = readers_of entries;
}

-- the store that this is
abbrev pub store_of : MemStore → StoreState
store_of s =
    let steady = is_steady_store s.calls.failing.items s.view_fails s.new_stops s.entries.list.items in
    state_of s.entries.list.items s.new_stops steady s.calls.faults s.disk_faults s.views

-- a disk of these bytes: all are stable, there is no room for more, and no call is to fail
abbrev pub full_disk : List ℕ → MemState
full_disk bytes = stable_disk bytes (length bytes) (2 ^ 64 - 1)

-- a disk that is made of these bytes, with this room: it stops at this call, if there is one
abbrev pub new_disk : List ℕ → ℕ → Option ℕ → MemState
new_disk bytes room stops = record (stable_disk bytes room (2 ^ 64 - 1)) { stops = stops }

-- a file as a disk, with its name
abbrev pub file_disk : String Global × Vec ℕ Global → String Global × MemState
file_disk file = (file.0, full_disk file.1.items)

-- the first of these disks under a name
abbrev pub first_of : List (String Global × MemState) → List ℕ → Option MemState
first_of disks name = option_map (λ disk. disk.1) (find (λ disk. bytes_eq (string_bytes disk.0) name) disks)

-- a store that was just made of these disks, each with its name, for anyone to read: the first under a name counts
pub record Begun (made_of : List (String Global × MemState)) (store : StoreState) : Type 0 where
  pub told : IsTrue store.told
  pub count : store.count ≡ 0
  pub disk_count : store.disk_count ≡ 0
  pub views : store.views ≡ 0
  pub file : (name : List ℕ) → store.file name ≡ option_map (λ disk. disk.bytes) (first_of made_of name)
  pub leaves : (name image : List ℕ) → store.leaves name image ↔ leaves_in (first_of made_of name) image
  pub disks : (name : List ℕ) → store.disks name ≡ kind_of None (option_map Here (first_of made_of name))
  pub out : (name : List ℕ) → store.out name ≡ None
  pub readers : (name : List ℕ) → store.readers name ≡ option_map (λ _. Anyone) (first_of made_of name)
