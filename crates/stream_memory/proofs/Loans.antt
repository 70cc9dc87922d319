-- What a store in memory says about its names after a change of one of them.
use Rattle.std.proofs.Common.{◌≡◌, ◌↔◌, ◌≤◌, ◌+◌, ◌-◌, ◌^◌, min, arith, is_none, is_some, ◌&&◌, ◌||◌, ◌∷◌, [], ℕ, Bool, true, false, List, Option, Some, None, cond, length, map, option_map, option_and_then, unwrap_or, find, ap, refl, subst, sym, ◌∙◌}
use Rattle.std.proofs.lemmas.Slice.Eq.{bytes_eq-Decides}
use Rattle.std.specs.Str.{bytes_eq}
use Rattle.std.specs.List.{list_all}
use Rattle.std.specs.declared.alloc.Global.{Global}
use Rattle.std.specs.declared.string.String.{String}
use Rattle.std.specs.declared.vec.Vec.{Vec}
use Rattle.disk_trait.specs.MemDisk.{MemState, MayLeave, is_steady}
use Rattle.stream_io.specs.Store.{Handed, Made, PagesState, Returned, StoreOnward, StoreState, Taken, Written, added, handed, has_name, without}
use Rattle.stream_io.specs.declared.store.Readers.{Readers}
use Rattle.stream_memory.specs.MemStore.{Begun, are_steady, disk_in, disk_of, entry_of, file_disk, first_of, has_that_name, is_steady_store, kind, kind_of, leaves_in, new_disk, out_in, readers_of, slot_of, state_of, steady_in}
use Rattle.stream_memory.specs.declared.entries.Entry.{Entry}
use Rattle.stream_memory.specs.declared.entries.Slot.{Slot}
use Rattle.stream_memory.specs.declared.entries.Slot.TheVariants.{Here, Out}
use Rattle.stream_memory.proofs.Links.{first_true, last_true}
use Rattle.stream_memory.proofs.Added.{found_among, read_among}
use Rattle.stream_memory.proofs.Stable.{only_stable}

-- a disk that is found here is in the store
pub here_of : (slot : Option Slot) (disk : MemState) → option_and_then disk_in slot ≡ Some disk → slot ≡ Some (Here disk)
here_of None disk is = let no : None ≡ Some disk = is in cc
here_of (Some (Here other)) disk is = let same : Some other ≡ Some disk = is in cc
here_of (Some (Out steady)) disk is = let no : None ≡ Some disk = is in cc

-- a disk that is out, as it was handed out
pub out_of : (slot : Option Slot) (steady : Bool) → option_and_then out_in slot ≡ Some (kind steady) → slot ≡ Some (Out steady)
out_of None steady is = let no : None ≡ Some (kind steady) = is in cc
out_of (Some (Here disk)) steady is = let no : None ≡ Some (kind steady) = is in cc
out_of (Some (Out was)) steady is =
    let handed : Some (kind was) ≡ Some (kind steady) = is in
    let same : was ≡ steady = ap (λ it. unwrap_or (option_map (λ h. h.steady) it) steady) handed in
    ap (λ it. Some (Out it)) same

either : {A B : Type 0} (g : A → B) (test : Bool) (x y : A) → g (cond test x y) ≡ cond test (g x) (g y)
either g true x y = refl
either g false x y = refl

module _ (old new : List Entry) (name : List ℕ) (slot : Slot) (slots : (other : List ℕ) → slot_of new other ≡ added (slot_of old) name slot other) where
  -- what is said of a slot, for each name
  pub through : {A : Type 0} (g : Option Slot → A) (other : List ℕ)
      → g (slot_of new other) ≡ cond (bytes_eq other name) (g (Some slot)) (g (slot_of old other))
  through g other = ap g (slots other) ∙ either g (bytes_eq other name) (Some slot) (slot_of old other)

  pub own : slot_of new name ≡ Some slot
  own = slots name ∙ ap (λ test. cond test (Some slot) (slot_of old name)) ((bytes_eq-Decides name name).1 refl)

  other_slot : (other : List ℕ) → bytes_eq other name ≡ false → slot_of new other ≡ slot_of old other
  other_slot other not = slots other ∙ ap (λ test. cond test (Some slot) (slot_of old other)) not

  pub others : (other image : List ℕ) → bytes_eq other name ≡ false
      → leaves_in (disk_of new other) image ↔ leaves_in (disk_of old other) image
  others other image not =
      let same : slot_of new other ≡ slot_of old other = other_slot other not in
      (subst (λ it. leaves_in (option_and_then disk_in it) image) same, subst (λ it. leaves_in (option_and_then disk_in it) image) (sym same))

  same_at : {A : Type 0} (g : Option Slot → A) (other : List ℕ) (test : Bool) → bytes_eq other name ≡ test → g (Some slot) ≡ g (slot_of old name)
      → cond test (g (Some slot)) (g (slot_of old other)) ≡ g (slot_of old other)
  same_at g other true e same = rw ((bytes_eq-Decides other name).0 e) same
  same_at g other false e same = refl

  -- what stays true of the name itself stays true of each name
  pub same_for_all : {A : Type 0} (g : Option Slot → A) → g (Some slot) ≡ g (slot_of old name) → (other : List ℕ) → g (slot_of new other) ≡ g (slot_of old other)
  same_for_all g same other = through g other ∙ same_at g other (bytes_eq other name) refl same

-- a disk of a store, with its count of faults
abbrev pub stored : MemState → ℕ → PagesState
stored disk faults = record {
  told = true;
  honest = true;
  steady = is_steady disk;
  count = faults;
  room = disk.capacity;
  reads = disk.bytes;
  may_leave = MayLeave disk;
}

steady_of : (entry : Entry) (later : Option Entry) (test : Bool) (slot : Slot) → steady_in entry.slot ≡ true
    → (option_map (λ it. it.slot) later ≡ Some slot → steady_in slot ≡ true)
    → option_map (λ it. it.slot) (cond test (Some entry) later) ≡ Some slot → steady_in slot ≡ true
steady_of entry later true slot steady rest is = let same : entry.slot ≡ slot = (let e : Some entry.slot ≡ Some slot = is in cc) in subst (λ it. steady_in it ≡ true) same steady
steady_of entry later false slot steady rest is = rest is

-- if all disks are steady, the one that is found is
pub steady_found : (entries : List Entry) (name : List ℕ) (slot : Slot) → are_steady entries ≡ true → slot_of entries name ≡ Some slot → steady_in slot ≡ true
steady_found [] name slot all is = let no : None ≡ Some slot = is in cc
steady_found (entry ∷ entries) name slot all is =
    steady_of entry (find (has_that_name name) entries) (has_that_name name entry) slot (first_true (steady_in entry.slot) (are_steady entries) all)
    (steady_found entries name slot (last_true (steady_in entry.slot) (are_steady entries) all)) is

module _ (old new : List Entry) (name : List ℕ) (stops : Option ℕ) (steady steady' : Bool) (count disk_count views : ℕ) (disk : MemState) where
  pub taken : (count' : ℕ) → disk_of old name ≡ Some disk → ((other : List ℕ) → slot_of new other ≡ added (slot_of old) name (Out (is_steady disk)) other)
      → (steady ≡ true → are_steady old ≡ true) → length disk.bytes ≤ disk.capacity
      → Taken (state_of old stops steady count disk_count views) name (stored disk 0) (state_of new stops steady' count' disk_count views)
  taken count' there slots all room =
      let here : slot_of old name ≡ Some (Here disk) = here_of (slot_of old name) disk there in
      record {
        was_in = λ told. ap (option_and_then out_in) here;
        given = record { fresh = refl; told = λ told. refl; steady = λ is. steady_found old name (Here disk) (all is) here };
        kind = λ told. ap (kind_of stops) here;
        reads = λ told. ap (option_map (λ it. it.bytes)) there;
        room = λ told. room;
        images = λ told image. (subst (λ it. leaves_in it image) (sym there), subst (λ it. leaves_in it image) there);
        file = λ told. through old new name (Out (is_steady disk)) slots (λ it. option_map (λ d. d.bytes) (option_and_then disk_in it));
        out = λ told. through old new name (Out (is_steady disk)) slots (option_and_then out_in);
        others = λ told other image. others old new name (Out (is_steady disk)) slots other image;
        loans = record { disk_count = refl; views = refl };
      }

  pub returned : (faults disk_count' : ℕ) → ((other : List ℕ) → slot_of new other ≡ added (slot_of old) name (Here disk) other)
      → disk_count' ≡ min (disk_count + faults) (2 ^ 64 - 1)
      → Returned (state_of old stops steady count disk_count views) name (stored disk faults) (state_of new stops steady' count disk_count' views)
  returned faults disk_count' slots counts =
      let here : slot_of new name ≡ Some (Here disk) = own old new name (Here disk) slots in
      record {
        count = refl;
        disk_count = counts;
        views = refl;
        file = λ told. through old new name (Here disk) slots (λ it. option_map (λ d. d.bytes) (option_and_then disk_in it));
        out = λ told. through old new name (Here disk) slots (option_and_then out_in);
        images = λ told image. (subst (λ it. leaves_in (option_and_then disk_in it) image) here, subst (λ it. leaves_in (option_and_then disk_in it) image) (sym here));
        others = λ told other image. others old new name (Here disk) slots other image;
      }

-- a name for which no slot is found
pub absent : (slot : Option Slot) → is_some slot ≡ false → slot ≡ None
absent None not = refl
absent (Some slot) not = let no : true ≡ false = not in cc

-- the disk of a new name is steady if it is not set to stop
pub new_steady : (bytes : List ℕ) (room : ℕ) (stops : Option ℕ) → is_steady (new_disk bytes room stops) ≡ is_none stops
new_steady bytes room None = refl
new_steady bytes room (Some call) = refl

module _ (old new : List Entry) (name : List ℕ) (stops : Option ℕ) (steady steady' : Bool) (count count' disk_count views : ℕ) (gone : slot_of old name ≡ None) where
  was_absent : has_name (state_of old stops steady count disk_count views) name ≡ false
  was_absent = rw gone refl

  read_by : (who : Readers) → ((other : List ℕ) → readers_of new other ≡ added (readers_of old) name who other) → readers_of new name ≡ Some who
  read_by who readers = readers name ∙ ap (λ test. cond test (Some who) (readers_of old name)) ((bytes_eq-Decides name name).1 refl)

  pub written : (bytes : List ℕ) (room : ℕ) (who : Readers) → ((other : List ℕ) → slot_of new other ≡ added (slot_of old) name (Here (new_disk bytes room stops)) other)
      → ((other : List ℕ) → readers_of new other ≡ added (readers_of old) name who other)
      → Written (state_of old stops steady count disk_count views) name bytes who (state_of new stops steady' count' disk_count views)
  written bytes room who slots readers =
      let slot = Here (new_disk bytes room stops) in
      let here : slot_of new name ≡ Some slot = own old new name slot slots in
      record {
        absent = λ told. was_absent;
        file = λ told. through old new name slot slots (λ it. option_map (λ d. d.bytes) (option_and_then disk_in it));
        out = same_for_all old new name slot slots (option_and_then out_in) (sym (ap (option_and_then out_in) gone));
        stable = λ told image leaves. only_stable bytes image (subst (λ it. leaves_in (option_and_then disk_in it) image) here leaves);
        readers = λ told. read_by who readers;
        others = λ told other image. others old new name slot slots other image;
        loans = record { disk_count = refl; views = refl };
      }

-- what stands under a name that is removed just after it was put there
gone_again : {A : Type 0} (names : List ℕ → Option A) (name : List ℕ) (it : A) (other : List ℕ) → names name ≡ None
    → without (added names name it) name other ≡ names other
gone_again names name it other none = here (bytes_eq other name) refl
  where
    here : (test : Bool) → bytes_eq other name ≡ test → cond test None (cond test (Some it) (names other)) ≡ names other
    here true e = sym (rw ((bytes_eq-Decides other name).0 e) none)
    here false e = refl

no_file : (file : Option (List ℕ)) (out : Option Handed) → (is_some file || is_some out) ≡ false → file ≡ None
no_file None out not = refl
no_file (Some bytes) out not = let no : true ≡ false = not in cc

-- an empty disk that was put under a new name, and then handed out
pub made : {old mid new : StoreState} {name : List ℕ} {size : ℕ} {who : Readers} {disk : PagesState} → Written old name [] who mid → StoreOnward old mid
    → Taken mid name disk new → disk.reads ≡ [] → size ≤ disk.room → new.readers name ≡ mid.readers name → Made old name size who disk new
made {old = old} {mid = mid} {name = name} {disk = disk} put onward taken empty room readers = record {
  absent = put.absent;
  given = record {
    fresh = taken.given.fresh;
    told = λ told. taken.given.told (onward.told ∙ told);
    steady = λ steady. taken.given.steady (onward.steady ∙ steady);
  };
  kind = λ told. sym (onward.disks name) ∙ taken.kind (onward.told ∙ told);
  reads = λ told. empty;
  room = λ told. room;
  stable = λ told honest image leaves. put.stable told image ((taken.images (onward.told ∙ told) image).0 leaves);
  readers = λ told. readers ∙ put.readers told;
  file = λ told other. taken.file (onward.told ∙ told) other
      ∙ (ap (λ it. cond (bytes_eq other name) None it) (put.file told other)
      ∙ gone_again old.file name [] other (no_file (old.file name) (old.out name) (put.absent told)));
  out = λ told other. taken.out (onward.told ∙ told) other ∙ ap (λ it. cond (bytes_eq other name) (Some (handed disk)) it) (put.out other);
  others = λ told other image not.
      let second = taken.others (onward.told ∙ told) other image not in
      let first = put.others told other image not in
      (λ is. first.0 (second.0 is), λ is. second.1 (first.1 is));
  loans = record {
    disk_count = taken.loans.disk_count ∙ put.loans.disk_count;
    views = taken.loans.views ∙ put.loans.views;
  };
}

here_again : (disk : Option MemState) → option_and_then disk_in (option_map Here disk) ≡ disk
here_again None = refl
here_again (Some disk) = refl

none_out : (disk : Option MemState) → option_and_then out_in (option_map Here disk) ≡ None
none_out None = refl
none_out (Some disk) = refl

-- a store whose entries are those of these disks
pub begun : (disks : List (String Global × MemState)) (steady : Bool) → Begun disks (state_of (map entry_of disks) None steady 0 0 0)
begun disks steady =
    let found : (name : List ℕ) → disk_of (map entry_of disks) name ≡ first_of disks name = λ name. ap (option_and_then disk_in) (found_among disks name) ∙ here_again (first_of disks name) in
    record {
      told = refl;
      count = refl;
      disk_count = refl;
      views = refl;
      file = λ name. ap (option_map (λ disk. disk.bytes)) (found name);
      leaves = λ name image. (subst (λ it. leaves_in it image) (found name), subst (λ it. leaves_in it image) (sym (found name)));
      disks = λ name. ap (kind_of None) (found_among disks name);
      out = λ name. ap (option_and_then out_in) (found_among disks name) ∙ none_out (first_of disks name);
      readers = read_among disks;
    }

all_steady : (files : List (String Global × Vec ℕ Global)) → list_all (λ disk. is_steady disk.1) (map file_disk files) ≡ true
all_steady [] = refl
all_steady (file ∷ files) = all_steady files

pub with_true : (b : Bool) → (b && true) ≡ b
with_true true = refl
with_true false = refl

-- a store stays as steady as it was if a name is new
still_steady : (calls all : Bool) (stops : Option ℕ) → (calls && is_none stops && (all && is_none stops)) ≡ (calls && is_none stops && all)
still_steady calls all None = rw (with_true all) refl
still_steady true all (Some call) = refl
still_steady false all (Some call) = refl

module _ (old new : List Entry) (name : List ℕ) (stops : Option ℕ) (slot : Slot) (is_new : steady_in slot ≡ is_none stops)
    (gone : slot_of old name ≡ None) where
  pub as_steady : (calls : Bool) → are_steady new ≡ (are_steady old && steady_in slot) → (calls && is_none stops && are_steady new) ≡ (calls && is_none stops && are_steady old)
  as_steady calls all = rw (all, is_new) (still_steady calls (are_steady old) stops)

  -- the disk of a new name is what it was meant to be
  pub as_said : ((other : List ℕ) → slot_of new other ≡ added (slot_of old) name slot other) → (other : List ℕ) → kind_of stops (slot_of new other) ≡ kind_of stops (slot_of old other)
  as_said slots = same_for_all old new name slot slots (kind_of stops) (ap kind is_new ∙ sym (ap (kind_of stops) gone))

unread : (entry : Option Entry) → option_map (λ it. it.slot) entry ≡ None → option_map (λ it. it.readers) entry ≡ None
unread None none = refl
unread (Some entry) none = let no : Some entry.slot ≡ None = none in cc

-- the readers of a file stay if a name is new
pub read_still : (old new : List Entry) (name : List ℕ) (who : Readers) → slot_of old name ≡ None
    → ((other : List ℕ) → readers_of new other ≡ added (readers_of old) name who other)
    → (other : List ℕ) (was : Readers) → readers_of old other ≡ Some was → readers_of new other ≡ Some was
read_still old new name who gone readers other was is = readers other ∙ here (bytes_eq other name) refl
  where
    here : (test : Bool) → bytes_eq other name ≡ test → cond test (Some who) (readers_of old other) ≡ Some was
    here true e =
        let none : readers_of old other ≡ None = rw ((bytes_eq-Decides other name).0 e) (unread (find (has_that_name name) old) gone) in
        cc
    here false e = is

-- all files of a store are steady disks
pub files_steady : (b : Bool) (disks : List (String Global × MemState)) (files : List (String Global × Vec ℕ Global)) → disks ≡ map file_disk files
    → (b && list_all (λ disk. is_steady disk.1) disks) ≡ b
files_steady b disks files are = rw (are, all_steady files) (with_true b)

-- the disk of a name was handed out, and calls were made before that
pub lent-onward : (old new : List Entry) (name : List ℕ) (disk : MemState) (stops fails : Option ℕ) (failing failing' : Vec ℕ Global)
    (count count' disk_count views : ℕ) → disk_of old name ≡ Some disk
    → ((other : List ℕ) → slot_of new other ≡ added (slot_of old) name (Out (is_steady disk)) other)
    → ((other : List ℕ) → readers_of new other ≡ readers_of old other) → are_steady new ≡ are_steady old
    → failing' ≡ failing → count ≤ count'
    → StoreOnward (state_of old stops (is_steady_store failing.items fails stops old) count disk_count views)
    (state_of new stops (is_steady_store failing'.items fails stops new) count' disk_count views)
lent-onward old new name disk stops fails failing failing' count count' disk_count views there slots readers steady listed later =
    let here : slot_of old name ≡ Some (Here disk) = here_of (slot_of old name) disk there in
    record {
      told = refl;
      steady = rw (listed, steady) refl;
      disks = same_for_all old new name (Out (is_steady disk)) slots (kind_of stops) (sym (ap (kind_of stops) here));
      readers = λ told other who is. readers other ∙ is;
      count = later;
      disk_count = omega arith;
    }

pub onward-then : {a b c : StoreState} → StoreOnward a b → StoreOnward b c → StoreOnward a c
onward-then first second = record {
  told = second.told ∙ first.told;
  steady = second.steady ∙ first.steady;
  disks = λ name. second.disks name ∙ first.disks name;
  readers = λ told name who is. second.readers (first.told ∙ told) name who (first.readers told name who is);
  count = (let x = first.count in let y = second.count in omega arith);
  disk_count = (let x = first.disk_count in let y = second.disk_count in omega arith);
}
