-- The entries of a store in memory: what is found for a name, and what stands there after a change.
use Rattle.std.proofs.Common.{◌≡◌, ◌<◌, ◌++◌, ◌∷◌, ◌&&◌, [], ℕ, zero, suc, Bool, true, false, List, Option, Some, None, cond, set, length, get_or, map, option_map, is_some, string_bytes, find, IfSome, ap, refl, subst, sym, ◌∙◌, arith, nat_lt, inl, inr}
use Rattle.std.proofs.lemmas.Bool.Decides.{nat_tests, same_from_decides}
use Rattle.std.proofs.lemmas.List.Folds.{find-append, find-set, find_at, find_past, list_all-map}
use Rattle.std.proofs.lemmas.List.Quantifiers.{position-Some}
use Rattle.std.proofs.lemmas.Option.{slice_get-get_or, slice_get_cases}
use Rattle.std.proofs.lemmas.Slice.Eq.{bytes_eq-Decides}
use Rattle.std.specs.List.{list_all, position, position_or_len, slice_get}
use Rattle.std.specs.Option.{option_or}
use Rattle.std.specs.Str.{bytes_eq}
use Rattle.std.specs.declared.alloc.Global.{Global}
use Rattle.std.specs.declared.string.String.{String}
use Rattle.disk_trait.specs.MemDisk.{MemState, is_steady}
use Rattle.stream_io.specs.Store.{added}
use Rattle.stream_io.specs.declared.store.Readers.TheVariants.{Anyone}
use Rattle.stream_memory.specs.MemStore.{are_steady, disk_in, entry_of, first_of, has_that_name, readers_of, slot_of, steady_in}
use Rattle.stream_memory.specs.declared.entries.Entry.{Entry}
use Rattle.stream_memory.specs.declared.entries.Slot.{Slot}
use Rattle.stream_memory.specs.declared.entries.Slot.TheVariants.{Here, Out}

-- the place that is found is the first that passes, and lies within the list
record First {X : Type 0} (p : X → Bool) (xs : List X) (place : ℕ) : Type 0 where
  within : place < length xs
  is_first : place ≡ position_or_len p xs

first : {X : Type 0} (p : X → Bool) (xs : List X) (place : ℕ) → Some place ≡ position p xs → First p xs place
first p xs place found = record { within = grind (arith, nat_tests); is_first = grind (arith, nat_tests) }

-- if no place is found, the name is not there
past : (entries : List Entry) (place : ℕ) → nat_lt place (length entries) ≡ false → slice_get entries place ≡ None
past entries place none = elim (slice_get_cases entries place).1 [ inl there ↦ absurd (grind (arith, nat_tests, there.1)) | inr gone ↦ gone.1 ]

pub none_of : (entries : List Entry) (name : List ℕ) → None ≡ position (has_that_name name) entries → slot_of entries name ≡ None
none_of entries name none =
    let outside : nat_lt (position_or_len (has_that_name name) entries) (length entries) ≡ false = grind (arith, nat_tests) in
    rw (find_at (has_that_name name) entries, past entries _ outside) refl

-- at the place that is found stands the slot of the name
pub slot_at : (entries : List Entry) (name : List ℕ) (place : ℕ) (old : Entry) → Some place ≡ position (has_that_name name) entries
    → old ≡ get_or entries place old → slot_of entries name ≡ Some old.slot
slot_at entries name place old found is =
    let at = first (has_that_name name) entries place found in
    rw (find_at (has_that_name name) entries, ← at.is_first, slice_get-get_or entries place old at.within, ← is) refl

-- and its readers, or none if no place is found
pub none_read : (entries : List Entry) (name : List ℕ) → None ≡ position (has_that_name name) entries → readers_of entries name ≡ None
none_read entries name none =
    let outside : nat_lt (position_or_len (has_that_name name) entries) (length entries) ≡ false = grind (arith, nat_tests) in
    rw (find_at (has_that_name name) entries, past entries _ outside) refl

pub read_at : (entries : List Entry) (name : List ℕ) (place : ℕ) (old : Entry) → Some place ≡ position (has_that_name name) entries
    → old ≡ get_or entries place old → readers_of entries name ≡ Some old.readers
read_at entries name place old found is =
    let at = first (has_that_name name) entries place found in
    rw (find_at (has_that_name name) entries, ← at.is_first, slice_get-get_or entries place old at.within, ← is) refl

-- a place is found if the name is there
pub is_placed : (entries : List Entry) (name : List ℕ) → is_some (position (has_that_name name) entries) ≡ is_some (slot_of entries name)
is_placed entries name =
    rw (find_at (has_that_name name) entries)
    (elim (slice_get_cases entries (position_or_len (has_that_name name) entries)).1 [
      | inl there ↦ rw there.2 (grind (arith, nat_tests, there.1))
      | inr gone ↦ rw gone.1 (grind (arith, nat_tests, gone.0))
    ])

-- no byte string has two names
same_either_way : (xs ys : List ℕ) → bytes_eq xs ys ≡ bytes_eq ys xs
same_either_way xs ys =
    let back = bytes_eq-Decides ys xs in
    same_from_decides (bytes_eq xs ys) (bytes_eq ys xs) (bytes_eq-Decides xs ys) ((λ t. sym (back.0 t)), (λ e. back.1 (sym e)))

-- a disk that is here is as steady as its slot
if_here : (slot : Slot) (Q : Slot → Slot → Type 0) → ((out : Slot) → Q out out) → IfSome (disk_in slot) (λ disk. Q (Out (steady_in slot)) (Out (is_steady disk)))
if_here (Here disk) Q same = same (Out (is_steady disk))
if_here (Out steady) Q same = tt

-- as many disks are steady if one that is as steady takes the place of another
still_steady : (entries : List Entry) (place : ℕ) (new d : Entry) → steady_in new.slot ≡ steady_in (get_or entries place d).slot
    → are_steady (set entries place new) ≡ are_steady entries
still_steady [] place new d same = refl
still_steady (entry ∷ entries) zero new d same = ap (λ b. b && are_steady entries) same
still_steady (entry ∷ entries) (suc place) new d same = ap (λ b. steady_in entry.slot && b) (still_steady entries place new d same)

later_read : (entry : Entry) (later later' : Option Entry) (test : Bool) → option_map (λ it. it.readers) later ≡ option_map (λ it. it.readers) later'
    → option_map (λ it. it.readers) (cond test (Some entry) later) ≡ option_map (λ it. it.readers) (cond test (Some entry) later')
later_read entry later later' true same = refl
later_read entry later later' false same = same

either_read : (new old : Entry) (later : Option Entry) (test test' : Bool) → test ≡ test' → new.readers ≡ old.readers
    → option_map (λ it. it.readers) (cond test (Some new) later) ≡ option_map (λ it. it.readers) (cond test' (Some old) later)
either_read new old later true true e same = ap Some same
either_read new old later false false e same = refl
either_read new old later true false e same = absurd (cc)
either_read new old later false true e same = absurd (cc)

-- an entry takes the place of one of its name, for the same readers
still_read : (entries : List Entry) (place : ℕ) (new d : Entry) (other : List ℕ) → new.name ≡ (get_or entries place d).name
    → new.readers ≡ (get_or entries place d).readers → readers_of (set entries place new) other ≡ readers_of entries other
still_read [] place new d other name same = refl
still_read (entry ∷ entries) zero new d other name same =
    either_read new entry (find (has_that_name other) entries) (has_that_name other new) (has_that_name other entry)
    (ap (λ it. bytes_eq (string_bytes it) other) name) same
still_read (entry ∷ entries) (suc place) new d other name same =
    later_read entry (find (has_that_name other) (set entries place new)) (find (has_that_name other) entries) (has_that_name other entry)
    (still_read entries place new d other name same)

module _ (entries : List Entry) (name : List ℕ) (place : ℕ) (old : Entry) (found : Some place ≡ position (has_that_name name) entries)
    (is : old ≡ get_or entries place old) where
  abbrev with_slot : Slot → Entry
  with_slot slot = record { name = old.name; slot = slot; readers = old.readers }

  at : First (has_that_name name) entries place
  at = first (has_that_name name) entries place found

  own : has_that_name name old ≡ true
  own = rw is (position-Some (has_that_name name) entries place old (sym found)).1

  text : string_bytes old.name ≡ name
  text = (bytes_eq-Decides (string_bytes old.name) name).0 own

  by_name : (slot : Slot) (other : List ℕ) (test : Bool) → bytes_eq other name ≡ test
      → slot_of (set entries place (with_slot slot)) other ≡ cond test (Some slot) (slot_of entries other)
  by_name slot other true e =
      let it : name ≡ other = sym ((bytes_eq-Decides other name).0 e) in
      subst (λ key. slot_of (set entries place (with_slot slot)) key ≡ Some slot) it
      (ap (option_map (λ entry. entry.slot)) (find-set (has_that_name name) entries place (with_slot slot) at.is_first at.within own))
  by_name slot other false e =
      let fails : has_that_name other old ≡ false = rw text (same_either_way name other ∙ e) in
      ap (option_map (λ entry. entry.slot))
      (find_past (has_that_name other) entries place (with_slot slot) old (subst (λ entry. has_that_name other entry ≡ false) is fails) fails)

  -- another slot at the place of a name: the name stands for that slot, and each other name for what it stood for
  pub changed : (slot : Slot) (other : List ℕ) → slot_of (set entries place (with_slot slot)) other ≡ added (slot_of entries) name slot other
  changed slot other = by_name slot other (bytes_eq other name) refl

  -- and the readers of each name stay
  pub same_readers : (slot : Slot) (other : List ℕ) → readers_of (set entries place (with_slot slot)) other ≡ readers_of entries other
  same_readers slot other = still_read entries place (with_slot slot) old other (ap (λ entry. entry.name) is) (ap (λ entry. entry.readers) is)

  pub as_steady : (slot : Slot) → steady_in slot ≡ steady_in old.slot → are_steady (set entries place (with_slot slot)) ≡ are_steady entries
  as_steady slot same = still_steady entries place (with_slot slot) old (same ∙ ap (λ entry. steady_in entry.slot) is)

  -- the disk was moved out, if it was here
  pub lent : IfSome (disk_in old.slot) (λ disk. (other : List ℕ)
      → slot_of (set entries place (with_slot (Out (steady_in old.slot)))) other ≡ added (slot_of entries) name (Out (is_steady disk)) other)
  lent = if_here old.slot (λ now then. (other : List ℕ)
      → slot_of (set entries place (with_slot now)) other ≡ added (slot_of entries) name then other) (λ slot. changed slot)

  -- the disk came back, as steady as it went
  pub returned : (disk : MemState) → slot_of entries name ≡ Some (Out (is_steady disk)) → are_steady (set entries place (with_slot (Here disk))) ≡ are_steady entries
  returned disk out =
      let there : slot_of entries name ≡ Some old.slot = slot_at entries name place old found is in
      let same : old.slot ≡ Out (is_steady disk) = cc in
      as_steady (Here disk) (rw same refl)

-- what is found, or else the last, if that has the name
or_last : (found : Option Entry) (last : Entry) (test : Bool) → (test ≡ true → option_map (λ entry. entry.slot) found ≡ None)
    → option_map (λ entry. entry.slot) (option_or found (cond test (Some last) None)) ≡ cond test (Some last.slot) (option_map (λ entry. entry.slot) found)
or_last None last true none = refl
or_last None last false none = refl
or_last (Some x) last true none = let no : Some x.slot ≡ None = none refl in cc
or_last (Some x) last false none = refl

-- an entry of a name that was not there, after all others
pub pushed : (entries : List Entry) (entry : Entry) (name other : List ℕ) → string_bytes entry.name ≡ name → slot_of entries name ≡ None
    → slot_of (entries ++ entry ∷ []) other ≡ added (slot_of entries) name entry.slot other
pushed entries entry name other is absent =
    let test : has_that_name other entry ≡ bytes_eq other name = rw is (same_either_way name other) in
    let none : bytes_eq other name ≡ true → slot_of entries other ≡ None = λ e. rw ((bytes_eq-Decides other name).0 e) absent in
    rw (find-append (has_that_name other) entries (entry ∷ []), test) (or_last (find (has_that_name other) entries) entry (bytes_eq other name) none)

-- the readers that are found, or else those of the last, if that has the name
or_last_read : (found : Option Entry) (last : Entry) (test : Bool) → (test ≡ true → option_map (λ entry. entry.slot) found ≡ None)
    → option_map (λ entry. entry.readers) (option_or found (cond test (Some last) None)) ≡ cond test (Some last.readers) (option_map (λ entry. entry.readers) found)
or_last_read None last true none = refl
or_last_read None last false none = refl
or_last_read (Some x) last true none = let no : Some x.slot ≡ None = none refl in cc
or_last_read (Some x) last false none = refl

pub pushed_readers : (entries : List Entry) (entry : Entry) (name other : List ℕ) → string_bytes entry.name ≡ name → slot_of entries name ≡ None
    → readers_of (entries ++ entry ∷ []) other ≡ added (readers_of entries) name entry.readers other
pushed_readers entries entry name other is absent =
    let test : has_that_name other entry ≡ bytes_eq other name = rw is (same_either_way name other) in
    let none : bytes_eq other name ≡ true → slot_of entries other ≡ None = λ e. rw ((bytes_eq-Decides other name).0 e) absent in
    rw (find-append (has_that_name other) entries (entry ∷ []), test) (or_last_read (find (has_that_name other) entries) entry (bytes_eq other name) none)

either_found : (disk : String Global × MemState) (test : Bool) (entry : Option Entry) (later : Option (String Global × MemState))
    → option_map (λ it. it.slot) entry ≡ option_map Here (option_map (λ it. it.1) later)
    → option_map (λ it. it.slot) (cond test (Some (entry_of disk)) entry) ≡ option_map Here (option_map (λ it. it.1) (cond test (Some disk) later))
either_found disk true entry later same = refl
either_found disk false entry later same = same

-- the entries of disks stand for them
pub found_among : (disks : List (String Global × MemState)) (name : List ℕ) → slot_of (map entry_of disks) name ≡ option_map Here (first_of disks name)
found_among [] name = refl
found_among (disk ∷ disks) name = either_found disk (bytes_eq (string_bytes disk.0) name) _ _ (found_among disks name)

either_readers : (disk : String Global × MemState) (test : Bool) (entry : Option Entry) (later : Option (String Global × MemState))
    → option_map (λ it. it.readers) entry ≡ option_map (λ _. Anyone) (option_map (λ it. it.1) later)
    → option_map (λ it. it.readers) (cond test (Some (entry_of disk)) entry) ≡ option_map (λ _. Anyone) (option_map (λ it. it.1) (cond test (Some disk) later))
either_readers disk true entry later same = refl
either_readers disk false entry later same = same

-- anyone may read them
pub read_among : (disks : List (String Global × MemState)) (name : List ℕ) → readers_of (map entry_of disks) name ≡ option_map (λ _. Anyone) (first_of disks name)
read_among [] name = refl
read_among (disk ∷ disks) name = either_readers disk (bytes_eq (string_bytes disk.0) name) _ _ (read_among disks name)

pub steady_among : (disks : List (String Global × MemState)) → are_steady (map entry_of disks) ≡ list_all (λ disk. is_steady disk.1) disks
steady_among disks = list_all-map (λ entry. steady_in entry.slot) entry_of disks

and_assoc : (a b c : Bool) → (a && (b && c)) ≡ ((a && b) && c)
and_assoc true b c = refl
and_assoc false b c = refl

and_true : (b : Bool) → (b && true) ≡ b
and_true true = refl
and_true false = refl

-- one more entry
pub steady_pushed : (entries : List Entry) (entry : Entry) → are_steady (entries ++ entry ∷ []) ≡ (are_steady entries && steady_in entry.slot)
steady_pushed [] entry = and_true (steady_in entry.slot)
steady_pushed (first ∷ entries) entry =
    ap (λ b. steady_in first.slot && b) (steady_pushed entries entry) ∙ and_assoc (steady_in first.slot) (are_steady entries) (steady_in entry.slot)
