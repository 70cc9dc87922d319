-- How `deal .. large` ends: it reads the entropy, tests it and the set as `deal` does, but of sets up to height 20, and
-- tests that all outputs are new. Then it makes the reference as a disk, which anyone may read, and deals onto it with
-- its gate shut; it writes the other files, and opens the gate last of all.
use Rattle.std.specs.Prelude.{◌≡◌, ◌⊎◌, ◌≤◌, ◌*◌, ◌^◌, ◌++◌, ◌↔◌, ⊤, ℕ, List, [], ◌∷◌, All, length, map, true}
use Rattle.std.specs.Prelude.{IsTrue, Some, string_bytes}
use Rattle.std.specs.List.{range_with_len}
use Rattle.coalition_map.specs.Coalitions.{IsPlan, count_of}
use Rattle.dealer.specs.Entropy.{dealing_of}
use Rattle.dealer.specs.Faults.{IsDealable}
use Rattle.dealer.specs.Files.{public_file, reference_file, tree_file}
use Rattle.dealer.specs.Onto.{BeginsWith, IsUnready, part_leaves, part_length, shut, shut_head}
use Rattle.lms_bytes.specs.Bytes.{joined}
use Rattle.lms_bytes.specs.declared.params.Params.{Params}
use Rattle.reference_value.specs.Dealing.{Dealing, leaf_part}
use Rattle.stream_io.specs.Store.{PagesState}
use Rattle.stream_io.specs.declared.store.Readers.TheVariants.{Anyone}
use Rattle.tool_base.specs.Disks.{DeviceFails}
use Rattle.tool_base.specs.Ending as ending
use Rattle.tool_base.specs.Ending.{Ending}
use Rattle.tool_base.specs.Outputs.{AreReadBy, AreStable, FirstNotNew, IsNew, IsNotWritten, IsOther, Output, StopsAfter}
use Rattle.tool_base.specs.Outputs.{all_added}
use Rattle.tool_base.specs.Reads.{FailsToRead}
use Rattle.tool_base.specs.Touched.{IsUntouched}
use Rattle.tool_base.specs.World.{StoreRun, Bytes, IsRead}
use Rattle.tool_desk.specs.Files.{key_name, reference_name, tree_name}
use Rattle.tool_keys.specs.Deal.{AreAsked, IsNotDealt, IsSet, plan_of, share_output}
use Rattle.tool_keys.specs.Naming.{all_names}
use Rattle.tool_keys.specs.declared.large.Asked.{Asked}
use Rattle.tool_words.specs.Words.{DealWords}

-- But for the names that were touched, the store has what it had and these files, all stable and read by those they are
-- for. A crash may leave of every other name what it might have left before.
pub record IsLeftBeside (touched : List (List ℕ)) (store : StoreRun) (written : List Output) : Type 0 where
  pub file : IsTrue store.before.told → (name : List ℕ) → IsUntouched touched name
      → store.after.file name ≡ all_added store.before.file written name
  pub stable : IsTrue store.before.told → AreStable store.after written
  pub readers : IsTrue store.before.told → AreReadBy store.after written
  pub others : IsTrue store.before.told → (name image : List ℕ) → IsUntouched touched name → IsOther written name
      → store.after.leaves name image ↔ store.before.leaves name image

-- An end of a command that wrote these files and touched these names: one that the command's rules allow, and the store
-- has these files.
pub record EndsBeside (ends : Ending → List Output → List (List ℕ) → Type 0) (store : StoreRun) (end : Ending)
    : Type 0 where
  pub written : List Output
  pub touched : List (List ℕ)
  pub cause : ends end written touched
  pub left : IsLeftBeside touched store written

-- the files of a dealing besides the reference, in the order in which they are written
abbrev pub key_outputs : List ℕ → Dealing → List Output
key_outputs prefix d =
    record { name = key_name prefix; bytes = public_file d; readers = Anyone }
    ∷ record { name = tree_name prefix; bytes = tree_file d; readers = Anyone }
    ∷ map (share_output prefix d) (range_with_len 1 d.plan.n)

-- the words ask for this dealing, none of whose names is in the store, and this is the end once it is made
pub record IsAskedFor (store : StoreRun) (words : DealWords) (d : Dealing) (done : Ending) : Type 0 where
  pub params : Params
  pub entropy : List ℕ
  pub read : IsRead store words.entropy (Bytes entropy)
  pub set : IsSet words params
  pub plan : IsPlan (plan_of words params)
  pub dealable : IsDealable true params (plan_of words params) entropy
  pub d_is : d ≡ dealing_of params (plan_of words params) entropy
  pub new : All (IsNew store) (all_names words.prefix d.plan.n)
  pub done_is : done ≡ ending.Dealt (2 ^ params.h) (count_of (plan_of words params))

-- what a dealing that stopped left of the reference: no more than its head, or its head with the gate shut, some parts
-- of its leaves and at most one part more
pub data IsBegun (d : Dealing) (file : List ℕ) : Type 0 where
  head_alone : length file ≤ 32 → IsBegun d file
  some_parts : (k : ℕ) → k * part_leaves d.params ≤ 2 ^ d.params.h
      → BeginsWith (shut_head d ++ joined (leaf_part d) (k * part_leaves d.params)) (part_length d.params d.plan) file
      → IsBegun d file

-- internal: what a disk is read as, and what a crash leaves of it
pub record IsDisk (disk : PagesState) (Reads Leaves : List ℕ → Type 0) : Type 0 where
  pub reads : IsTrue disk.told → Reads disk.reads
  pub images : IsTrue disk.told → IsTrue disk.honest → (image : List ℕ) → disk.may_leave image → Leaves image

-- The name was new, and is in the store now, for anyone to read: what it is read as, and what a crash leaves of it.
pub record IsMadeAs (store : StoreRun) (name : List ℕ) (Reads Leaves : List ℕ → Type 0) : Type 0 where
  pub file : List ℕ
  pub is_read : IsTrue store.before.told → store.after.file name ≡ Some file
  pub reads : IsTrue store.before.told → Reads file
  pub readers : IsTrue store.before.told → store.after.readers name ≡ Some Anyone
  pub images : IsTrue store.before.told → IsTrue (store.before.disks name).honest
      → (image : List ℕ) → store.after.leaves name image → Leaves image

-- What became of a dealing, with the end once it is made, after its disk was made: how it ends, and which of the other
-- files were written. Until the gate is open no reader takes what a crash leaves of the reference.
pub data LargeRest (store : StoreRun) (words : DealWords) (d : Dealing) (done : Ending)
    : Ending → List Output → Type 0 where
  stopped : DeviceFails store → IsMadeAs store (reference_name words.prefix) (IsBegun d) IsUnready
      → LargeRest store words d done ending.DeviceFailed []
  no_memory : IsMadeAs store (reference_name words.prefix)
      (λ file. (file ≡ []) ⊎ (file ≡ shut (reference_file d))) IsUnready
      → LargeRest store words d done ending.NoMemory []
  not_written : (end : Ending) (written : List Output)
      → StopsAfter store (key_outputs words.prefix d) written end
      → IsMadeAs store (reference_name words.prefix) (λ file. file ≡ shut (reference_file d)) IsUnready
      → LargeRest store words d done end written
  not_opened : DeviceFails store
      → IsMadeAs store (reference_name words.prefix) (λ _. ⊤)
      (λ image. IsUnready image ⊎ (image ≡ reference_file d))
      → LargeRest store words d done ending.DeviceFailed (key_outputs words.prefix d)
  dealt : IsMadeAs store (reference_name words.prefix) (λ file. file ≡ reference_file d)
      (λ image. image ≡ reference_file d)
      → LargeRest store words d done done (key_outputs words.prefix d)

-- the end, the outputs that were written, and the names that were touched
pub data LargeEnds (store : StoreRun) (words : DealWords) : Ending → List Output → List (List ℕ) → Type 0 where
  not_read : (end : Ending) → FailsToRead store words.entropy end → LargeEnds store words end [] []
  not_dealt : (entropy : List ℕ) (end : Ending) → IsRead store words.entropy (Bytes entropy)
      → IsNotDealt words entropy end → LargeEnds store words end [] []
  not_new : (params : Params) (entropy : List ℕ) (end : Ending) → IsRead store words.entropy (Bytes entropy)
      → IsSet words params → IsPlan (plan_of words params)
      → IsDealable true params (plan_of words params) entropy
      → FirstNotNew store (all_names words.prefix words.n) end
      → LargeEnds store words end [] []
  not_made : (d : Dealing) (done end : Ending) → IsAskedFor store words d done
      → IsNotWritten store [] (reference_name words.prefix) end → LargeEnds store words end [] []
  begun : (d : Dealing) (done end : Ending) (written : List Output) → IsAskedFor store words d done
      → LargeRest store words d done end written
      → LargeEnds store words end written (reference_name words.prefix ∷ [])

-- internal: the dealing that was asked for, and the end once it is made
abbrev pub dealing_in : Asked → Dealing
dealing_in asked = dealing_of asked.params asked.plan asked.entropy.items

abbrev pub done_of : Asked → Ending
done_of asked = ending.Dealt (2 ^ asked.params.h) (count_of asked.plan)

-- internal: this is what the words ask for
pub record IsAsked (store : StoreRun) (words : DealWords) (asked : Asked) : Type 0 where
  pub are : AreAsked words asked.params asked.plan
  pub read : IsRead store words.entropy (Bytes asked.entropy.items)
  pub dealable : IsDealable true asked.params asked.plan asked.entropy.items
  pub new : All (IsNew store) (all_names words.prefix asked.plan.n)
  pub name : string_bytes asked.reference ≡ reference_name words.prefix

-- internal: the end if a dealing onto this disk was not made
pub data FailsOnDisk (d : Dealing) (disk : PagesState) : Ending → Type 0 where
  out_of_memory : IsDisk disk (λ file. (file ≡ []) ⊎ (file ≡ shut (reference_file d))) IsUnready
      → FailsOnDisk d disk ending.NoMemory
  device : IsDisk disk (IsBegun d) IsUnready → FailsOnDisk d disk ending.DeviceFailed

-- internal: what becomes of a dealing onto this disk, with the files that were written beside it
pub data EndsOn (store : StoreRun) (prefix : List ℕ) (d : Dealing) (done : Ending) (disk : PagesState)
    : Ending → List Output → Type 0 where
  fails : (end : Ending) → FailsOnDisk d disk end → EndsOn store prefix d done disk end []
  stops : (end : Ending) (written : List Output) → StopsAfter store (key_outputs prefix d) written end
      → IsDisk disk (λ file. file ≡ shut (reference_file d)) IsUnready → EndsOn store prefix d done disk end written
  stays_shut : IsDisk disk (λ _. ⊤) (λ image. IsUnready image ⊎ (image ≡ reference_file d))
      → EndsOn store prefix d done disk ending.DeviceFailed (key_outputs prefix d)
  opens : IsDisk disk (λ file. file ≡ reference_file d) (λ image. image ≡ reference_file d)
      → EndsOn store prefix d done disk done (key_outputs prefix d)
