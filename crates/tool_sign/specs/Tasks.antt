-- What a session signs, by the files that its words name and the message that it is given.
use Rattle.std.specs.Prelude.{◌≡◌, ◌+◌, ◌-◌, ◌^◌, ◌≤◌, min, map, ℕ, List, Option, IsTrue}
use Rattle.aggregator_session.specs.Desks.{DeskState}
use Rattle.aggregator_session.specs.declared.desk.Address.{Address}
use Rattle.share_files.specs.Reference.{HasReferenceLayout}
use Rattle.share_files.specs.declared.reference.RefHeader.{RefHeader}
use Rattle.tool_base.specs.Ending as ending
use Rattle.tool_base.specs.Ending.{Ending}
use Rattle.tool_base.specs.Reads.{FailsUpTo}
use Rattle.tool_base.specs.World.{Bytes, IsReadUpTo, StoreRun}
use Rattle.tool_base.specs.declared.unsigned.Unsigned.TheVariants.{NotACoalition}
use Rattle.tool_desk.specs.Files.{AreKeyFiles, AreOfOneKey, FailsKeyFiles, IsOfOtherKey, reference_name}
use Rattle.tool_sign.specs.Members.{IsCoalition, address, members_placed, placed}
use Rattle.tool_desk.specs.Reference.{FailsReference, IsReferenceViewed}
use Rattle.tool_desk.specs.declared.files.KeyFiles.{KeyFiles}
use Rattle.tool_base.specs.Loads.{ReadsAs}
use Rattle.tool_sign.specs.Ports.{Signing}

-- how long a message that is signed may be
abbrev pub message_limit : ℕ
message_limit = 16777216

-- what a session is run with: the files of the dealing whose names begin with this prefix, the leaf table of this
-- name, and the place of trustee t, or none, at t - 1
pub record SessionWords : Type 0 where
  pub prefix : List ℕ
  pub table : List ℕ
  pub places : List (Option (List ℕ))

-- where a message comes from: what it is, and the ends if there is none
pub record MessageSource : Type 1 where
  pub is : List ℕ → Type 0
  pub fails : Ending → Type 0

-- the message is what the file of this name holds
abbrev pub message_in : StoreRun → List ℕ → MessageSource
message_in store name = record {
  is = λ message. IsReadUpTo message_limit store name (Bytes message);
  fails = FailsUpTo message_limit store name;
}

-- the message is these bytes
abbrev pub message_of : List ℕ → MessageSource
message_of bytes = record { is = λ message. message ≡ bytes; fails = λ end. ⊥ }

-- the files of the dealing were read
pub record HasFiles (words : SessionWords) (store : StoreRun) (files : KeyFiles) (header : RefHeader) : Type 0 where
  pub files_are : AreKeyFiles store words.prefix files
  pub reference_is : IsReferenceViewed store (reference_name words.prefix) header

-- the message was obtained, the files are of one key, and the members are a coalition and have these addresses
pub record GoesWith (words : SessionWords) (source : MessageSource) (files : KeyFiles) (header : RefHeader)
    (message members : List ℕ) (addresses : List Address) : Type 0 where
  pub message_is : source.is message
  pub one_key : AreOfOneKey files header
  pub members_are : members ≡ members_placed words.places
  pub coalition : IsCoalition header.plan members
  pub addresses_are : map address addresses ≡ placed words.places

-- the end if the message was not obtained, or the files or the members do not go together
pub data LacksTask (words : SessionWords) (source : MessageSource) (files : KeyFiles) (header : RefHeader)
    : Ending → Type 0 where
  no_memory : LacksTask words source files header ending.NoMemory
  no_message : (end : Ending) → source.fails end → LacksTask words source files header end
  other_key : (message : List ℕ) (end : Ending) → source.is message
      → IsOfOtherKey words.prefix files header end → LacksTask words source files header end
  no_coalition : (message : List ℕ) → source.is message
      → AreOfOneKey files header → (IsCoalition header.plan (members_placed words.places) → ⊥)
      → LacksTask words source files header (ending.NotSigned NotACoalition)

-- the end if no session was begun, by the first test that failed
pub data FailsTask (words : SessionWords) (store : StoreRun) (source : MessageSource) : Ending → Type 0 where
  no_key_files : (end : Ending) → FailsKeyFiles store words.prefix end → FailsTask words store source end
  no_reference : (files : KeyFiles) (end : Ending) → AreKeyFiles store words.prefix files
      → FailsReference store (reference_name words.prefix) end → FailsTask words store source end
  no_task : (files : KeyFiles) (header : RefHeader) (end : Ending) → HasFiles words store files header
      → LacksTask words source files header end → FailsTask words store source end

-- what is signed with: the key and the tree of these files, the plan of this reference, and these addresses
abbrev pub desk_of : KeyFiles → RefHeader → List Address → DeskState
desk_of files header addresses = record {
  key = files.key;
  plan = header.plan;
  tree = files.tree.nodes;
  addresses = addresses;
}

-- The session reads the reference of the words, with no fault before it. A reference of a steady store that tells its
-- content gives what it has. The faults of reading are among those of the store's disks and views.
pub record ReadsReference (words : SessionWords) (store : StoreRun) (header : RefHeader) (signing : Signing)
    : Type 0 where
  pub told : IsTrue store.before.told → IsTrue signing.reads.told
  pub leaves : ReadsAs store (reference_name words.prefix)
      (λ file. HasReferenceLayout header file signing.reads.leaves)
  pub exact : IsTrue store.before.told → IsTrue store.before.steady → IsTrue signing.exact
  pub fresh : signing.reads.before ≡ 0
  pub rise : min (store.before.disk_count + signing.reads.now) (2 ^ 64 - 1) ≤ store.after.disk_count

-- what is signed is what the words name
pub record IsTask (words : SessionWords) (store : StoreRun) (source : MessageSource) (signing : Signing)
    : Type 0 where
  pub files : KeyFiles
  pub header : RefHeader
  pub has : HasFiles words store files header
  pub goes : GoesWith words source files header signing.message signing.members signing.desk.addresses
  pub desk : signing.desk ≡ desk_of files header signing.desk.addresses
  pub reads : ReadsReference words store header signing
