-- What an aggregator signs with for its clients, in terms of the files that its words name.
use Rattle.aggregator_session.specs.Desks.{DeskState}
use Rattle.std.specs.Prelude.{◌≡◌, map, IsTrue}
use Rattle.aggregator_node.specs.Ports.{Place}
use Rattle.share_files.specs.Reference.{HasReferenceLayout}
use Rattle.share_files.specs.declared.reference.RefHeader.{RefHeader}
use Rattle.tool_base.specs.Ending as ending
use Rattle.tool_base.specs.Ending.{Ending}
use Rattle.tool_base.specs.World.{StoreRun}
use Rattle.tool_desk.specs.Files.{AreKeyFiles, AreOfOneKey, FailsKeyFiles, reference_name}
use Rattle.tool_sign.specs.Members.{address, placed}
use Rattle.tool_desk.specs.Reference.{IsReferenceViewed}
use Rattle.tool_desk.specs.declared.files.KeyFiles.{KeyFiles}
use Rattle.tool_base.specs.Loads.{ReadsAs}
use Rattle.tool_sign.specs.Tasks.{desk_of}
use Rattle.tool_desk.specs.Views.{FailsReferences}
use Rattle.tool_words.specs.Words.{AggregateWords}

-- the desk is of the files and the places that the words name
pub record IsDesk (words : AggregateWords) (store : StoreRun) (header : RefHeader) (desk : DeskState) : Type 0 where
  pub files : KeyFiles
  pub files_are : AreKeyFiles store words.prefix files
  pub reference_is : IsReferenceViewed store (reference_name words.prefix) header
  pub one_key : AreOfOneKey files header
  pub addresses_are : map address desk.addresses ≡ placed words.places
  pub desk_is : desk ≡ desk_of files header desk.addresses

-- the end if the files of the dealing were not read, or do not go together
pub data FailsDesk (words : AggregateWords) (store : StoreRun) : Ending → Type 0 where
  no_memory : FailsDesk words store ending.NoMemory
  no_key_files : (end : Ending) → FailsKeyFiles store words.prefix end → FailsDesk words store end
  no_references : (files : KeyFiles) (end : Ending) → AreKeyFiles store words.prefix files
      → FailsReferences store words.prefix files end → FailsDesk words store end

-- The worker of this place reads the reference of the words, with no fault before it. A reference of a steady store
-- that tells its content is steady and tells it too.
pub record ReadsReference (words : AggregateWords) (store : StoreRun) (header : RefHeader) (place : Place)
    : Type 0 where
  pub told : IsTrue store.before.told → IsTrue place.reference.told
  pub steady : IsTrue store.before.steady → IsTrue place.reference.steady
  pub leaves : ReadsAs store (reference_name words.prefix)
      (λ file. HasReferenceLayout header file place.reference.leaves)
  pub fresh : place.faults ≡ 0
