-- The reference of a dealing, which is read through a view of its file.
use Rattle.std.specs.Prelude.{◌≡◌, ℕ, List, Some}
use Rattle.share_files.specs.FaultNumbers.{file_fault_number}
use Rattle.share_files.specs.Reference.{HasReferenceLayout, reference_fault}
use Rattle.share_files.specs.Sets.{CanBeDealt}
use Rattle.share_files.specs.declared.faults.FileFault.{FileFault}
use Rattle.share_files.specs.declared.reference.RefHeader.{RefHeader}
use Rattle.tool_base.specs.Ending as ending
use Rattle.tool_base.specs.Ending.{Ending}
use Rattle.tool_base.specs.World.{StoreRun, Failed, IsRead}
use Rattle.tool_base.specs.Disks.{DeviceFails}
use Rattle.tool_base.specs.Loads.{ReadsAs}

-- a file is a reference with this header and some leaves, and has the length that the header asks for
pub record IsReferenceOf (header : RefHeader) (file : List ℕ) : Type 0 where
  pub leaves : List ℕ
  pub layout : HasReferenceLayout header file leaves

-- the first fault of a file as a reference
pub record IsNoReference (fault : FileFault) (file : List ℕ) : Type 0 where
  pub fault_is : reference_fault file ≡ Some fault

-- the file of this name is a reference with this header
pub record IsReferenceViewed (store : StoreRun) (name : List ℕ) (header : RefHeader) : Type 0 where
  pub reads : ReadsAs store name (IsReferenceOf header)
  pub dealt : CanBeDealt header.params

-- The end if no reference could be viewed under this name: no view could be obtained, the file is no reference, or a
-- read of the view failed.
pub data FailsReference (store : StoreRun) (name : List ℕ) : Ending → Type 0 where
  no_view : IsRead store name Failed → FailsReference store name ending.StoreFailed
  not_in_grammar : (fault : FileFault) → ReadsAs store name (IsNoReference fault)
      → FailsReference store name (ending.Unreadable name (file_fault_number fault))
  device : DeviceFails store → FailsReference store name ending.DeviceFailed
  no_memory : FailsReference store name ending.NoMemory
