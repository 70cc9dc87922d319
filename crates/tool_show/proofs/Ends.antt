-- How `show` ends.
use Rattle.std.proofs.Common.{◌≡◌, ◌∙◌, ◌⊎◌, ℕ, Bool, List, Some, length, inl, inr}
use Rattle.share_files.specs.Commits.{commits_magic}
use Rattle.share_files.specs.Reference.{reference_magic}
use Rattle.tool_base.specs.Contents.{HasHead}
use Rattle.tool_base.specs.Ending as ending
use Rattle.tool_base.specs.Ending.{Ending}
use Rattle.tool_base.specs.Loads.{ReadsAs}
use Rattle.tool_base.specs.World.{StoreRun, Bytes, TooLong, IsRead}
use Rattle.tool_base.proofs.Fronts.{reads-long, same-letters}
use Rattle.tool_show.specs.Keys.{IsEndOf, IsFaultOf, IsFaultOfHead}
use Rattle.tool_show.specs.Kinds.{show_fault}
use Rattle.tool_show.specs.Show.{HasOtherLetters, ShowEnds, long_not_shown, long_shown, no_memory, not_loaded, not_shown, too_long, unreadable}
use Rattle.tool_show.specs.Shown.{IsShown}
use Rattle.tool_show.specs.declared.bytes_shown.ShowFault.{ShowFault}
use Rattle.tool_show.specs.declared.bytes_shown.ShowFault.TheVariants.{NoMemory, NotLoaded, Unreadable}

-- the end of each fault of bytes
pub ends_of_fault : (store : StoreRun) (file bytes : List ℕ) (leaves : Bool) (fault : ShowFault) (end : Ending) → IsRead store file (Bytes bytes)
    → IsFaultOf bytes fault → IsEndOf file fault end → ShowEnds store file leaves end
ends_of_fault store file bytes leaves (Unreadable fault) end read is (inl none) = rw none no_memory
ends_of_fault store file bytes leaves (Unreadable fault) end read is (inr told) = rw told (not_shown bytes _ read (unreadable fault is))
ends_of_fault store file bytes leaves (NotLoaded fault) end read is told = rw told (not_shown bytes _ read (not_loaded fault is.0 is.1))
ends_of_fault store file bytes leaves NoMemory end read is told = rw told no_memory

-- a file that is too long to be read whole
module _ (store : StoreRun) (name head : List ℕ) (got : ℕ) (leaves : Bool) where
  pub head_shown : (text : List ℕ) → IsRead store name (TooLong got) × ReadsAs store name (HasHead head)
      → ((file : List ℕ) → HasHead head file → length file ≡ got → IsShown file leaves text) → ShowEnds store name leaves (ending.Shown text)
  head_shown text found shows = long_shown got text found.0 (reads-long store name head got found (λ bytes. IsShown bytes leaves text) shows)

  pub head_other : IsRead store name (TooLong got) × ReadsAs store name (HasHead head) → HasOtherLetters head → ShowEnds store name leaves (ending.TooLong got)
  head_other found other = too_long got found.0 (reads-long store name head got found HasOtherLetters (λ file has is. record {
    no_reference = same-letters reference_magic head file has ∙ other.no_reference;
    no_commitments = same-letters commits_magic head file has ∙ other.no_commitments;
  }))

  pub head_ends : (fault : ShowFault) (end : Ending) → IsRead store name (TooLong got) × ReadsAs store name (HasHead head)
      → IsFaultOfHead head got fault → IsEndOf name fault end → ShowEnds store name leaves end
  head_ends (Unreadable fault) end found is (inl none) = rw none no_memory
  head_ends (Unreadable fault) end found is (inr told) = rw told (long_not_shown got fault found.0 (reads-long store name head got found (λ bytes. show_fault bytes ≡ Some fault) is))
  head_ends (NotLoaded fault) end found is told = absurd is
  head_ends NoMemory end found is told = rw told no_memory
