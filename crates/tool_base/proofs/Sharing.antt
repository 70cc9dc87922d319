-- Shares that are read.
use Rattle.std.proofs.Common.{◌≡◌, ◌⊎◌, ℕ, List, Some, inl, inr, ap, option_map, subst}
use Rattle.share_files.specs.FaultNumbers.{file_fault_number}
use Rattle.share_files.specs.Sets.{CanBeDealt}
use Rattle.share_files.specs.Share.{share_bytes, share_fault}
use Rattle.share_files.specs.declared.faults.FileFault.{FileFault}
use Rattle.share_files.specs.declared.share.Share.{Share}
use Rattle.tool_base.specs.Ending as ending
use Rattle.tool_base.specs.Ending.{Ending}
use Rattle.tool_base.specs.Grammars.{FailsGrammar, IsShareRead, not_in_grammar, share_fault_number}
use Rattle.tool_base.specs.World.{StoreRun, Bytes, IsRead}

-- a file that is not a share leads to the end that names its first fault
pub share_refused : (store : StoreRun) (name bytes : List ℕ) (fault : FileFault) (number : ℕ) (end : Ending)
    → IsRead store name (Bytes bytes) → share_fault bytes ≡ Some fault → number ≡ file_fault_number fault
    → (end ≡ ending.NoMemory) ⊎ (end ≡ ending.Unreadable name number)
    → (end ≡ ending.NoMemory) ⊎ FailsGrammar share_fault_number store name end
share_refused store name bytes fault number end read is number_is (inl none) = inl none
share_refused store name bytes fault number end read is number_is (inr told) =
    inr (rw (told, number_is) (not_in_grammar bytes (file_fault_number fault) read (ap (option_map file_fault_number) is)))

-- a file that is a share is read as this share
pub share_is_read : (store : StoreRun) (name bytes : List ℕ) (share : Share)
    → IsRead store name (Bytes bytes) → bytes ≡ share_bytes share → CanBeDealt share.params → IsShareRead store name share
share_is_read store name bytes share read is dealt = record { read = subst (λ (l : List ℕ). IsRead store name (Bytes l)) is read; dealt = dealt }
