-- Views of commitments, which go out of a store, and come back if there are none.
use Rattle.std.proofs.Common.{◌≡◌, ◌⊎◌, ◌+◌, ℕ, List, length, drop, IsTrue, Some, inl, inr, refl, arith}
use Rattle.std.proofs.lemmas.List.{length-drop}
use Rattle.disk_trait.specs.Faults.{Rose}
use Rattle.share_blame.specs.Loads.{commits_fault}
use Rattle.share_blame.specs.declared.faults.CommitsFault.{CommitsFault}
use Rattle.share_blame.specs.declared.faults.CommitsFault.TheVariants.{Device, File}
use Rattle.share_files.specs.declared.faults.FileFault.{FileFault}
use Rattle.share_files.specs.declared.reference.RefHeader.{RefHeader}
use Rattle.stream_io.specs.Store.{PagesState, StoreOnward, StoreState, ViewEnded, Viewed}
use Rattle.tool_base.proofs.Runs.{read_part}
use Rattle.tool_base.specs.Ending as ending
use Rattle.tool_base.specs.Ending.{Ending}
use Rattle.tool_base.specs.World.{Failed, IsPart, file_limit, from_to}
use Rattle.tool_base.proofs.Viewing.{device_fails, device_part, reads_as, reads_part}
use Rattle.tool_blame.specs.Commits.{AreNoCommits, FailsCommits, device, end_of_commits, no_memory, no_view, not_in_grammar}

-- the bytes after the head of a file
pub behind_head : (file : List ℕ) (size : ℕ) → length file ≡ 32 + size → length (drop 32 file) ≡ size
behind_head file size is = let all = length-drop 32 file in omega (arith, all, is)

pub fails_part : (first before after last : StoreState) → IsPart first before after last → (name : List ℕ) (header : RefHeader) (end : Ending)
    → FailsCommits (from_to before after) name header end → FailsCommits (from_to first last) name header end
fails_part first before after last p name header _ (no_view r) = no_view (read_part first before after last p file_limit name Failed r)
fails_part first before after last p name header _ (not_in_grammar fault reads) = not_in_grammar fault (reads_part first before after last p name (AreNoCommits header fault) reads)
fails_part first before after last p name header _ (device fails) = device (device_part first before after last p fails)
fails_part first before after last p name header _ no_memory = no_memory

-- the end for each fault of the commitments
module _ (header : RefHeader) (a b : StoreState) (name : List ℕ) (view now : PagesState) (viewed : Viewed a name view b)
    (told_is : now.told ≡ view.told) (steady_is : now.steady ≡ view.steady) (reads_are : IsTrue view.told → now.reads ≡ view.reads)
    (c : StoreState) (goes : StoreOnward a b) (step : ViewEnded b now c) (comes : StoreOnward b c) where
  pub commits_refused : (fault : CommitsFault) (end : Ending) → ((file : FileFault) → fault ≡ File file → IsTrue view.told → commits_fault header view.reads ≡ Some file)
      → (fault ≡ Device → Rose view.count now.count) → (fault ≡ Device → IsTrue view.told → IsTrue view.steady → ⊥)
      → (end ≡ ending.NoMemory) ⊎ (end ≡ end_of_commits name fault) → FailsCommits (from_to a c) name header end
  commits_refused fault end file rose never (inl none) = rw none no_memory
  commits_refused (File fault) end file rose never (inr is) =
      rw is (not_in_grammar fault (reads_as a b name view now viewed told_is steady_is reads_are c (AreNoCommits header fault) (file fault refl)))
  commits_refused Device end file rose never (inr is) =
      rw is (device (device_fails a b name view now viewed told_is steady_is reads_are c goes step comes (rose refl) (never refl)))
