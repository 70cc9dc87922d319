-- Views that come back if what they show is no reference.
use Rattle.std.proofs.Common.{◌≡◌, ◌⊎◌, ℕ, List, IsTrue, inl, inr, refl}
use Rattle.disk_trait.specs.Faults.{Rose}
use Rattle.stream_io.specs.Store.{PagesState, StoreOnward, StoreState, ViewEnded, Viewed}
use Rattle.tool_base.specs.Ending as ending
use Rattle.tool_base.specs.Ending.{Ending}
use Rattle.tool_base.specs.World.{Failed, IsPart, file_limit, from_to}
use Rattle.tool_base.proofs.Runs.{read_part}
use Rattle.tool_base.proofs.Viewing.{device_fails, device_part, reads_as, reads_part}
use Rattle.tool_desk.specs.Heads.{end_of_head}
use Rattle.tool_desk.specs.Reference.{FailsReference, IsNoReference, device, no_memory, no_view, not_in_grammar}
use Rattle.tool_desk.specs.declared.reference.HeadFault.{HeadFault}
use Rattle.tool_desk.specs.declared.reference.HeadFault.TheVariants.{File, Device}
use Rattle.share_files.specs.declared.faults.FileFault.{FileFault}

pub fails_part : (first before after last : StoreState) → IsPart first before after last → (name : List ℕ) (end : Ending)
    → FailsReference (from_to before after) name end → FailsReference (from_to first last) name end
fails_part first before after last p name _ (no_view r) = no_view (read_part first before after last p file_limit name Failed r)
fails_part first before after last p name _ (not_in_grammar fault reads) = not_in_grammar fault (reads_part first before after last p name (IsNoReference fault) reads)
fails_part first before after last p name _ (device fails) = device (device_part first before after last p fails)
fails_part first before after last p name _ no_memory = no_memory

-- ---- a view that was handed out, and the same view after it was read
module _ (a b : StoreState) (name : List ℕ) (view now : PagesState) (viewed : Viewed a name view b)
    (told_is : now.told ≡ view.told) (steady_is : now.steady ≡ view.steady) (reads_are : IsTrue view.told → now.reads ≡ view.reads)
    (c : StoreState) (goes : StoreOnward a b) (step : ViewEnded b now c) (comes : StoreOnward b c) where
  -- the end of each fault of the head
  pub head_refused : (fault : HeadFault) (end : Ending) → ((file : FileFault) → fault ≡ File file → IsTrue view.told → IsNoReference file view.reads)
      → (fault ≡ Device → Rose view.count now.count) → (fault ≡ Device → IsTrue view.told → IsTrue view.steady → ⊥)
      → (end ≡ ending.NoMemory) ⊎ (end ≡ end_of_head name fault) → FailsReference (from_to a c) name end
  head_refused fault end file rose never (inl none) = rw none no_memory
  head_refused (File fault) end file rose never (inr is) = rw is (not_in_grammar fault (reads_as a b name view now viewed told_is steady_is reads_are c (IsNoReference fault) (file fault refl)))
  head_refused Device end file rose never (inr is) = rw is (device (device_fails a b name view now viewed told_is steady_is reads_are c goes step comes (rose refl) (never refl)))
