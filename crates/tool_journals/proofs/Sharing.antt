-- Commands that end at their share, or at what comes next.
use Rattle.std.proofs.Common.{◌≡◌, ◌⊎◌, List, [], ℕ, inl, inr}
use Rattle.share_files.specs.declared.share.Share.{Share}
use Rattle.stream_io.specs.Store.{StoreState}
use Rattle.tool_base.specs.Ending as spec
use Rattle.tool_base.specs.Ending.{Ending}
use Rattle.tool_base.specs.Grammars.{FailsGrammar, IsShareRead, not_read, share_fault_number}
use Rattle.tool_base.specs.Reads.{no_memory}
use Rattle.tool_base.specs.Touched.{EndsTouching}
use Rattle.tool_base.specs.World.{InAnyRun, IsUnchanged, StoreRun, from_to}
use Rattle.tool_base.proofs.Outs.{ends_unchanged}
use Rattle.tool_base.proofs.Runs.{unchanged_none, unchanged_on, onward_none, part_of}

pub share_fails : (run : StoreRun) (name : List ℕ) (end : Ending) → (end ≡ spec.NoMemory) ⊎ FailsGrammar share_fault_number run name end
    → FailsGrammar share_fault_number run name end
share_fails run name end (inl none) = rw none (not_read spec.NoMemory no_memory)
share_fails run name end (inr fails) = fails

module _ {S : Type 0} (state : S → StoreState) (first shared : S) (share : List ℕ) (one : IsUnchanged (state first) (state shared)) where
  -- a command that ends in this way keeps all
  pub unshared : (ends : Ending → List (List ℕ) → Type 0) (end : Ending) → ((end : Ending) → FailsGrammar share_fault_number (from_to (state first) (state shared)) share end → ends end [])
      → InAnyRun state first shared (λ run. (end ≡ spec.NoMemory) ⊎ FailsGrammar share_fault_number run share end) → EndsTouching ends (from_to (state first) (state shared)) end
  unshared ends end no_share fails =
      ends_unchanged _ _ one ends end (no_share end (share_fails _ share end (fails first shared (part_of _ _ _ _ (unchanged_none _) (onward_none _)))))

  -- so does one that has read the share and ends at what comes next
  pub next_fails : (last : S) (found : Share) (Fails : StoreRun → Type 0) (ends : Ending → List (List ℕ) → Type 0) (end : Ending)
      → (IsShareRead (from_to (state first) (state last)) share found → Fails (from_to (state first) (state last)) → ends end [])
      → InAnyRun state first shared (λ run. IsShareRead run share found) → IsUnchanged (state shared) (state last) → InAnyRun state shared last Fails
      → EndsTouching ends (from_to (state first) (state last)) end
  next_fails last found Fails ends end no_next read two fails =
      ends_unchanged _ _ (unchanged_on _ _ _ one two) ends end
      (no_next (read first last (part_of _ _ _ _ (unchanged_none _) two.onward)) (fails first last (part_of _ _ _ _ one (onward_none _))))
