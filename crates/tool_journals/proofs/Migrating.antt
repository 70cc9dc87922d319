-- How a migration ends if the old journal is not taken.
use Rattle.std.proofs.Common.{ℕ, List}
use Rattle.share_files.specs.declared.share.Share.{Share}
use Rattle.stream_io.specs.Store.{SameStore, StoreOnward, StoreState}
use Rattle.tool_base.specs.Ending.{Ending}
use Rattle.tool_base.specs.Grammars.{IsShareRead}
use Rattle.tool_base.specs.Outputs.{IsNew}
use Rattle.tool_base.specs.Touched.{EndsTouching}
use Rattle.tool_base.specs.World.{InAnyRun, IsUnchanged, StoreRun, from_to}
use Rattle.tool_base.proofs.Outs.{ends_unchanged}
use Rattle.tool_base.proofs.Runs.{unchanged_none, unchanged_on, onward_on, part_of}
use Rattle.tool_journals.specs.Migrate.{MigrateEnds, not_taken}
use Rattle.tool_journals.specs.Taking.{IsNotTaken}

-- the share was read, then the new name was tested, and the call that should take the journal changed nothing
module _ {S : Type 0} (state : S → StoreState) (first shared tested last : S) (share journal new : List ℕ) (found : Share)
    (one : IsUnchanged (state first) (state shared)) (two : IsUnchanged (state shared) (state tested))
    (same : SameStore (state tested) (state last)) (onward : StoreOnward (state tested) (state last))
    (read : InAnyRun state first shared (λ run. IsShareRead run share found)) (is_new : InAnyRun state shared tested (λ run. IsNew run new)) where
  abbrev run : StoreRun
  run = from_to (state first) (state last)

  pub untaken : (end : Ending) → IsNotTaken run journal end → EndsTouching (MigrateEnds run share journal new) run end
  untaken end fails =
      ends_unchanged (state first) (state last) (unchanged_on _ _ _ (unchanged_on _ _ _ one two) (record { same = same; onward = onward })) (MigrateEnds run share journal new) end
      (not_taken found end (read first last (part_of _ _ _ _ (unchanged_none _) (onward_on _ _ _ two.onward onward))) (is_new first last (part_of _ _ _ _ one onward)) fails)
