-- What a command read before its session, stated for its whole run.
use Rattle.share_files.specs.declared.reference.RefHeader.{RefHeader}
use Rattle.stream_io.specs.Store.{StoreOnward, StoreState}
use Rattle.tool_base.proofs.Runs.{unchanged_on, onward_on, part_of}
use Rattle.tool_base.specs.World.{InAnyRun, IsUnchanged, from_to}
use Rattle.tool_desk.specs.Files.{AreKeyFiles, reference_name}
use Rattle.tool_desk.specs.Reference.{IsReferenceViewed}
use Rattle.tool_desk.specs.declared.files.KeyFiles.{KeyFiles}
use Rattle.tool_sign.specs.Tasks.{HasFiles, SessionWords}

-- the files of the dealing were read, its reference was viewed, and the run goes on
pub has_files : {S : Type 0} (state : S → StoreState) (first begun read viewed last : S) (words : SessionWords) (files : KeyFiles) (header : RefHeader)
    → IsUnchanged (state first) (state begun) → IsUnchanged (state begun) (state read) → StoreOnward (state read) (state viewed) → StoreOnward (state viewed) (state last)
    → InAnyRun state begun read (λ run. AreKeyFiles run words.prefix files) → InAnyRun state read viewed (λ run. IsReferenceViewed run (reference_name words.prefix) header)
    → HasFiles words (from_to (state first) (state last)) files header
has_files state first begun read viewed last words files header before same out onward are is = record {
  files_are = are first last (part_of _ _ _ _ before (onward_on _ _ _ out onward));
  reference_is = is first last (part_of _ _ _ _ (unchanged_on _ _ _ before same) onward);
}
