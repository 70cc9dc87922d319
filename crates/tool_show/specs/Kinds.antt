-- The kinds of files, and why a file is not the one that it begins as.
use Rattle.std.specs.Prelude.{ℕ, Bool, List, [], ◌∷◌, take, length, Option, Some, None, is_none, is_some, option_map}
use Rattle.std.specs.Prelude.{if◌then◌else◌}
use Rattle.std.specs.Str.{bytes_eq}
use Rattle.hss_levels.specs.HssKey.{hss_key_fault}
use Rattle.lms_bytes.specs.PublicKey.{public_fault}
use Rattle.share_files.specs.Commits.{commits_head_fault, commits_magic}
use Rattle.share_files.specs.FaultNumbers.{file_fault_number}
use Rattle.share_files.specs.Head.{first_fault, short_fault}
use Rattle.share_files.specs.Reference.{reference_fault, reference_magic}
use Rattle.share_files.specs.Share.{share_fault, share_magic}
use Rattle.share_files.specs.TreeFile.{tree_fault, tree_magic}
use Rattle.share_files.specs.declared.faults.FileFault.{FileFault}
use Rattle.tool_show.specs.SlotKinds.{slot_kind}

-- a share, a tree, a reference, commitments, a file of slots, a key of one level, or a key of several
pub data Kind : Type 0 where
  IsShare : Kind
  IsTree : Kind
  IsReference : Kind
  IsCommitments : Kind
  IsSlots : Kind
  IsKey : Kind
  IsHssKey : Kind

-- bytes that begin with these four
abbrev pub begins_with : List ℕ → List ℕ → Bool
begins_with magic bytes = bytes_eq magic (take 4 bytes)

-- the kind of a key: one that reads as an LMS key, or else as an HSS key
unfoldable pub key_kind : List ℕ → Option Kind
key_kind bytes =
    if is_none (public_fault bytes) then Some IsKey
    else (if is_none (hss_key_fault bytes) then Some IsHssKey else None)

-- The kind of a file, by the first of these tests that it passes: the four letters at its front, the header of a file
-- of slots, and the readers of keys.
unfoldable pub kind_of : List ℕ → Option Kind
kind_of bytes =
    if begins_with share_magic bytes then Some IsShare
    else (if begins_with tree_magic bytes then Some IsTree
    else (if begins_with reference_magic bytes then Some IsReference
    else (if begins_with commits_magic bytes then Some IsCommitments
    else (if is_some (slot_kind bytes) then Some IsSlots
    else key_kind bytes))))

-- the first test that bytes fail as a commitment file by its head and its length, or none
unfoldable pub commits_fault : List ℕ → Option FileFault
commits_fault bytes = first_fault (short_fault 32 bytes ∷ commits_head_fault (take 32 bytes) (length bytes) ∷ [])

-- the number of the first test that bytes of a kind fail; files of slots are tested when they are loaded, and bytes are
-- a key only if they pass
abbrev pub fault_as : Kind → List ℕ → Option ℕ
fault_as IsShare bytes = option_map file_fault_number (share_fault bytes)
fault_as IsTree bytes = option_map file_fault_number (tree_fault bytes)
fault_as IsReference bytes = option_map file_fault_number (reference_fault bytes)
fault_as IsCommitments bytes = option_map file_fault_number (commits_fault bytes)
fault_as IsSlots bytes = None
fault_as IsKey bytes = None
fault_as IsHssKey bytes = None

-- the number of the first test that bytes fail as the file that they begin as; those of no kind have fault 1
unfoldable pub show_fault : List ℕ → Option ℕ
show_fault bytes = elim (kind_of bytes) [ None ↦ Some 1 | Some kind ↦ fault_as kind bytes ]
