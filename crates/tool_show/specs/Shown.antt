-- What bytes hold, as text.
use Rattle.std.specs.Prelude.{◌≡◌, ℕ, Bool, List, take, length, Some, codes}
use Rattle.hss_levels.specs.HssKey.{hss_key_bytes}
use Rattle.hss_levels.specs.declared.hss_key.HssKey.{HssKey}
use Rattle.lms_bytes.specs.PublicKey.{public_bytes}
use Rattle.lms_bytes.specs.declared.params.Params.{Params}
use Rattle.lms_bytes.specs.declared.public_key.PublicKey.{PublicKey}
use Rattle.share_files.specs.Commits.{commits_head, commits_length}
use Rattle.share_files.specs.Reference.{HasReferenceLayout}
use Rattle.share_files.specs.Sets.{CanBeDealt}
use Rattle.share_files.specs.Share.{share_bytes}
use Rattle.share_files.specs.TreeFile.{HasTreeLayout}
use Rattle.share_files.specs.declared.reference.RefHeader.{RefHeader}
use Rattle.share_files.specs.declared.share.Share.{Share}
use Rattle.tool_show.specs.Listing.{IsListing}
use Rattle.tool_show.specs.Kinds.{IsCommitments, IsHssKey, IsKey, IsReference, IsShare, IsSlots, IsTree, kind_of}
use Rattle.tool_show.specs.Lines.{header_line, hss_key_line, key_line, share_line, tree_line}

-- bytes begin with this head of a commitment file, and are as many as it says
pub record HasCommitsHead (header : RefHeader) (bytes : List ℕ) : Type 0 where
  pub dealt : CanBeDealt header.params
  pub head : take 32 bytes ≡ commits_head header
  pub size : length bytes ≡ commits_length header.params header.plan

-- The text that says what bytes hold. If `leaves` is true, the text of a file of slots has one more line for each slot
-- that is not free.
pub data IsShown (bytes : List ℕ) (leaves : Bool) : List ℕ → Type 0 where
  share : (share : Share) → kind_of bytes ≡ Some IsShare → bytes ≡ share_bytes share → CanBeDealt share.params
      → IsShown bytes leaves (share_line share)
  tree : (params : Params) (id nodes : List ℕ) → kind_of bytes ≡ Some IsTree → HasTreeLayout params bytes id nodes
      → IsShown bytes leaves (tree_line params id nodes)
  reference : (header : RefHeader) (cells : List ℕ) → kind_of bytes ≡ Some IsReference
      → HasReferenceLayout header bytes cells
      → IsShown bytes leaves (header_line (codes "reference") header (length bytes))
  commitments : (header : RefHeader) → kind_of bytes ≡ Some IsCommitments → HasCommitsHead header bytes
      → IsShown bytes leaves (header_line (codes "commitments") header (length bytes))
  slots : (text : List ℕ) → kind_of bytes ≡ Some IsSlots → IsListing bytes leaves text → IsShown bytes leaves text
  key : (key : PublicKey) → kind_of bytes ≡ Some IsKey → bytes ≡ public_bytes key
      → IsShown bytes leaves (key_line key)
  hss_key : (key : HssKey) → kind_of bytes ≡ Some IsHssKey → bytes ≡ hss_key_bytes key
      → IsShown bytes leaves (hss_key_line key)
