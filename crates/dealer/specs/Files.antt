-- The files of a dealing, byte for byte. None holds SEED, the key of the randomizers, or a value of a chain that is not
-- masked.
use Rattle.std.specs.Prelude.{◌≡◌, ℕ, List, ◌++◌, map}
use Rattle.std.specs.List.{range_with_len}
use Rattle.lms_bytes.specs.Bytes.{u32str}
use Rattle.reference_value.specs.Dealing.{Dealing, key_of, reference}
use Rattle.share_files.specs.Reference.{reference_head_of}
use Rattle.share_files.specs.Share.{share_file_of}
use Rattle.share_files.specs.TreeFile.{tree_head}
use Rattle.dealer.specs.Dealt.{dealt_root, dealt_tree}
use Rattle.dealer.specs.declared.files.DealingFiles.{DealingFiles}
use Rattle.dealer.specs.declared.files.KeyFiles.{KeyFiles}

-- the public key (RFC 8554 section 5.3)
abbrev pub public_file : Dealing → List ℕ
public_file d = u32str d.params.lms ++ u32str d.params.ots ++ d.id ++ dealt_root d

-- this project's profile: the head, and T[1] || T[2] || .. || T[2^(h+1) - 1]
abbrev pub tree_file : Dealing → List ℕ
tree_file d = tree_head d.params d.id ++ (dealt_tree d).nodes

-- this project's profile: the head, and the masked leaves
abbrev pub reference_file : Dealing → List ℕ
reference_file d = reference_head_of d.params d.plan d.id ++ reference d

-- this project's profile: the head, and the key of trustee t
abbrev pub share_file : Dealing → ℕ → List ℕ
share_file d t = share_file_of d.params d.plan d.id t (key_of d t)

-- those of all trustees, in ascending order
abbrev pub share_files : Dealing → List (List ℕ)
share_files d = map (share_file d) (range_with_len 1 d.plan.n)

-- these are the files of the dealing
pub record AreFiles (d : Dealing) (files : DealingFiles) : Type 0 where
  pub public_is : files.public.items ≡ public_file d
  pub tree_is : files.tree.items ≡ tree_file d
  pub reference_is : files.reference.items ≡ reference_file d
  pub shares_are : map (λ file. file.items) files.shares.items ≡ share_files d

-- these are the files of the dealing besides the reference
pub record AreKeyFiles (d : Dealing) (files : KeyFiles) : Type 0 where
  pub public_is : files.public.items ≡ public_file d
  pub tree_is : files.tree.items ≡ tree_file d
  pub shares_are : map (λ file. file.items) files.shares.items ≡ share_files d
