-- What a dealing gives.
use Rattle.std.specs.Prelude.{◌≡◌, ℕ, List, map, All}
use Rattle.std.specs.List.{range_with_len}
use Rattle.lms_verify.specs.UndividedKey.{UndividedKey, seed_root}
use Rattle.merkle_path.specs.Tree.{TreeNodes, tree_of}
use Rattle.ots_chain.specs.LeafKey.{seed_leaf_key}
use Rattle.reference_value.specs.Dealing.{Dealing, reference}
use Rattle.share_files.specs.declared.share.Share.{Share}
use Rattle.dealer.specs.declared.dealing.Dealt.{Dealt}

-- the undivided key of a dealing: its parameter set, I and SEED (RFC 8554 appendix A)
pub record IsKeyOf (d : Dealing) (key : UndividedKey) : Type 0 where
  pub params : key.params ≡ d.params
  pub id : key.id ≡ d.id
  pub seed : key.seed ≡ d.seed

-- T[1] (RFC 8554 section 5.3)
abbrev pub dealt_root : Dealing → List ℕ
dealt_root d = seed_root d.params d.id d.seed

-- the tree over K of each leaf (RFC 8554 sections 4.3 and 5.3)
abbrev pub dealt_tree : Dealing → TreeNodes
dealt_tree d = tree_of d.params d.id (λ q. seed_leaf_key d.params d.id q d.seed)

-- the shares are one for each trustee, in ascending order, each with the trustee's own key
pub record AreShares (d : Dealing) (shares : List Share) : Type 0 where
  pub members : map (λ share. share.member) shares ≡ range_with_len 1 d.plan.n
  pub keys : map (λ share. share.key) shares ≡ d.keys
  pub params : All (λ share. share.params ≡ d.params) shares
  pub plan : All (λ share. share.plan ≡ d.plan) shares
  pub id : All (λ share. share.id ≡ d.id) shares

-- this is what the dealing gives
pub record IsDealt (d : Dealing) (dealt : Dealt) : Type 0 where
  pub params : dealt.public.params ≡ d.params
  pub id : dealt.public.id ≡ d.id
  pub root_is : dealt.public.root ≡ dealt_root d
  pub tree : dealt.tree ≡ dealt_tree d
  pub reference_is : dealt.reference.items ≡ reference d
  pub shares : AreShares d dealt.shares.items
