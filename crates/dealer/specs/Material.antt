-- internal: What a key is dealt from, and what is built of it.
use Rattle.std.specs.Prelude.{◌≡◌, ℕ, ◌*◌, ◌^◌, Bool, List, is_some, length}
use Rattle.lms_bytes.specs.declared.public_key.PublicKey.{PublicKey}
use Rattle.mask_prf.specs.Lengths.{leaves_length}
use Rattle.merkle_path.specs.Tree.{TreeNodes}
use Rattle.reference_value.specs.Dealing.{Dealing, reference}
use Rattle.dealer.specs.Dealt.{dealt_root, dealt_tree}
use Rattle.dealer.specs.Runs.{HasRoom, HasRunRoom, IsRunBuilt, file_asked, joined_keys}
use Rattle.dealer.specs.declared.material.KeyMaterial.{KeyMaterial}
use Rattle.dealer.specs.declared.runs.Run.{Run}

abbrev pub dealing_with : KeyMaterial → Dealing
dealing_with material = record {
  params = material.params;
  plan = material.plan;
  id = material.id;
  seed = material.seed;
  random_key = material.random_key;
  keys = material.keys.items;
}

-- whether commitments to the masks are asked for
abbrev pub are_asked : KeyMaterial → Bool
are_asked material = is_some material.macs

-- room for the leaves of the masked reference value, for the commitment file, and for K of each leaf
pub record HasAllRoom (material : KeyMaterial) (leaves file keys : List ℕ) : Type 0 where
  pub leaves_room : length leaves ≡ leaves_length material.params material.plan
  pub file_room : HasRoom (are_asked material) material.params material.plan material.id file
  pub keys_room : length keys ≡ material.params.n * 2 ^ material.params.h

-- these are they
pub record AreAllBuilt (material : KeyMaterial) (leaves file keys : List ℕ) : Type 0 where
  pub leaves_are : leaves ≡ reference (dealing_with material)
  pub file_is : file ≡ file_asked (are_asked material) (dealing_with material)
  pub keys_are : keys ≡ joined_keys (dealing_with material)

-- the same for a run of leaves, with their commitments if they are asked for
abbrev pub HasRoomOfRun : KeyMaterial → ℕ → List ℕ → List ℕ → List ℕ → Type 0
HasRoomOfRun material count = HasRunRoom (are_asked material) material.params material.plan.k count

abbrev pub IsBuiltRun : KeyMaterial → Run → List ℕ → List ℕ → List ℕ → Type 0
IsBuiltRun material run = IsRunBuilt (are_asked material) (dealing_with material) run

-- the public key of a dealing, and its tree
pub record IsPublic (d : Dealing) (public : PublicKey) (tree : TreeNodes) : Type 0 where
  pub params : public.params ≡ d.params
  pub id : public.id ≡ d.id
  pub root_is : public.root ≡ dealt_root d
  pub tree_is : tree ≡ dealt_tree d
