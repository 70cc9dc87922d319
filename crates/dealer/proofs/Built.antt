-- What building a dealing gives.
use Rattle.std.proofs.Common.{◌≡◌, ◌-◌, ◌+◌, ◌^◌, ◌<◌, ◌≤◌, ℕ, Bool, List, ◌++◌, ◌∙◌, ap, length, take, drop, subst, arith}
use Rattle.std.specs.declared.alloc.Global.{Global}
use Rattle.std.specs.declared.vec.Vec.{Vec}
use Rattle.lms_bytes.specs.declared.params.Params.{Params}
use Rattle.merkle_path.specs.Nodes.{root}
use Rattle.merkle_path.specs.Tree.{node_at, tree_of}
use Rattle.merkle_path.proofs.Trees.{node_at-tree_of}
use Rattle.reference_value.specs.Dealing.{Dealing, reference}
use Rattle.dealer.specs.declared.dealing.Dealt.{Dealt}
use Rattle.dealer.specs.Dealt.{IsDealt}
use Rattle.dealer.specs.Onto.{IsKeyDealt}
use Rattle.dealer.specs.declared.onto.DealtKey.{DealtKey}
use Rattle.dealer.specs.Material.{AreAllBuilt}
use Rattle.dealer.specs.declared.leaves.Rows.{Rows}
use Rattle.dealer.specs.declared.material.KeyMaterial.{KeyMaterial}
use Rattle.dealer.proofs.Mapped.{over_all}
use Rattle.dealer.specs.Runs.{IsBuilt, file_asked}

-- node 1 is the root
pub first_node : (params : Params) (id : List ℕ) (key : ℕ → List ℕ) → node_at (tree_of params id key) 1 ≡ root params id key
first_node params id key =
    let none : params.h - params.h ≡ 0 = omega arith in
    let low : 2 ^ (params.h - params.h) ≤ 1 = rw none (omega arith) in
    let high : 1 < 2 ^ (params.h - params.h + 1) = rw none (omega arith) in
    node_at-tree_of params id key params.h 1 (omega arith) low high

pub dealt_as : (d e : Dealing) (dealt : Dealt) → d ≡ e → IsDealt d dealt → IsDealt e dealt
dealt_as d e dealt same is = subst (λ (t : Dealing). IsDealt t dealt) same is

-- what was built of the material, seen from the entropy
pub built-as : {d e : Dealing} {asked commit : Bool} {dealt : Dealt} {file : Vec ℕ Global} → d ≡ e → asked ≡ commit
    → IsDealt d dealt → file.items ≡ file_asked asked d → 0 < length dealt.shares.items → IsBuilt commit e (dealt, file)
built-as {d = d} {commit = commit} {dealt = dealt} same all is kept shares = record {
  dealt = dealt_as d _ dealt same is;
  file = kept ∙ (ap (λ (a : Bool). file_asked a d) all ∙ ap (file_asked commit) same);
  shares = shares;
}

-- what was written over the whole slice of a Vec
abbrev over : Vec ℕ Global → List ℕ → List ℕ
over vec new = take vec.len (new ++ drop (length new) vec.items)

-- what was written over all rows is what they hold
pub rows-built : (rows : Rows) {material : KeyMaterial} {leaves file keys : List ℕ} → AreAllBuilt material leaves file keys
    → length leaves ≡ rows.leaves.len → length file ≡ rows.file.len → length keys ≡ rows.keys.len
    → AreAllBuilt material (over rows.leaves leaves) (over rows.file file) (over rows.keys keys)
rows-built rows {leaves = leaves} {file = file} {keys = keys} built leaves_size file_size keys_size = record {
  leaves_are = over_all rows.leaves.len leaves rows.leaves.items _ leaves_size built.leaves_are;
  file_is = over_all rows.file.len file rows.file.items _ file_size built.file_is;
  keys_are = over_all rows.keys.len keys rows.keys.items _ keys_size built.keys_are;
}

-- the set of the material that the entropy stands for
pub same-set : {d e : Dealing} → d ≡ e → d.params ≡ e.params
same-set same = ap (λ (t : Dealing). t.params) same

-- what was dealt onto a disk is a dealing with the leaves that were written
pub dealt-with : (d : Dealing) (key : DealtKey) (leaves : Vec ℕ Global) → IsKeyDealt d key → leaves.items ≡ reference d
    → IsDealt d (record { public = key.public; tree = key.tree; reference = leaves; shares = key.shares })
dealt-with d key leaves is written = record {
  params = is.params;
  id = is.id;
  root_is = is.root_is;
  tree = is.tree;
  reference_is = written;
  shares = is.shares;
}
