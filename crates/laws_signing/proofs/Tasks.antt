-- What is signed is of the dealing, if its files are.
use Rattle.std.proofs.Common.{◌≡◌, ◌+◌, ◌-◌, ◌*◌, ◌^◌, ◌<◌, ◌≤◌, ℕ, zero, List, [], None, length, refl, sym, ap, subst, ◌∙◌, inl, inr, arith, length-append}
use Rattle.std.specs.Option.{option_map}
use Rattle.std.proofs.Math.Nat.{pow-le-pow_right}
use Rattle.std.proofs.lemmas.List.{get_or_default}
use Rattle.coalition_map.specs.Coalitions.{PlanNumbers, coalitions}
use Rattle.dealer.specs.Dealt.{dealt_tree}
use Rattle.dealer.specs.Files.{public_file, reference_file, tree_file}
use Rattle.leaf_table.specs.Leasing as leasing
use Rattle.lms_bytes.specs.HashLength.{IsHashLength}
use Rattle.lms_bytes.specs.PublicKey.{public_bytes}
use Rattle.lms_bytes.specs.FaultNumbers.{key_fault_number}
use Rattle.lms_bytes.specs.declared.params.Params.{Params}
use Rattle.lms_bytes.specs.declared.public_key.PublicKey.{PublicKey}
use Rattle.lms_bytes.proofs.Layouts.{key_lies}
use Rattle.lms_verify.specs.UndividedKey.{UndividedKey, leaf_key, public_key_of}
use Rattle.merkle_path.specs.Tree.{TreeNodes, tree_of}
use Rattle.merkle_path.proofs.Trees.{size-tree_of}
use Rattle.ots_chain.specs.LeafKey.{seed_leaf_key}
use Rattle.reference_value.specs.Dealing.{Dealing, reference}
use Rattle.reference_value.proofs.Reference.{length-reference}
use Rattle.share_files.specs.FaultNumbers.{file_fault_number}
use Rattle.share_files.specs.Reference.{reference_fault}
use Rattle.share_files.specs.TreeFile.{HasTreeLayout}
use Rattle.share_files.specs.declared.reference.RefHeader.{RefHeader}
use Rattle.tool_base.specs.Ending as ending
use Rattle.tool_base.specs.Ending.{Ending}
use Rattle.tool_base.specs.World.{StoreRun, file_limit}
use Rattle.tool_desk.specs.Files.{FailsKeyFiles, IsOfKey, IsOfOtherKey, key_name, reference_name, tree_name}
use Rattle.tool_desk.specs.Files as files
use Rattle.tool_desk.specs.Key.{key_file_fault}
use Rattle.tool_sign.specs.Members.{IsCoalition, members_placed}
use Rattle.tool_desk.specs.Tree.{tree_bytes, tree_file_fault}
use Rattle.tool_desk.specs.declared.files.KeyFiles.{KeyFiles}
use Rattle.tool_sign.specs.Ports.{NetRun}
use Rattle.tool_sign.specs.Sign.{session_words}
use Rattle.tool_sign.specs.Tasks.{FailsTask, HasFiles, LacksTask, message_in, message_limit}
use Rattle.tool_sign.specs.Tasks as tasks
use Rattle.tool_words.specs.Words.{SignWords}
use Rattle.laws_signing.specs.AllIsWell.{HasDealtFiles, IsDealing, NothingFails}
use Rattle.tool_base.proofs.Parses.{key-passes, one-key, one-reference, one-tree, reference-passes, tree-passes}
use Rattle.laws_signing.proofs.FilesRead.{grammar-well, reads-well, same-file, view-well}
use Rattle.hss_levels.proofs.Sets.{same-key}

-- a set that can be dealt has few nodes
few-nodes : (n h : ℕ) → IsHashLength n → h ≤ 20 → n * (2 ^ (h + 1) - 1) ≤ 67108832
few-nodes n h is low =
    let two : zero < 2 = omega arith in
    let below : h + 1 ≤ 21 = omega arith in
    let top : 2 ^ (h + 1) ≤ 2 ^ 21 = pow-le-pow_right two below in
    let rows : 2 ^ (h + 1) - 1 ≤ 2097151 = omega arith in
    elim is [
      | inl e ↦ rw e (omega arith)
      | inr e ↦ rw e (omega arith)
    ]

abbrev nodes-of : ℕ → ℕ → List ℕ → TreeNodes
nodes-of n h nodes = record { n = n; h = h; nodes = nodes }

pub same-nodes : (a b : TreeNodes) → a.n ≡ b.n → a.h ≡ b.h → a.nodes ≡ b.nodes → a ≡ b
same-nodes a b n h nodes =
    let same : nodes-of a.n a.h a.nodes ≡ nodes-of b.n b.h b.nodes = cc in
    same

abbrev plan-of : ℕ → ℕ → ℕ → PlanNumbers
plan-of n k h = record { n = n; k = k; h = h }

pub same-plan : (a b : PlanNumbers) → a.n ≡ b.n → a.k ≡ b.k → a.h ≡ b.h → a ≡ b
same-plan a b n k h =
    let same : plan-of a.n a.k a.h ≡ plan-of b.n b.k b.h = cc in
    same

module _ (d : Dealing) (key : UndividedKey) (dealing : IsDealing d key) where
  abbrev public : PublicKey
  public = public_key_of key

  pub id-length : length d.id ≡ 16
  id-length = ap length (sym dealing.own.id) ∙ key.id_length

  pub public-is : public_file d ≡ public_bytes public
  public-is = rw (← dealing.own.params, ← dealing.own.id, ← dealing.own.seed) refl

  pub tree-is : dealt_tree d ≡ tree_of key.params key.id (leaf_key key)
  tree-is = rw (← dealing.own.params, ← dealing.own.id, ← dealing.own.seed) refl

  public-passes : key_file_fault (public_file d) ≡ None
  public-passes = ap (option_map key_fault_number) (key-passes public (public_file d) public-is)

  public-small : length (public_file d) ≤ file_limit
  public-small =
      let size = (key_lies public (public_file d) public-is).len in
      let n : public.params.n ≤ 32 = (elim public.params.hash_length [ inl e ↦ omega arith | inr e ↦ omega arith ]) in
      omega arith

  tree-layout : HasTreeLayout d.params (tree_file d) d.id (dealt_tree d).nodes
  tree-layout = record {
    dealt = dealing.set;
    id_length = id-length;
    nodes_length = size-tree_of d.params d.id (λ q. seed_leaf_key d.params d.id q d.seed);
    parts = refl;
  }

  tree-file-passes : tree_file_fault (tree_file d) ≡ None
  tree-file-passes = ap (option_map file_fault_number) (tree-passes d.params (tree_file d) d.id (dealt_tree d).nodes tree-layout)

  tree-small : length (tree_file d) ≤ file_limit
  tree-small =
      let few = few-nodes d.params.n d.params.h d.params.hash_length dealing.set.height in
      let nodes = tree-layout.nodes_length in
      let own = id-length in
      let size : length (tree_file d) ≡ 32 + length (dealt_tree d).nodes = simp length-append (omega arith) in
      omega arith

  reference-file-passes : reference_fault (reference_file d) ≡ None
  reference-file-passes =
      reference-passes d.params d.plan d.id (reference d) (reference_file d) id-length refl dealing.set dealing.plan dealing.height (length-reference d dealing.plan)

  module _ (words : SignWords) (store : StoreRun) (net : NetRun) (message : List ℕ) (fails : NothingFails store net) (has : HasDealtFiles words store d message) where
    -- the key, the tree and the head of the reference that were read are those of the dealing
    pub record AreDealt (key_files : KeyFiles) (header : RefHeader) : Type 0 where
      pub key_is : key_files.key ≡ public
      pub tree_params : key_files.tree.params ≡ d.params
      pub tree_id : key_files.tree.id ≡ d.id
      pub nodes : key_files.tree.nodes ≡ tree_of key.params key.id (leaf_key key)
      pub plan_is : header.plan ≡ d.plan
      pub header_params : header.params ≡ d.params
      pub header_id : header.id ≡ d.id

    pub are-dealt : (key_files : KeyFiles) (header : RefHeader) → HasFiles (session_words words) store key_files header → AreDealt key_files header
    are-dealt key_files header read =
        let public_same = one-key key_files.key public (sym (same-file store (key_name words.prefix) (public_file d) (public_bytes key_files.key) has.key (read.files_are.key.1 fails.store_told)) ∙ public-is) in
        let tree_same = one-tree key_files.tree.params d.params key_files.tree.id d.id key_files.tree.nodes.nodes (dealt_tree d).nodes key_files.tree.id_length id-length
        (sym (same-file store (tree_name words.prefix) (tree_file d) (tree_bytes key_files.tree) has.tree (read.files_are.tree.read.1 fails.store_told))) in
        let view = read.reference_is.reads in
        let found = view.is fails.store_told in
        let reference_same = one-reference header d.params d.plan d.id found.leaves (reference d) view.file id-length found.layout.parts
        (same-file store (reference_name words.prefix) view.file (reference_file d) (view.is_read fails.store_told) has.reference_is) in
        record {
          key_is = same-key key_files.key public public_same.params public_same.id public_same.root_is;
          tree_params = tree_same.set;
          tree_id = tree_same.same_id;
          nodes =
              same-nodes key_files.tree.nodes (dealt_tree d) (key_files.tree.hash_length ∙ ap (λ (p : Params). p.n) tree_same.set)
              (key_files.tree.height ∙ ap (λ (p : Params). p.h) tree_same.set) tree_same.same_rest ∙ tree-is;
          plan_is =
              same-plan header.plan d.plan reference_same.n reference_same.k (header.height ∙ (ap (λ (p : Params). p.h) reference_same.file.set ∙ sym dealing.height));
          header_params = reference_same.file.set;
          header_id = reference_same.file.same_id;
        }

    key-files-well : (end : Ending) → FailsKeyFiles store words.prefix end → end ≡ ending.NoMemory
    key-files-well end (files.no_key e bad) = grammar-well store fails.store_told fails.store_holds key_file_fault (key_name words.prefix) (public_file d) has.key public-small public-passes end bad
    key-files-well end (files.no_tree k e read bad) = grammar-well store fails.store_told fails.store_holds tree_file_fault (tree_name words.prefix) (tree_file d) has.tree tree-small tree-file-passes end bad

    -- the tree and the reference are of the key
    other-well : (key_files : KeyFiles) (header : RefHeader) → AreDealt key_files header → (end : Ending) → IsOfOtherKey words.prefix key_files header end → end ≡ ending.NoMemory
    other-well key_files header are end other =
        let set : key_files.key.params ≡ d.params = ap (λ (k : PublicKey). k.params) are.key_is ∙ dealing.own.params in
        let own_id : key_files.key.id ≡ d.id = ap (λ (k : PublicKey). k.id) are.key_is ∙ dealing.own.id in
        let tree : IsOfKey key_files.key key_files.tree.params key_files.tree.id = record {
          lms = ap (λ (p : Params). p.lms) (are.tree_params ∙ sym set);
          ots = ap (λ (p : Params). p.ots) (are.tree_params ∙ sym set);
          id_is = are.tree_id ∙ sym own_id;
        } in
        let head : IsOfKey key_files.key header.params header.id = record {
          lms = ap (λ (p : Params). p.lms) (are.header_params ∙ sym set);
          ots = ap (λ (p : Params). p.ots) (are.header_params ∙ sym set);
          id_is = are.header_id ∙ sym own_id;
        } in
        other-by key_files header tree head end other
      where
        other-by : (key_files : KeyFiles) (header : RefHeader) → IsOfKey key_files.key key_files.tree.params key_files.tree.id → IsOfKey key_files.key header.params header.id → (end : Ending)
            → IsOfOtherKey words.prefix key_files header end → end ≡ ending.NoMemory
        other-by key_files header tree head end (files.other_tree bad) = absurd (bad tree)
        other-by key_files header tree head end (files.other_reference of bad) = absurd (bad head)
        other-by key_files header tree head end files.no_memory = refl

    module _ (number : ℕ) (coalition : leasing.IsCoalition d.plan (members_placed words.places) number) where
      is-coalition : (plan : PlanNumbers) → plan ≡ d.plan → IsCoalition plan (members_placed words.places)
      is-coalition plan is =
          subst (λ (p : PlanNumbers). IsCoalition p (members_placed words.places)) (sym is)
          (number, coalition.within, get_or_default (coalitions d.plan.n d.plan.k) number (members_placed words.places) [] coalition.within ∙ coalition.members_are)

      lacks-well : (key_files : KeyFiles) (header : RefHeader) → AreDealt key_files header → (end : Ending) → LacksTask (session_words words) (message_in store words.message) key_files header end → end ≡ ending.NoMemory
      lacks-well key_files header are end tasks.no_memory = refl
      lacks-well key_files header are end (tasks.no_message e bad) = reads-well store fails.store_told fails.store_holds message_limit words.message message has.message_is has.limit end bad
      lacks-well key_files header are end (tasks.other_key m e read other) = other-well key_files header are end other
      lacks-well key_files header are end (tasks.no_coalition m read same bad) = absurd (bad (is-coalition header.plan are.plan_is))

      -- every test before the table is passed
      pub task-well : (end : Ending) → FailsTask (session_words words) store (message_in store words.message) end → end ≡ ending.NoMemory
      task-well end (tasks.no_key_files e bad) = key-files-well end bad
      task-well end (tasks.no_reference key_files e are bad) =
          view-well store fails.store_told fails.store_holds (reference_name words.prefix) (reference_file d) has.reference_is reference-file-passes end bad
      task-well end (tasks.no_task key_files header e read lacks) = lacks-well key_files header (are-dealt key_files header read) end lacks
