-- A desk of a dealing has the dealing's key, plan, tree and reference.
use Rattle.std.proofs.Common.{◌≡◌, ℕ, List, All, Contains, None, get_or, refl, sym, ap, ◌∙◌}
use Rattle.aggregator_session.specs.Addresses.{place_of}
use Rattle.aggregator_session.specs.Desks.{DeskState}
use Rattle.laws_commands.specs.Requests.{IsDealtDesk}
use Rattle.aggregator_node.specs.Ports.{Place}
use Rattle.dealer.specs.Dealt.{dealt_tree}
use Rattle.dealer.specs.Files.{public_file, reference_file, tree_file}
use Rattle.lms_bytes.specs.PublicKey.{public_bytes}
use Rattle.lms_bytes.specs.declared.params.Params.{Params}
use Rattle.lms_bytes.specs.declared.public_key.PublicKey.{PublicKey}
use Rattle.lms_verify.specs.UndividedKey.{UndividedKey, leaf_key, public_key_of}
use Rattle.merkle_path.specs.Tree.{tree_of}
use Rattle.reference_value.specs.Dealing.{Dealing, reference}
use Rattle.share_files.specs.declared.reference.RefHeader.{RefHeader}
use Rattle.laws_signing.proofs.Dialling.{all-placed}
use Rattle.laws_signing.proofs.FilesRead.{same-file}
use Rattle.tool_base.proofs.Parses.{one-key, one-reference, one-tree}
use Rattle.hss_levels.proofs.Sets.{same-key}
use Rattle.laws_signing.proofs.Tasks.{id-length, public-is, same-nodes, same-plan, tree-is}
use Rattle.tool_base.specs.World.{StoreRun}
use Rattle.tool_desk.specs.Files.{key_name, reference_name, tree_name}
use Rattle.tool_sign.specs.Members.{members_placed}
use Rattle.tool_desk.specs.Tree.{tree_bytes}
use Rattle.tool_words.specs.Words.{AggregateWords}

module _ (words : AggregateWords) (store : StoreRun) (d : Dealing) (key : UndividedKey) (header : RefHeader) (desk : DeskState) (place : Place)
    (dealt : IsDealtDesk words store d key header desk place) where
  abbrev public : PublicKey
  public = public_key_of key

  pub key-is : desk.key ≡ public
  key-is =
      let read = dealt.made.desk_is.files_are.key.1 dealt.made.told in
      let same = one-key dealt.made.desk_is.files.key public
      (sym (same-file store (key_name words.prefix) (public_file d) (public_bytes dealt.made.desk_is.files.key) dealt.made.files.key read) ∙ public-is d key dealt.made.dealing) in
      ap (λ (k : DeskState). k.key) dealt.made.desk_is.desk_is ∙ same-key dealt.made.desk_is.files.key public same.params same.id same.root_is

  pub tree-same : desk.tree ≡ tree_of key.params key.id (leaf_key key)
  tree-same =
      let tree = dealt.made.desk_is.files.tree in
      let read = dealt.made.desk_is.files_are.tree.read.1 dealt.made.told in
      let same = one-tree tree.params d.params tree.id d.id tree.nodes.nodes (dealt_tree d).nodes tree.id_length (id-length d key dealt.made.dealing)
      (sym (same-file store (tree_name words.prefix) (tree_file d) (tree_bytes tree) dealt.made.files.tree read)) in
      ap (λ (k : DeskState). k.tree) dealt.made.desk_is.desk_is
      ∙ (same-nodes tree.nodes (dealt_tree d) (tree.hash_length ∙ ap (λ (p : Params). p.n) same.set) (tree.height ∙ ap (λ (p : Params). p.h) same.set) same.same_rest
      ∙ tree-is d key dealt.made.dealing)

  pub plan-is : desk.plan ≡ d.plan
  plan-is =
      let view = dealt.made.desk_is.reference_is.reads in
      let found = view.is dealt.made.told in
      let same = one-reference header d.params d.plan d.id found.leaves (reference d) view.file (id-length d key dealt.made.dealing) found.layout.parts
      (same-file store (reference_name words.prefix) view.file (reference_file d) (view.is_read dealt.made.told) dealt.made.files.reference_is) in
      ap (λ (k : DeskState). k.plan) dealt.made.desk_is.desk_is
      ∙ same-plan header.plan d.plan same.n same.k (header.height ∙ (ap (λ (p : Params). p.h) same.file.set ∙ sym dealt.made.dealing.height))

  pub leaves-are : place.reference.leaves ≡ reference d
  leaves-are =
      let view = dealt.reads.leaves in
      let layout = view.is dealt.made.told in
      let same = one-reference header d.params d.plan d.id place.reference.leaves (reference d) view.file (id-length d key dealt.made.dealing) layout.parts
      (same-file store (reference_name words.prefix) view.file (reference_file d) (view.is_read dealt.made.told) dealt.made.files.reference_is) in
      same.file.same_rest

  -- members that have places among the words can be dialled
  pub places : (members : List ℕ) → All (λ member. Contains (members_placed words.places) member) members → All (λ t. place_of desk.addresses t ≡ None → ⊥) members
  places members placed i blank lt missing =
      let all = all-placed desk.addresses _ (members_placed words.places) dealt.made.desk_is.addresses_are refl in
      let there = placed i blank lt in
      all there.0 (get_or members i blank) there.1 (ap (λ (t : ℕ). place_of desk.addresses t) there.2 ∙ missing)
