use Rattle.std.proofs.Common.{◌∙◌, refl}
use Rattle.ots_chain.specs.LeafKey.{seed_leaf_key}
use Rattle.dealer.specs.Material.{dealing_with}
use Rattle.dealer.proofs.Built.{first_node}
use Rattle.dealer.proofs.building.build_public.Goals as goal

pub returns : goal.returns
returns c =
    let d = dealing_with c.args.material.now in
    let tree = c.in_ok-tree.ensures in
    let node = rw tree at c.root.ensures.node in
    record {
      params = refl;
      id = refl;
      root_is = node ∙ first_node d.params d.id (λ q. seed_leaf_key d.params d.id q d.seed);
      tree_is = tree;
    }
