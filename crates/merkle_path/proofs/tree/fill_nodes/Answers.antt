use Rattle.std.proofs.Common.{◌≡◌, ◌+◌, ◌-◌, ◌∙◌, ap, length, arith}
use Rattle.merkle_path.proofs.Rows.{no_nodes, more_nodes, all_nodes, double}
use Rattle.merkle_path.proofs.tree.fill_nodes.Goals as goal

pub nodes-init : goal.nodes-init
nodes-init c = no_nodes _ _ _ _ _ (omega (arith, double c.args.params.now.h))

pub nodes-preserved : goal.nodes-preserved
nodes-preserved c =
    let size : length c.bytes.result.now ≡ c.args.params.now.n = ap length c.bytes.ensures.bytes ∙ c.node_from-node.ensures.length in
    let back : c.nodes.r - 1 + 1 ≡ c.nodes.r = omega arith in
    more_nodes _ _ _ c.nodes.nodes c.put.new.out (c.nodes.r - 1) c.node_from-node.result (rw back c.nodes.invariant)
    (record { leaf = c.node_from-node.ensures.leaf; inner = c.node_from-node.ensures.inner }) (omega arith)
    (rw size at c.put.ensures.bytes ∙ c.bytes.ensures.bytes) (rw size at c.put.ensures.after)

pub returns : goal.returns
returns c = all_nodes _ _ _ _ (record { node_is = λ level s h low high from. c.nodes.invariant.node_is level s h low high (omega arith) }) (omega arith)
