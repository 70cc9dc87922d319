use Rattle.std.proofs.Common.{◌≡◌, ◌*◌, ◌∙◌, ap, length, refl, arith, mul-zero}
use Rattle.lms_bytes.proofs.Joined.{joined-none, front-more, front-all, row-fits}
use Rattle.merkle_path.specs.Tree.{TreeNodes, path_node_at}
use Rattle.merkle_path.proofs.tree.Tree.write_path.Goals as goal

pub levels-init : goal.levels-init
levels-init c =
    let none : c.args.self.now.n * 0 ≡ 0 = mul-zero _ in
    rw (none, joined-none (path_node_at c.args.self.now c.args.q)) refl

pub put-requires : goal.put-requires
put-requires c =
    let n : c.self.inside.n ≡ c.args.self.now.n = ap (λ (t : TreeNodes). t.n) c.self.view_is in
    let h : c.self.inside.h ≡ c.args.self.now.h = ap (λ (t : TreeNodes). t.h) c.self.view_is in
    let size : length c.bytes.result.now ≡ c.args.self.now.n = ap length c.bytes.ensures.bytes ∙ c.path-node.ensures.length in
    let within = row-fits c.args.self.now.n c.levels.level c.args.self.now.h (omega arith) in
    rw n (omega arith)

pub levels-preserved : goal.levels-preserved
levels-preserved c =
    let n : c.self.inside.n ≡ c.args.self.now.n = ap (λ (t : TreeNodes). t.n) c.self.view_is in
    let size : length c.bytes.result.now ≡ c.args.self.now.n = ap length c.bytes.ensures.bytes ∙ c.path-node.ensures.length in
    front-more (path_node_at c.args.self.now c.args.q) c.args.self.now.n c.levels.level c.levels.out c.put.new.out c.bytes.result.now
    (c.bytes.ensures.bytes ∙ c.path-node.ensures.node) size c.levels.invariant (rw n at c.put.ensures.front)

pub returns : goal.returns
returns c =
    let h : c.self.inside.h ≡ c.args.self.now.h = ap (λ (t : TreeNodes). t.h) c.self.view_is in
    let all : c.levels.level ≡ c.args.self.now.h = omega arith in
    front-all (path_node_at c.args.self.now c.args.q) c.args.self.now.n c.args.self.now.h c.levels.out (omega arith) (rw all at c.levels.invariant)
