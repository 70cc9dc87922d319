use Rattle.std.proofs.Common.{◌≡◌, ◌*◌, ◌^◌, ◌<◌, ◌∙◌, ℕ, List, [], length, get_or, subst, ap, arith}
use Rattle.std.specs.Prelude.{IfOk}
use Rattle.std.proofs.lemmas.List.FromFn.{length-map-range_with_len, get_or-map-range_with_len}
use Rattle.lms_bytes.specs.Bytes.{bytes_at}
use Rattle.lms_bytes.proofs.Joined.{joined-at, length-joined}
use Rattle.lms_bytes.proofs.Lengths.{length-hash}
use Rattle.merkle_path.specs.Tree.{TreeNodes}
use Rattle.ots_chain.specs.LeafKey.{seed_leaf_key}
use Rattle.dealer.proofs.SameTree.{same_tree}
use Rattle.dealer.proofs.leaves.build_tree.Goals as goal

pub split_keys-requires : goal.split_keys-requires
split_keys-requires c =
    let params = c.args.material.now.params in
    let material = c.args.material.now in
    ap length c.requires.keys
    ∙ length-joined (λ q. seed_leaf_key params material.id q material.seed) params.n (2 ^ params.h) (λ q _. length-hash params _)

pub build-requires-clause-leaves : goal.build-requires-clause-leaves
build-requires-clause-leaves c =
    ap length (c.deref.ensures.value ∙ c.in_ok-leaf_keys.ensures.keys) ∙ length-map-range_with_len _ 0 (2 ^ c.args.material.now.params.h)

pub returns : goal.returns
returns c =
    let params = c.args.material.now.params in
    let material = c.args.material.now in
    let n = params.n in
    let f : ℕ → List ℕ = λ q. seed_leaf_key params material.id q material.seed in
    let key : ℕ → List ℕ = λ q. bytes_at c.args.keys.now (n * q) n in
    let values = c.deref.ensures.value ∙ c.in_ok-leaf_keys.ensures.keys in
    let found : (q : ℕ) → q < 2 ^ params.h → key q ≡ f q =
    λ q inside. rw c.requires.keys (joined-at f n (2 ^ params.h) q (λ k _. length-hash params _) inside) in
    let same = same_tree params material.id (λ q. get_or c.deref.result.now q []) f (record {
      leaf = λ q inside. rw values (get_or-map-range_with_len key 0 (2 ^ params.h) q q [] inside (omega arith) ∙ found q inside);
    }) in
    subst (λ (t : TreeNodes). IfOk c.build.result (λ tree. tree ≡ t)) same c.build.ensures
