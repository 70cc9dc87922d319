use Rattle.std.proofs.Common.{◌≡◌, ℕ, List, ◌*◌, ◌^◌, ◌∙◌, length, refl, arith, mul-zero}
use Rattle.lms_bytes.specs.Bytes.{joined}
use Rattle.lms_bytes.proofs.Joined.{front-all, joined-at, joined-none, joined-same}
use Rattle.ots_chain.proofs.Ends.{ends_none, ends_more}
use Rattle.reference_value.specs.Committing.{masked_cell, masked_row, row_commits}
use Rattle.reference_value.specs.Dealing.{value_of_seed, values_of_seed}
use Rattle.reference_value.specs.declared.committed.Leaf.{Leaf}
use Rattle.reference_value.proofs.Members.{length-value_of_seed}
use Rattle.reference_value.proofs.Parts.{length_part, part-within, part-written}
use Rattle.reference_value.proofs.committed.commit_chains.Goals as goal

-- the masked values of a chain are those of the seed, masked
row-is : (leaf : Leaf) (seed values out : List ℕ) (i : ℕ) → values ≡ values_of_seed leaf.params.now leaf.id.now leaf.q seed i
    → out ≡ joined (masked_cell leaf values i) (2 ^ leaf.params.now.w) → out ≡ masked_row leaf seed i
row-is leaf seed values out i of is =
    let params = leaf.params.now in
    let value = value_of_seed params leaf.id.now leaf.q seed i in
    is ∙ joined-same _ _ (2 ^ params.w) (λ j inside.
    rw (of, joined-at value params.n (2 ^ params.w) j (λ k _. length-value_of_seed params leaf.id.now leaf.q seed i k) inside) refl)

pub chains-init : goal.chains-init
chains-init c =
    let none : c.chain_bytes-size.result * 0 ≡ 0 = mul-zero _ in
    let empty : c.chain_commits_bytes-row.result * 0 ≡ 0 = mul-zero _ in
    record {
      cells = rw (none, joined-none (masked_row c.args.leaf.now c.args.seed.now)) refl;
      commits = rw (empty, joined-none (row_commits c.args.leaf.now)) refl;
      ends = ends_none _ _ _ _ _ c.new-hash.ensures;
    }

pub overflow_mul-place : goal.overflow_mul-place
overflow_mul-place c =
    let within = part-within _ _ c.chains.i c.args.leaf.now.params.now.p (length c.chains.out) c.chain_bytes-size.ensures.length (c.chains.auto.out ∙ c.requires.values) c.chains-test.true in
    omega (arith, within)

pub overflow_add-chain : goal.overflow_add-chain
overflow_add-chain c =
    let within = part-within _ _ c.chains.i c.args.leaf.now.params.now.p (length c.chains.out) c.chain_bytes-size.ensures.length (c.chains.auto.out ∙ c.requires.values) c.chains-test.true in
    omega (arith, within)

pub slice_bounds-chain-end : goal.slice_bounds-chain-end
slice_bounds-chain-end c =
    let within = part-within _ _ c.chains.i c.args.leaf.now.params.now.p (length c.chains.out) c.chain_bytes-size.ensures.length (c.chains.auto.out ∙ c.requires.values) c.chains-test.true in
    omega (arith, within)

pub write_chain-end-requires-clause-index : goal.write_chain-end-requires-clause-index
write_chain-end-requires-clause-index c = c.chains-test.true

pub write_chain-end-requires-clause-seed : goal.write_chain-end-requires-clause-seed
write_chain-end-requires-clause-seed c = c.requires.seed

pub write_chain-end-requires-clause-room : goal.write_chain-end-requires-clause-room
write_chain-end-requires-clause-room c =
    let within = part-within _ _ c.chains.i c.args.leaf.now.params.now.p (length c.chains.out) c.chain_bytes-size.ensures.length (c.chains.auto.out ∙ c.requires.values) c.chains-test.true in
    length_part (c.chain_bytes-size.result * c.chains.i) _ c.chains.out within ∙ c.chain_bytes-size.ensures.length

pub overflow_mul-start : goal.overflow_mul-start
overflow_mul-start c =
    let row = rw c.size.ensures.number at c.chain_commits_bytes-row.ensures.length in
    let within = part-within _ _ c.chains.i c.args.leaf.now.params.now.p (length c.chains.commits) row (c.chains.auto.commits ∙ c.requires.room) c.chains-test.true in
    omega (arith, within)

pub overflow_add-start : goal.overflow_add-start
overflow_add-start c =
    let row = rw c.size.ensures.number at c.chain_commits_bytes-row.ensures.length in
    let within = part-within _ _ c.chains.i c.args.leaf.now.params.now.p (length c.chains.commits) row (c.chains.auto.commits ∙ c.requires.room) c.chains-test.true in
    omega (arith, within)

pub slice_bounds-commit_chain-end : goal.slice_bounds-commit_chain-end
slice_bounds-commit_chain-end c =
    let row = rw c.size.ensures.number at c.chain_commits_bytes-row.ensures.length in
    let within = part-within _ _ c.chains.i c.args.leaf.now.params.now.p (length c.chains.commits) row (c.chains.auto.commits ∙ c.requires.room) c.chains-test.true in
    omega (arith, within)

pub commit_chain-requires-clause-members : goal.commit_chain-requires-clause-members
commit_chain-requires-clause-members c = c.requires.members

pub commit_chain-requires-clause-values : goal.commit_chain-requires-clause-values
commit_chain-requires-clause-values c =
    let within = part-within _ _ c.chains.i c.args.leaf.now.params.now.p (length c.chains.out) c.chain_bytes-size.ensures.length (c.chains.auto.out ∙ c.requires.values) c.chains-test.true in
    c.write_chain-end.auto.out ∙ (length_part (c.chain_bytes-size.result * c.chains.i) _ c.chains.out within ∙ c.chain_bytes-size.ensures.length)

pub commit_chain-requires-clause-room : goal.commit_chain-requires-clause-room
commit_chain-requires-clause-room c =
    let row = rw c.size.ensures.number at c.chain_commits_bytes-row.ensures.length in
    let within = part-within _ _ c.chains.i c.args.leaf.now.params.now.p (length c.chains.commits) row (c.chains.auto.commits ∙ c.requires.room) c.chains-test.true in
    length_part (c.chain_commits_bytes-row.result * c.chains.i) _ c.chains.commits within ∙ row

pub chains-preserved : goal.chains-preserved
chains-preserved c =
    let leaf = c.args.leaf.now in
    let count = leaf.params.now.p in
    let i = c.chains.i in
    let cell = part-within _ _ i count (length c.chains.out) c.chain_bytes-size.ensures.length (c.chains.auto.out ∙ c.requires.values) c.chains-test.true in
    let row = rw c.size.ensures.number at c.chain_commits_bytes-row.ensures.length in
    let part = part-within _ _ i count (length c.chains.commits) row (c.chains.auto.commits ∙ c.requires.room) c.chains-test.true in
    record {
      cells = part-written (masked_row leaf c.args.seed.now) _ i c.chains.out c.commit_chain.new.out cell (c.commit_chain.auto.out ∙ c.write_chain-end.auto.out)
          (row-is leaf c.args.seed.now c.write_chain-end.new.out c.commit_chain.new.out i c.write_chain-end.ensures.values c.commit_chain.ensures.masked) c.chains.invariant.cells;
      commits = part-written (row_commits leaf) _ i c.chains.commits c.commit_chain.new.commits part c.commit_chain.auto.commits c.commit_chain.ensures.commits
          c.chains.invariant.commits;
      ends = ends_more _ _ _ _ c.write_chain-end.result _ i c.write_chain-end.ensures.end (c.take.ensures _ _ _ _ c.chains.invariant.ends);
    }

pub returns-clause-cells : goal.returns-clause-cells
returns-clause-cells c =
    let params = c.args.leaf.now.params.now in
    let size = c.chain_bytes-size.result in
    let all : c.chains.i ≡ params.p = omega arith in
    let room : length c.chains.out ≡ size * params.p = rw c.chain_bytes-size.ensures.length (omega arith) in
    front-all _ size params.p c.chains.out room (rw all at c.chains.invariant.cells)

pub returns-clause-commits : goal.returns-clause-commits
returns-clause-commits c =
    let params = c.args.leaf.now.params.now in
    let row = c.chain_commits_bytes-row.result in
    let all : c.chains.i ≡ params.p = omega arith in
    let room : length c.chains.commits ≡ row * params.p = rw (c.chain_commits_bytes-row.ensures.length, c.size.ensures.number) (omega arith) in
    front-all _ row params.p c.chains.commits room (rw all at c.chains.invariant.commits)

pub returns-clause-length : goal.returns-clause-length
returns-clause-length c = c.finish.ensures.length _ _ _ _ c.chains.invariant.ends
