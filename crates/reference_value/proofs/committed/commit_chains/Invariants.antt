use Rattle.std.proofs.Common.{◌≡◌, ◌-◌, ◌*◌, ◌^◌, take}
use Rattle.lms_bytes.specs.Bytes.{joined}
use Rattle.ots_chain.specs.LeafKeyHash.{HasEnds}
use Rattle.reference_value.specs.Committing.{masked_row, row_commits}
use Rattle.reference_value.specs.Dealing.{value_of_seed}
use Rattle.reference_value.proofs.committed.commit_chains.Given as goal

abbrev pub invariant-chains : goal.invariant-chains
invariant-chains l = record {
  cells : take (l.size * l.i) l.out ≡ joined (masked_row l.leaf l.seed) l.i;
  commits : take (l.row * l.i) l.commits ≡ joined (row_commits l.leaf) l.i;
  ends : HasEnds l.hash l.leaf.params.now l.leaf.id.now l.leaf.q
      (joined (λ i. value_of_seed l.leaf.params.now l.leaf.id.now l.leaf.q l.seed i (2 ^ l.leaf.params.now.w - 1)) l.i);
}
