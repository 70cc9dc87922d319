-- The lengths of nodes.
use Rattle.std.proofs.Common.{◌≡◌, ℕ, zero, suc, List, length}
use Rattle.lms_bytes.specs.declared.params.Params.{Params}
use Rattle.lms_bytes.proofs.Lengths.{length-hash}
use Rattle.merkle_path.specs.Nodes.{node}

pub length-node : (params : Params) (id : List ℕ) (key : ℕ → List ℕ) (level r : ℕ) → length (node params id key level r) ≡ params.n
unfolding node
length-node params id key zero r = length-hash params _
length-node params id key (suc level) r = length-hash params _
