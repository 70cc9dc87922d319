use Rattle.std.proofs.Common.{◌≡◌, ◌*◌, take}
use Rattle.lms_bytes.specs.Bytes.{joined}
use Rattle.reference_value.specs.Committing.{cell_commits, masked_cell}
use Rattle.reference_value.proofs.Parts.{IsMasking}
use Rattle.reference_value.proofs.committed.commit_chain.Given as goal

abbrev pub invariant-steps : goal.invariant-steps
invariant-steps l = record {
  masks : IsMasking (masked_cell l.leaf l.initial.out l.i) l.initial.out l.n l.j l.out;
  commits : take (l.cell * l.j) l.commits ≡ joined (cell_commits l.leaf l.i) l.j;
}
