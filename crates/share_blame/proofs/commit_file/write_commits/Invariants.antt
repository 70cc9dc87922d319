use Rattle.std.proofs.Common.{◌≡◌, ◌*◌, take}
use Rattle.lms_bytes.specs.Bytes.{joined}
use Rattle.reference_value.specs.Commitments.{leaf_commitments}
use Rattle.reference_value.specs.Dealing.{Dealing}
use Rattle.share_blame.specs.CommitFile.{IsOfKeys}
use Rattle.share_blame.proofs.commit_file.write_commits.Given as goal

abbrev pub invariant-leaves : goal.invariant-leaves
invariant-leaves l = (d : Dealing) → IsOfKeys l.header l.keys d → take (l.size * l.q) l.out ≡ joined (leaf_commitments d) l.q
