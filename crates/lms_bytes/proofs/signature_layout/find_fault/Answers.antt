use Rattle.std.proofs.Common.{arith}
use Rattle.std.proofs.lemmas.Grind.{common_steps}
use Rattle.lms_bytes.specs.Signature.{signature_fault}
use Rattle.lms_bytes.proofs.signature_layout.find_fault.Goals as goal

pub returns-then-leaf-leaves-clause-fault : goal.returns-then-leaf-leaves-clause-fault
unfolding signature_fault
returns-then-leaf-leaves-clause-fault c = grind (arith, common_steps)

pub returns-then-bytes-want-clause-fault : goal.returns-then-bytes-want-clause-fault
unfolding signature_fault
returns-then-bytes-want-clause-fault c = grind (arith, common_steps)

pub returns-clause-fault : goal.returns-clause-fault
unfolding signature_fault
returns-clause-fault c = grind (arith, common_steps)
