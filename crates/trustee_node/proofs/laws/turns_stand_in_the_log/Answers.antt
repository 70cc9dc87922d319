use Rattle.std.proofs.Common.{arith, length}
use Rattle.trustee_node.proofs.Standing.{stand-in-log}
use Rattle.trustee_node.proofs.laws.turns_stand_in_the_log.Goals as goal

pub returns : goal.returns
returns c = λ share ids log last turns served. stand-in-log share ids log last turns (length log) (omega arith) served
