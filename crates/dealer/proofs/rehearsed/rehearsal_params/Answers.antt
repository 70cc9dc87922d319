use Rattle.std.proofs.Common.{arith}
use Rattle.lms_bytes.specs.ParameterSets.{lmots_row, lms_row}
use Rattle.lms_bytes.specs.Params.{codes_fault}
use Rattle.dealer.proofs.rehearsed.rehearsal_params.Goals as goal

pub unwrap-requires : goal.unwrap-requires
unfolding codes_fault lms_row lmots_row
unwrap-requires c = grind arith
