use Rattle.std.proofs.Common.{arith, rules}
use Rattle.slot_file.proofs.header.Header.block.Goals as goal

pub returns-clause-names : goal.returns-clause-names
returns-clause-names c = record { lms = search (arith, rules); ots = search (arith, rules); id = search rules }
