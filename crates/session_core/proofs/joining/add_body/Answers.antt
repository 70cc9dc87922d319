use Rattle.std.proofs.Common.{arith}
use Rattle.session_core.proofs.Adding.{adding-more}
use Rattle.session_core.proofs.joining.add_body.Goals as goal

pub bytes-preserved : goal.bytes-preserved
bytes-preserved c = adding-more c.args.out.now c.args.body.now c.bytes.out c.bytes.i (omega arith) c.requires c.bytes.invariant
