use Rattle.session_core.proofs.Adding.{IsAdding}
use Rattle.session_core.proofs.joining.add_body.Given as goal

abbrev pub invariant-bytes : goal.invariant-bytes
invariant-bytes l = IsAdding l.fn.out l.body l.out l.i
