use Rattle.std.proofs.lemmas.Result.{err_from_is_err_and}
use Rattle.dealer.proofs.entropy.read_entropy.Goals as goal

pub returns-in_err-keys-clause-asked : goal.returns-in_err-keys-clause-asked
returns-in_err-keys-clause-asked c = rw (err_from_is_err_and c.from_residual.result c.from_residual.ensures.1).1 tt

pub returns-in_err-keys-clause-dealing : goal.returns-in_err-keys-clause-dealing
returns-in_err-keys-clause-dealing c = rw (err_from_is_err_and c.from_residual.result c.from_residual.ensures.1).1 tt

pub returns-in_err-macs-clause-asked : goal.returns-in_err-macs-clause-asked
returns-in_err-macs-clause-asked c = rw (err_from_is_err_and c.from_residual-in_err-macs.result c.from_residual-in_err-macs.ensures.1).1 tt

pub returns-in_err-macs-clause-dealing : goal.returns-in_err-macs-clause-dealing
returns-in_err-macs-clause-dealing c = rw (err_from_is_err_and c.from_residual-in_err-macs.result c.from_residual-in_err-macs.ensures.1).1 tt
