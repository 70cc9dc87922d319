use Rattle.session_core.proofs.Delivered.{delivered-ask, delivered-seats}
use Rattle.session_core.proofs.Judgement.{delivered-fault, delivered-masks}
use Rattle.session_core.proofs.laws.any_deliveries.Goals as goal

pub returns-clause-seats : goal.returns-clause-seats
returns-clause-seats c = delivered-seats

pub returns-clause-ask : goal.returns-clause-ask
returns-clause-ask c = delivered-ask

pub returns-clause-fault : goal.returns-clause-fault
returns-clause-fault c = delivered-fault

pub returns-clause-masks : goal.returns-clause-masks
returns-clause-masks c = delivered-masks
