use Rattle.session_core.proofs.session.Session.finish.Goals as goal

pub returns-clause-finishes : goal.returns-clause-finishes
returns-clause-finishes g c = c.finish_with.ensures.finishes c.args.message.now c.digest-digest.ensures.digest
