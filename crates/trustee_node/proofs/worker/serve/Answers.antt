use Rattle.trustee_node.proofs.worker.serve.Goals as goal

pub run_workers-requires-after_bounds : goal.run_workers-requires-after_bounds
run_workers-requires-after_bounds g c κs within = rw c.of-2.ensures c.requires

pub returns-clause-worked : goal.returns-clause-worked
returns-clause-worked g c = rw (← c.of-2.ensures) c.run_workers.ensures.worked

pub returns-clause-pass : goal.returns-clause-pass
returns-clause-pass g c = rw (← c.of-2.ensures) c.run_workers.ensures.pass
