use Rattle.std.proofs.Common.{◌<◌, ◌^◌, ℕ, ap, refl, subst, ◌∙◌}
use Rattle.aggregator_session.specs.Signing.{not_started}
use Rattle.session_core.specs.State.{State}
use Rattle.aggregator_session.proofs.Running.{has-accepted, ran-to}
use Rattle.aggregator_session.proofs.Signing.{cells-refused, port-none}
use Rattle.aggregator_session.proofs.sign.run_on.Goals as goal

pub returns-in_default-clause-runs : goal.returns-in_default-clause-runs
returns-in_default-clause-runs g c = record { runs = not_started refl; session_is = refl }

pub returns-clause-runs : goal.returns-clause-runs
returns-clause-runs g c = ran-to c.in-Ok.ensures c.requires.id c.run_session-outcome.ensures.ran

pub returns-clause-accepted : goal.returns-clause-accepted
returns-clause-accepted g c = has-accepted c.run_session-outcome.result c.in-Ok.ensures c.run_session-outcome.ensures.ran

pub returns-in_default-clause-accepted : goal.returns-in_default-clause-accepted
returns-in_default-clause-accepted g c = tt

pub returns-in_default-clause-port : goal.returns-in_default-clause-port
returns-in_default-clause-port g c = port-none _ _ _ (λ why lost. lost)

pub returns-in_default-clause-cells : goal.returns-in_default-clause-cells
returns-in_default-clause-cells g c = cells-refused g.R.Cells g.R.Faults _

pub returns-clause-port : goal.returns-clause-port
returns-clause-port g c = c.run_session-outcome.ensures.port

pub returns-clause-cells : goal.returns-clause-cells
returns-clause-cells g c = c.run_session-outcome.ensures.cells

pub start-requires-clause-height : goal.start-requires-clause-height
start-requires-clause-height g c = c.args.desk.now.plan_height

pub start-requires-clause-leaf : goal.start-requires-clause-leaf
start-requires-clause-leaf g c = subst (λ (h : ℕ). c.args.leaf < 2 ^ h) c.args.desk.now.plan_height c.requires.leaf

pub run_session-outcome-requires-clause-session : goal.run_session-outcome-requires-clause-session
run_session-outcome-requires-clause-session g c κs within =
    let is = c.in-Ok.ensures in
    record {
      of_key = ap (λ (s : State). s.key) is;
      of_plan = ap (λ (s : State). s.plan) is;
      id = ap (λ (s : State). s.message) is ∙ c.requires.id;
      limit = c.requires.limit;
      round = ap (λ (s : State). s.c) is;
    }

pub run_session-outcome-requires-clause-cells : goal.run_session-outcome-requires-clause-cells
run_session-outcome-requires-clause-cells g c κs within = c.requires.cells
