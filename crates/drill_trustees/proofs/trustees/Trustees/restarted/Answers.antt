use Rattle.drill_trustees.proofs.Replacing.{same-there, shares-kept}
use Rattle.drill_trustees.proofs.trustees.Trustees.restarted.Goals as goal

pub returns-clause-shares : goal.returns-clause-shares
returns-clause-shares c = shares-kept c.args.self c.with.result c.split-loaded.result.1 c.split-loaded.result.0 c.in_ok-restarted.field-0 c.args.member c.requires.low c.requires.high c.split-loaded.ensures.missing c.split-loaded.ensures.same c.with.ensures c.in_ok-restarted.ensures.share

pub returns-clause-leaves : goal.returns-clause-leaves
returns-clause-leaves c = same-there c.args.self c.with.result c.split-loaded.result.1 c.split-loaded.result.0 c.in_ok-restarted.field-0 c.args.member c.requires.low c.requires.high c.split-loaded.ensures.missing c.split-loaded.ensures.same c.with.ensures c.in_ok-restarted.ensures.leaves
