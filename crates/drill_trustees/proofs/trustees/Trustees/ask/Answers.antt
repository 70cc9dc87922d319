use Rattle.std.proofs.Common.{sym, subst}
use Rattle.drill_trustees.specs.Members.{MayAsk, leaf_in, state_after}
use Rattle.drill_trustees.specs.declared.member.Member.{Member}
use Rattle.drill_trustees.proofs.Replacing.{sets-there, shares-kept}
use Rattle.drill_trustees.proofs.trustees.Trustees.ask.Goals as goal

pub returns-clause-shares : goal.returns-clause-shares
returns-clause-shares c = shares-kept c.args.self c.with.result c.split-asked.result.1 c.split-asked.result.0 c.ask-asked.result.0 c.args.member c.requires.low c.requires.high c.split-asked.ensures.missing c.split-asked.ensures.same c.with.ensures c.ask-asked.ensures.share

pub returns-clause-granted : goal.returns-clause-granted
returns-clause-granted c = λ may. c.ask-asked.ensures.granted (subst (λ (x : Member). MayAsk x.share (leaf_in x) c.args.ask.now) (sym c.split-asked.ensures.member) may)

pub returns-clause-sets : goal.returns-clause-sets
returns-clause-sets c = λ may.
    sets-there c.args.self c.with.result c.split-asked.result.1 c.split-asked.result.0 c.ask-asked.result.0 c.args.member c.requires.low c.requires.high c.split-asked.ensures.missing c.split-asked.ensures.same c.with.ensures c.args.ask.now.leaf (state_after c.args.ask.now)
    (c.ask-asked.ensures.sets (subst (λ (x : Member). MayAsk x.share (leaf_in x) c.args.ask.now) (sym c.split-asked.ensures.member) may))
