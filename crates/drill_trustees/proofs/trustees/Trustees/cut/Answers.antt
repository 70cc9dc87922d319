use Rattle.std.proofs.Common.{sym, subst}
use Rattle.drill_trustees.specs.Members.{MayAsk, leaf_in}
use Rattle.drill_trustees.specs.declared.member.Member.{Member}
use Rattle.drill_trustees.proofs.Replacing.{cut-there, shares-kept}
use Rattle.drill_trustees.proofs.trustees.Trustees.cut.Goals as goal

pub returns-clause-shares : goal.returns-clause-shares
returns-clause-shares c = shares-kept c.args.self c.with.result c.split-asked.result.1 c.split-asked.result.0 c.in_ok-asked.asked c.args.member c.requires.low c.requires.high c.split-asked.ensures.missing c.split-asked.ensures.same c.with.ensures c.in_ok-asked.ensures.share

pub returns-clause-sets : goal.returns-clause-sets
returns-clause-sets c = λ may.
    cut-there c.args.self c.with.result c.split-asked.result.1 c.split-asked.result.0 c.in_ok-asked.asked c.args.member c.requires.low c.requires.high c.split-asked.ensures.missing c.split-asked.ensures.same c.with.ensures c.args.ask.now c.in_ok-asked.answer
    (c.in_ok-asked.ensures.sets (subst (λ (x : Member). MayAsk x.share (leaf_in x) c.args.ask.now) (sym c.split-asked.ensures.member) may))
