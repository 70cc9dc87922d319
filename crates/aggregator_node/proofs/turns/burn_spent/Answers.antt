use Rattle.std.proofs.Common.{ℕ, Option, refl, subst, sym}
use Rattle.aggregator_node.specs.Signing.{Burning}
use Rattle.aggregator_node.specs.Signing.Burning.{not_spent}
use Rattle.aggregator_node.proofs.turns.burn_spent.Goals as goal

pub returns-in_default-clause-turn : goal.returns-in_default-clause-turn
returns-in_default-clause-turn g c =
    subst (λ (o : Option ℕ). Burning c.args.pass.now c.args.pass.now c.args.leaf c.args.id.now o) (sym c.in_default.is) (not_spent refl)
