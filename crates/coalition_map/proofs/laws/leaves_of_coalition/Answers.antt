use Rattle.std.proofs.Common.{◌%◌, ◌^◌, inl, inr}
use Rattle.std.proofs.lemmas.Bool.{cases_lt}
use Rattle.coalition_map.specs.Coalitions.{count_of}
use Rattle.coalition_map.proofs.LeafLaws.{length-leaves_of-first, length-leaves_of-others}
use Rattle.coalition_map.proofs.laws.leaves_of_coalition.Goals as goal

pub returns-clause-first : goal.returns-clause-first
returns-clause-first c = length-leaves_of-first

pub returns-clause-others : goal.returns-clause-others
returns-clause-others c = length-leaves_of-others

pub returns-clause-each : goal.returns-clause-each
returns-clause-each c = λ p c' h.
    elim (cases_lt c' (2 ^ p.h % count_of p)) [
      | inl less ↦ inr (length-leaves_of-first p c' h less)
      | inr more ↦ inl (length-leaves_of-others p c' h more)
    ]
