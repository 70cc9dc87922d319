-- Cells after one call and another.
use Rattle.std.proofs.Common.{◌≡◌, ◌∙◌, ℕ, Bool, List, subst}
use Rattle.coalition_map.specs.Coalitions.{PlanNumbers}
use Rattle.lms_bytes.specs.declared.params.Params.{Params}
use Rattle.reference_value.specs.Kinds.{StayAs}

module _ {C : Type 0} {set_of : C → Params} {plan_of : C → PlanNumbers} {is_told is_steady : C → Bool} {leaves_of : C → List ℕ} {x y z : C} where
  pub stays-then : StayAs set_of plan_of is_told is_steady leaves_of x y → StayAs set_of plan_of is_told is_steady leaves_of y z
      → StayAs set_of plan_of is_told is_steady leaves_of x z
  stays-then a b = record {
    set = b.set ∙ a.set;
    plan = b.plan ∙ a.plan;
    told = b.told ∙ a.told;
    steady = b.steady ∙ a.steady;
    leaves = λ told. b.leaves (a.told ∙ told) ∙ a.leaves told;
  }

  pub stays-as : y ≡ x → StayAs set_of plan_of is_told is_steady leaves_of y z → StayAs set_of plan_of is_told is_steady leaves_of x z
  stays-as is stays = subst (λ (w : C). StayAs set_of plan_of is_told is_steady leaves_of w z) is stays
