-- What no call of cells changes.
use Rattle.std.specs.Prelude.{◌≡◌, ℕ, Bool, List, IsTrue}
use Rattle.coalition_map.specs.Coalitions.{PlanNumbers}
use Rattle.lms_bytes.specs.declared.params.Params.{Params}

-- the set, the plan, whether they are told and steady, and the leaves if they are told, are as they were
pub record StayAs {C : Type 0} (set_of : C → Params) (plan_of : C → PlanNumbers) (is_told is_steady : C → Bool)
    (leaves_of : C → List ℕ) (old new : C) : Type 0 where
  pub set : set_of new ≡ set_of old
  pub plan : plan_of new ≡ plan_of old
  pub told : is_told new ≡ is_told old
  pub steady : is_steady new ≡ is_steady old
  pub leaves : IsTrue (is_told old) → leaves_of new ≡ leaves_of old
