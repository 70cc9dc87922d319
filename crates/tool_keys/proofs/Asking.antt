-- What words ask for: why it is not dealt, and names that are not new.
use Rattle.std.proofs.Common.{◌≡◌, ◌≢◌, ◌⊎◌, true, List, [], ℕ, inl, inr, subst}
use Rattle.coalition_map.specs.Coalitions.{IsPlan, PlanNumbers}
use Rattle.dealer.specs.Faults.{HasFault, IsDealable}
use Rattle.dealer.specs.declared.faults.DealFault.{DealFault}
use Rattle.lms_bytes.specs.declared.params.Params.{Params}
use Rattle.tool_base.specs.Ending as ending
use Rattle.tool_base.specs.Ending.{Ending, status_of}
use Rattle.tool_base.specs.Outputs as outputs
use Rattle.tool_base.specs.Outputs.{FirstNotNew, IsNotNew}
use Rattle.tool_base.specs.World.{Bytes, IsRead, StoreRun}
use Rattle.tool_keys.specs.Deal.{IsNotDealt, IsSet, faulty, no_memory, plan_of}
use Rattle.tool_keys.specs.Large.{LargeEnds, not_dealt, not_new}
use Rattle.tool_keys.specs.Naming.{all_names}
use Rattle.tool_keys.specs.Undealt.{end_of_fault}
use Rattle.tool_words.specs.Words.{DealWords}

pub asked_fault : (words : DealWords) (entropy : List ℕ) (params : Params) (plan : PlanNumbers) (fault : DealFault) → words.large ≡ true → IsSet words params
    → plan ≡ plan_of words params → IsPlan plan → HasFault true params plan entropy fault → IsNotDealt words entropy (end_of_fault fault)
asked_fault words entropy params plan fault large set same sound has = faulty params fault set (rw (← same) sound) (rw (large, ← same) has)

pub names_refused : (store : StoreRun) (words : DealWords) (entropy : List ℕ) (params : Params) (plan : PlanNumbers) (end : Ending) → IsRead store words.entropy (Bytes entropy)
    → IsSet words params → plan ≡ plan_of words params → IsPlan plan → IsDealable true params plan entropy
    → (end ≡ ending.NoMemory) ⊎ FirstNotNew store (all_names words.prefix plan.n) end → LargeEnds store words end [] []
names_refused store words entropy params plan end read set same sound dealable (inl none) = rw none (not_dealt entropy ending.NoMemory read no_memory)
names_refused store words entropy params plan end read set same sound dealable (inr taken) =
    not_new params entropy end read set (rw (← same) sound) (rw (← same) dealable) (subst (λ p. FirstNotNew store (all_names words.prefix p.n) end) same taken)

not_new-start : (store : StoreRun) (name : List ℕ) (end : Ending) → IsNotNew store name end → status_of end ≢ 0
not_new-start store name _ (outputs.test_failed failed) = λ e. cc
not_new-start store name _ (outputs.is_there there) = λ e. cc
not_new-start store name _ outputs.no_memory_to_name = λ e. cc

pub names_status : (store : StoreRun) (names : List (List ℕ)) (end : Ending) → (end ≡ ending.NoMemory) ⊎ FirstNotNew store names end → status_of end ≢ 0
names_status store names end (inl none) = λ e. let is : ◌≡◌ {A = ℕ} 14 0 = subst (λ (it : Ending). status_of it ≡ 0) none e in cc
names_status store names end (inr first) = not_new-start store first.name end first.cause
