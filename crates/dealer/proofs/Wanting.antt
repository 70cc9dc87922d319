-- What is answered and told if memory runs out, and the answers of a dealing with commitments.
use Rattle.std.proofs.Common.{◌≡◌, ◌⊎◌, ap, inl, inr, refl, false, true, ℕ, ◌<◌, ◌≤◌, List, Result, Vec, Global, Ok, Err, arith}
use Rattle.std.specs.Prelude.{⊤}
use Rattle.coalition_map.specs.Coalitions.{PlanNumbers}
use Rattle.lms_bytes.specs.declared.params.Params.{Params}
use Rattle.share_files.specs.Commits.{commits_length}
use Rattle.dealer.specs.Committed.{DealsCommitted, FailsCommitted, no_memory}
use Rattle.dealer.specs.Entropy.{dealing_of}
use Rattle.dealer.specs.Faults.{HasFault, IsDealable}
use Rattle.dealer.specs.Runs.{IsBuilt}
use Rattle.dealer.specs.declared.committed.CommittedFault.{CommittedFault}
use Rattle.dealer.specs.declared.committed.CommittedFault.TheVariants.{Deal, TooLarge}
use Rattle.dealer.specs.declared.dealing.Dealt.{Dealt}
use Rattle.dealer.specs.declared.faults.DealFault.{DealFault}
use Rattle.dealer.specs.declared.faults.DealFault.TheVariants.{NoMemory}
use Rattle.dealer.proofs.Exclusive.{none_dealable}

pub deals-built : (params : Params) (plan : PlanNumbers) (entropy : List ℕ) (both : Dealt × Vec ℕ Global) → IsDealable false params plan entropy
    → commits_length params plan ≤ 67108864 → IsBuilt true (dealing_of params plan entropy) both → DealsCommitted params plan entropy (Ok both)
deals-built params plan entropy both dealable small built = record {
  dealt = built.dealt;
  commitments = built.file;
  dealable = dealable;
  small = small;
  shares = built.shares;
  refused = λ fault is. absurd (none_dealable false params plan entropy fault dealable is);
  too_large = λ _ large. absurd (omega arith);
  cause = tt;
}

same-fault : {T : Type 0} {fault other : CommittedFault} → ◌≡◌ {A = Result T CommittedFault} (Err fault) (Err other) → fault ≡ other
same-fault e = cc

-- a fault that the test finds is the answer
pub deals-refused : {T : Type 0} (params : Params) (plan : PlanNumbers) (entropy : List ℕ) (fault : CommittedFault)
    → ((why : DealFault) → HasFault false params plan entropy why → ◌≡◌ {A = Result T CommittedFault} (Err fault) (Err (Deal why)))
    → (IsDealable false params plan entropy → 67108864 < commits_length params plan → ◌≡◌ {A = Result T CommittedFault} (Err fault) (Err (TooLarge (commits_length params plan))))
    → FailsCommitted params plan entropy fault → DealsCommitted params plan entropy (Err fault)
deals-refused params plan entropy fault refused large cause = record {
  dealt = tt;
  commitments = tt;
  dealable = tt;
  small = tt;
  shares = tt;
  refused = λ why is. ap Err (same-fault (refused why is));
  too_large = λ dealable long. ap Err (same-fault (large dealable long));
  cause = cause;
}

-- memory runs out
pub deals-no_memory : (params : Params) (plan : PlanNumbers) (entropy : List ℕ) → IsDealable false params plan entropy
    → commits_length params plan ≤ 67108864 → DealsCommitted params plan entropy (Err (Deal NoMemory))
deals-no_memory params plan entropy dealable small = record {
  dealt = tt;
  commitments = tt;
  dealable = tt;
  small = tt;
  shares = tt;
  refused = λ fault is. absurd (none_dealable false params plan entropy fault dealable is);
  too_large = λ _ large. absurd (omega arith);
  cause = no_memory dealable small;
}

-- if memory alone can run out, it is this fault
pub told-wanting : {A B F : Type 0} (fault : F) → A ⊎ (⊤ × B) → A ⊎ ((fault ≡ fault) × B)
told-wanting fault (inl nothing) = inl nothing
told-wanting fault (inr all) = inr (refl, all.1)
