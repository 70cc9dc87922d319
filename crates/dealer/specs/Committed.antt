-- The commitment file of a dealing, and why there is none.
use Rattle.std.specs.Prelude.{◌≡◌, ℕ, ◌<◌, ◌≤◌, false, List, ◌++◌, Result, Err, IfErr, IfOk, OnOk, length}
use Rattle.std.specs.declared.alloc.Global.{Global}
use Rattle.std.specs.declared.vec.Vec.{Vec}
use Rattle.coalition_map.specs.Coalitions.{PlanNumbers}
use Rattle.lms_bytes.specs.declared.params.Params.{Params}
use Rattle.reference_value.specs.Commitments.{commitments}
use Rattle.reference_value.specs.Dealing.{Dealing}
use Rattle.share_files.specs.Commits.{commits_head_of, commits_length}
use Rattle.dealer.specs.Dealt.{IsDealt}
use Rattle.dealer.specs.Entropy.{dealing_of}
use Rattle.dealer.specs.Faults.{HasFault, IsDealable}
use Rattle.dealer.specs.declared.committed.CommittedFault.{CommittedFault}
use Rattle.dealer.specs.declared.committed.CommittedFault.TheVariants.{Deal, TooLarge}
use Rattle.dealer.specs.declared.dealing.Dealt.{Dealt}
use Rattle.dealer.specs.declared.faults.DealFault.{DealFault}
use Rattle.dealer.specs.declared.faults.DealFault.TheVariants.{NoMemory}

-- this project's profile: the head, and the commitments to the masks of all leaves
abbrev pub commits_file : Dealing → List ℕ
commits_file d = commits_head_of d.params d.plan d.id ++ commitments d

-- why there is no dealing with commitments: there is no dealing, or the file would have more than 67,108,864 bytes
pub data FailsCommitted (params : Params) (plan : PlanNumbers) (entropy : List ℕ) : CommittedFault → Type 0 where
  not_dealt : (fault : DealFault) → HasFault false params plan entropy fault
      → FailsCommitted params plan entropy (Deal fault)
  too_large : IsDealable false params plan entropy → 67108864 < commits_length params plan
      → FailsCommitted params plan entropy (TooLarge (commits_length params plan))
  no_memory : IsDealable false params plan entropy → commits_length params plan ≤ 67108864
      → FailsCommitted params plan entropy (Deal NoMemory)

-- the dealing of the entropy, with its commitment file, and exactly when there is none
pub record DealsCommitted (params : Params) (plan : PlanNumbers) (entropy : List ℕ)
    (result : Result (Dealt × Vec ℕ Global) CommittedFault) : Type 0 where
  pub dealt : IfOk result (λ both. IsDealt (dealing_of params plan entropy) both.0)
  pub commitments : IfOk result (λ both. both.1.items ≡ commits_file (dealing_of params plan entropy))
  pub dealable : OnOk result (IsDealable false params plan entropy)
  pub small : OnOk result (commits_length params plan ≤ 67108864)
  pub shares : IfOk result (λ both. 0 < length both.0.shares.items)
  pub refused : (fault : DealFault) → HasFault false params plan entropy fault → result ≡ Err (Deal fault)
  pub too_large : IsDealable false params plan entropy → 67108864 < commits_length params plan
      → result ≡ Err (TooLarge (commits_length params plan))
  pub cause : IfErr result (FailsCommitted params plan entropy)
