-- The commitment file of a dealing, made from what the dealing gave.
use Rattle.std.specs.Prelude.{◌≡◌, ℕ, ◌<◌, ◌≤◌, List}
use Rattle.coalition_map.specs.Coalitions.{PlanNumbers}
use Rattle.dealer.specs.Dealt.{IsDealt}
use Rattle.dealer.specs.declared.dealing.Dealt.{Dealt}
use Rattle.lms_bytes.specs.declared.params.Params.{Params}
use Rattle.reference_value.specs.Dealing.{Dealing}
use Rattle.share_files.specs.Commits.{commits_length}
use Rattle.share_files.specs.declared.reference.RefHeader.{RefHeader}
use Rattle.share_blame.specs.declared.faults.CommitFault.{CommitFault}
use Rattle.share_blame.specs.declared.faults.CommitFault.TheVariants.{NoMemory, TooLarge}

-- this is what the dealing gives, and it is a dealing for this plan, whose height is that of its set
pub record IsDealtFor (plan : PlanNumbers) (d : Dealing) (dealt : Dealt) : Type 0 where
  pub dealt_is : IsDealt d dealt
  pub plan_is : d.plan ≡ plan
  pub height : plan.h ≡ d.params.h

-- internal: the dealing has the parts of this head, and these keys of the trustees
pub record IsOfKeys (header : RefHeader) (keys : List (List ℕ)) (d : Dealing) : Type 0 where
  pub params : d.params ≡ header.params
  pub plan : d.plan ≡ header.plan
  pub id : d.id ≡ header.id
  pub keys_are : d.keys ≡ keys

-- why there is no commitment file: it would have more than 67,108,864 bytes, or memory ran out
pub data FailsToCommit (params : Params) (plan : PlanNumbers) : CommitFault → Type 0 where
  too_large : 67108864 < commits_length params plan → FailsToCommit params plan (TooLarge (commits_length params plan))
  no_memory : commits_length params plan ≤ 67108864 → FailsToCommit params plan NoMemory
