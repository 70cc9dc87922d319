-- internal: The dealing that the key of a drill comes from.
use Rattle.std.specs.Prelude.{◌≡◌}
use Rattle.coalition_map.specs.Coalitions.{PlanNumbers}
use Rattle.dealer.specs.Dealt.{IsDealt, IsKeyOf}
use Rattle.dealer.specs.declared.dealing.Dealt.{Dealt}
use Rattle.lms_verify.specs.UndividedKey.{UndividedKey}
use Rattle.reference_value.specs.Dealing.{Dealing}
use Rattle.drill.specs.declared.desk.Desk.{Desk}

-- the dealing for this plan that gave this, with its undivided key
pub record HasDealing (plan : PlanNumbers) (dealt : Dealt) : Type 0 where
  pub dealing : Dealing
  pub key : UndividedKey
  pub plan_is : dealing.plan ≡ plan
  pub dealt_is : IsDealt dealing dealt
  pub key_is : IsKeyOf dealing key

-- the dealing that a desk's key comes from
abbrev pub DealtTo : Desk → Type 0
DealtTo desk = HasDealing desk.plan desk.dealt
