-- What the ends of a command say about the outside, whatever its words and its run of the net.
use Rattle.disk_trait.specs.Faults.{Rose}
use Rattle.tool_base.specs.Ending as ending
use Rattle.tool_base.specs.Ending.{Ending}
use Rattle.tool_base.specs.Touched.{DeviceRose}
use Rattle.tool_base.specs.World.{StoreRun}
use Rattle.tool_sign.specs.Ports.{NetRun}

-- a command by these rules comes to this end over this run of the store only if this holds of its words and of its run
-- of the net
abbrev pub OnlyWhere : {W : Type 0} → (W → StoreRun → NetRun → Ending → Type 0) → StoreRun → Ending
    → (W → NetRun → Type 0) → Type 0
OnlyWhere {W} Run store end holds = (words : W) (net : NetRun) → Run words store net end → holds words net

-- The causes of three ends of a command: the store fails only if its count of faults rose, a device only if that of its
-- disks and views rose, and the net only if its count of failed ports rose.
pub record FailuresAreCounted {W : Type 0} (Run : W → StoreRun → NetRun → Ending → Type 0) (run : StoreRun)
    : Type 0 where
  pub store : OnlyWhere Run run ending.StoreFailed (λ _ _. Rose run.before.count run.after.count)
  pub device : OnlyWhere Run run ending.DeviceFailed (λ _ _. DeviceRose run)
  pub net : OnlyWhere Run run ending.NetFailed (λ _ net. Rose net.before.port_count net.after.port_count)
