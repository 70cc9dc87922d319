use Rattle.trustee_core.proofs.ApprovedIds.{held-in}
use Rattle.trustee_core.proofs.approved.Approved.lists.Goals as goal

pub returns : goal.returns
returns c = held-in _ _ _ c.holds.ensures.0 c.holds.ensures.1
