use Rattle.std.proofs.Common.{◌∙◌, sym}
use Rattle.trustee_core.proofs.ApprovedIds.{contains-in, in-contains}
use Rattle.trustee_core.proofs.approved.Approved.has.Goals as goal

pub returns : goal.returns
returns c = (
  (λ found. in-contains _ _ (rw (← c.to_bytes.ensures) (sym c.lists.ensures ∙ found))),
  (λ has. c.lists.ensures ∙ rw c.to_bytes.ensures (contains-in _ _ has)),
)
