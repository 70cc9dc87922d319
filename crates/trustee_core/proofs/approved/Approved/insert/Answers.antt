use Rattle.trustee_core.proofs.ApprovedIds.{in-added}
use Rattle.trustee_core.proofs.approved.Approved.insert.Goals as goal

pub returns-clause-listed : goal.returns-clause-listed
returns-clause-listed c =
    in-added c.insert.result _ _ _ (λ added. (c.insert.ensures.added added).1)
    (λ not_added. let found = c.insert.ensures.there not_added in (found.0, λ i. (found.1 i).items))
