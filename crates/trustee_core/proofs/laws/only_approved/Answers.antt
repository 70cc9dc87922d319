use Rattle.trustee_core.proofs.Approvals.{all_approved, decided_lives}
use Rattle.trustee_core.proofs.laws.only_approved.Goals as goal

pub returns-clause-lives : goal.returns-clause-lives
returns-clause-lives c = decided_lives

pub returns-clause-approved : goal.returns-clause-approved
returns-clause-approved c = all_approved
